-- Replies from two slices that agree: the same number, and words as `Leaves` says (`Alike`). A question that is answered alike on both sides keeps it.
use Prim.Native.Nat.{ℕ}
use mathlib.Core.Path.{◌≡◌, refl}
use mathlib.Core.Bool.{Bool, true, false}
use mathlib.Core.List.{List}
use Rattle.stations.specs.declared.answer.Answer.{Answer}
use Rattle.calls.specs.Reply.{Reply, done, refused, pick_reply, ask}
use Rattle.calls.specs.Answer.{let_go, answered_words}
use Rattle.history.specs.Touch.{AgreeOn, Leaves, pick_rows, rows_below}
use Rattle.history.proofs.TouchLaws.{leaves_nothing, leaves_state, leaves_answer, leaves_track}

-- from v and w two replies with one number, whose words agree again
pub record Alike (v w : List ℕ) (r q : Reply) (s : ℕ) (rows : List ℕ) : Type 0 where
  pub number : r.number ≡ q.number
  pub leaves : Leaves v w r.words q.words s rows

module _ {v w : List ℕ} {s : ℕ} {rows : List ℕ} where
  -- both are accepted
  pub alike_done : {v' w' : List ℕ} → Leaves v w v' w' s rows → Alike v w (done v') (done w') s rows
  alike_done l = record { number = refl; leaves = l }

  -- both are refused, with one number
  pub alike_refused : (n : ℕ) → AgreeOn v w s rows → Alike v w (refused n v) (refused n w) s rows
  alike_refused n a = record { number = refl; leaves = leaves_nothing a }

  -- one test decides on both sides
  pub alike_pick : (b d : Bool) {x y x' y' : Reply} → b ≡ d → (b ≡ true → Alike v w x x' s rows) → (b ≡ false → Alike v w y y' s rows)
      → Alike v w (pick_reply b x y) (pick_reply d x' y') s rows
  alike_pick b d {x} {y} {x'} {y'} e t f = rw (← e) (go b refl)
    where
      go : (c : Bool) → b ≡ c → Alike v w (pick_reply c x y) (pick_reply c x' y') s rows
      go true h = t h
      go false h = f h

  -- a question that is answered alike
  pub alike_ask : AgreeOn v w s rows → (b d : Bool) (n : ℕ) {x x' : Reply} → b ≡ d → (b ≡ true → Alike v w x x' s rows)
      → Alike v w (ask b n v x) (ask d n w x') s rows
  alike_ask a b d n e t = alike_pick b d e t (λ h. alike_refused n a)

  -- an answer is written alike
  pub leaves_answered : {v' w' : List ℕ} → Leaves v w v' w' s rows → (x y : Answer) → x ≡ y
      → Leaves v w (answered_words v' s x) (answered_words w' s y) s rows
  unfolding answered_words let_go
  leaves_answered l x y e =
      leaves_track (leaves_state (leaves_answer l x y e) _ _ refl) s _ _ refl

-- one test decides on the reply and on the rows
pub alike_rows : {v w : List ℕ} {s : ℕ} (count : ℕ) (b : Bool) (some others : List ℕ) {x y x' y' : Reply} → AgreeOn v w s (rows_below count (pick_rows b some others))
    → (AgreeOn v w s (rows_below count some) → Alike v w x x' s (rows_below count some))
    → (AgreeOn v w s (rows_below count others) → Alike v w y y' s (rows_below count others))
    → Alike v w (pick_reply b x y) (pick_reply b x' y') s (rows_below count (pick_rows b some others))
alike_rows count true some others a f g = f a
alike_rows count false some others a f g = g a
