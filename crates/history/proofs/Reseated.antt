-- What a submission and a taking leave alone: they are refused, or nothing changes but the seat of their station, which had no unfinished call
-- (`submit_reseats`, `take_reseats`).
use Rattle.std.specs.Prelude.{Option, None, Some, Result, Ok, Err}
use Prim.Native.Nat.{ℕ, ◌*◌, ◌<◌}
use mathlib.Core.Path.{◌≡◌, refl, ◌∙◌}
use mathlib.Core.Logic.{◌≢◌, ◌⊎◌, inl, inr}
use mathlib.Core.Bool.{Bool, true, false, cond}
use mathlib.Core.List.{List}
use native.Mathlib.Omega.{arith}
use lib.Dec.{ltb}
use borrow.Author.Tests.{ltb-true, eqb-true}
use Rattle.words.specs.Layout.{stations}
use Rattle.stations.specs.Counts.{counts_at}
use Rattle.points.specs.declared.point.Point.{Point}
use Rattle.points.specs.declared.scale.Scale.{Scale}
use Rattle.points.specs.Number.{in_range_by}
use Rattle.points.proofs.NumberLaws.{in_range_by_lem}
use Rattle.words.specs.Rule.{rule_at}
use Rattle.stations.specs.declared.answer.Answer.{Answer}
use Rattle.stations.specs.Common.{opened_in, is_opened, Opened}
use Rattle.stations.specs.Station.{is_idle, is_waiting, state_at}
use Rattle.stations.specs.Answer.{waiting_at}
use Rattle.stations.proofs.WaitingLaws.{waiting_tells}
use Rattle.calls.specs.Reply.{Reply, ask}
use Rattle.calls.specs.Submit.{curve_fits, submitted_words, submit_of}
use Rattle.stations.specs.Call.{kind_in}
use Rattle.calls.specs.Take.{taking_of, take_of, emptied_words, take_words}
use Rattle.history.specs.View.{seat_at, SameRows}
use Rattle.history.proofs.Effects.{submit_written, submit_rows, take_written, take_rows}
use Rattle.history.proofs.SaysLaws.{seat_put_other}
use Rattle.words.specs.declared.refusal.Refusal.{Refusal}
use Rattle.words.specs.declared.refusal.Refusal.TheVariants.{NoStation, NotOpened}

-- nothing changes but the seat of station s, which had no unfinished call
pub record Reseated (words words' : List ℕ) (rows s : ℕ) : Type 0 where
  pub station : s < stations
  pub rests : (seat_at words s).state ≢ 1
  pub same : SameRows words words' rows
  pub counts : counts_at words' ≡ counts_at words
  pub others : (u : ℕ) → u < stations → u ≢ s → seat_at words' u ≡ seat_at words u

-- or nothing at all
abbrev pub Reseats : List ℕ → List ℕ → ℕ → ℕ → Type 0
Reseats words words' rows s = (words' ≡ words) ⊎ Reseated words words' rows s

-- the words after a question: as they were where it is answered no
ask_reseats : (words : List ℕ) (rows s : ℕ) (b : Bool) (n : ℕ) (r : Reply) → (b ≡ true → Reseats words r.words rows s) → Reseats words (ask b n words r).words rows s
ask_reseats words rows s true n r f = f refl
ask_reseats words rows s false n r f = inl refl

-- a station that is idle, or where an answer waits, has no unfinished call
idle_rests : (words : List ℕ) (s : ℕ) → is_idle (state_at words s) ≡ true → (seat_at words s).state ≢ 1
unfolding seat_at
idle_rests words s e z = let y : (state_at words s).word ≡ 0 = eqb-true (state_at words s).word 0 e in omega arith

waiting_rests : (words : List ℕ) (s : ℕ) → is_waiting (state_at words s) ≡ true → (seat_at words s).state ≢ 1
unfolding seat_at
waiting_rests words s e z = let y : (state_at words s).word ≡ 2 = eqb-true (state_at words s).word 2 e in omega arith

-- a taking that gives an answer
record Gives (words : List ℕ) (s : ℕ) : Type 0 where
  station : s < stations
  waits : is_waiting (state_at words s) ≡ true

taken_gives : (words : List ℕ) (s : ℕ) (a : Answer) → take_of words s ≡ Ok a → Gives words s
unfolding take_of
taken_gives words s a e = go (is_opened (opened_in words)) (ltb s stations) refl (waiting_at words s) refl e
  where
    go : (o b : Bool) → ltb s stations ≡ b → (x : Option Answer) → waiting_at words s ≡ x → cond o (cond b (taking_of x) (Err NoStation)) (Err NotOpened) ≡ Ok a → Gives words s
    go true true l (Some y) f e = record { station = ltb-true s stations l; waits = (waiting_tells words s y f).waiting }
    go true true l None f e = let z : ◌≡◌ {A = ℕ} 0 1 = cc in absurd (omega arith)
    go true false l x f e = let z : ◌≡◌ {A = ℕ} 0 1 = cc in absurd (omega arith)
    go false b l x f e = let z : ◌≡◌ {A = ℕ} 0 1 = cc in absurd (omega arith)

module _ (words : List ℕ) (places limit : ℕ) (scale : Scale) (o : opened_in words ≡ Opened places limit scale) (s : ℕ) where
  pub submit_reseats : (kind : ℕ) (p : Point) (c : ℕ) → Reseats words (submit_of words s kind p c).words (2 * places) s
  unfolding submit_of
  submit_reseats kind p c =
      ask_reseats words (2 * places) s (is_opened (opened_in words)) 4 _
      (λ a. ask_reseats words (2 * places) s (ltb s stations) 5 _
      (λ l. ask_reseats words (2 * places) s (is_idle (state_at words s)) 6 _
      (λ i. ask_reseats words (2 * places) s (kind_in kind) 7 _
      (λ k. ask_reseats words (2 * places) s (in_range_by (rule_at words) p) 8 _
      (λ ranged. ask_reseats words (2 * places) s (curve_fits kind c) 9 _ (λ f. inr (begun (ltb-true s stations l) i ranged)))))))
    where
      begun : s < stations → is_idle (state_at words s) ≡ true → in_range_by (rule_at words) p ≡ true → Reseated words (submitted_words words s kind p c) (2 * places) s
      begun l i ranged =
          let w = submit_written words places limit scale o s l kind p c (in_range_by_lem (rule_at words) p ranged) in
          record {
            station = l;
            rests = idle_rests words s i;
            same = submit_rows words places limit scale o s l kind p c;
            counts = w.counted;
            others = λ u k n. w.seated u k ∙ seat_put_other (λ v. seat_at words v) s u _ n;
          }

  pub take_reseats : Reseats words (take_words words s) (2 * places) s
  unfolding take_words
  take_reseats = go (take_of words s) refl
    where
      go : (x : Result Answer Refusal) → take_of words s ≡ x → Reseats words (emptied_words words s x) (2 * places) s
      go (Err n) e = inl refl
      go (Ok a) e =
          let g = taken_gives words s a e in
          let w = take_written words places limit scale o s g.station in
          inr (record {
            station = g.station;
            rests = waiting_rests words s g.waits;
            same = take_rows words places limit scale o s g.station;
            counts = w.counted;
            others = λ u k n. w.seated u k ∙ seat_put_other (λ v. seat_at words v) s u _ n;
          })
