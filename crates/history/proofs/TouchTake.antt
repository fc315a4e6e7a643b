-- What a taking touches: the common record and the station's, and these alone decide it (`take_touch`).
use Rattle.std.specs.Prelude.{Result, Ok, Err}
use Prim.Native.Nat.{ℕ}
use mathlib.Core.Path.{◌≡◌, refl}
use mathlib.Core.Bool.{cond}
use mathlib.Core.List.{List, []}
use lib.Dec.{ltb}
use Rattle.words.specs.Layout.{stations}
use Rattle.stations.proofs.RecordLaws.{waiting_at_agree}
use Rattle.stations.specs.Common.{is_opened}
use Rattle.calls.specs.Take.{taking_of, take_of, emptied_words, take_words}
use Rattle.history.specs.Touch.{AgreeOn, Leaves}
use Rattle.history.proofs.TouchLaws.{rule_same, opened_same, leaves_nothing, leaves_state}
use Rattle.words.specs.declared.refusal.Refusal.{Refusal}
use Rattle.words.specs.declared.refusal.Refusal.TheVariants.{NoStation, NotOpened}
use Rattle.stations.specs.declared.answer.Answer.{Answer}

module _ {v w : List ℕ} {s : ℕ} {rows : List ℕ} (a : AgreeOn v w s rows) where
  take_same : take_of v s ≡ take_of w s
  unfolding take_of
  take_same = λ i. cond (is_opened (opened_same a i)) (cond (ltb s stations) (taking_of (waiting_at_agree s (rule_same a) a.station i)) (Err NoStation)) (Err NotOpened)

  taken_leaves : (x : Result Answer Refusal) → Leaves v w (emptied_words v s x) (emptied_words w s x) s rows
  taken_leaves (Err number) = leaves_nothing a
  taken_leaves (Ok answer) = leaves_state (leaves_nothing a) _ _ refl

  take_leaves : Leaves v w (take_words v s) (take_words w s) s rows
  unfolding take_words
  take_leaves = rw (← take_same) (taken_leaves (take_of v s))

-- Rules 5.1, of a taking: the same result, the slices agreeing there again, and every other word kept
pub take_touch : (v w : List ℕ) (s : ℕ) → AgreeOn v w s [] → (take_of v s ≡ take_of w s) × Leaves v w (take_words v s) (take_words w s) s []
take_touch v w s a = (take_same a, take_leaves a)
