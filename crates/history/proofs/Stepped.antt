-- An unfinished call stepped while the others stand still (`stepped_ends`): after some steps that do not answer one does, and the words are then related to
-- the table as that step leaves it.
use Prim.Native.Nat.{ℕ, zero, suc, ◌≤◌, ◌<◌}
use mathlib.Core.Path.{◌≡◌, sym, ◌∙◌}
use mathlib.Core.List.{List}
use mathlib.Core.Option.{Option}
use native.Mathlib.Omega.{arith}
use Rattle.words.specs.Layout.{stations}
use Rattle.table.specs.Call.{Call, Answer}
use Rattle.table.specs.Table.{unfinished, Table}
use Rattle.table.proofs.Sound.{Sound}
use Rattle.table.proofs.Eager.{Settled}
use Rattle.table.proofs.Simulation.{finished}
use Rattle.calls.specs.Step.{step_of}
use Rattle.history.specs.Related.{Related}
use Rattle.history.specs.After.{Answered}
use Rattle.history.specs.Alone.{stepped, AnsweredAfter}
use Rattle.history.proofs.Outcome.{Left, Outcome, goes_on, ends}
use Rattle.history.proofs.StepOutcome.{step_outcome}
use Rattle.history.proofs.RelatedAgree.{related_agrees}
use Rattle.history.proofs.Demand3.{take_busy, finished_waits, take_waits, finished_sound}

-- at most n steps do not answer, the next does
pub record Stepped (words : List ℕ) (t : Table) (s : ℕ) (c : Call) (o : Option Answer) (n : ℕ) : Type 0 where
  pub before : ℕ
  pub few : before ≤ n
  pub answered : AnsweredAfter before words s
  pub related : Related (stepped (suc before) words s) (finished t s c o)

module _ (t : Table) (s i : ℕ) (c : Call) (o : Option Answer) (h : Sound t) (k : Settled t) (l : s < stations) (q : t.stations s ≡ unfinished i c o) where
  -- a station with an unfinished call is not answered
  not_answered : (words : List ℕ) → Related words t → ¬ Answered words s
  not_answered words r e =
      let z : ◌≡◌ {A = ℕ} 0 12 = sym e ∙ (related_agrees h r).accepted s ∙ take_busy t s i c o l q in
      omega arith

  -- a station whose call has ended is
  is_answered : (words : List ℕ) → Related words (finished t s c o) → Answered words s
  is_answered words r =
      let w = finished_waits t s c o in
      (related_agrees (finished_sound t s i c o h l q) r).accepted s ∙ take_waits (finished t s c o) s w.0 l w.1

  -- one step, with what is left shown for fewer moves
  one_step : (words : List ℕ) (n : ℕ) (z : Left words t s n) → Outcome z.related s c o n (step_of words s) → ((m : ℕ) → m < n → Left (step_of words s).words t s m → Stepped (step_of words s).words t s c o m)
      → Stepped words t s c o n
  unfolding stepped
  one_step words n z (ends e r) f = record { before = 0; few = omega arith; answered = (e, is_answered (step_of words s).words r.related); related = r.related }
  one_step words n z (goes_on e m g w a) f =
      let v = f m (omega arith) w in
      record { before = suc v.before; few = omega (arith, v.few); answered = (e, not_answered (step_of words s).words w.related, v.answered); related = v.related }

  -- `most` bounds the moves left
  steps : (most n : ℕ) → n ≤ most → (words : List ℕ) → Left words t s n → Stepped words t s c o n
  steps zero n b words r = one_step words n r (step_outcome s i n c o h k l q r) (λ m g. absurd (omega arith))
  steps (suc most) n b words r = one_step words n r (step_outcome s i n c o h k l q r) (λ m g. steps most m (omega arith) (step_of words s).words)

  -- with at most n moves left at most n steps do not answer
  pub stepped_ends : (words : List ℕ) (n : ℕ) → Left words t s n → Stepped words t s c o n
  stepped_ends words n = steps n n (omega arith) words
