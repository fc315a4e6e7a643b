-- A call run alone (demand 2): its submission by an idle station, steps of that station while the others stand still, and the taking.
use Rattle.std.specs.Prelude.{ℕ, zero, suc, ◌+◌, ◌*◌, ◌<◌, ◌≡◌, List}
use Rattle.std.proofs.Math.Option.{some}
use Rattle.points.specs.declared.point.Point.{Point}
use Rattle.points.specs.declared.scale.Scale.{Scale}
use Rattle.table.specs.Call.{call_of, is_change}
use Rattle.words.specs.Layout.{stations}
use Rattle.stations.specs.Counter.{counter_at}
use Rattle.stations.specs.Station.{is_unfinished, state_at}
use Rattle.table.specs.Table.{Table, busy, opened, answer_of, changed_if}
use Rattle.table.specs.Event.{Event, submit}
use Rattle.table.specs.History.{Agree, Follows, Ends}
use Rattle.calls.specs.Submit.{submit_of}
use Rattle.calls.specs.Step.{step_of}
use Rattle.calls.specs.Take.{take_of, take_words}
use Rattle.history.specs.Index.{given_by, word_index}
use Rattle.history.specs.After.{after, Answered}

-- the words after n steps of the station
unfoldable pub stepped : ℕ → List ℕ → ℕ → List ℕ
stepped zero words s = words
stepped (suc n) words s = stepped n (step_of words s).words s

-- n steps of the station that do not answer and one more that does, each accepted
abbrev pub AnsweredAfter : ℕ → List ℕ → ℕ → Type 0
AnsweredAfter zero words s = ((step_of words s).number ≡ 0) × Answered (step_of words s).words s
AnsweredAfter (suc n) words s = ((step_of words s).number ≡ 0) × (¬ Answered (step_of words s).words s) × AnsweredAfter n (step_of words s).words s

-- the words after the submission and so many steps
abbrev pub ran_words : List ℕ → ℕ → ℕ → Point → ℕ → ℕ → List ℕ
ran_words words s kind p c n = stepped n (submit_of words s kind p c).words s

-- station s runs the call alone where the plain table is t: it is answered within so many steps, the taking gives the table's answer, and what it leaves
-- agrees with the table after the call's effect
pub record RunsAlone (words : List ℕ) (t : Table) (most s kind : ℕ) (p : Point) (c : ℕ) : Type 0 where
  -- the number of steps before the one that answers
  pub before : ℕ
  pub few : before < most
  pub answered : AnsweredAfter before (submit_of words s kind p c).words s
  pub given : given_by (take_of (ran_words words s kind p c (suc before)) s) ≡ some (answer_of t s (call_of kind p c))
  pub left : Agree word_index (take_words (ran_words words s kind p c (suc before)) s) (changed_if (is_change (answer_of t s (call_of kind p c))) t s (call_of kind p c))

-- Demand 2 (Rules 12.2): there are moments as demand 3 wants them, and `table` is the plain table fed the
-- events with these moments; submission refuses what this table refuses, and whatever call it accepts, run alone, answers as this table does.
pub record AnswersAsTable (start : List ℕ) (places limit : ℕ) (scale : Scale) (evs : List Event) : Type 0 where
  pub moments : List (List ℕ)
  pub follows : Follows word_index (λ s. ⊥) start (opened places limit scale) evs moments
  pub table : Table
  pub ends : Ends word_index start (opened places limit scale) evs moments table
  pub agrees : Agree word_index (after evs start) table
  pub submits : (s kind : ℕ) (p : Point) (c : ℕ) → (submit_of (after evs start) s kind p c).number ≡ (submit table s kind p c).number
  pub unfinished : (s : ℕ) → s < stations → is_unfinished (state_at (after evs start) s) ≡ busy (table.stations s)
  pub counters : (s : ℕ) → s < stations → counter_at (after evs start) s ≡ table.counters s
  pub alone : (s kind : ℕ) (p : Point) (c : ℕ) → (submit_of (after evs start) s kind p c).number ≡ 0 → RunsAlone (after evs start) table (16 * places + 64) s kind p c
