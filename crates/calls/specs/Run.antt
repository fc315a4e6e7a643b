-- A run (Rules 8.2): steps of the station until it is answered, at most 16 × places + 64; "a refused step ends the run, its number is the run's result,
-- and the steps before it stand".
use Rattle.std.specs.Prelude.{ℕ, zero, suc, ◌+◌, ◌*◌, Bool, true, false, cond, ◌&&◌, not, List, eqb, Option, is_some}
use Rattle.stations.specs.Common.{opened_in, is_opened, places_at}
use Rattle.stations.specs.Answer.{waiting_at}
use Rattle.calls.specs.Reply.{Reply, done}
use Rattle.calls.specs.Step.{step_of}
use Rattle.stations.specs.declared.answer.Answer.{Answer}

-- an answer waits
abbrev pub is_given : Option Answer → Bool
is_given = is_some

-- after a step the run goes on where the step was accepted and did not answer
abbrev pub goes_on : ℕ → Reply → Bool
goes_on s reply = eqb reply.number 0 && not (is_given (waiting_at reply.words s))

-- at most n steps
unfoldable pub run_for : ℕ → List ℕ → ℕ → Reply
run_for zero words s = done words
run_for (suc n) words s = elim (goes_on s (step_of words s)) [ true ↦ run_for n (step_of words s).words s | false ↦ step_of words s ]

-- the most steps of a run; one where the slice is not opened, which is refused
unfoldable pub most_steps : List ℕ → ℕ
most_steps words = cond (is_opened (opened_in words)) (16 * places_at words + 64) 1

unfoldable pub run_of : List ℕ → ℕ → Reply
run_of words s = run_for (most_steps words) words s
