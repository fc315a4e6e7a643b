-- The questions about an unfinished call (Rules 7.8, 7.9), which a step and a withdrawal ask, with what they read on the way: the rows of the index and the call.
use Rattle.std.specs.Prelude.{ℕ, cond, List, ltb, Result, Ok, Err}
use Rattle.words.specs.Layout.{stations}
use Rattle.words.specs.declared.refusal.Refusal.{Refusal}
use Rattle.words.specs.declared.refusal.Refusal.TheVariants.{NotOpened, NoStation, NotUnfinished, Unsound}
use Rattle.stations.specs.Common.{opened_in, is_opened, rows_in}
use Rattle.stations.specs.Station.{is_unfinished, state_at}
use Rattle.stations.specs.Call.{call_at}
use Rattle.calls.specs.Step.{fields_sound}
use Rattle.calls.specs.declared.turn.Turn.{Turn}

-- the turn of station s
abbrev pub turn_at : List ℕ → ℕ → Turn
turn_at words s = record { rows = rows_in words; s = s; call = call_at words s }

-- the turn of station s, or the first of questions 4, 5, 10 and 11 that fails
unfoldable pub turn_of : List ℕ → ℕ → Result Turn Refusal
turn_of words s =
    cond (is_opened (opened_in words))
    (cond (ltb s stations)
    (cond (is_unfinished (state_at words s)) (cond (fields_sound words (rows_in words) (call_at words s)) (Ok (turn_at words s)) (Err Unsound)) (Err NotUnfinished)) (Err NoStation))
    (Err NotOpened)
