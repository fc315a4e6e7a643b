-- The stations: which there are, and their states.
use Rattle.std.specs.Prelude.{ℕ, List, Bool, cond, ◌&&◌, length, eqb, leb, ltb}
use Rattle.points.specs.Word.{NONE}
use Rattle.stations.specs.declared.station.State.{State}
use Rattle.words.specs.Layout.{stations, records, at_station}
use Rattle.words.specs.Words.{get, put}

-- the station is one of the eight, and the slice is long enough for their records
unfoldable pub has_station : List ℕ → ℕ → Bool
has_station words s = ltb s stations && leb records (length words)

-- the states of a station: no call and no answer, an unfinished call, an answer that waits
abbrev pub idle : State
idle = record { word = 0 }

abbrev pub unfinished : State
unfinished = record { word = 1 }

abbrev pub waiting : State
waiting = record { word = 2 }

abbrev pub is_idle : State → Bool
is_idle state = eqb state.word idle.word

abbrev pub is_unfinished : State → Bool
is_unfinished state = eqb state.word unfinished.word

abbrev pub is_waiting : State → Bool
is_waiting state = eqb state.word waiting.word

-- the state after a submission
abbrev pub submitted : State → State
submitted state = unfinished

-- the state after the step that answers
abbrev pub answered : State → State
answered state = waiting

-- Rules 2.3: a taking "leaves the station idle"
abbrev pub emptied : State → State
emptied state = idle

-- the state of station s; none of the three where there is no such station
unfoldable pub state_at : List ℕ → ℕ → State
state_at words s = cond (has_station words s) (record { word = get words (at_station s) }) (record { word = NONE })

-- the words with that state written
unfoldable pub put_state : List ℕ → ℕ → State → List ℕ
put_state words s state = cond (has_station words s) (put words (at_station s) state.word) words
