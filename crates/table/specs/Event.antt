-- The events of a history and what they do to the plain table (Rules 4.1, 4.7 to 4.14).
use Rattle.std.specs.Prelude.{Bool, true, false, not, ◌||◌, List, [], ◌∷◌, ℕ, ◌+◌, eqb, ltb}
use Rattle.std.proofs.Math.Option.{Option, none, some}
use Rattle.points.specs.declared.point.Point.{Point}
use Rattle.points.specs.Number.{in_range_by}
use Rattle.table.specs.Record.{curve_in_range}
use Rattle.table.specs.Call.{Call, call_of, kind_in_range, Answer, is_change, withdrawn_answer}
use Rattle.table.specs.Table.{Station, idle, unfinished, waiting, Table, put, with_stations, answer_of, changed_if}

-- Rules 4.1: "a submission, a single step, a taking or a withdrawal, refused ones too", with any station number, kind, point and curve
pub data Event : Type 0 where
  submission : ℕ → ℕ → Point → ℕ → Event
  single_step : ℕ → Event
  taking : ℕ → Event
  withdrawal : ℕ → Event

-- what an event gives back, 0 or the number of its refusal and the answer taken, and what it leaves
pub record Reply (S : Type 0) : Type 0 where
  pub number : ℕ
  pub given : Option Answer
  pub next : S

-- the reply of an event that is not refused and takes no answer
abbrev pub accept : Table → Reply Table
accept t = record { number = 0; given = none; next = t }

-- Rules 4.14: "A refusal leaves the table as it is"
abbrev pub refuse : ℕ → Table → Reply Table
refuse n t = record { number = n; given = none; next = t }

-- a question that is answered no refuses with its number (Rules 7.1)
abbrev pub ask : Bool → ℕ → Table → Reply Table → Reply Table
ask true n t r = r
ask false n t r = refuse n t

-- ## Submission

-- Rules 7.1, question 6: "Is the station idle, with no unfinished call and no answer waiting?"
unfoldable pub is_idle : Station → Bool
is_idle idle = true
is_idle (unfinished i c o) = false
is_idle (waiting a) = false

-- question 9: for an add, the curve is in range
unfoldable pub curve_fits : ℕ → ℕ → Bool
curve_fits kind c = not (eqb kind 1) || curve_in_range c

-- "else its call is unfinished" (Rules 4.9), under an identity that no call had before
unfoldable pub enter : Table → ℕ → Call → Table
enter t s c = record {
  places = t.places;
  limit = t.limit;
  scale = t.scale;
  held = t.held;
  counters = t.counters;
  removals = t.removals;
  calls = t.calls + 1;
  stations = put t.stations s (unfinished t.calls c none);
}

-- Rules 4.9: "refused by questions 5 to 9, asked of the table's station; else its call is unfinished"
unfoldable pub submit : Table → ℕ → ℕ → Point → ℕ → Reply Table
submit t s kind p c =
    ask (ltb s 8) 5 t (ask (is_idle (t.stations s)) 6 t (ask (kind_in_range kind) 7 t (ask (in_range_by t.scale.rule p) 8 t (ask (curve_fits kind c) 9 t
    (accept (enter t s (call_of kind p c)))))))

-- ## Moment

-- the call's answer is set down, with what it changes (Rules 4.10)
unfoldable pub set_down : Table → ℕ → ℕ → Call → Answer → Table
set_down t s i c a = with_stations (changed_if (is_change a) t s c) (put t.stations s (unfinished i c (some a)))

-- the event is a step of the station
unfoldable pub own_step : Event → ℕ → Bool
own_step (submission u kind p c) s = false
own_step (single_step u) s = eqb u s
own_step (taking u) s = false
own_step (withdrawal u) s = false

-- the event is a withdrawal by the station
unfoldable pub own_withdrawal : Event → ℕ → Bool
own_withdrawal (submission u kind p c) s = false
own_withdrawal (single_step u) s = false
own_withdrawal (taking u) s = false
own_withdrawal (withdrawal u) s = eqb u s

-- Rules 4.3: the moment of a change "is a step of the call's own station"; at no other event can it fall
unfoldable pub may_fall : Event → ℕ → Answer → Bool
may_fall ev s a = not (is_change a) || own_step ev s

-- undefined where the test fails
unfoldable pub only_if : Bool → Table → Option Table
only_if true t = some t
only_if false t = none

-- Rules 4.2: "A moment falls at an event after its call's submission and no later than the step that answers it": the call is unfinished then and
-- nothing is set down for it, else the moment is undefined; so a call has one moment at most
unfoldable pub moment_at : Event → Table → ℕ → Station → Option Table
moment_at ev t s idle = none
moment_at ev t s (waiting a) = none
moment_at ev t s (unfinished i c (some a)) = none
moment_at ev t s (unfinished i c none) = only_if (may_fall ev s (answer_of t s c)) (set_down t s i c (answer_of t s c))

-- the moment of the station's call
unfoldable pub moment : Event → Table → ℕ → Option Table
moment ev t s = moment_at ev t s (t.stations s)

-- ## Step

-- Rules 4.11: "One that answers puts the answer set down in waiting, and its call is no longer unfinished"; undefined where a step is said to answer
-- and nothing is set down
unfoldable pub step_at : Table → ℕ → Bool → Bool → Station → Option (Reply Table)
step_at t s false answers x = some (refuse 5 t)
step_at t s true answers idle = some (refuse 10 t)
step_at t s true answers (waiting a) = some (refuse 10 t)
step_at t s true false (unfinished i c o) = some (accept t)
step_at t s true true (unfinished i c none) = none
step_at t s true true (unfinished i c (some a)) = some (accept (with_stations t (put t.stations s (waiting a))))

-- a step of the station, told whether it answers
unfoldable pub step : Table → ℕ → Bool → Option (Reply Table)
step t s answers = step_at t s (ltb s 8) answers (t.stations s)

-- ## Taking

-- Rules 4.12: "it gives the waiting answer, and the station is idle", or it is refused
unfoldable pub take_at : Table → ℕ → Station → Reply Table
take_at t s idle = refuse 12 t
take_at t s (unfinished i c o) = refuse 12 t
take_at t s (waiting a) = record { number = 0; given = some a; next = with_stations t (put t.stations s idle) }

-- a taking by the station
unfoldable pub take : Table → ℕ → Reply Table
take t s = ask (ltb s 8) 5 t (take_at t s (t.stations s))

-- ## Withdrawal

-- the reply where the test passes, undefined where it fails
unfoldable pub reply_if : Bool → Reply Table → Option (Reply Table)
reply_if true r = some r
reply_if false r = none

-- Rules 4.13: refused by 5 or 10, as a step is; 11 where nothing is set down for the call; its ordinary answer where it has taken effect, and so a change is
-- set down. Any other answer set down was given to a call that "has no part in the order of moments" (Rules 4.2): undefined
unfoldable pub withdraw_at : Table → ℕ → Bool → Station → Option (Reply Table)
withdraw_at t s false x = some (refuse 5 t)
withdraw_at t s true idle = some (refuse 10 t)
withdraw_at t s true (waiting a) = some (refuse 10 t)
withdraw_at t s true (unfinished i c none) = some (accept (with_stations t (put t.stations s (waiting (withdrawn_answer c)))))
withdraw_at t s true (unfinished i c (some a)) = reply_if (is_change a) (accept (with_stations t (put t.stations s (waiting a))))

-- a withdrawal by the station
unfoldable pub withdraw : Table → ℕ → Option (Reply Table)
withdraw t s = withdraw_at t s (ltb s 8) (t.stations s)

-- ## Feeding the table

-- what the event itself does, told whether it answers
unfoldable pub perform : Table → Event → Bool → Option (Reply Table)
perform t (submission s kind p c) answers = some (submit t s kind p c)
perform t (single_step s) answers = step t s answers
perform t (taking s) answers = some (take t s)
perform t (withdrawal s) answers = withdraw t s

-- moments at one event, as a list of stations: they "have an order" (Rules 4.5)
unfoldable pub moments : Event → Table → List ℕ → Option Table
moments ev t [] = some t
moments ev t (s ∷ ss) = elim (moment ev t s) [ none ↦ none | some u ↦ moments ev u ss ]

-- Rules 4.7: "fed the events in order, which steps answered, and where the moments fall"; moments "come before what the event itself does" (Rules 4.5)
unfoldable pub feed : Table → List ℕ → Event → Bool → Option (Reply Table)
feed t ms ev answers = elim (moments ev t ms) [ none ↦ none | some u ↦ perform u ev answers ]
