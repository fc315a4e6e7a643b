-- Somebody always finishes (Rules 8.4, 8.5): the steps among some events that are dealt to stations with an unfinished call, that one of the events
-- answers a call, and that nobody withdraws or submits meanwhile.
use Rattle.std.specs.Prelude.{ℕ, ◌+◌, ◌*◌, ◌≡◌, ◌⊎◌, true, cond, List, [], ◌∷◌}
use Rattle.calls.specs.Submit.{submit_of}
use Rattle.calls.specs.Withdraw.{withdraw_of}
use Rattle.stations.specs.Station.{is_unfinished, state_at}
use Rattle.table.specs.Event.{Event, submission, single_step, taking, withdrawal}
use Rattle.table.specs.History.{reply, answered}
use Rattle.history.specs.Index.{word_index}

-- how many steps dealt to stations with an unfinished call may come one after another and answer nobody
abbrev pub most_unanswered : ℕ → ℕ
most_unanswered places = 8 * places

-- 1 for a step given to a station that has an unfinished call, 0 for any other event
abbrev pub dealt_step : List ℕ → Event → ℕ
dealt_step words (submission s kind p c) = 0
dealt_step words (single_step s) = cond (is_unfinished (state_at words s)) 1 0
dealt_step words (taking s) = 0
dealt_step words (withdrawal s) = 0

-- how many of the events are such steps
unfoldable pub dealt_steps : List ℕ → List Event → ℕ
dealt_steps words [] = 0
dealt_steps words (ev ∷ evs) = dealt_step words ev + dealt_steps (reply word_index words ev).next evs

-- the event is no withdrawal, or one that is refused
abbrev pub NotWithdrawn : List ℕ → Event → Type 0
NotWithdrawn words (submission s kind p c) = Unit {0}
NotWithdrawn words (single_step s) = Unit {0}
NotWithdrawn words (taking s) = Unit {0}
NotWithdrawn words (withdrawal s) = ¬ ((withdraw_of words s).number ≡ 0)

-- no withdrawal is accepted (Rules 8.4): every submission, step and taking may fall here, and a withdrawal that is refused
abbrev pub Undisturbed : List ℕ → List Event → Type 0
Undisturbed words [] = Unit {0}
Undisturbed words (ev ∷ evs) = NotWithdrawn words ev × Undisturbed (reply word_index words ev).next evs

-- at least one call is answered
abbrev pub SomeAnswered : List ℕ → List Event → Type 0
SomeAnswered words [] = ⊥
SomeAnswered words (ev ∷ evs) = (answered word_index words ev ≡ true) ⊎ SomeAnswered (reply word_index words ev).next evs

-- the event is no submission, or one that is refused
abbrev pub NotSubmitted : List ℕ → Event → Type 0
NotSubmitted words (submission s kind p c) = ¬ ((submit_of words s kind p c).number ≡ 0)
NotSubmitted words (single_step s) = Unit {0}
NotSubmitted words (taking s) = Unit {0}
NotSubmitted words (withdrawal s) = Unit {0}

-- no submission among the events is accepted
abbrev pub NobodySubmits : List ℕ → List Event → Type 0
NobodySubmits words [] = Unit {0}
NobodySubmits words (ev ∷ evs) = NotSubmitted words ev × NobodySubmits (reply word_index words ev).next evs
