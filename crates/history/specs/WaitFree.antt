-- A search that nobody can hold up (Rules 8.6): the steps of one station among some events, that one of them answers, and that the station's call is not
-- withdrawn.
use Rattle.std.specs.Prelude.{ℕ, ◌+◌, ◌*◌, ◌≡◌, ◌⊎◌, true, cond, List, [], ◌∷◌, eqb}
use Rattle.calls.specs.Withdraw.{withdraw_of}
use Rattle.table.specs.Event.{Event, submission, single_step, taking, withdrawal}
use Rattle.table.specs.History.{reply, answered}
use Rattle.history.specs.Index.{word_index}

-- what the steps of a nearest that do not answer may take together, of which each takes five: four for each place that a record may hold, and five for
-- each that a removal may hold
abbrev pub most_own_moves : ℕ → ℕ
most_own_moves places = 9 * places

-- 1 for a step of station s
abbrev pub own_step : ℕ → Event → ℕ
own_step s (submission u kind p c) = 0
own_step s (single_step u) = cond (eqb u s) 1 0
own_step s (taking u) = 0
own_step s (withdrawal u) = 0

-- how many of the events are steps of station s
unfoldable pub own_steps : ℕ → List Event → ℕ
own_steps s [] = 0
own_steps s (ev ∷ evs) = own_step s ev + own_steps s evs

-- the event is a step of station s that answers its call
abbrev pub OwnAnswer : ℕ → List ℕ → Event → Type 0
OwnAnswer s words (submission u kind p c) = ⊥
OwnAnswer s words (single_step u) = (u ≡ s) × (answered word_index words (single_step u) ≡ true)
OwnAnswer s words (taking u) = ⊥
OwnAnswer s words (withdrawal u) = ⊥

-- one of the events is
abbrev pub OwnAnswered : ℕ → List ℕ → List Event → Type 0
OwnAnswered s words [] = ⊥
OwnAnswered s words (ev ∷ evs) = OwnAnswer s words ev ⊎ OwnAnswered s (reply word_index words ev).next evs

-- the event is no withdrawal by station s, or one that is refused
abbrev pub CallKept : ℕ → List ℕ → Event → Type 0
CallKept s words (submission u kind p c) = Unit {0}
CallKept s words (single_step u) = Unit {0}
CallKept s words (taking u) = Unit {0}
CallKept s words (withdrawal u) = u ≡ s → ¬ ((withdraw_of words u).number ≡ 0)

-- none of the events withdraws its call
abbrev pub KeepsCall : ℕ → List ℕ → List Event → Type 0
KeepsCall s words [] = Unit {0}
KeepsCall s words (ev ∷ evs) = CallKept s words ev × KeepsCall s (reply word_index words ev).next evs
