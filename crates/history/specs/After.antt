-- The words after a history: each event gets the slice "as the event before left it" (Rules 4.1).
use Rattle.std.specs.Prelude.{List, ℕ, zero, suc, ◌≡◌, ◌⊎◌}
use Rattle.table.specs.Event.{Event}
use Rattle.table.specs.History.{after as after_events}
use Rattle.calls.specs.Step.{step_of}
use Rattle.calls.specs.Take.{take_of}
use Rattle.history.specs.Index.{word_index}
use Rattle.words.specs.Refusal.{number_told}

unfoldable pub after : List Event → List ℕ → List ℕ
unfolding after_events
after evs words = after_events word_index words evs

-- a taking by the station would be accepted next
abbrev pub Answered : List ℕ → ℕ → Type 0
Answered words s = number_told (take_of words s) ≡ 0

-- Rules 8.3: the station, "stepped while the others stand still, is answered within" so many steps, none of which is refused
abbrev pub AnsweredWithin : ℕ → List ℕ → ℕ → Type 0
AnsweredWithin zero words s = ⊥
AnsweredWithin (suc n) words s = ((step_of words s).number ≡ 0) × (Answered (step_of words s).words s ⊎ AnsweredWithin n (step_of words s).words s)
