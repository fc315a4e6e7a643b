-- Opening again (Rules 7.4): words beyond stay (`open_beyond`), and an accepted opening of whatever a history left begins a new history (`open_again`).
use Prim.Native.Nat.{ℕ}
use mathlib.Core.Path.{◌≡◌}
use mathlib.Core.List.{List}
use Rattle.points.specs.declared.scale.Scale.{Scale}
use Rattle.words.specs.Layout.{words_for}
use Rattle.words.specs.Agree.{Beyond}
use Rattle.table.specs.Event.{Event}
use Rattle.table.specs.History.{Linear}
use Rattle.calls.specs.Open.{open_of}
use Rattle.history.specs.Index.{word_index}
use Rattle.history.specs.After.{after}
use Rattle.history.proofs.OpenEffects.{opened_beyond}
use Rattle.history.proofs.Demand3.{accepted, demand_3}

-- An accepted opening leaves every word from the end of the rows on, and the length.
pub open_beyond : (words : List ℕ) (places limit : ℕ) (scale : Scale) → (open_of words places limit scale).number ≡ 0 → Beyond (open_of words places limit scale).words words (words_for places)
open_beyond words places limit scale e =
    let a = accepted words places limit scale e in
    rw a.opens (opened_beyond words places limit scale a.places_in_lem a.limit_in_lem a.rule_in_lem a.factors_in_lem a.long)

-- Rules 7.4: what an accepted opening of the words after a history leaves is linear from no record held.
pub open_again : (words : List ℕ) (places limit : ℕ) (scale : Scale) (evs : List Event) (places' limit' : ℕ) (scale' : Scale)
    → (open_of (after evs (open_of words places limit scale).words) places' limit' scale').number ≡ 0
    → Linear word_index (open_of (after evs (open_of words places limit scale).words) places' limit' scale').words places' limit' scale'
open_again words places limit scale evs places' limit' scale' = demand_3 (after evs (open_of words places limit scale).words) places' limit' scale'
