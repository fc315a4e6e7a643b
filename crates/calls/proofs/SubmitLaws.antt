-- A nearest call holds back the places of all that is removed after its submission. Assumes nothing.
use mathlib.Core.Path.{◌≡◌, refl}
use Rattle.stations.specs.declared.counts.Counts.{Counts}
use Rattle.stations.specs.Call.{nearest_kind}
use Rattle.calls.specs.Submit.{begun_track}

pub begun_since : (counts : Counts) → (begun_track counts nearest_kind).since ≡ counts.removals
unfolding begun_track
begun_since counts = refl
