-- The tracks of the stations so far are in range, or not.
use Rattle.std.proofs.Common.{◌≡◌}
use Rattle.stations.specs.Track.{track_at}
use Rattle.stations.specs.Common.{track_in}
use Rattle.stations.proofs.Eight.{passed}
use Rattle.stations.proofs.common.tracks_in.Given as goal

abbrev pub invariant-loop-s : goal.invariant-loop-s
invariant-loop-s l = l.sound ≡ passed (λ k. track_in l.rows l.removals (track_at l.words k)) l.s
