use Rattle.std.proofs.Common.{◌≡◌}
use Rattle.calls.specs.Open.{tracks_cleared}
use Rattle.openings.proofs.open.clear_tracks.Given as goal

abbrev pub invariant-loop-s : goal.invariant-loop-s
invariant-loop-s l = l.words ≡ tracks_cleared l.s l.initial.words
