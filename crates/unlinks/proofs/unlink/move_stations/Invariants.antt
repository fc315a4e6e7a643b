use Rattle.std.proofs.Common.{◌≡◌}
use Rattle.calls.specs.Unlink.{stations_moved}
use Rattle.unlinks.proofs.unlink.move_stations.Given as goal

-- the first s stations have moved
abbrev pub invariant-loop-s : goal.invariant-loop-s
invariant-loop-s l = l.words ≡ stations_moved l.a l.s l.initial.words
