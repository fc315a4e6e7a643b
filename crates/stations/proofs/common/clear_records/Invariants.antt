-- The words passed are zero.
use Rattle.std.proofs.Common.{◌≡◌}
use Rattle.stations.specs.Common.{cleared}
use Rattle.stations.proofs.common.clear_records.Given as goal

abbrev pub invariant-loop-at : goal.invariant-loop-at
invariant-loop-at l = l.words ≡ cleared l.at l.initial.words
