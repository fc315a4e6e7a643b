-- The number is the greatest counter of the stations so far.
use Rattle.std.proofs.Common.{◌≡◌}
use Rattle.stations.specs.Counter.{greatest_counter}
use Rattle.stations.proofs.counter.greatest_counter.Given as goal

abbrev pub invariant-loop-s : goal.invariant-loop-s
invariant-loop-s l = l.most ≡ greatest_counter l.words l.s
