-- The least of the removals and the since words of the stations so far.
use Rattle.std.proofs.Common.{◌≡◌}
use Rattle.stations.proofs.TakenLaws.{least_below}
use Rattle.stations.proofs.common.least_since.Given as goal

abbrev pub invariant-loop-s : goal.invariant-loop-s
invariant-loop-s l = l.least ≡ least_below l.words l.s
