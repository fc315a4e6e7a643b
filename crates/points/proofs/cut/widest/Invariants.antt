use Rattle.std.proofs.Common.{◌≡◌}
use Rattle.points.proofs.CutLaws.{widest_before}
use Rattle.points.proofs.cut.widest.Given as goal

abbrev pub invariant-loop-k : goal.invariant-loop-k
invariant-loop-k l = l.widest ≡ widest_before l.rule l.a l.b l.k
