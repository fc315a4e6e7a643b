-- The comparison still to come, from axis `looked` on, is the whole one: the axes before are equal.
use Rattle.std.proofs.Common.{◌≡◌}
use Rattle.points.specs.Order.{compared_of}
use Rattle.points.proofs.ComparedLaws.{to_come}
use Rattle.points.proofs.order.compare.Given as goal

abbrev pub invariant-loop-looked : goal.invariant-loop-looked
invariant-loop-looked l = compared_of l.a l.b ≡ to_come l.a l.b l.looked l.compared
