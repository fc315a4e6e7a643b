use lib.Dec.{lit≤}
use Rattle.points.proofs.SquareLaws.{counted_small}
use Rattle.points.proofs.square.counted_square.Goals as goal

pub returns-then-count-gap : goal.returns-then-count-gap
returns-then-count-gap c = counted_small c.args.count c.args.gap 1024 134217727 (lit≤ tt) c.if-count-gap.true

pub returns-then-count-gap-2 : goal.returns-then-count-gap-2
returns-then-count-gap-2 c = counted_small c.args.count c.args.gap 16 1073741823 (lit≤ tt) c.if-count-gap-2.true
