use Rattle.std.proofs.Common.{◌≡◌, arith}
use Rattle.points.proofs.CutLaws.{widest_last}
use Rattle.points.proofs.cut.widest.Goals as goal

pub returns : goal.returns
returns c =
    let six : c.loop-k.k ≡ 6 = omega arith in
    cc (widest_last c.args.rule c.args.a c.args.b)
