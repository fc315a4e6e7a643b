use Rattle.std.proofs.Common.{◌≡◌, rules, ap, ◌∙◌}
use mir.Syntax.{w32}
use mir.Val.{SFits}
use Rattle.std.proofs.lemmas.Int.{to_z-of_z}
use Rattle.points.specs.Signed.{capped_of}
use Rattle.points.specs.Number.{dry_of}
use Rattle.points.proofs.MachineLaws.{passed}
use Rattle.points.proofs.SignedLaws.{dry_read}
use Rattle.points.proofs.point.Point.dry.Goals as goal

pub returns : goal.returns
unfolding dry_of
returns c =
    let w : SFits w32 c.args.self.weight = search rules in
    let m : SFits w32 c.args.self.moisture = search rules in
    let is_w : c.from.result ≡ c.args.self.weight = simp to_z-of_z at c.from.ensures in
    let is_m : c.from-solid.result ≡ c.args.self.moisture = simp to_z-of_z at c.from-solid.ensures in
    passed ((rw (is_w, is_m) at c.capped.ensures) ∙ ap capped_of (dry_read c.args.self.weight c.args.self.moisture w m)) c.capped.type_inv
