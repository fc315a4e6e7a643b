-- The fields are put one behind the other, each coordinate within its width.
use Rattle.texts.specs.Line.{point_bytes}
use Rattle.texts.proofs.TextLaws.{puts_both}
use Rattle.texts.proofs.LineLaws.{signed_put}
use Rattle.texts.proofs.line.with_point.Goals as goal

pub returns : goal.returns
unfolding point_bytes
returns c =
    let point = c.args.point in
    let p = c.well_formed.1.0.1.1 in
    puts_both (signed_put point.grade p.0.1 c.signed_field.ensures)
    (puts_both (signed_put point.weight p.1.0.1 c.signed_field-2.ensures)
    (puts_both (signed_put point.moisture p.1.1.0.1 c.signed_field-3.ensures)
    (puts_both (signed_put point.speed p.1.1.1.0.1 c.signed_field-4.ensures) (signed_put point.draw p.1.1.1.1.0.1 c.signed_field-5.ensures))))
