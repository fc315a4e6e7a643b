-- The fields are put one behind the other, each number within its width.
use Rattle.texts.proofs.TextLaws.{puts_both}
use Rattle.texts.proofs.LineLaws.{Narrow, answer_text}
use Rattle.texts.proofs.line.answer_line.Goals as goal

pub returns : goal.returns
returns c =
    let a = c.well_formed.1.0.1.1 in
    let p = a.1.0.1.1 in
    let narrow : Narrow c.args.answer = record {
      code = a.0.1;
      grade = p.0.1;
      weight = p.1.0.1;
      moisture = p.1.1.0.1;
      speed = p.1.1.1.0.1;
      draw = p.1.1.1.1.0.1;
      curve = a.1.1.0.1;
      square = a.1.1.1.0.1;
    } in
    let code = rw c.from.ensures at c.field-start.ensures in
    let curve = rw c.from-2.ensures at c.field-3.ensures in
    answer_text c.args.ordinal c.args.answer c.ranges.ordinal.fits narrow c.empty.ensures
    (puts_both c.field.ensures (puts_both c.field-2.ensures (puts_both code (puts_both c.with_point.ensures (puts_both curve (puts_both c.with_number.ensures c.with_byte.ensures))))))
