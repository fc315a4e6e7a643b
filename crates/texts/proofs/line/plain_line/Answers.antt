-- The fields are put one behind the other.
use Rattle.std.proofs.Common.{rules, ◌∙◌, ap}
use Rattle.texts.proofs.TextLaws.{puts_both}
use Rattle.texts.proofs.LineLaws.{plain_text}
use Rattle.texts.proofs.line.plain_line.Goals as goal

pub returns : goal.returns
returns c =
    let number = rw c.from.ensures at c.field-2.ensures in
    plain_text c.args.ordinal c.args.number c.ranges.ordinal.fits c.ranges.number.fits c.empty.ensures (puts_both c.field.ensures (puts_both number c.with_bytes.ensures))
