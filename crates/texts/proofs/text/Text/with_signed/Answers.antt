-- The sign, and then the digits.
use Rattle.std.proofs.Common.{sym, ◌∙◌, ap, subst, List, ℕ, ◌∷◌}
use mir.Syntax.{w32}
use mir.Facts.{to_z-of_z}
use Rattle.texts.specs.Decimal.{minus, decimal_of}
use Rattle.texts.specs.Text.{Puts}
use Rattle.texts.proofs.DecimalLaws.{signed_negative}
use Rattle.texts.proofs.TextLaws.{puts_both}
use Rattle.texts.proofs.text.Text.with_signed.Goals as goal

pub returns-then-n-lt0 : goal.returns-then-n-lt0
returns-then-n-lt0 c =
    let back = to_z-of_z {w = w32} c.ranges.n in
    let size = c.from-size.ensures ∙ rw back at c.unsigned_abs.ensures.value in
    let spelled = ap (λ (k : ℕ). minus ∷ decimal_of k) size ∙ sym (signed_negative c.args.n (rw back at c.if-n-lt0.true)) in
    subst (λ (xs : List ℕ). Puts c.args.self xs c.with_number.result) spelled (puts_both c.with_byte.ensures c.with_number.ensures)
