use Rattle.std.proofs.Common.{◌≡◌, rules, ◌∙◌}
use lib.IntN.{◌+ℤ◌}
use mir.Syntax.{w32}
use mir.Val.{SFits}
use Rattle.std.proofs.lemmas.Int.{to_z-of_z}
use Rattle.std.specs.Int.{saturate_signed}
use Rattle.points.specs.Signed.{capped_of}
use Rattle.points.specs.Number.{number_of}
use Rattle.points.specs.Cut.{cut_of}
use Rattle.points.proofs.MachineLaws.{passed}
use Rattle.points.proofs.SignedLaws.{capped_saturate}
use Rattle.points.proofs.cut.cut_between.Goals as goal

pub returns : goal.returns
unfolding cut_of
returns c =
    let x : SFits w32 c.number.result = search rules in
    let y : SFits w32 c.number-2.result = search rules in
    let sum : c.saturating_add.result ≡ saturate_signed w32 (c.number.result +ℤ c.number-2.result) = simp to_z-of_z at c.saturating_add.ensures in
    let whole : c.saturating_add.result ≡ capped_of (number_of c.args.a c.widest-axis.result +ℤ number_of c.args.b c.widest-axis.result) =
    rw (sum, c.number.ensures, c.number-2.ensures) (capped_saturate _)
    in
    let back = passed whole c.saturating_add.type_inv in
    (λ i. record { axis = c.widest-axis.result; sum = back i })
    ∙ (λ i. record { axis = c.widest-axis.ensures i; sum = capped_of (number_of c.args.a (c.widest-axis.ensures i) +ℤ number_of c.args.b (c.widest-axis.ensures i)) })
