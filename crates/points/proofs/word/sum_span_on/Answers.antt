use Rattle.std.proofs.Common.{rules, ap, ◌∙◌}
use mir.Syntax.{w32}
use mir.Val.{SFits}
use Rattle.std.proofs.lemmas.Int.{to_z-of_z}
use Rattle.points.specs.Word.{stored_in}
use Rattle.points.proofs.WordLaws.{sum_range_high}
use Rattle.points.proofs.word.sum_span_on.Goals as goal

pub returns : goal.returns
returns c =
    let fits : SFits w32 c.sum_range_on-r.result.high = search rules in
    (simp to_z-of_z at c.stored.ensures) ∙ ap (λ r. stored_in r r.high) c.sum_range_on-r.ensures ∙ sum_range_high c.args.axis
