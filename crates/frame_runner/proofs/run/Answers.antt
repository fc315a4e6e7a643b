-- The next text is asked for only where there may be more, and then fewer are left.
use Rattle.std.proofs.Common.{◌<◌, ◌∙◌, sym, subst}
use Rattle.texts.specs.declared.output.Output.{Output}
use Rattle.texts.specs.Output.{asked_at_most}
use Rattle.texts.proofs.OutputLaws.{next_falls}
use Rattle.frame_runner.proofs.run.Goals as goal

pub loop-output-smaller : goal.loop-output-smaller
loop-output-smaller g c =
    let l = c.loop-output in
    let bytes = c.args.bytes.now in
    subst (λ (output : Output). asked_at_most bytes output < asked_at_most bytes l.output) (sym c.next-output.ensures.0)
    (next_falls l.words bytes l.output (sym c.is_some.ensures ∙ c.loop-output-test.true))
