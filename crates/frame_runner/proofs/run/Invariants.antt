-- Each time fewer texts are left to ask for.
use Rattle.texts.specs.Output.{asked_at_most}
use Rattle.frame_runner.proofs.run.Given as goal

abbrev pub decreases-loop-output : goal.decreases-loop-output
decreases-loop-output g l = asked_at_most l.bytes l.output
