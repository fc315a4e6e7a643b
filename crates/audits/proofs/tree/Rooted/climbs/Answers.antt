use Rattle.std.proofs.Common.{sym, ◌∙◌, arith}
use Rattle.audits.proofs.Ways.{climb_more, climb_done, climb_over}
use Rattle.audits.proofs.tree.Rooted.climbs.Goals as goal
use Rattle.audits.proofs.tree.Rooted.climbs.Goals.{else-loop-test, then-loop-test+then-c}

pub loop-preserved : goal.loop-preserved
loop-preserved c = climb_more _ _ _ _ _ _ _ _ _ c.loop.invariant c.loop-test.true c.if-c.false cc

pub returns : goal.returns
returns c =
    elim c.loop-test.branch [
      | else-loop-test w ↦ climb_done _ _ _ _ _ _ (omega arith) ∙ sym c.loop.invariant
      | then-loop-test+then-c w ↦ climb_over _ _ _ _ _ _ w.if-c.true ∙ sym c.loop.invariant
    ]
