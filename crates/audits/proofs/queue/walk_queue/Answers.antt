use Rattle.std.proofs.Common.{◌∙◌, sym, inl, inr, arith}
use borrow.Author.Tests.{eq-eqb}
use Rattle.calls.proofs.QueueLaws.{walk_end}
use Rattle.audits.proofs.Ways.{walk_more}
use Rattle.audits.proofs.queue.walk_queue.Goals as goal

pub loop-preserved : goal.loop-preserved
loop-preserved c = walk_more _ _ _ _ _ _ _ _ c.loop.invariant c.loop-test.true c.if-line.false cc

pub returns-after-loop : goal.returns-after-loop
returns-after-loop c = walk_end _ _ _ _ _ (inl (omega arith)) ∙ sym c.loop.invariant

pub returns-then-line : goal.returns-then-line
returns-then-line c = walk_end _ _ _ _ _ (inr (eq-eqb _ _ c.if-line.true)) ∙ sym c.loop.invariant
