-- The rows below r are counted.
use Rattle.std.proofs.Common.{◌≡◌}
use Rattle.calls.specs.Tree.{scan}
use Rattle.audits.proofs.tree.Rooted.scan.Given as goal

abbrev pub invariant-loop-r : goal.invariant-loop-r
invariant-loop-r l = l.c ≡ scan l.self.words.now l.self.rows l.self.root l.r
