use Rattle.std.proofs.Common.{◌≡◌}
use Rattle.calls.specs.Insert.{cursors_moved}
use Rattle.inserts.proofs.insert.move_cursors.Given as goal

-- the cursors of the first s stations have moved
abbrev pub invariant-loop-s : goal.invariant-loop-s
invariant-loop-s l = l.words ≡ cursors_moved l.gone l.to l.s l.initial.words
