use Rattle.std.proofs.Common.{◌≡◌}
use Rattle.calls.specs.Open.{rows_spare}
use Rattle.openings.proofs.open.spare_rows.Given as goal

abbrev pub invariant-loop-r : goal.invariant-loop-r
invariant-loop-r l = l.words ≡ rows_spare l.rows l.r l.initial.words
