-- So many tours have been made from where the look left the search.
use Rattle.std.proofs.Common.{◌≡◌}
use Rattle.rows.specs.Grades.{slot_of}
use Rattle.calls.specs.Look.{look}
use Rattle.calls.specs.Tour.{toured}
use Rattle.calls.specs.Reached.{reached_at}
use Rattle.searches.proofs.search.seek.Given as goal

abbrev pub invariant-loop : goal.invariant-loop
invariant-loop l =
    l.reached ≡ reached_at l.words l.rows l.fn.aim (toured l.words l.rows (slot_of l.fn.aim.point) l.fn.aim l.counter (look l.words l.rows l.fn.aim l.fn.p))
