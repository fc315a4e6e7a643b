-- Tree and queue together: they must be all the rows.
use Rattle.std.specs.Prelude.{ℕ, Bool, ◌&&◌, List, eqb}
use Rattle.stations.specs.Counts.{counts_at}
use Rattle.points.specs.Word.{NONE}
use Rattle.stations.specs.Common.{rows_in}
use Rattle.calls.specs.declared.tree.Count.{Count}
use Rattle.calls.specs.declared.queue.Queued.{Queued}
use Rattle.calls.specs.Sum.{plus, tree_rows}

-- the queue ends at the tail, with the last removal
abbrev pub whole_queue : List ℕ → Queued → Bool
whole_queue words l = ((l.sound && eqb l.at NONE) && eqb l.last (counts_at words).tail) && eqb l.number (counts_at words).removals

-- tree and queue are sound, and their rows are as many as there are
abbrev pub all_rows : List ℕ → Count → Queued → Bool
all_rows words t l = (t.sound && whole_queue words l) && eqb (plus (tree_rows t.leaves) l.rows) (rows_in words)
