-- The counts of the common record: changes, records held, root, head and tail of the queue, and removals, in six words one after the other.
use Rattle.std.specs.Prelude.{ℕ, ◌+◌, cond, List, [], ◌∷◌, leb, length}
use Rattle.words.specs.Layout.{common_size, at_counts}
use Rattle.words.specs.Words.{get, splice}
use Rattle.stations.specs.declared.counts.Counts.{Counts}

-- the counts
unfoldable pub counts_at : List ℕ → Counts
counts_at words = record {
  changes = get words at_counts;
  held = get words (at_counts + 1);
  root = get words (at_counts + 2);
  head = get words (at_counts + 3);
  tail = get words (at_counts + 4);
  removals = get words (at_counts + 5);
}

-- their six words
unfoldable pub count_words : Counts → List ℕ
count_words counts = counts.changes ∷ counts.held ∷ counts.root ∷ counts.head ∷ counts.tail ∷ counts.removals ∷ []

-- the words with those counts written; as they were where the slice is too short for the common record
unfoldable pub put_counts : List ℕ → Counts → List ℕ
put_counts words counts = cond (leb common_size (length words)) (splice words (count_words counts) at_counts 6) words
