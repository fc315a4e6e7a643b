-- The counts: what is written is read back (`counts_back`), and they are a matter of the common record alone (`counts_agree`).
-- Assumes nothing.
use mathlib.Core.Path.{◌≡◌, refl, ap}
use mathlib.Core.List.{List}
use Prim.Native.Nat.{ℕ, ◌+◌, ◌≤◌, ◌<◌}
use native.Mathlib.Omega.{arith}
use borrow.Author.Tests.{leb-true, le-leb}
use lib.Dec.{leb}
use lib.ListN.{length, get_or}
use Rattle.words.specs.Layout.{common_size, at_counts}
use Rattle.words.specs.Words.{get, splice}
use Rattle.words.specs.Agree.{Agree, Only, in_common, start_of, size_of, AgreeIn, OnlyIn}
use Rattle.words.proofs.Splice.{splice_inside}
use Rattle.words.proofs.AgreeLaws.{agree_within, only_within, splice_only, splice_agree, cond_only, cond_agree}
use Rattle.stations.specs.declared.counts.Counts.{Counts}
use Rattle.stations.specs.Counts.{counts_at, count_words, put_counts}

-- slices that agree on the six words have the same counts
pub counts_words : {v w : List ℕ} → Agree v w at_counts 6 → counts_at v ≡ counts_at w
unfolding counts_at at_counts
counts_words {v} {w} g = λ i. record { changes = at 0 (omega arith) i; held = at 1 (omega arith) i; root = at 2 (omega arith) i; head = at 3 (omega arith) i; tail = at 4 (omega arith) i; removals = at 5 (omega arith) i }
  where
    at : (k : ℕ) → k < 6 → get v (at_counts + k) ≡ get w (at_counts + k)
    at k l = g.words (at_counts + k) (omega arith) (omega arith)

-- so slices that agree in the common record have
pub counts_agree : {v w : List ℕ} → AgreeIn v w in_common → counts_at v ≡ counts_at w
unfolding start_of size_of at_counts
counts_agree g = counts_words (agree_within g at_counts 6 (omega arith) (omega arith))

-- ---- the counts written
module _ (w : List ℕ) (counts : Counts) where
  fits : common_size ≤ length w → at_counts + 6 ≤ length w
  unfolding at_counts
  fits h = omega arith

  -- six words are
  pub put_counts_words : Only (put_counts w counts) w at_counts 6
  unfolding put_counts count_words
  put_counts_words = cond_only (leb common_size (length w)) (λ e. splice_only w (count_words counts) at_counts 6 (fits (leb-true common_size (length w) e)) refl)

  pub put_counts_only : OnlyIn (put_counts w counts) w in_common
  unfolding start_of size_of at_counts
  put_counts_only = only_within put_counts_words 0 common_size (omega arith) (omega arith)

  pub length_put_counts : length (put_counts w counts) ≡ length w
  length_put_counts = put_counts_words.lengths

  -- and read back
  pub counts_back : common_size ≤ length w → counts_at (put_counts w counts) ≡ counts
  unfolding counts_at put_counts get count_words at_counts
  counts_back h =
      rw (le-leb common_size (length w) h)
      (λ i. record { changes = at 0 (omega arith) i; held = at 1 (omega arith) i; root = at 2 (omega arith) i; head = at 3 (omega arith) i; tail = at 4 (omega arith) i; removals = at 5 (omega arith) i })
    where
      at : (k : ℕ) → k < 6 → get (splice w (count_words counts) at_counts 6) (at_counts + k) ≡ get_or (count_words counts) k 0
      at k l = splice_inside w (count_words counts) at_counts 6 (fits h) refl k l

pub put_counts_agree : {v w : List ℕ} {a n : ℕ} → Agree v w a n → (counts : Counts) → Agree (put_counts v counts) (put_counts w counts) a n
unfolding put_counts count_words
put_counts_agree {v} {w} g counts =
    cond_agree (leb common_size (length v)) (leb common_size (length w)) (ap (leb common_size) g.lengths)
    (λ e. splice_agree g (count_words counts) at_counts 6 (fits v counts (leb-true common_size (length v) e)) refl) g
