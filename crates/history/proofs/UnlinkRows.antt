-- The rows that an unlink writes: the old tail, the leaf, the cut over it, the other child, and the row above the cut. Written into words that
-- read as a heap they leave words that read as the heap of the unlink (`rows_unlinked`).
use Prim.Native.Nat.{ℕ, ◌*◌, ◌<◌}
use mathlib.Core.Path.{◌≡◌, refl, ap, ◌∙◌}
use mathlib.Core.Logic.{◌≢◌, ◌⊎◌, inl, inr}
use mathlib.Core.Bool.{true}
use mathlib.Core.List.{List}
use mathlib.Core.Option.{Option}
use native.Mathlib.Omega.{arith}
use native.Mathlib.Decide.{ℕ_discrete}
use Rattle.points.specs.declared.scale.Scale.{Scale}
use Rattle.stations.specs.Counter.{counter_at}
use Rattle.stations.specs.Counts.{counts_at}
use Rattle.points.specs.Word.{NONE}
use Rattle.words.specs.Range.{link_in}
use Rattle.rows.specs.Row.{put_row, in_rows}
use Rattle.stations.specs.Common.{opened_in, Opened}
use Rattle.stations.proofs.OpeningLaws.{opened_rule}
use Rattle.words.proofs.RangeLaws.{link_none, link_row}
use Rattle.rows.proofs.RowLaws.{in_rows_spare}
use Rattle.trees.specs.Row.{spare_row, removed_row, leaf_row, Heap, set_parent, set_next, replace_child, WroteAt}
use Rattle.trees.specs.Tree.{Tree, Has}
use Rattle.trees.specs.Queue.{Free, tail_of}
use Rattle.trees.specs.Store.{Store}
use Rattle.trees.specs.Reads.{ParentCut, TailRow}
use Rattle.trees.specs.Reads.{Leaf}
use Rattle.trees.specs.Unlink.{sibling_row, grand_row, UnlinkWrites}
use Rattle.trees.proofs.ReadLaws.{unlink_reads, link_tail}
use Rattle.trees.proofs.Room.{queue_not_empty}
use Rattle.trees.proofs.Unlink.{tail_row_in}
use Rattle.trees.proofs.WriteLaws.{unlink_apart, unlink_writes, unlink_write}
use Rattle.calls.specs.Link.{with_next, with_parent, removed_as, replaced}
use Rattle.calls.specs.Unlink.{unlink_rows}
use Rattle.history.specs.View.{seat_at, word_row, Reads, heap_put, Written}
use Rattle.history.proofs.Effects.{reads_in}
use Rattle.history.proofs.RowLinks.{next_words, next_in, freed_in, child_words, child_in, parent_words, parent_in}
use Rattle.history.proofs.RowWrites.{heap_wrote, Holding, held_first, put_row_lem, put_nothing}
use Rattle.history.proofs.UnlinkAround.{linked_row, linked_here, around_of, Under, under, alone_side, alone_above}

-- ---- the rows of an unlink

-- the words with an unlink's rows written: they read as the heap that the unlink leaves, and nothing but rows has changed
pub record RowsUnlinked (words words' : List ℕ) (places : ℕ) (h : Heap) (tail number : ℕ) (l : Leaf) : Type 0 where
  pub heap : Heap
  pub written : Written words words' (counts_at words) (counter_at words) (λ s. seat_at words s)
  pub reads : Reads words' (2 * places) heap
  pub writes : UnlinkWrites h heap tail number l (sibling_row h l) (grand_row h l)

module _ (words : List ℕ) {places limit : ℕ} {scale : Scale} {h : Heap} {t : Option Tree} {q : List Free} {changes removals released : ℕ} (o : opened_in words ≡ Opened places limit scale)
    (r : Reads words (2 * places) h) (st : Store places h t q changes removals released) (number : ℕ) (l : Leaf) (m : Has t l.row) (f : h l.row ≡ leaf_row l.parent l.entry) where
  abbrev rows : ℕ
  rows = 2 * places

  abbrev tail : ℕ
  tail = tail_of q

  last : TailRow h q
  last = (unlink_reads t st m).tail

  -- the row x, as it was read, is in range
  in_range : (x : ℕ) → x < rows → in_rows scale.rule rows (word_row (h x)) ≡ true
  in_range x k = rw (opened_rule words places limit scale o) at (reads_in words rows h x k r)

  abbrev heap₁ : Heap
  heap₁ = heap_put h tail (set_next l.row (h tail))

  abbrev heap₂ : Heap
  heap₂ = heap_put heap₁ l.row (removed_row l.parent number l.entry)

  -- the tail and the leaf
  first_two : Holding words (put_row (put_row words tail (with_next l.row (word_row (h tail)))) l.row (removed_as l.parent number (word_row (leaf_row l.parent l.entry)))) places limit scale heap₂
  first_two =
      let row : l.row < rows = st.inside l.row m in
      let end : tail < rows = link_tail st (omega arith) in
      put_row_lem
      (put_row_lem (held_first words places limit scale h o r) tail (with_next l.row (word_row (h tail))) (set_next l.row (h tail)) (next_words l.row (h tail) last.last last.reads) end
      (next_in scale.rule rows l.row (h tail) last.last last.reads row (in_range tail end)))
      l.row
      (removed_as l.parent number (word_row (leaf_row l.parent l.entry)))
      (removed_row l.parent number l.entry)
      refl
      row
      (freed_in scale.rule rows l.parent number l.entry (rw f at (in_range l.row row)))

  -- the only leaf: no other row is written
  alone : l.parent ≡ NONE → RowsUnlinked words (unlink_rows words (around_of h tail l) number) places h tail number l
  unfolding unlink_rows
  alone e =
      let side : sibling_row h l ≡ NONE = alone_side st l m f e in
      let up : grand_row h l ≡ NONE = alone_above st l m f e in
      let off : tail ≢ l.row = λ z. st.apart tail (rw z m) (tail_row_in q (queue_not_empty st (omega (arith, st.inside l.row m)))) in
      let w = put_nothing (put_nothing (put_nothing first_two l.parent _ e) (sibling_row h l) _ side) (grand_row h l) _ up in
      record {
        heap = heap₂;
        written = w.written;
        reads = w.reads;
        writes = rw (side, up) (unlink_write e off (heap_wrote h tail (set_next l.row (h tail))) (heap_wrote heap₁ l.row (removed_row l.parent number l.entry)));
      }

  module _ (ne : l.parent ≢ NONE) where
    around : Under h t l
    around = under st l m f ne

    abbrev side : ℕ
    side = sibling_row h l

    abbrev up : ℕ
    up = grand_row h l

    side_row : side < rows
    side_row = st.inside side around.side_has

    -- the link above the cut is none or a row
    up_in : link_in rows up ≡ true
    up_in = elim around.above [ inl v ↦ rw v (link_none rows) | inr v ↦ link_row rows up (st.inside up v.has) ]

    abbrev heap₃ : Heap
    heap₃ = heap_put heap₂ l.parent (spare_row NONE number)

    abbrev heap₄ : Heap
    heap₄ = heap_put heap₃ side (set_parent up (h side))

    -- the cut and the other child
    first_four : Holding words
        (put_row
        (put_row (put_row (put_row words tail (with_next l.row (word_row (h tail)))) l.row (removed_as l.parent number (word_row (leaf_row l.parent l.entry)))) l.parent (word_row (spare_row NONE number)))
        side
        (with_parent up (linked_row h side)))
        places limit scale heap₄
    first_four =
        put_row_lem
        (put_row_lem first_two l.parent (word_row (spare_row NONE number)) (spare_row NONE number) refl (st.inside l.parent around.cut.has) (in_rows_spare scale.rule rows NONE number ∙ link_none rows))
        side
        (with_parent up (linked_row h side))
        (set_parent up (h side))
        (ap (with_parent up) (linked_here h side (λ z. omega (arith, side_row, st.fits))) ∙ parent_words side up around.side_reads)
        side_row
        (parent_in scale.rule rows side up up_in around.side_reads (in_range side side_row))

    -- the five writes, with the last of them as given
    ends_in : (h₅ : Heap) → WroteAt heap₄ h₅ up (replace_child l.parent side (h up)) → UnlinkWrites h h₅ tail number l side up
    ends_in h₅ w =
        unlink_writes ne (unlink_apart t st m f ne) (heap_wrote h tail (set_next l.row (h tail))) (heap_wrote heap₁ l.row (removed_row l.parent number l.entry))
        (heap_wrote heap₂ l.parent (spare_row NONE number)) (heap_wrote heap₃ side (set_parent up (h side))) w

    deep : RowsUnlinked words (unlink_rows words (around_of h tail l) number) places h tail number l
    unfolding unlink_rows
    deep = go around.above
      where
        go : (up ≡ NONE) ⊎ ParentCut h t l.parent up → RowsUnlinked words (unlink_rows words (around_of h tail l) number) places h tail number l
        go (inl v) =
            let w = put_nothing first_four up (replaced l.parent side (linked_row h up)) v in
            record {
              heap = heap₄;
              written = w.written;
              reads = w.reads;
              writes = ends_in heap₄ (record { nothing = λ z i. refl; written = λ n. absurd (n v) });
            }
        go (inr v) =
            let c = v.cut in
            let row : up < rows = st.inside up v.has in
            let there : up ≢ NONE = λ z. omega (arith, row, st.fits) in
            let new = replace_child l.parent side (h up) in
            let spelt : replaced l.parent side (linked_row h up) ≡ word_row (replace_child l.parent side (h up)) =
            ap (replaced l.parent side) (linked_here h up there) ∙ rw c.reads (child_words l.parent side c.parent c.key c.left c.right) in
            let ranged : in_rows scale.rule rows (word_row (replace_child l.parent side (h up))) ≡ true =
            rw c.reads (child_in scale.rule rows l.parent side c.parent c.key c.left c.right side_row (rw c.reads at (in_range up row))) in
            let w = put_row_lem first_four up (replaced l.parent side (linked_row h up)) new spelt row ranged in
            record {
              heap = heap_put heap₄ up new;
              written = w.written;
              reads = w.reads;
              writes = ends_in (heap_put heap₄ up new) (record { nothing = λ z. absurd (there z); written = λ n. heap_wrote heap₄ up new });
            }

  -- The rows that an unlink of the leaf l writes leave the heap that the trees' unlink asks for.
  pub rows_unlinked : RowsUnlinked words (unlink_rows words (around_of h tail l) number) places h tail number l
  rows_unlinked = elim (ℕ_discrete l.parent NONE) [ yes e ↦ alone e | no n ↦ deep n ]
