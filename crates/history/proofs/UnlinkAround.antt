-- The rows that an unlink gathers around its leaf, as the heap has them (`around_is`), and that they pass its check (`around_sound_lem`).
use Prim.Native.Nat.{ℕ, ◌*◌, ◌≤◌, ◌<◌}
use mathlib.Core.Path.{◌≡◌, refl, sym, ap, ◌∙◌}
use mathlib.Core.Logic.{◌≢◌, ◌⊎◌, inl, inr}
use mathlib.Core.Bool.{Bool, true, false, cond, ◌&&◌, ◌||◌, not}
use mathlib.Core.List.{List}
use mathlib.Core.Option.{Option, none, some}
use native.Mathlib.Omega.{arith}
use native.Mathlib.Decide.{ℕ_discrete}
use lib.Dec.{eqb}
use borrow.Author.Tests.{eq-eqb, ne_eqb}
use Rattle.stations.specs.Counts.{counts_at}
use Rattle.points.specs.declared.cut.Cut.{Cut as PointCut}
use Rattle.points.specs.Word.{NONE}
use Rattle.points.proofs.Tests.{and_i}
use Rattle.rows.specs.declared.row.Row.{Row as WordRow}
use Rattle.rows.specs.declared.row.Row.TheVariants.{Bad}
use Rattle.rows.specs.Row.{row_at}
use Rattle.rows.proofs.RowLaws.{row_at_outside}
use Rattle.trees.specs.Row.{Entry, Row, spare_row, removed_row, leaf_row, cut_row, Heap, parent_of, sibling_of, parent_at, sibling_at}
use Rattle.trees.specs.Tree.{Tree, Has}
use Rattle.trees.specs.Queue.{Free, free_row, tail_of}
use Rattle.trees.specs.Store.{Store}
use Rattle.trees.specs.Reads.{LeafAt, CutAt, ParentCut, Above, TailRow, UnlinkReads}
use Rattle.trees.specs.Reads.{Leaf}
use Rattle.trees.specs.Unlink.{sibling_row, grand_row}
use Rattle.trees.proofs.ReadLaws.{unlink_reads, link_tail}
use Rattle.calls.specs.declared.unlink.Around.{Around}
use Rattle.calls.specs.Link.{next_of, parent_of as word_parent, sibling_of as word_sibling, links_to, is_tree, is_free}
use Rattle.calls.specs.Unlink.{around_at, around_sound}
use Rattle.history.specs.View.{word_row, Reads}

-- ---- links of rows in the words

parent_words : (r : Row) → word_parent (word_row r) ≡ parent_of r
parent_words (spare_row next n) = refl
parent_words (removed_row next n e) = refl
parent_words (leaf_row parent e) = refl
parent_words (cut_row parent k l r) = refl

sibling_words : (c : ℕ) (r : Row) → word_sibling c (word_row r) ≡ sibling_of c r
sibling_words c (spare_row next n) = refl
sibling_words c (removed_row next n e) = refl
sibling_words c (leaf_row parent e) = refl
sibling_words c (cut_row parent k l r) = refl

-- the row that a link leads to; Bad where the link is none
abbrev pub linked_row : Heap → ℕ → WordRow
linked_row h x = cond (eqb x NONE) Bad (word_row (h x))

pub linked_here : (h : Heap) (x : ℕ) → x ≢ NONE → linked_row h x ≡ word_row (h x)
linked_here h x n = rw (ne_eqb x NONE n)

linked_parent : (h : Heap) (x : ℕ) → word_parent (linked_row h x) ≡ parent_at h x
linked_parent h x = go (eqb x NONE)
  where
    go : (b : Bool) → word_parent (cond b Bad (word_row (h x))) ≡ cond b NONE (parent_of (h x))
    go true = refl
    go false = parent_words (h x)

linked_sibling : (h : Heap) (x c : ℕ) → word_sibling c (linked_row h x) ≡ sibling_at h x c
linked_sibling h x c = go (eqb x NONE)
  where
    go : (b : Bool) → word_sibling c (cond b Bad (word_row (h x))) ≡ cond b NONE (sibling_of c (h x))
    go true = refl
    go false = sibling_words c (h x)

-- ---- what is gathered

-- the rows around the leaf l
abbrev pub around_of : Heap → ℕ → Leaf → Around
around_of h tail l = record {
  tail = tail;
  last = word_row (h tail);
  at = l.row;
  leaf = word_row (leaf_row l.parent l.entry);
  over = l.parent;
  cut = linked_row h l.parent;
  side = sibling_row h l;
  other = linked_row h (sibling_row h l);
  above = grand_row h l;
  grand = linked_row h (grand_row h l);
}

-- what stands around a leaf under a cut: the cut, the other child, and the row above the cut
pub record Under (h : Heap) (t : Option Tree) (l : Leaf) : Type 0 where
  pub cut : ParentCut h t l.row l.parent
  pub side_has : Has t (sibling_row h l)
  pub side_other : sibling_row h l ≢ l.row
  pub side_reads : LeafAt h t (sibling_row h l) ⊎ CutAt h t (sibling_row h l)
  pub above : (grand_row h l ≡ NONE) ⊎ ParentCut h t l.parent (grand_row h l)

links_cut : (c : ℕ) (row : Row) {parent : ℕ} {k : PointCut} {x y : ℕ} → row ≡ cut_row parent k x y → (x ≡ c) ⊎ (y ≡ c) → links_to c (word_row row) ≡ true
links_cut c row {x = x} {y} e (inl f) = rw (e, eq-eqb x c f)
links_cut c row {x = x} {y} e (inr f) = rw (e, eq-eqb y c f) (go (eqb x c))
  where
    go : (b : Bool) → (b || true) ≡ true
    go true = refl
    go false = refl

module _ {places : ℕ} {h : Heap} {t : Option Tree} {q : List Free} {changes removals released : ℕ} (st : Store places h t q changes removals released) where
  -- the rows around a leaf, as the store has them
  pub under : (l : Leaf) → Has t l.row → h l.row ≡ leaf_row l.parent l.entry → l.parent ≢ NONE → Under h t l
  under l m f ne = go u.above
    where
      u : UnlinkReads h t q l.row
      u = unlink_reads t st m

      back : parent_of (h l.row) ≡ l.parent
      back = ap parent_of f

      there : parent_of (h l.row) ≢ NONE
      there z = ne (sym back ∙ z)

      over : Above h t l.parent → parent_of (h l.parent) ≡ grand_row h l → (grand_row h l ≡ NONE) ⊎ ParentCut h t l.parent (grand_row h l)
      over (inl v) e = inl (sym e ∙ v.0)
      over (inr v) e = inr (rw e at v.1)

      go : Above h t l.row → Under h t l
      go (inl v) = absurd (there v.0)
      go (inr v) = record {
        cut = rw back at v.1;
        side_has = rw back at (u.sibling_has there);
        side_other = rw back at (u.sibling_other there);
        side_reads = rw back at (u.sibling_reads there);
        above = over (rw back at (u.grand there)) (sym (rw (ne_eqb l.parent NONE ne)));
      }

  -- each link around it is none or a row
  module _ (l : Leaf) (m : Has t l.row) (f : h l.row ≡ leaf_row l.parent l.entry) where
    pub alone_side : l.parent ≡ NONE → sibling_row h l ≡ NONE
    alone_side e = rw (eq-eqb l.parent NONE e)

    pub alone_above : l.parent ≡ NONE → grand_row h l ≡ NONE
    alone_above e = rw (eq-eqb l.parent NONE e)

    link_cut : Dec (l.parent ≡ NONE) → (l.parent ≡ NONE) ⊎ (l.parent < 2 * places)
    link_cut (yes e) = inl e
    link_cut (no n) = inr (st.inside l.parent (under l m f n).cut.has)

    link_side : Dec (l.parent ≡ NONE) → (sibling_row h l ≡ NONE) ⊎ (sibling_row h l < 2 * places)
    link_side (yes e) = inl (alone_side e)
    link_side (no n) = inr (st.inside (sibling_row h l) (under l m f n).side_has)

    link_above : Dec (l.parent ≡ NONE) → (grand_row h l ≡ NONE) ⊎ (grand_row h l < 2 * places)
    link_above (yes e) = inl (alone_above e)
    link_above (no n) = elim (under l m f n).above [ inl v ↦ inl v | inr v ↦ inr (st.inside (grand_row h l) v.has) ]

module _ (words : List ℕ) (places : ℕ) (h : Heap) (reads : Reads words (2 * places) h) (fits : 2 * places ≤ NONE) where
  -- the words at a link read as the heap says
  row_linked : (x : ℕ) → (x ≡ NONE) ⊎ (x < 2 * places) → row_at words (2 * places) x ≡ linked_row h x
  row_linked x (inl e) = rw (eq-eqb x NONE e) (row_at_outside words (2 * places) x (omega arith))
  row_linked x (inr l) = rw (ne_eqb x NONE (λ e. omega arith)) (reads x l)

-- what an unlink of a leaf of the tree gathers
pub around_is : (words : List ℕ) {places : ℕ} {h : Heap} {t : Option Tree} {q : List Free} {changes removals released : ℕ} → Store places h t q changes removals released
    → Reads words (2 * places) h → (counts_at words).tail ≡ tail_of q → (l : Leaf) → Has t l.row → h l.row ≡ leaf_row l.parent l.entry
    → around_at words (2 * places) l.row ≡ around_of h (tail_of q) l
unfolding around_at
around_is words {places} {h} {t} {q} st reads tail l m f =
    let rows : ℕ = 2 * places in
    let alone : Dec (l.parent ≡ NONE) = ℕ_discrete l.parent NONE in
    let leaf : row_at words rows l.row ≡ word_row (leaf_row l.parent l.entry) = reads l.row (st.inside l.row m) ∙ ap word_row f in
    let last : row_at words rows (counts_at words).tail ≡ word_row (h (tail_of q)) = ap (row_at words rows) tail ∙ reads (tail_of q) (link_tail st (omega (arith, st.inside l.row m))) in
    let cut : row_at words rows (word_parent (row_at words rows l.row)) ≡ linked_row h l.parent =
    ap (λ r. row_at words rows (word_parent r)) leaf ∙ row_linked words places h reads st.fits l.parent (link_cut st l m f alone) in
    let side : word_sibling l.row (row_at words rows (word_parent (row_at words rows l.row))) ≡ sibling_row h l = ap (word_sibling l.row) cut ∙ linked_sibling h l.parent l.row in
    let above : word_parent (row_at words rows (word_parent (row_at words rows l.row))) ≡ grand_row h l = ap word_parent cut ∙ linked_parent h l.parent in
    let other = ap (row_at words rows) side ∙ row_linked words places h reads st.fits (sibling_row h l) (link_side st l m f alone) in
    let grand = ap (row_at words rows) above ∙ row_linked words places h reads st.fits (grand_row h l) (link_above st l m f alone) in
    λ i. record {
      tail = tail i;
      last = last i;
      at = l.row;
      leaf = leaf i;
      over = word_parent (leaf i);
      cut = cut i;
      side = side i;
      other = other i;
      above = above i;
      grand = grand i;
    }

-- ---- the check

free_last : (row : Row) (f : Free) → row ≡ free_row NONE f → (is_free (word_row row) && eqb (next_of (word_row row)) NONE) ≡ true
free_last row f e = rw e (go f.kept refl)
  where
    go : (o : Option Entry) → f.kept ≡ o → (is_free (word_row (free_row NONE f)) && eqb (next_of (word_row (free_row NONE f))) NONE) ≡ true
    go none g = rw g refl
    go (some d) g = rw g refl

tree_words : {h : Heap} {t : Option Tree} (x : ℕ) → LeafAt h t x ⊎ CutAt h t x → is_tree (word_row (h x)) ≡ true
tree_words x (inl v) = rw v.reads refl
tree_words x (inr v) = rw v.reads refl

or_true : (a : Bool) {b : Bool} → b ≡ true → (a || b) ≡ true
or_true true e = refl
or_true false e = e

pub around_sound_lem : {places : ℕ} {h : Heap} {t : Option Tree} {q : List Free} {changes removals released : ℕ} → Store places h t q changes removals released
    → (l : Leaf) → Has t l.row → h l.row ≡ leaf_row l.parent l.entry → around_sound (around_of h (tail_of q) l) ≡ true
unfolding around_sound
around_sound_lem {places} {h} {t} {q} st l m f = and_i (and_i (free_last (h (tail_of q)) tail.last tail.reads) refl) (rest (ℕ_discrete l.parent NONE))
  where
    tail : TailRow h q
    tail = (unlink_reads t st m).tail

    over : (grand_row h l ≡ NONE) ⊎ ParentCut h t l.parent (grand_row h l) → (eqb (grand_row h l) NONE || links_to l.parent (linked_row h (grand_row h l))) ≡ true
    over (inl v) = rw (eq-eqb (grand_row h l) NONE v) refl
    over (inr v) =
        or_true (eqb (grand_row h l) NONE)
        (rw (linked_here h (grand_row h l) (λ z. omega (arith, st.inside (grand_row h l) v.has, st.fits))) (links_cut l.parent (h (grand_row h l)) v.cut.reads v.links))

    rest : Dec (l.parent ≡ NONE)
        → (eqb l.parent NONE
        || (((links_to l.row (linked_row h l.parent) && not (eqb (sibling_row h l) l.row)) && is_tree (linked_row h (sibling_row h l)))
        && (eqb (grand_row h l) NONE || links_to l.parent (linked_row h (grand_row h l))))) ≡ true
    rest (yes e) = rw (eq-eqb l.parent NONE e) refl
    rest (no n) =
        let w : Under h t l = under st l m f n in
        let links : links_to l.row (linked_row h l.parent) ≡ true = rw (linked_here h l.parent n) (links_cut l.row (h l.parent) w.cut.cut.reads w.cut.links) in
        let other : not (eqb (sibling_row h l) l.row) ≡ true = rw (ne_eqb (sibling_row h l) l.row w.side_other) in
        let tree : is_tree (linked_row h (sibling_row h l)) ≡ true =
        rw (linked_here h (sibling_row h l) (λ z. omega (arith, st.inside (sibling_row h l) w.side_has, st.fits))) (tree_words (sibling_row h l) w.side_reads) in
        or_true (eqb l.parent NONE) (and_i (and_i (and_i links other) tree) (over w.above))
