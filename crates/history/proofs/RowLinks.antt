-- Rows with another link: as the words have them they are the rows that the trees have, and they stay in range.
use Prim.Native.Nat.{ℕ, ◌<◌}
use mathlib.Core.Path.{◌≡◌, refl, sym, ◌∙◌}
use mathlib.Core.Logic.{◌⊎◌, inl, inr}
use mathlib.Core.Bool.{Bool, true, false, cond, ◌&&◌}
use mathlib.Core.Option.{Option, none, some}
use lib.Dec.{eqb, ltb}
use borrow.Author.Tests.{lt-ltb}
use Rattle.points.specs.declared.cut.Cut.{Cut as PointCut}
use Rattle.points.specs.Number.{in_range_by}
use Rattle.points.specs.Word.{NONE, cut_in_range}
use Rattle.points.proofs.Tests.{and_l, and_r, and_i}
use Rattle.words.specs.Range.{link_in, curve_in}
use Rattle.rows.specs.Row.{in_rows}
use Rattle.words.proofs.RangeLaws.{link_row}
use Rattle.rows.proofs.RowLaws.{in_rows_spare, in_rows_removed, in_rows_leaf, in_rows_cut}
use Rattle.trees.specs.Row.{Entry, Row, pick_row, removed_row, leaf_row, cut_row, Heap, set_parent, set_next, replace_child}
use Rattle.trees.specs.Tree.{Tree}
use Rattle.trees.specs.Queue.{Free, kept_row, free_row}
use Rattle.trees.specs.Reads.{LeafAt, CutAt}
use Rattle.calls.specs.Link.{with_next, with_parent, replaced}
use Rattle.history.specs.View.{word_row}

-- a free row with another next link
pub next_words : (x : ℕ) (row : Row) (f : Free) → row ≡ free_row NONE f → with_next x (word_row row) ≡ word_row (set_next x row)
next_words x row f e = rw e (go f.kept)
  where
    go : (o : Option Entry) → with_next x (word_row (kept_row NONE f.freed o)) ≡ word_row (set_next x (kept_row NONE f.freed o))
    go none = refl
    go (some d) = refl

pub next_in : (rule rows x : ℕ) (row : Row) (f : Free) → row ≡ free_row NONE f → x < rows → in_rows rule rows (word_row row) ≡ true → in_rows rule rows (word_row (set_next x row)) ≡ true
next_in rule rows x row f e l i = rw e (go f.kept (rw e at i))
  where
    go : (o : Option Entry) → in_rows rule rows (word_row (kept_row NONE f.freed o)) ≡ true → in_rows rule rows (word_row (set_next x (kept_row NONE f.freed o))) ≡ true
    go none j = in_rows_spare rule rows x f.freed ∙ link_row rows x l
    go (some d) j =
        let k : ((link_in rows NONE && in_range_by rule d.point) && curve_in d.curve) ≡ true = sym (in_rows_removed rule rows NONE f.freed d.added d.point d.curve) ∙ j in
        let both : (link_in rows NONE && in_range_by rule d.point) ≡ true = and_l (link_in rows NONE && in_range_by rule d.point) (curve_in d.curve) k in
        in_rows_removed rule rows x f.freed d.added d.point d.curve
        ∙ and_i (and_i (link_row rows x l) (and_r (link_in rows NONE) (in_range_by rule d.point) both)) (and_r (link_in rows NONE && in_range_by rule d.point) (curve_in d.curve) k)

-- a leaf as a removed row
pub freed_in : (rule rows link n : ℕ) (e : Entry) → in_rows rule rows (word_row (leaf_row link e)) ≡ true → in_rows rule rows (word_row (removed_row link n e)) ≡ true
freed_in rule rows link n e i = in_rows_removed rule rows link n e.added e.point e.curve ∙ sym (in_rows_leaf rule rows link e.added e.point e.curve) ∙ i

-- a leaf in range has a link, a point and a curve in range
pub record LeafIn (rule rows link : ℕ) (e : Entry) : Type 0 where
  pub link_in_lem : link_in rows link ≡ true
  pub point_in : in_range_by rule e.point ≡ true
  pub curve_in_lem : curve_in e.curve ≡ true

pub leaf_tells : (rule rows link : ℕ) (e : Entry) → in_rows rule rows (word_row (leaf_row link e)) ≡ true → LeafIn rule rows link e
leaf_tells rule rows link e i =
    let a = link_in rows link in
    let b = in_range_by rule e.point in
    let c = curve_in e.curve in
    let two : ((a && b) && c) ≡ true = sym (in_rows_leaf rule rows link e.added e.point e.curve) ∙ i in
    let one : (a && b) ≡ true = and_l (a && b) c two in
    record { link_in_lem = and_l a b one; point_in = and_r a b one; curve_in_lem = and_r (a && b) c two }

pub leaf_of : (rule rows link : ℕ) (e : Entry) → LeafIn rule rows link e → in_rows rule rows (word_row (leaf_row link e)) ≡ true
leaf_of rule rows link e c = in_rows_leaf rule rows link e.added e.point e.curve ∙ and_i (and_i c.link_in_lem c.point_in) c.curve_in_lem

-- a leaf with another parent link
pub leaf_in : (rule rows x link : ℕ) (e : Entry) → link_in rows x ≡ true → in_rows rule rows (word_row (leaf_row link e)) ≡ true → in_rows rule rows (word_row (leaf_row x e)) ≡ true
leaf_in rule rows x link e l i = let c = leaf_tells rule rows link e i in leaf_of rule rows x e (record { link_in_lem = l; point_in = c.point_in; curve_in_lem = c.curve_in_lem })

-- a cut in range has a link, a cut and two rows in range
pub record CutIn (rule rows link : ℕ) (k : PointCut) (left right : ℕ) : Type 0 where
  pub link_in_lem : link_in rows link ≡ true
  pub cut_in_lem : cut_in_range rule k ≡ true
  pub left_in : ltb left rows ≡ true
  pub right_in : ltb right rows ≡ true

pub cut_tells : (rule rows link : ℕ) (k : PointCut) (left right : ℕ) → in_rows rule rows (word_row (cut_row link k left right)) ≡ true → CutIn rule rows link k left right
cut_tells rule rows link k left right i =
    let a = link_in rows link in
    let b = cut_in_range rule k in
    let c = ltb left rows in
    let d = ltb right rows in
    let three : (((a && b) && c) && d) ≡ true = sym (in_rows_cut rule rows link k left right) ∙ i in
    let two : ((a && b) && c) ≡ true = and_l ((a && b) && c) d three in
    let one : (a && b) ≡ true = and_l (a && b) c two in
    record { link_in_lem = and_l a b one; cut_in_lem = and_r a b one; left_in = and_r (a && b) c two; right_in = and_r ((a && b) && c) d three }

pub cut_of_lem : (rule rows link : ℕ) (k : PointCut) (left right : ℕ) → CutIn rule rows link k left right → in_rows rule rows (word_row (cut_row link k left right)) ≡ true
cut_of_lem rule rows link k left right c = in_rows_cut rule rows link k left right ∙ and_i (and_i (and_i c.link_in_lem c.cut_in_lem) c.left_in) c.right_in

-- a cut with a new child
pub child_words : (old new link : ℕ) (k : PointCut) (x y : ℕ) → replaced old new (word_row (cut_row link k x y)) ≡ word_row (replace_child old new (cut_row link k x y))
child_words old new link k x y = go (eqb x old)
  where
    go : (b : Bool) → cond b (word_row (cut_row link k new y)) (word_row (cut_row link k x new)) ≡ word_row (pick_row b (cut_row link k new y) (cut_row link k x new))
    go true = refl
    go false = refl

pub child_in : (rule rows old new link : ℕ) (k : PointCut) (x y : ℕ) → new < rows → in_rows rule rows (word_row (cut_row link k x y)) ≡ true
    → in_rows rule rows (word_row (replace_child old new (cut_row link k x y))) ≡ true
child_in rule rows old new link k x y l i = go (eqb x old)
  where
    c : CutIn rule rows link k x y
    c = cut_tells rule rows link k x y i

    go : (b : Bool) → in_rows rule rows (word_row (pick_row b (cut_row link k new y) (cut_row link k x new))) ≡ true
    go true = cut_of_lem rule rows link k new y (record { link_in_lem = c.link_in_lem; cut_in_lem = c.cut_in_lem; left_in = lt-ltb new rows l; right_in = c.right_in })
    go false = cut_of_lem rule rows link k x new (record { link_in_lem = c.link_in_lem; cut_in_lem = c.cut_in_lem; left_in = c.left_in; right_in = lt-ltb new rows l })

-- a leaf or a cut with another parent link
pub parent_words : {h : Heap} {t : Option Tree} (x link : ℕ) → LeafAt h t x ⊎ CutAt h t x → with_parent link (word_row (h x)) ≡ word_row (set_parent link (h x))
parent_words x link (inl v) = rw v.reads refl
parent_words x link (inr v) = rw v.reads refl

pub parent_in : {h : Heap} {t : Option Tree} (rule rows x link : ℕ) → link_in rows link ≡ true → LeafAt h t x ⊎ CutAt h t x → in_rows rule rows (word_row (h x)) ≡ true
    → in_rows rule rows (word_row (set_parent link (h x))) ≡ true
parent_in rule rows x link l (inl v) i = rw v.reads (leaf_in rule rows link v.parent v.entry l (rw v.reads at i))
parent_in rule rows x link l (inr v) i =
    let c : CutIn rule rows v.parent v.key v.left v.right = cut_tells rule rows v.parent v.key v.left v.right (rw v.reads at i) in
    rw v.reads (cut_of_lem rule rows link v.key v.left v.right (record { link_in_lem = l; cut_in_lem = c.cut_in_lem; left_in = c.left_in; right_in = c.right_in }))
