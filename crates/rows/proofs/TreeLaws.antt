-- Rows of the tree: what a reader that knows no other rows makes of sixteen words.
-- Assumes nothing.
use mathlib.Core.Path.{◌≡◌, refl}
use mathlib.Core.Bool.{Bool, true, false, cond, ◌&&◌}
use mathlib.Core.List.{List}
use Prim.Native.Nat.{ℕ, ◌+◌, ◌≤◌}
use borrow.Author.Tests.{ne_eqb}
use lib.Dec.{eqb, ltb}
use lib.ListN.{get_or}
use Rattle.points.specs.declared.cut.Cut.{Cut as PointCut}
use Rattle.points.specs.declared.point.Point.{Point}
use Rattle.points.specs.Word.{cut_at, cut_in_range, sum_span_of}
use Rattle.points.proofs.WordLaws.{cut_words_tell}
use Rattle.points.proofs.Tests.{and_l, and_r}
use Rattle.rows.specs.declared.row.Row.{Row}
use Rattle.rows.specs.declared.row.Row.TheVariants.{Bad, Leaf, Cut}
use Rattle.words.specs.Range.{link_in}
use Rattle.rows.specs.Row.{in_rows, checked_row, as_spare, as_removed, as_leaf, as_cut, row_of}
use Rattle.rows.specs.Tree.{tree_row}

-- a row that is not of the tree is none, whether in range or not
dull : (row : Row) → tree_row row ≡ Bad → (b : Bool) → tree_row (cond b row Bad) ≡ Bad
dull row e true = e
dull row e false = refl

-- a cut, and a leaf, stay
pub tree_checked_cut : (rule rows parent : ℕ) (cut : PointCut) (left right : ℕ)
    → tree_row (checked_row rule rows (Cut parent cut left right)) ≡ checked_row rule rows (Cut parent cut left right)
unfolding checked_row
tree_checked_cut rule rows parent cut left right = go (in_rows rule rows (Cut parent cut left right))
  where
    go : (b : Bool) → tree_row (cond b (Cut parent cut left right) Bad) ≡ cond b (Cut parent cut left right) Bad
    go true = refl
    go false = refl

pub tree_checked_leaf : (rule rows parent added : ℕ) (point : Point) (curve : ℕ)
    → tree_row (checked_row rule rows (Leaf parent added point curve)) ≡ checked_row rule rows (Leaf parent added point curve)
unfolding checked_row
tree_checked_leaf rule rows parent added point curve = go (in_rows rule rows (Leaf parent added point curve))
  where
    go : (b : Bool) → tree_row (cond b (Leaf parent added point curve) Bad) ≡ cond b (Leaf parent added point curve) Bad
    go true = refl
    go false = refl

-- words of kind 3, of kind 2, and of any other kind
module _ (rule rows : ℕ) (w : List ℕ) where
  pub tree_of_cut : get_or w 0 0 ≡ 3 → tree_row (checked_row rule rows (row_of w)) ≡ checked_row rule rows (as_cut w)
  unfolding row_of checked_row as_cut
  tree_of_cut e = rw e (tree_checked_cut rule rows _ _ _ _)

  pub tree_of_leaf : get_or w 0 0 ≡ 2 → tree_row (checked_row rule rows (row_of w)) ≡ checked_row rule rows (as_leaf w)
  unfolding row_of checked_row as_leaf
  tree_of_leaf e = rw e (tree_checked_leaf rule rows _ _ _ _)

  pub tree_of_none : ¬ (get_or w 0 0 ≡ 3) → ¬ (get_or w 0 0 ≡ 2) → tree_row (checked_row rule rows (row_of w)) ≡ Bad
  unfolding row_of checked_row as_removed as_spare
  tree_of_none f g = rw (ne_eqb (get_or w 0 0) 3 f, ne_eqb (get_or w 0 0) 2 g) (go (eqb (get_or w 0 0) 0) (eqb (get_or w 0 0) 1))
    where
      go : (a b : Bool) → tree_row (cond (in_rows rule rows (cond a (as_spare w) (cond b (as_removed w) Bad))) (cond a (as_spare w) (cond b (as_removed w) Bad)) Bad) ≡ Bad
      go true b = dull (as_spare w) refl (in_rows rule rows (as_spare w))
      go false true = dull (as_removed w) refl (in_rows rule rows (as_removed w))
      go false false = dull Bad refl (in_rows rule rows Bad)

-- a cut in range has its axis and sum in range, so its words are
pub cut_tells : (rule rows parent axis sum left right : ℕ) → in_rows rule rows (Cut parent (cut_at axis sum) left right) ≡ true → (axis ≤ 8) × (sum ≤ sum_span_of (axis + 1))
unfolding in_rows
cut_tells rule rows parent axis sum left right e =
    let a = link_in rows parent in
    let b = cut_in_range rule (cut_at axis sum) in
    cut_words_tell rule axis sum (and_r a b (and_l (a && b) (ltb left rows) (and_l ((a && b) && ltb left rows) (ltb right rows) e)))
