-- What it means that a row reads as a cut: the row is in the slice, its kind is 3, and its children are two words of it. Slices that agree on the first
-- eight words of a cut have the same row there.
-- Assumes nothing.
use mathlib.Core.Path.{◌≡◌, refl, sym, ap, ◌∙◌}
use mathlib.Core.Bool.{Bool, true, false, cond, ◌&&◌}
use mathlib.Core.List.{List}
use Prim.Native.Nat.{ℕ, ◌+◌, ◌≤◌, ◌<◌}
use native.Mathlib.Omega.{arith}
use borrow.Author.Tests.{eqb-true, leb-true}
use lib.Dec.{eqb, leb, ltb, lit<}
use lib.ListN.{length, get_or, drop}
use lib.Seq.{get_or-take, get_or-drop}
use Rattle.points.specs.declared.cut.Cut.{Cut as PointCut}
use Rattle.points.proofs.Tests.{and_r}
use Rattle.rows.specs.declared.row.Row.{Row}
use Rattle.rows.specs.declared.row.Row.TheVariants.{Bad, Spare, Removed, Leaf, Cut}
use Rattle.words.specs.Layout.{row_size, at_row}
use Rattle.words.specs.Words.{get, part}
use Rattle.words.specs.Rule.{rule_at}
use Rattle.words.specs.Agree.{Agree}
use Rattle.rows.specs.Row.{in_rows, checked_row, as_spare, as_removed, as_leaf, as_cut, row_of, row_at}
use Rattle.rows.specs.Tree.{child_at, at_child}

-- whether a row is a cut, and the two links of one
abbrev cut_or_not : Row → ℕ
cut_or_not Bad = 0
cut_or_not (Spare next freed) = 0
cut_or_not (Removed next freed added point curve) = 0
cut_or_not (Leaf parent added point curve) = 0
cut_or_not (Cut parent cut left right) = 1

abbrev left_of : Row → ℕ
left_of Bad = 0
left_of (Spare next freed) = 0
left_of (Removed next freed added point curve) = 0
left_of (Leaf parent added point curve) = 0
left_of (Cut parent cut left right) = left

abbrev right_of : Row → ℕ
right_of Bad = 0
right_of (Spare next freed) = 0
right_of (Removed next freed added point curve) = 0
right_of (Leaf parent added point curve) = 0
right_of (Cut parent cut left right) = right

module _ {parent : ℕ} {cut : PointCut} {left right : ℕ} where
  not_cut : (row : Row) → cut_or_not row ≡ 0 → row ≡ Cut parent cut left right → ⊥
  not_cut row f g = let h : ◌≡◌ {A = ℕ} 0 1 = sym f ∙ ap cut_or_not g in omega arith

  -- sixteen words that are a cut: their kind is 3
  kind_cut : (x : List ℕ) → row_of x ≡ Cut parent cut left right → (get_or x 0 0 ≡ 3) × (as_cut x ≡ Cut parent cut left right)
  unfolding row_of as_leaf as_removed as_spare as_cut
  kind_cut x e = go (eqb (get_or x 0 0) 0) (eqb (get_or x 0 0) 1) (eqb (get_or x 0 0) 2) (eqb (get_or x 0 0) 3) refl e
    where
      go : (a b c d : Bool) → eqb (get_or x 0 0) 3 ≡ d → cond a (as_spare x) (cond b (as_removed x) (cond c (as_leaf x) (cond d (as_cut x) Bad))) ≡ Cut parent cut left right
          → (get_or x 0 0 ≡ 3) × (as_cut x ≡ Cut parent cut left right)
      go true b c d f g = absurd (not_cut (as_spare x) refl g)
      go false true c d f g = absurd (not_cut (as_removed x) refl g)
      go false false true d f g = absurd (not_cut (as_leaf x) refl g)
      go false false false true f g = (eqb-true (get_or x 0 0) 3 f, g)
      go false false false false f g = absurd (not_cut Bad refl g)

  -- words that begin as those of a cut are that cut
  same_cut : (x y : List ℕ) → ((k : ℕ) → k < 8 → get_or y k 0 ≡ get_or x k 0) → row_of x ≡ Cut parent cut left right → row_of y ≡ row_of x
  unfolding row_of as_cut
  same_cut x y h e =
      let k = kind_cut x e in
      let k' : get_or y 0 0 ≡ 3 = h 0 (lit< tt) ∙ k.0 in
      let same : as_cut y ≡ as_cut x = simp (h 1 (lit< tt), h 4 (lit< tt), h 5 (lit< tt), h 6 (lit< tt), h 7 (lit< tt)) in
      simp (k.0, k') same

  module _ (w : List ℕ) (rows r : ℕ) (reads : row_at w rows r ≡ Cut parent cut left right) where
    -- the row is in the slice, and its words are a cut
    row_there : ((ltb r rows && leb (at_row r + row_size) (length w)) ≡ true) × (row_of (part w (at_row r) row_size) ≡ Cut parent cut left right)
    unfolding row_at checked_row
    row_there = go (ltb r rows && leb (at_row r + row_size) (length w)) (in_rows (rule_at w) rows (row_of (part w (at_row r) row_size))) reads
      where
        go : (a b : Bool) → cond a (cond b (row_of (part w (at_row r) row_size)) Bad) Bad ≡ Cut parent cut left right → (a ≡ true) × (row_of (part w (at_row r) row_size) ≡ Cut parent cut left right)
        go true true g = (refl, g)
        go true false g = absurd (not_cut Bad refl g)
        go false b g = absurd (not_cut Bad refl g)

    pub cut_fits : at_row r + row_size ≤ length w
    cut_fits = leb-true (at_row r + row_size) (length w) (and_r (ltb r rows) _ row_there.0)

    word_at : (k : ℕ) → k < row_size → get_or (part w (at_row r) row_size) k 0 ≡ get w (at_row r + k)
    unfolding get
    word_at k l = get_or-take row_size (drop (at_row r) w) k 0 l ∙ get_or-drop (at_row r) w k 0

    -- the child on a side
    pub cut_child : (side : Bool) → child_at w r side ≡ cond side left right
    unfolding child_at at_child as_cut
    cut_child true = sym (word_at 6 (lit< tt)) ∙ ap left_of (kind_cut (part w (at_row r) row_size) row_there.1).1
    cut_child false = sym (word_at 7 (lit< tt)) ∙ ap right_of (kind_cut (part w (at_row r) row_size) row_there.1).1

    -- the last eight words are not looked at
    pub cut_first : {v : List ℕ} → rule_at v ≡ rule_at w → Agree v w (at_row r) 8 → row_at v rows r ≡ row_at w rows r
    unfolding row_at get
    cut_first {v} e g = rw (e, g.lengths, same_cut (part w (at_row r) row_size) (part v (at_row r) row_size) each row_there.1)
      where
        each : (k : ℕ) → k < 8 → get_or (part v (at_row r) row_size) k 0 ≡ get_or (part w (at_row r) row_size) k 0
        each k l =
            get_or-take row_size (drop (at_row r) v) k 0 (omega arith) ∙ get_or-drop (at_row r) v k 0 ∙ g.words (at_row r + k) (omega arith) (omega arith) ∙ sym (word_at k (omega arith))
