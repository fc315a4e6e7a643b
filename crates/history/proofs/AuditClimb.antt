-- The climbs of an audit. Where every leaf of a tree climbs to the root, the tree's leaves are on their sides (`climbs_route`); a leaf that climbs to
-- the root is in the tree (`climb_has`); and in a tree whose leaves are on their sides every row is sound (`row_holds`).
use Prim.Native.Nat.{ℕ, zero, suc, ◌+◌, ◌≤◌}
use mathlib.Core.Path.{◌≡◌, refl, sym, ◌∙◌, ap, subst}
use mathlib.Core.Logic.{◌≢◌, inl, inr}
use mathlib.Core.Bool.{Bool, true, false, cond, false≢true, and-eq-true_iff}
use mathlib.Core.List.{List}
use mathlib.Core.Option.{Option, none, some}
use native.Mathlib.Omega.{arith}
use lib.Dec.{eqb}
use borrow.Author.Tests.{eqb-true, eqb-false, eq-eqb, ne_eqb}
use Rattle.points.specs.declared.point.Point.{Point}
use Rattle.points.specs.declared.cut.Cut.{Cut as PointCut}
use Rattle.points.specs.Cut.{goes_left}
use Rattle.points.specs.Word.{NONE}
use Rattle.rows.specs.declared.row.Row.{Row as WordRow}
use Rattle.rows.specs.declared.row.Row.TheVariants.{Bad, Spare, Removed, Leaf, Cut}
use Rattle.rows.specs.Row.{is_row, row_at}
use Rattle.trees.specs.Row.{Entry, Row, spare_row, removed_row, leaf_row, cut_row, Heap}
use Rattle.trees.specs.Tree.{Tree, leaf, cut, top, top_of, TreeHas, Has, TreeHolds, TreeShape, Shape, TreeRouted, tree_size}
use Rattle.trees.proofs.Path.{has_top}
use Rattle.calls.specs.Climb.{child_of, climb_row, climb}
use Rattle.calls.specs.Tree.{links_up, row_sound, leaf_count}
use Rattle.history.specs.View.{word_row}
use Rattle.history.proofs.AuditRows.{reads_inside, TreeReads}
use Rattle.history.proofs.AuditDistinct.{Forked}
use Rattle.history.proofs.AuditScan.{Sound}

-- ---- what a row that was read says

left_of : WordRow → ℕ
left_of Bad = NONE
left_of (Spare next freed) = NONE
left_of (Removed next freed added point curve) = NONE
left_of (Leaf over added point curve) = NONE
left_of (Cut over k left right) = left

right_of : WordRow → ℕ
right_of Bad = NONE
right_of (Spare next freed) = NONE
right_of (Removed next freed added point curve) = NONE
right_of (Leaf over added point curve) = NONE
right_of (Cut over k left right) = right

over_of : WordRow → ℕ
over_of Bad = NONE
over_of (Spare next freed) = NONE
over_of (Removed next freed added point curve) = NONE
over_of (Leaf over added point curve) = over
over_of (Cut over k left right) = over

-- the record of a leaf
entry_of : Entry → WordRow → Entry
entry_of d Bad = d
entry_of d (Spare next freed) = d
entry_of d (Removed next freed added point curve) = d
entry_of d (Leaf over added point curve) = record { point = point; curve = curve; added = added }
entry_of d (Cut over k left right) = d

pub word_is_row : (x : Row) → is_row (word_row x) ≡ true
word_is_row (spare_row next n) = refl
word_is_row (removed_row next n e) = refl
word_is_row (leaf_row parent e) = refl
word_is_row (cut_row parent k l r) = refl

leaf_not_cut : {over added : ℕ} {point : Point} {curve parent : ℕ} {k : PointCut} {left right : ℕ} → Leaf over added point curve ≡ Cut parent k left right → ⊥
leaf_not_cut e = omega (arith, ap leaf_count e)

module _ (words : List ℕ) (rows : ℕ) where
  top_reads : (h : Heap) (t : Tree) (row : Row) → TreeReads words rows h t → h (top t) ≡ row → row_at words rows (top t) ≡ word_row row
  top_reads h t row w e = w (top t) (has_top t) ∙ ap word_row e

  -- ---- climbs that reach the root

  module _ (root : ℕ) (point : Point) where
    -- one cut up
    record Climbed (k : PointCut) (left right over from up : ℕ) : Type 0 where
      left_over : ℕ
      sent : child_of k left right point ≡ from
      above : climb words rows root point left_over up over ≡ true

    climb_tells : (n from up over : ℕ) (k : PointCut) (left right : ℕ) → up ≢ NONE → row_at words rows up ≡ Cut over k left right
        → climb words rows root point n from up ≡ true → Climbed k left right over from up
    unfolding climb
    climb_tells zero from up over k left right n e y = absurd (false≢true (rw (ne_eqb up NONE n) at y))
    climb_tells (suc m) from up over k left right n e y =
        let z = (and-eq-true_iff (eqb (child_of k left right point) from) (climb words rows root point m up over)).0 (rw (ne_eqb up NONE n, e, climb_row) at y) in
        record { left_over = m; sent = eqb-true (child_of k left right point) from z.0; above = z.1 }

    climb_holds : (n from up over : ℕ) (k : PointCut) (left right : ℕ) → up ≢ NONE → row_at words rows up ≡ Cut over k left right
        → child_of k left right point ≡ from → climb words rows root point n up over ≡ true → climb words rows root point (suc n) from up ≡ true
    unfolding climb
    climb_holds n from up over k left right m e s y =
        rw (ne_eqb up NONE m, e, climb_row)
        ((and-eq-true_iff (eqb (child_of k left right point) from) (climb words rows root point n up over)).1 (eq-eqb (child_of k left right point) from s, y))

    climb_end : (n : ℕ) → climb words rows root point n root NONE ≡ true
    unfolding climb
    climb_end zero = eq-eqb root root refl
    climb_end (suc n) = eq-eqb root root refl

    -- more rows up do no harm
    climb_more : (n m from up : ℕ) → n ≤ m → climb words rows root point n from up ≡ true → climb words rows root point m from up ≡ true
    unfolding climb
    climb_more zero zero from up l y = y
    climb_more (suc n) zero from up l y = absurd (omega arith)
    climb_more zero (suc m) from up l y = go (eqb up NONE) y
      where
        go : (b : Bool) → cond b (eqb from root) false ≡ true
            → cond b (eqb from root) (climb_row point from (row_at words rows up) (λ over. climb words rows root point m up over)) ≡ true
        go true y = y
        go false y = absurd (false≢true y)
    climb_more (suc n) (suc m) from up l y = go (eqb up NONE) (row_at words rows up) y (λ over. climb_more n m up over (omega arith))
      where
        go : (b : Bool) (row : WordRow) → cond b (eqb from root) (climb_row point from row (λ over. climb words rows root point n up over)) ≡ true
            → ((over : ℕ) → climb words rows root point n up over ≡ true → climb words rows root point m up over ≡ true)
            → cond b (eqb from root) (climb_row point from row (λ over. climb words rows root point m up over)) ≡ true
        go true row y ih = y
        go false Bad y ih = y
        go false (Spare next freed) y ih = y
        go false (Removed next freed added held curve) y ih = y
        go false (Leaf over added held curve) y ih = y
        go false (Cut over k left right) y ih =
            let z = (and-eq-true_iff (eqb (child_of k left right point) from) (climb words rows root point n up over)).0 y in
            (and-eq-true_iff (eqb (child_of k left right point) from) (climb words rows root point m up over)).1 (z.0, ih over z.1)

  -- ---- the sides of the leaves

  -- a climb of the point from a row with this parent link
  pub record Climbs (root : ℕ) (point : Point) (from up : ℕ) : Type 0 where
    pub most : ℕ
    pub ends : climb words rows root point most from up ≡ true

  -- a cut's links differ, so the one that it sends the point to is on one side
  sent_left : (k : PointCut) (point : Point) (left right : ℕ) → left ≢ right → child_of k left right point ≡ left → goes_left k point ≡ true
  sent_left k point left right n e = go (goes_left k point) e
    where
      go : (b : Bool) → cond b left right ≡ left → b ≡ true
      go true e = refl
      go false e = absurd (n (sym e))

  sent_right : (k : PointCut) (point : Point) (left right : ℕ) → left ≢ right → child_of k left right point ≡ right → goes_left k point ≡ false
  sent_right k point left right n e = go (goes_left k point) e
    where
      go : (b : Bool) → cond b left right ≡ right → b ≡ false
      go true e = absurd (n e)
      go false e = refl

  pub climbs_route : (root : ℕ) → Sound words rows root rows → rows ≤ 8192 → (h : Heap) (parent : ℕ) (t : Tree) → TreeShape h parent t → TreeReads words rows h t → Forked t
      → TreeRouted t × ((e : Entry) → TreeHolds t e → Climbs root e.point (top t) parent)
  climbs_route root s few h parent (leaf a d) u w f =
      let row = top_reads h (leaf a d) (leaf_row parent d) w u in
      (tt, λ e m. record { most = rows; ends = rw m (rw (row, row_sound) at (s a (reads_inside words rows a (leaf_row parent d) row))) })
  climbs_route root s few h parent (cut a k l r) u w f =
      let row = top_reads h (cut a k l r) (cut_row parent k (top l) (top r)) w u.0 in
      let there : a ≢ NONE = λ x. absurd (omega (arith, reads_inside words rows a (cut_row parent k (top l) (top r)) row)) in
      let x = climbs_route root s few h a l u.1 (λ i v. w i (inr (inl v))) f.1 in
      let y = climbs_route root s few h a r u.2 (λ i v. w i (inr (inr v))) f.2 in
      let left : (e : Entry) (m : TreeHolds l e) → Climbed root e.point k (top l) (top r) parent (top l) a =
      λ e m. climb_tells root e.point (x.1 e m).most (top l) a parent k (top l) (top r) there row (x.1 e m).ends in
      let right : (e : Entry) (m : TreeHolds r e) → Climbed root e.point k (top l) (top r) parent (top r) a =
      λ e m. climb_tells root e.point (y.1 e m).most (top r) a parent k (top l) (top r) there row (y.1 e m).ends in (
        (
          λ e m. sent_left k e.point (top l) (top r) f.0 (left e m).sent,
          λ e m. sent_right k e.point (top l) (top r) f.0 (right e m).sent,
          x.0,
          y.0,
        ),
        λ e m. elim m [
          | inl v ↦ record { most = (left e v).left_over; ends = (left e v).above }
          | inr v ↦ record { most = (right e v).left_over; ends = (right e v).above }
        ],
      )

  -- ---- the rows of the tree

  -- the rows that a cut of the tree links to are in the tree
  has_child : (h : Heap) (parent : ℕ) (t : Tree) → TreeShape h parent t → TreeReads words rows h t → (i over : ℕ) (k : PointCut) (left right : ℕ) → TreeHas t i
      → row_at words rows i ≡ Cut over k left right → TreeHas t left × TreeHas t right
  unfolding left_of right_of
  has_child h parent (leaf a d) u w i over k left right m e =
      absurd (leaf_not_cut (sym (top_reads h (leaf a d) (leaf_row parent d) w u) ∙ ap (row_at words rows) (sym m) ∙ e))
  has_child h parent (cut a c l r) u w i over k left right (inl m) e =
      let same : Cut over k left right ≡ Cut parent c (top l) (top r) =
      sym e ∙ ap (row_at words rows) m ∙ top_reads h (cut a c l r) (cut_row parent c (top l) (top r)) w u.0 in
      (inr (inl (subst (TreeHas l) (sym (ap left_of same)) (has_top l))), inr (inr (subst (TreeHas r) (sym (ap right_of same)) (has_top r))))
  has_child h parent (cut a c l r) u w i over k left right (inr (inl m)) e =
      let z = has_child h a l u.1 (λ j v. w j (inr (inl v))) i over k left right m e in (inr (inl z.0), inr (inl z.1))
  has_child h parent (cut a c l r) u w i over k left right (inr (inr m)) e =
      let z = has_child h a r u.2 (λ j v. w j (inr (inr v))) i over k left right m e in (inr (inr z.0), inr (inr z.1))

  some_child : (h : Heap) (t : Option Tree) → Shape h t → ((i : ℕ) → Has t i → row_at words rows i ≡ word_row (h i)) → (i over : ℕ) (k : PointCut) (left right : ℕ) → Has t i
      → row_at words rows i ≡ Cut over k left right → Has t left × Has t right
  some_child h none u w i over k left right m e = absurd m
  some_child h (some t) u w i over k left right m e = has_child h NONE t u w i over k left right m e

  has_root : (t : Option Tree) (i : ℕ) → i ≡ top_of t → i ≢ NONE → Has t i
  has_root none i e n = absurd (n e)
  has_root (some t) i e n = subst (TreeHas t) (sym e) (has_top t)

  -- a row that climbs to the root is in the tree
  pub climb_has : (h : Heap) (t : Option Tree) → Shape h t → ((i : ℕ) → Has t i → row_at words rows i ≡ word_row (h i)) → (root : ℕ) (point : Point) → root ≡ top_of t
      → (n from up : ℕ) → from ≢ NONE → climb words rows root point n from up ≡ true → Has t from
  unfolding climb
  climb_has h t u w root point r zero from up n y = go (eqb up NONE) y
    where
      go : (b : Bool) → cond b (eqb from root) false ≡ true → Has t from
      go true y = has_root t from (eqb-true from root y ∙ r) n
      go false y = absurd (false≢true y)
  climb_has h t u w root point r (suc m) from up n y = go (eqb up NONE) refl (row_at words rows up) refl y (λ over f. climb_has h t u w root point r m up over f)
    where
      go : (b : Bool) → eqb up NONE ≡ b → (row : WordRow) → row_at words rows up ≡ row
          → cond b (eqb from root) (climb_row point from row (λ over. climb words rows root point m up over)) ≡ true
          → ((over : ℕ) → up ≢ NONE → climb words rows root point m up over ≡ true → Has t up) → Has t from
      go true f row e y ih = has_root t from (eqb-true from root y ∙ r) n
      go false f Bad e y ih = absurd (false≢true y)
      go false f (Spare next freed) e y ih = absurd (false≢true y)
      go false f (Removed next freed added held curve) e y ih = absurd (false≢true y)
      go false f (Leaf over added held curve) e y ih = absurd (false≢true y)
      go false f (Cut over k left right) e y ih =
          let z = (and-eq-true_iff (eqb (child_of k left right point) from) (climb words rows root point m up over)).0 y in
          let c = some_child h t u w up over k left right (ih over (eqb-false up NONE f) z.1) e in
          subst (Has t) (eqb-true (child_of k left right point) from z.0) (one (goes_left k point) left right c)
        where
          one : (b : Bool) (left right : ℕ) → Has t left × Has t right → Has t (cond b left right)
          one true left right c = c.0
          one false left right c = c.1

  -- ---- rows of a tree whose leaves are on their sides

  -- a leaf of the tree holds its record
  leaf_holds : (h : Heap) (parent : ℕ) (t : Tree) → TreeShape h parent t → TreeReads words rows h t → (i over : ℕ) (e : Entry) → TreeHas t i
      → row_at words rows i ≡ Leaf over e.added e.point e.curve → TreeHolds t e
  unfolding entry_of
  leaf_holds h parent (leaf a d) u w i over e m f =
      ap (entry_of d) (sym f ∙ ap (row_at words rows) m ∙ top_reads h (leaf a d) (leaf_row parent d) w u)
  leaf_holds h parent (cut a c l r) u w i over e (inl m) f =
      absurd (leaf_not_cut (sym f ∙ ap (row_at words rows) m ∙ top_reads h (cut a c l r) (cut_row parent c (top l) (top r)) w u.0))
  leaf_holds h parent (cut a c l r) u w i over e (inr (inl m)) f = inl (leaf_holds h a l u.1 (λ j v. w j (inr (inl v))) i over e m f)
  leaf_holds h parent (cut a c l r) u w i over e (inr (inr m)) f = inr (leaf_holds h a r u.2 (λ j v. w j (inr (inr v))) i over e m f)

  -- a climb of at most so many rows
  record Within (root : ℕ) (point : Point) (from up most : ℕ) : Type 0 where
    number : ℕ
    few : number ≤ most
    ends : climb words rows root point number from up ≡ true

  -- from a leaf to the top of the tree and on
  leaf_climbs : (root : ℕ) → rows ≤ 8192 → (h : Heap) (parent : ℕ) (t : Tree) → TreeShape h parent t → TreeReads words rows h t → TreeRouted t
      → (i over : ℕ) (e : Entry) → TreeHas t i → row_at words rows i ≡ Leaf over e.added e.point e.curve
      → (n : ℕ) → climb words rows root e.point n (top t) parent ≡ true → Within root e.point i over (n + tree_size t)
  unfolding tree_size over_of
  leaf_climbs root few h parent (leaf a d) u w s i over e m f n y =
      let same : over ≡ parent = ap over_of (sym f ∙ ap (row_at words rows) m ∙ top_reads h (leaf a d) (leaf_row parent d) w u) in
      record { number = n; few = omega arith; ends = rw (m, same) y }
  leaf_climbs root few h parent (cut a c l r) u w s i over e (inl m) f n y =
      absurd (leaf_not_cut (sym f ∙ ap (row_at words rows) m ∙ top_reads h (cut a c l r) (cut_row parent c (top l) (top r)) w u.0))
  leaf_climbs root few h parent (cut a c l r) u w s i over e (inr (inl m)) f n y =
      let row = top_reads h (cut a c l r) (cut_row parent c (top l) (top r)) w u.0 in
      let there : a ≢ NONE = λ x. absurd (omega (arith, reads_inside words rows a (cut_row parent c (top l) (top r)) row)) in
      let wl : TreeReads words rows h l = λ j v. w j (inr (inl v)) in
      let side = s.0 e (leaf_holds h a l u.1 wl i over e m f) in
      let z = leaf_climbs root few h a l u.1 wl s.2 i over e m f (suc n)
      (climb_holds root e.point n (top l) a parent c (top l) (top r) there row (rw side refl) y) in
      record { number = z.number; few = omega (arith, z.few); ends = z.ends }
  leaf_climbs root few h parent (cut a c l r) u w s i over e (inr (inr m)) f n y =
      let row = top_reads h (cut a c l r) (cut_row parent c (top l) (top r)) w u.0 in
      let there : a ≢ NONE = λ x. absurd (omega (arith, reads_inside words rows a (cut_row parent c (top l) (top r)) row)) in
      let wr : TreeReads words rows h r = λ j v. w j (inr (inr v)) in
      let side = s.1 e (leaf_holds h a r u.2 wr i over e m f) in
      let z = leaf_climbs root few h a r u.2 wr s.3 i over e m f (suc n)
      (climb_holds root e.point n (top r) a parent c (top l) (top r) there row (rw side refl) y) in
      record { number = z.number; few = omega (arith, z.few); ends = z.ends }

  -- the top of a tree has this parent link
  pub top_links : (h : Heap) (parent : ℕ) (t : Tree) → TreeShape h parent t → TreeReads words rows h t → links_up parent (row_at words rows (top t)) ≡ true
  top_links h parent (leaf a d) u w = rw (top_reads h (leaf a d) (leaf_row parent d) w u, links_up) (eq-eqb parent parent refl)
  top_links h parent (cut a c l r) u w = rw (top_reads h (cut a c l r) (cut_row parent c (top l) (top r)) w u.0, links_up) (eq-eqb parent parent refl)

  -- the links of a cut
  cut_holds : (h : Heap) (parent : ℕ) (t : Tree) → TreeShape h parent t → TreeReads words rows h t → Forked t → (i over : ℕ) (k : PointCut) (left right : ℕ) → TreeHas t i
      → row_at words rows i ≡ Cut over k left right
      → (left ≢ right) × (links_up i (row_at words rows left) ≡ true) × (links_up i (row_at words rows right) ≡ true)
  unfolding left_of right_of
  cut_holds h parent (leaf a d) u w f i over k left right m e =
      absurd (leaf_not_cut (sym (top_reads h (leaf a d) (leaf_row parent d) w u) ∙ ap (row_at words rows) (sym m) ∙ e))
  cut_holds h parent (cut a c l r) u w f i over k left right (inl m) e =
      let same : Cut over k left right ≡ Cut parent c (top l) (top r) =
      sym e ∙ ap (row_at words rows) m ∙ top_reads h (cut a c l r) (cut_row parent c (top l) (top r)) w u.0 in
      let x : left ≡ top l = ap left_of same in
      let y : right ≡ top r = ap right_of same in (
        λ z. f.0 (sym x ∙ z ∙ y),
        rw (m, x) (top_links h a l u.1 (λ j v. w j (inr (inl v)))),
        rw (m, y) (top_links h a r u.2 (λ j v. w j (inr (inr v)))),
      )
  cut_holds h parent (cut a c l r) u w f i over k left right (inr (inl m)) e = cut_holds h a l u.1 (λ j v. w j (inr (inl v))) f.1 i over k left right m e
  cut_holds h parent (cut a c l r) u w f i over k left right (inr (inr m)) e = cut_holds h a r u.2 (λ j v. w j (inr (inr v))) f.2 i over k left right m e

  -- every row of the tree is sound
  pub row_holds : (h : Heap) (t : Tree) → rows ≤ 8192 → TreeShape h NONE t → TreeReads words rows h t → TreeRouted t → Forked t → tree_size t ≤ rows → (i : ℕ) → TreeHas t i
      → row_sound words rows (top t) i (row_at words rows i) ≡ true
  row_holds h t few u w s f l i m = go (row_at words rows i) refl (h i) (w i m)
    where
      go : (row : WordRow) → row_at words rows i ≡ row → (x : Row) → row_at words rows i ≡ word_row x → row_sound words rows (top t) i row ≡ true
      go Bad e x r = absurd (false≢true (ap is_row (sym e ∙ r) ∙ word_is_row x))
      go (Spare next freed) e x r = refl
      go (Removed next freed added point curve) e x r = refl
      go (Leaf over added point curve) e x r =
          let z = leaf_climbs (top t) few h NONE t u w s i over (record { point = point; curve = curve; added = added }) m e 0 (climb_end (top t) point 0) in
          climb_more (top t) point z.number rows i over (omega (arith, z.few)) z.ends
      go (Cut over k left right) e x r =
          let z = cut_holds h NONE t u w f i over k left right m e in
          rw (ne_eqb left right z.0, z.1, z.2) refl
