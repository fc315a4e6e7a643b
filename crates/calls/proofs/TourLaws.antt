-- A step that keeps the parent link of the row where it stands and the square of the best makes the moves of the definition (`moved_is`).
-- Assumes nothing.
use mathlib.Core.Path.{◌≡◌, refl, sym, ap, ◌∙◌}
use mathlib.Core.Bool.{Bool, true, false, cond, not, ◌&&◌, ◌||◌}
use mathlib.Core.List.{List}
use Prim.Native.Nat.{ℕ, ◌+◌, ◌≤◌}
use native.Mathlib.Numerals.{add-one}
use lib.Dec.{eqb}
use Rattle.points.specs.declared.point.Point.{Point}
use Rattle.points.specs.declared.cut.Cut.{Cut as PointCut}
use Rattle.points.specs.Square.{square_of}
use Rattle.points.specs.Cut.{goes_left}
use Rattle.points.specs.Choice.{chosen_at, chosen_over, no_square}
use Rattle.points.specs.Word.{NONE}
use Rattle.points.proofs.ScaleLaws.{scale_chosen}
use Rattle.rows.specs.declared.row.Row.{Row}
use Rattle.rows.specs.declared.row.Row.TheVariants.{Bad, Spare, Removed, Leaf, Cut}
use Rattle.stations.specs.declared.call.Best.{Best}
use Rattle.rows.specs.Row.{row_at}
use Rattle.rows.specs.Tree.{tree_row}
use Rattle.rows.specs.Grades.{admits}
use Rattle.rows.proofs.RowLaws.{row_at_outside}
use Rattle.rows.proofs.CutLaws.{cut_child}
use Rattle.calls.specs.declared.aim.Aim.{Aim}
use Rattle.calls.specs.declared.progress.Progress.{Progress}
use Rattle.calls.specs.declared.reached.Reached.{Reached}
use Rattle.calls.specs.Link.{parent_of, is_tree}
use Rattle.calls.specs.Tour.{best_square, far_shut, down_cut, tour_down, above_cut, tour_above, tour_up, tour, toured}
use Rattle.calls.specs.Progress.{pick_best, pick_progress, may_find, prevails, onward, strayed, considered}
use Rattle.calls.specs.Reached.{above_of, reaching, reached_at, pick_reached, go_to, go_up, refused, visit_sides, prevails_at, down_leaf, visit_row, move_to, moved}

module _ (words : List ℕ) (rows slot : ℕ) (aim : Aim) (p : Progress) where
  -- the square of the best
  abbrev square : ℕ
  square = best_square aim p.best

  -- what the three ways of going on come to
  to_is : (child : ℕ) → go_to p square child ≡ reached_at words rows aim (onward p child 0 p.best)
  unfolding above_of
  to_is child = refl

  up_is : (x parent : ℕ) (best : Best) → parent_of (row_at words rows x) ≡ parent
      → reaching (onward p x 1 best) parent (best_square aim best) ≡ reached_at words rows aim (onward p x 1 best)
  unfolding above_of
  up_is x parent best e = λ i. record { above = sym e i; square = best_square aim best; progress = onward p x 1 best }

  refused_is : (above : ℕ) → above ≡ above_of words rows p → refused p square above ≡ reached_at words rows aim (strayed p)
  unfolding above_of
  refused_is above e = λ i. record { above = e i; square = best_square aim p.best; progress = strayed p }

  up_above : eqb p.phase 0 ≡ false → above_of words rows p ≡ parent_of (row_at words rows p.cursor)
  unfolding above_of
  up_above e = rw e

  -- by the squares of both a record prevails as it does by the points
  prevails_at_lem : (best : Best) (added : ℕ) (point : Point)
      → prevails_at aim best (best_square aim best) added point (square_of aim.scale aim.point point) ≡ prevails aim best added point
  prevails_at_lem best added point = ap (λ (b : Bool). may_find aim added point && b) (go (eqb best.curve 0))
    where
      own : ℕ
      own = square_of aim.scale aim.point point

      go : (none : Bool)
          → (none || chosen_at own (cond none no_square (square_of aim.scale aim.point best.point)) point best.point)
          ≡ (none || chosen_over aim.scale aim.point point best.point)
      go true = refl
      go false = sym (scale_chosen aim.scale aim.point point best.point)

  -- down at a leaf
  leaf_down : (parent added : ℕ) (point : Point) (curve : ℕ) → parent_of (row_at words rows p.cursor) ≡ parent
      → down_leaf aim p square parent added point curve (square_of aim.scale aim.point point)
      ≡ reached_at words rows aim (onward p p.cursor 1 (considered aim p.best added point curve))
  unfolding considered
  leaf_down parent added point curve e =
      ap (λ (b : Bool). either b) (prevails_at_lem p.best added point) ∙ go (prevails aim p.best added point)
    where
      found : Best
      found = record { curve = curve; point = point }

      either : Bool → Reached
      either b =
          pick_reached b (reaching (onward p p.cursor 1 found) parent (best_square aim found)) (go_up p (best_square aim p.best) p.cursor parent)

      go : (b : Bool) → either b ≡ reached_at words rows aim (onward p p.cursor 1 (pick_best b found p.best))
      go true = up_is p.cursor parent found e
      go false = up_is p.cursor parent p.best e

  -- down at a cut
  module _ (parent : ℕ) (cut : PointCut) (left right : ℕ) (goes : Bool) (above : ℕ) (reads : row_at words rows p.cursor ≡ Cut parent cut left right) where
    sides_down : (near far : ℕ) (a s : Bool)
        → pick_reached a (go_to p square near) (pick_reached s (go_up p square p.cursor parent) (go_to p square far))
        ≡ reached_at words rows aim (pick_progress a (onward p near 0 p.best) (pick_progress s (onward p p.cursor 1 p.best) (onward p far 0 p.best)))
    sides_down near far true s = to_is near
    sides_down near far false true = up_is p.cursor parent p.best (ap parent_of reads)
    sides_down near far false false = to_is far

    cut_down : eqb p.phase 0 ≡ true → visit_sides words slot aim (reaching p above square) p.cursor parent cut goes ≡ reached_at words rows aim (down_cut words slot aim p cut left right goes)
    cut_down e =
        rw (e, cut_child words rows p.cursor reads goes, cut_child words rows p.cursor reads (not goes))
        (far_side goes)
      where
        far_side : (g : Bool)
            → pick_reached (admits words p.cursor g slot) (go_to p square (cond g left right))
            (pick_reached (far_shut words slot aim p.best p.cursor cut g) (go_up p square p.cursor parent) (go_to p square (cond (not g) left right)))
            ≡ reached_at words rows aim (down_cut words slot aim p cut left right g)
        far_side true = sides_down left right (admits words p.cursor true slot) (far_shut words slot aim p.best p.cursor cut true)
        far_side false = sides_down right left (admits words p.cursor false slot) (far_shut words slot aim p.best p.cursor cut false)

  -- up at the cut in row x
  module _ (x parent : ℕ) (cut : PointCut) (left right : ℕ) (goes : Bool) (above : ℕ) (kept : above ≡ above_of words rows p) (reads : row_at words rows x ≡ Cut parent cut left right) where
    sides_up : (far : ℕ) (n s f : Bool)
        → pick_reached n (pick_reached s (go_up p square x parent) (go_to p square far)) (pick_reached f (go_up p square x parent) (refused p square above))
        ≡ reached_at words rows aim
        (pick_progress n (pick_progress s (onward p x 1 p.best) (onward p far 0 p.best)) (pick_progress f (onward p x 1 p.best) (strayed p)))
    sides_up far true true f = up_is x parent p.best (ap parent_of reads)
    sides_up far true false f = to_is far
    sides_up far false s true = up_is x parent p.best (ap parent_of reads)
    sides_up far false s false = refused_is above kept

    cut_up : eqb p.phase 0 ≡ false → visit_sides words slot aim (reaching p above square) x parent cut goes ≡ reached_at words rows aim (above_cut words slot aim p x cut left right goes)
    cut_up e =
        rw (e, cut_child words rows x reads goes, cut_child words rows x reads (not goes))
        (far_side goes)
      where
        far_side : (g : Bool)
            → pick_reached (eqb (cond g left right) p.cursor) (pick_reached (far_shut words slot aim p.best x cut g) (go_up p square x parent) (go_to p square (cond (not g) left right)))
            (pick_reached (eqb (cond (not g) left right) p.cursor) (go_up p square x parent) (refused p square above))
            ≡ reached_at words rows aim (above_cut words slot aim p x cut left right g)
        far_side true = sides_up right (eqb left p.cursor) (far_shut words slot aim p.best x cut true) (eqb right p.cursor)
        far_side false = sides_up left (eqb right p.cursor) (far_shut words slot aim p.best x cut false) (eqb left p.cursor)

  -- phase down
  row_down : (above : ℕ) → above ≡ above_of words rows p → (row : Row) → row_at words rows p.cursor ≡ row → eqb p.phase 0 ≡ true
      → visit_row words slot aim (reaching p above square) p.cursor (tree_row row) ≡ reached_at words rows aim (tour_down words slot aim p row)
  row_down above k Bad e d = refused_is above k
  row_down above k (Spare next freed) e d = refused_is above k
  row_down above k (Removed next freed added point curve) e d = refused_is above k
  row_down above k (Leaf parent added point curve) e d = rw d (leaf_down parent added point curve (ap parent_of e))
  row_down above k (Cut parent cut left right) e d = cut_down parent cut left right (goes_left cut aim.point) above e d

  -- up at the row x
  row_up : (x above : ℕ) → above ≡ above_of words rows p → (row : Row) → row_at words rows x ≡ row → eqb p.phase 0 ≡ false
      → visit_row words slot aim (reaching p above square) x (tree_row row) ≡ reached_at words rows aim (tour_above words slot aim p x row)
  row_up x above k Bad e d = refused_is above k
  row_up x above k (Spare next freed) e d = refused_is above k
  row_up x above k (Removed next freed added point curve) e d = refused_is above k
  row_up x above k (Leaf parent added point curve) e d = rw d (refused_is above k)
  row_up x above k (Cut parent cut left right) e d = cut_up x parent cut left right (goes_left cut aim.point) above k e d

  -- up by the parent link of a row of the tree
  module _ (most : rows ≤ NONE) (d : eqb p.phase 0 ≡ false) where
    by_parent : (parent : ℕ) → parent ≡ above_of words rows p → (top : Bool)
        → pick_reached top (go_up p square NONE NONE) (visit_row words slot aim (reaching p parent square) parent (tree_row (row_at words rows parent)))
        ≡ reached_at words rows aim (pick_progress top (onward p NONE 1 p.best) (tour_above words slot aim p parent (row_at words rows parent)))
    by_parent parent k true = up_is NONE NONE p.best (ap parent_of (row_at_outside words rows NONE most))
    by_parent parent k false = row_up parent parent k (row_at words rows parent) refl d

    -- phase up
    going_up : (above : ℕ) → above ≡ above_of words rows p → (row : Row) → above ≡ parent_of row
        → pick_reached (eqb above NONE) (pick_reached (is_tree row) (go_up p square NONE NONE) (refused p square NONE)) (visit_row words slot aim (reaching p above square) above (tree_row (row_at words rows above)))
        ≡ reached_at words rows aim (tour_up words rows slot aim p row)
    going_up above k Bad e = rw e (refused_is NONE (sym e ∙ k))
    going_up above k (Spare next freed) e = rw e (refused_is NONE (sym e ∙ k))
    going_up above k (Removed next freed added point curve) e = rw e (refused_is NONE (sym e ∙ k))
    going_up above k (Leaf parent added point curve) e = rw e (by_parent parent (sym e ∙ k) (eqb parent NONE))
    going_up above k (Cut parent cut left right) e = rw e (by_parent parent (sym e ∙ k) (eqb parent NONE))

  -- one move
  pub moved_is : rows ≤ NONE → moved words rows slot aim (reached_at words rows aim p) ≡ reached_at words rows aim (tour words rows slot aim p)
  unfolding moved tour
  moved_is most = go (eqb p.cursor NONE) refl
    where
      by_phase : (down : Bool) → eqb p.phase 0 ≡ down → eqb p.cursor NONE ≡ false
          → move_to words rows slot aim (reached_at words rows aim p) (cond down p.cursor (above_of words rows p))
          ≡ reached_at words rows aim (pick_progress down (tour_down words slot aim p (row_at words rows p.cursor)) (tour_up words rows slot aim p (row_at words rows p.cursor)))
      by_phase true d n = rw n (row_down (above_of words rows p) refl (row_at words rows p.cursor) refl d)
      by_phase false d n = going_up most d (above_of words rows p) refl (row_at words rows p.cursor) (up_above d)

      go : (over : Bool) → eqb p.cursor NONE ≡ over
          → pick_reached over (reached_at words rows aim p) (move_to words rows slot aim (reached_at words rows aim p) (cond (eqb p.phase 0) p.cursor (above_of words rows p)))
          ≡ reached_at words rows aim
          (pick_progress over p
          (pick_progress (eqb p.phase 0) (tour_down words slot aim p (row_at words rows p.cursor)) (tour_up words rows slot aim p (row_at words rows p.cursor))))
      go true e = refl
      go false e = by_phase (eqb p.phase 0) refl e

-- one move more
pub moved_more : (words : List ℕ) (rows slot : ℕ) (aim : Aim) (n : ℕ) (p : Progress) (reached after : Reached) → rows ≤ NONE
    → reached ≡ reached_at words rows aim (toured words rows slot aim n p) → after ≡ moved words rows slot aim reached
    → after ≡ reached_at words rows aim (toured words rows slot aim (n + 1) p)
unfolding toured
moved_more words rows slot aim n p reached after most e f =
    simp add-one (f ∙ ap (λ (r : Reached). moved words rows slot aim r) e ∙ moved_is words rows slot aim (toured words rows slot aim n p) most)
