-- The marks that an insert leaves beside a leaf: every cut of the tree keeps its own (`marks_inserted`), and the new one has those of the two records on their sides
-- (`mark_new`, `mark_old`).
use Prim.Native.Nat.{ℕ, ◌*◌, ◌≤◌, ◌<◌}
use mathlib.Core.Path.{◌≡◌, sym, ap, ◌∙◌}
use mathlib.Core.Bool.{Bool, true, not}
use mathlib.Core.List.{List}
use native.Mathlib.Omega.{arith}
use Rattle.points.specs.declared.scale.Scale.{Scale}
use Rattle.points.specs.declared.point.Point.{Point}
use Rattle.points.specs.Cut.{cut_of, goes_left}
use Rattle.words.specs.Rule.{rule_at}
use Rattle.points.specs.Word.{NONE}
use Rattle.words.specs.Layout.{Fits}
use Rattle.stations.specs.Common.{opened_in, Opened}
use Rattle.rows.specs.Row.{row_at, put_row}
use Rattle.rows.specs.Grades.{slot_of}
use Rattle.stations.proofs.OpeningLaws.{opened_fits}
use Rattle.rows.proofs.GradeLaws.{begin_here, begin_there}
use Rattle.trees.specs.Row.{Entry, Heap}
use Rattle.trees.specs.Reads.{Leaf}
use Rattle.calls.specs.declared.insert.Site.{Site}
use Rattle.calls.specs.Link.{is_cut, replaced}
use Rattle.calls.specs.Insert.{new_leaf, new_side, new_cut, put_cut, insert_rows}
use Rattle.history.specs.View.{Reads, marks_in}
use Rattle.history.proofs.Frame.{slot_fits}
use Rattle.history.proofs.Effects.{row_written}
use Rattle.history.proofs.RowKinds.{kind_at, cut_next, child_cut}
use Rattle.history.proofs.RowWrites.{marks_kept, marks_begun}
use Rattle.history.proofs.InsertRows.{Finds, beside_site}

module _ (words : List ℕ) {places : ℕ} {h : Heap} {a b : ℕ} {l : Leaf} (w : Finds places h a b l) (reads : Reads words (2 * places) h) (fits : 2 * places ≤ NONE) (base : List ℕ) (new : Entry) where
  abbrev site : Site
  site = beside_site words (2 * places) h a b l

  abbrev written : List ℕ
  written = insert_rows base site new.added new.point new.curve

  -- a cut of the heap is neither a free row nor the leaf
  module _ (x : ℕ) (inside : x < 2 * places) (cut : kind_at (h x) ≡ 3) where
    at_row_lem : (r : ℕ) → x ≡ r → kind_at (h r) ≡ 3
    at_row_lem r e = ap (λ (i : ℕ). kind_at (h i)) (sym e) ∙ cut

    off_first : x ≡ a → ⊥
    off_first e = omega (arith, cut_next (h a) (at_row_lem a e), w.next, w.second_row, fits)

    off_second : x ≡ b → ⊥
    off_second e = w.behind (cut_next (h b) (at_row_lem b e))

    off_leaf : x ≡ l.row → ⊥
    off_leaf e = omega (arith, at_row_lem l.row e, ap kind_at w.reads)

    -- where it is the cut above the leaf it is written as a cut
    above_cut : x ≡ l.parent → is_cut (replaced l.row b (row_at words (2 * places) l.parent)) ≡ true
    above_cut e = rw (reads l.parent (rw e at inside)) (child_cut l.row b (h l.parent) (at_row_lem l.parent e))

    pub marks_inserted : (side : Bool) (p : Point) → marks_in written x side p ≡ marks_in base x side p
    unfolding insert_rows put_cut
    marks_inserted side p =
        marks_kept _ l.parent _ x above_cut side p
        ∙ marks_kept _ l.row _ x (λ e. absurd (off_leaf e)) side p
        ∙ marks_begun _ b _ _ _ x off_second side p
        ∙ marks_kept _ b _ x (λ e. absurd (off_second e)) side p
        ∙ marks_kept base a _ x (λ e. absurd (off_first e)) side p

  -- ---- the new cut

  module _ {limit : ℕ} {scale : Scale} (o : opened_in base ≡ Opened places limit scale) where
    -- the words with the new leaf and the cut
    abbrev first : List ℕ
    first = put_row base a (new_leaf site new.added new.point new.curve)

    abbrev second : List ℕ
    second = put_row first b (new_cut site new.point)

    there : Fits second (2 * places)
    there =
        let e : opened_in second ≡ Opened places limit scale =
        (row_written first b (new_cut site new.point)).opened ∙ (row_written base a (new_leaf site new.added new.point new.curve)).opened ∙ o in
        opened_fits second places limit scale e

    -- what the rows written after it leave of its marks
    after : (side : Bool) (p : Point) → marks_in written b side p ≡ marks_in (put_cut first site new.point) b side p
    unfolding insert_rows
    after side p =
        marks_kept _ l.parent _ b (λ e. absurd (w.apart.b≢parent e)) side p ∙ marks_kept _ l.row _ b (λ e. absurd (w.apart.b≢row e)) side p

    abbrev own : Bool
    own = goes_left (cut_of (rule_at words) new.point l.entry.point) new.point

    pub mark_new : marks_in written b own new.point ≡ true
    unfolding put_cut new_side
    mark_new =
        after own new.point
        ∙ begin_here second b own (slot_of new.point) (slot_of l.entry.point) (slot_fits new.point) (slot_fits l.entry.point) (2 * places) there w.second_row

    pub mark_old : marks_in written b (not own) l.entry.point ≡ true
    unfolding put_cut new_side
    mark_old =
        after (not own) l.entry.point
        ∙ begin_there second b own (slot_of new.point) (slot_of l.entry.point) (slot_fits new.point) (slot_fits l.entry.point) (2 * places) there w.second_row
