-- The marks that an unlink leaves (`marks_unlinked`): every cut that is still in the tree keeps its own.
use Prim.Native.Nat.{ℕ}
use mathlib.Core.Path.{◌≡◌, sym, ap, ◌∙◌}
use mathlib.Core.Logic.{◌≢◌}
use mathlib.Core.Bool.{Bool, true}
use mathlib.Core.List.{List}
use native.Mathlib.Omega.{arith}
use Rattle.points.specs.declared.point.Point.{Point}
use Rattle.points.specs.Word.{NONE}
use Rattle.trees.specs.Row.{Heap}
use Rattle.trees.specs.Queue.{Free, free_row}
use Rattle.trees.specs.Reads.{Leaf}
use Rattle.trees.specs.Unlink.{sibling_row, grand_row, UnlinkWrites}
use Rattle.calls.specs.Link.{is_cut, with_parent, replaced}
use Rattle.calls.specs.Unlink.{unlink_rows}
use Rattle.history.specs.View.{marks_in}
use Rattle.history.proofs.RowKinds.{kind_at, kind_next, kind_parent, kind_child, kind_free, parent_cut, child_cut}
use Rattle.history.proofs.RowWrites.{marks_kept}
use Rattle.history.proofs.UnlinkAround.{linked_row, linked_here, around_of}

module _ {h h' : Heap} {tail number : ℕ} {l : Leaf} (w : UnlinkWrites h h' tail number l (sibling_row h l) (grand_row h l)) (last : Free) (free : h tail ≡ free_row NONE last)
    (alone : l.parent ≡ NONE → sibling_row h l ≡ NONE) (x : ℕ) (there : x ≢ NONE) (cut : kind_at (h' x) ≡ 3) where
  -- a row that is no cut afterwards is not x
  other : (r : ℕ) → kind_at (h' r) ≢ 3 → x ≡ r → ⊥
  other r n e = n (ap (λ (i : ℕ). kind_at (h' i)) (sym e) ∙ cut)

  off_tail : x ≡ tail → ⊥
  off_tail = other tail (λ e. omega (arith, kind_free NONE last, ap kind_at free, kind_next l.row (h tail), ap kind_at w.tail_linked, e))

  off_leaf : x ≡ l.row → ⊥
  off_leaf = other l.row (λ e. omega (arith, ap kind_at w.leaf_freed_lem, e))

  off_parent : x ≡ l.parent → ⊥
  off_parent e = other l.parent (λ f. omega (arith, ap kind_at (w.cut_freed_lem (λ z. there (e ∙ z))), f)) e

  -- where it is the sibling, or the cut above, that was a cut before
  side_cut : x ≡ sibling_row h l → is_cut (with_parent (grand_row h l) (linked_row h (sibling_row h l))) ≡ true
  side_cut e =
      let deep : l.parent ≢ NONE = λ z. there (e ∙ alone z) in
      rw (linked_here h (sibling_row h l) (λ z. there (e ∙ z)))
      (parent_cut (grand_row h l) (h (sibling_row h l)) (sym (kind_parent (grand_row h l) (h (sibling_row h l))) ∙ sym (ap kind_at (w.moved deep)) ∙ ap (λ (i : ℕ). kind_at (h' i)) (sym e) ∙ cut))

  above_cut : x ≡ grand_row h l → is_cut (replaced l.parent (sibling_row h l) (linked_row h (grand_row h l))) ≡ true
  above_cut e =
      let deep : grand_row h l ≢ NONE = λ z. there (e ∙ z) in
      rw (linked_here h (grand_row h l) deep)
      (child_cut l.parent (sibling_row h l) (h (grand_row h l))
      (sym (kind_child l.parent (sibling_row h l) (h (grand_row h l))) ∙ sym (ap kind_at (w.linked deep)) ∙ ap (λ (i : ℕ). kind_at (h' i)) (sym e) ∙ cut))

  pub marks_unlinked : (words : List ℕ) (side : Bool) (p : Point) → marks_in (unlink_rows words (around_of h tail l) number) x side p ≡ marks_in words x side p
  unfolding unlink_rows
  marks_unlinked words side p =
      marks_kept _ (grand_row h l) _ x above_cut side p
      ∙ marks_kept _ (sibling_row h l) _ x side_cut side p
      ∙ marks_kept _ l.parent _ x (λ e. absurd (off_parent e)) side p
      ∙ marks_kept _ l.row _ x (λ e. absurd (off_leaf e)) side p
      ∙ marks_kept words tail _ x (λ e. absurd (off_tail e)) side p
