-- The leaves that the scan of an audit counts are those of the tree (`leaves_counted`), and so the rows are as many as it says (`rows_counted`).
use Prim.Native.Nat.{ℕ, ◌-◌, ◌<◌, min}
use mathlib.Core.Path.{◌≡◌, refl, sym, ◌∙◌, ap}
use mathlib.Core.Logic.{inl, inr}
use mathlib.Core.List.{List, [], ◌∷◌, ◌++◌}
use mathlib.Core.Option.{Option, none, some}
use native.Mathlib.Omega.{arith}
use lib.ListN.{length, length-append}
use Rattle.points.specs.Word.{NONE}
use Rattle.rows.specs.Row.{row_at}
use Rattle.trees.specs.Row.{Heap}
use Rattle.trees.specs.Tree.{Tree, leaf, cut, top, TreeHas, TreeShape, TreeDistinct, tree_count, Has, Shape, Distinct, count_of, size_of}
use Rattle.trees.proofs.Entries.{size_count}
use Rattle.trees.proofs.Path.{has_top}
use Rattle.calls.specs.Sum.{tree_rows}
use Rattle.calls.specs.Tree.{leaf_count}
use Rattle.history.specs.View.{word_row}
use Rattle.history.proofs.AuditRows.{plus_min, TreeReads}
use Rattle.history.proofs.AuditScan.{IsLeaf, leaves_below, leaves_are, leaves_have, leaves_different}
use Rattle.history.proofs.Pigeonhole.{In, Different, in_append, different_append, same_number}

-- the rows of a tree's leaves
abbrev tree_leaves : Tree → List ℕ
tree_leaves (leaf a e) = a ∷ []
tree_leaves (cut a k l r) = tree_leaves l ++ tree_leaves r

leaves_length : (t : Tree) → length (tree_leaves t) ≡ tree_count t
unfolding tree_count
leaves_length (leaf a e) = refl
leaves_length (cut a k l r) = omega (arith, length-append (tree_leaves l) (tree_leaves r), leaves_length l, leaves_length r)

leaves_in : (t : Tree) (i : ℕ) → In (tree_leaves t) i → TreeHas t i
leaves_in (leaf a e) i m = elim m [ inl x ↦ x | inr x ↦ absurd x ]
leaves_in (cut a k l r) i m =
    elim ((in_append (tree_leaves l) (tree_leaves r) i).0 m) [ inl u ↦ inr (inl (leaves_in l i u)) | inr u ↦ inr (inr (leaves_in r i u)) ]

tree_leaves_different : (t : Tree) → TreeDistinct t → Different (tree_leaves t)
tree_leaves_different (leaf a e) d = (λ m. m, tt)
tree_leaves_different (cut a k l r) d =
    different_append (tree_leaves l) (tree_leaves r) (tree_leaves_different l d.3) (tree_leaves_different r d.4)
    (λ i u v. d.2 i (leaves_in l i u) (leaves_in r i v))

module _ (words : List ℕ) (rows : ℕ) (h : Heap) where
  row_of_lem : (t : Tree) → TreeReads words rows h t → row_at words rows (top t) ≡ word_row (h (top t))
  row_of_lem t w = w (top t) (has_top t)

  -- they are the rows of the tree that read as leaves
  leaves_read : (parent : ℕ) (t : Tree) → TreeShape h parent t → TreeReads words rows h t → (i : ℕ) → In (tree_leaves t) i → IsLeaf (row_at words rows i)
  leaves_read parent (leaf a d) u w i (inl m) = ap (λ x. leaf_count (row_at words rows x)) m ∙ ap leaf_count (row_of_lem (leaf a d) w ∙ ap word_row u)
  leaves_read parent (leaf a d) u w i (inr m) = absurd m
  leaves_read parent (cut a k l r) u w i m = elim ((in_append (tree_leaves l) (tree_leaves r) i).0 m) [
    | inl v ↦ leaves_read a l u.1 (λ j x. w j (inr (inl x))) i v
    | inr v ↦ leaves_read a r u.2 (λ j x. w j (inr (inr x))) i v
  ]

  read_leaves : (parent : ℕ) (t : Tree) → TreeShape h parent t → TreeReads words rows h t → (i : ℕ) → TreeHas t i → IsLeaf (row_at words rows i) → In (tree_leaves t) i
  read_leaves parent (leaf a d) u w i m y = inl m
  read_leaves parent (cut a k l r) u w i (inl m) y =
      absurd (omega (arith, sym y ∙ ap (λ x. leaf_count (row_at words rows x)) m ∙ ap leaf_count (row_of_lem (cut a k l r) w ∙ ap word_row u.0)))
  read_leaves parent (cut a k l r) u w i (inr (inl m)) y =
      (in_append (tree_leaves l) (tree_leaves r) i).1 (inl (read_leaves a l u.1 (λ j x. w j (inr (inl x))) i m y))
  read_leaves parent (cut a k l r) u w i (inr (inr m)) y =
      (in_append (tree_leaves l) (tree_leaves r) i).1 (inr (read_leaves a r u.2 (λ j x. w j (inr (inr x))) i m y))

  -- a tree, or none, that has every leaf
  pub leaves_counted : (t : Option Tree) → Shape h t → ((i : ℕ) → Has t i → row_at words rows i ≡ word_row (h i)) → Distinct t → ((i : ℕ) → Has t i → i < rows)
      → ((i : ℕ) → i < rows → IsLeaf (row_at words rows i) → Has t i) → length (leaves_below words rows rows) ≡ count_of t
  leaves_counted none u w d b a =
      same_number (leaves_below words rows rows) [] (leaves_different words rows rows) tt
      (λ i m. let z = leaves_are words rows rows i m in a i z.0 z.1) (λ i m. absurd m)
  leaves_counted (some t) u w d b a =
      same_number (leaves_below words rows rows) (tree_leaves t) (leaves_different words rows rows) (tree_leaves_different t d)
      (λ i m. let z = leaves_are words rows rows i m in read_leaves NONE t u w i (a i z.0 z.1) z.1)
      (λ i m. leaves_have words rows rows i (b i (leaves_in t i m)) (leaves_read NONE t u w i m))
      ∙ leaves_length t

-- a tree of n leaves has 2n − 1 rows
pub rows_counted : (t : Option Tree) (n : ℕ) → n ≡ count_of t → tree_rows n ≡ min (size_of t) NONE
rows_counted none n e = omega (arith, plus_min n (n - 1), e)
rows_counted (some t) n e = omega (arith, plus_min n (n - 1), e, size_count t)
