-- The scan of an audit: it is sound exactly if every row is (`scan_tells`, `scan_holds`), and it counts the leaves (`scan_counts`).
use Prim.Native.Nat.{ℕ, zero, suc, ◌≤◌, ◌<◌}
use mathlib.Core.Path.{◌≡◌, refl, sym, ◌∙◌, ap, subst}
use mathlib.Core.Logic.{◌⊎◌, inl, inr}
use mathlib.Core.Bool.{Bool, true, false, false≢true}
use mathlib.Core.List.{List, [], ◌∷◌}
use native.Mathlib.Omega.{arith}
use native.Mathlib.Decide.{ℕ_discrete}
use lib.ListN.{length}
use Rattle.rows.specs.declared.row.Row.{Row as WordRow}
use Rattle.rows.specs.declared.row.Row.TheVariants.{Bad, Spare, Removed, Leaf, Cut}
use Rattle.rows.specs.Row.{row_at}
use Rattle.calls.specs.Sum.{plus}
use Rattle.calls.specs.Tree.{row_sound, leaf_count, row_count, pick_count, added, scan}
use Rattle.history.proofs.AuditRows.{plus_min}
use Rattle.history.proofs.Pigeonhole.{In, Different}

module _ (words : List ℕ) (rows root : ℕ) where
  -- every row below n is sound
  abbrev pub Sound : ℕ → Type 0
  Sound n = (r : ℕ) → r < n → row_sound words rows root r (row_at words rows r) ≡ true

  pub scan_tells : (n : ℕ) → (scan words rows root n).sound ≡ true → Sound n
  unfolding scan
  scan_tells zero s r l = absurd (omega arith)
  scan_tells (suc n) s r l = at (scan words rows root n).sound refl s (scan_tells n)
    where
      go : Dec (r ≡ n) → row_sound words rows root n (row_at words rows n) ≡ true → (r < n → row_sound words rows root r (row_at words rows r) ≡ true)
          → row_sound words rows root r (row_at words rows r) ≡ true
      go (yes e) here ih = subst (λ x. row_sound words rows root x (row_at words rows x) ≡ true) (sym e) here
      go (no e) here ih = ih (omega arith)

      at : (b : Bool) → (scan words rows root n).sound ≡ b
          → (pick_count b (added (scan words rows root n) (row_count words rows root n (row_at words rows n))) (scan words rows root n)).sound ≡ true
          → ((scan words rows root n).sound ≡ true → Sound n) → row_sound words rows root r (row_at words rows r) ≡ true
      at true e s ih = go (ℕ_discrete r n) s (ih e r)
      at false e s ih = absurd (false≢true (sym e ∙ s))

  pub scan_holds : (n : ℕ) → Sound n → (scan words rows root n).sound ≡ true
  unfolding scan
  scan_holds zero s = refl
  scan_holds (suc n) s = rw (scan_holds n (λ r l. s r (omega arith))) (s n (omega arith))

-- ---- the leaves

-- the row is a leaf
abbrev pub IsLeaf : WordRow → Type 0
IsLeaf row = leaf_count row ≡ 1

-- x in front of the list where n is 1, not where it is 0
abbrev cons_if : ℕ → ℕ → List ℕ → List ℕ
cons_if zero x l = l
cons_if (suc n) x l = x ∷ l

-- the leaves among the rows below n
pub leaves_below : List ℕ → ℕ → ℕ → List ℕ
leaves_below words rows zero = []
leaves_below words rows (suc n) = cons_if (leaf_count (row_at words rows n)) n (leaves_below words rows n)

leaf_or_not : (row : WordRow) → (leaf_count row ≡ 0) ⊎ (leaf_count row ≡ 1)
leaf_or_not Bad = inl refl
leaf_or_not (Spare next freed) = inl refl
leaf_or_not (Removed next freed added point curve) = inl refl
leaf_or_not (Leaf over added point curve) = inr refl
leaf_or_not (Cut over cut left right) = inl refl

module _ (words : List ℕ) (rows : ℕ) where
  pub leaves_are : (n i : ℕ) → In (leaves_below words rows n) i → (i < n) × IsLeaf (row_at words rows i)
  unfolding leaves_below
  leaves_are zero i m = absurd m
  leaves_are (suc n) i m = go (leaf_or_not (row_at words rows n)) (leaves_are n i)
    where
      go : (leaf_count (row_at words rows n) ≡ 0) ⊎ (leaf_count (row_at words rows n) ≡ 1)
          → (In (leaves_below words rows n) i → (i < n) × IsLeaf (row_at words rows i)) → (i < suc n) × IsLeaf (row_at words rows i)
      go (inl e) ih = let w = ih (rw e at m) in (omega (arith, w.0), w.1)
      go (inr e) ih = elim (subst (λ c. In (cons_if c n (leaves_below words rows n)) i) e m) [
        | inl f ↦ (omega arith, rw f e)
        | inr u ↦ (omega (arith, (ih u).0), (ih u).1)
      ]

  pub leaves_have : (n i : ℕ) → i < n → IsLeaf (row_at words rows i) → In (leaves_below words rows n) i
  unfolding leaves_below
  leaves_have zero i l y = absurd (omega arith)
  leaves_have (suc n) i l y = go (ℕ_discrete i n) (leaf_or_not (row_at words rows n)) (leaves_have n i)
    where
      go : Dec (i ≡ n) → (leaf_count (row_at words rows n) ≡ 0) ⊎ (leaf_count (row_at words rows n) ≡ 1)
          → (i < n → IsLeaf (row_at words rows i) → In (leaves_below words rows n) i) → In (cons_if (leaf_count (row_at words rows n)) n (leaves_below words rows n)) i
      go (yes f) (inl e) ih = absurd (omega (arith, sym e ∙ ap (λ x. leaf_count (row_at words rows x)) (sym f) ∙ y))
      go (yes f) (inr e) ih = subst (λ c. In (cons_if c n (leaves_below words rows n)) i) (sym e) (inl f)
      go (no f) (inl e) ih = subst (λ c. In (cons_if c n (leaves_below words rows n)) i) (sym e) (ih (omega arith) y)
      go (no f) (inr e) ih = subst (λ c. In (cons_if c n (leaves_below words rows n)) i) (sym e) (inr (ih (omega arith) y))

  pub leaves_different : (n : ℕ) → Different (leaves_below words rows n)
  unfolding leaves_below
  leaves_different zero = tt
  leaves_different (suc n) = go (leaf_or_not (row_at words rows n)) (leaves_different n)
    where
      go : (leaf_count (row_at words rows n) ≡ 0) ⊎ (leaf_count (row_at words rows n) ≡ 1) → Different (leaves_below words rows n)
          → Different (cons_if (leaf_count (row_at words rows n)) n (leaves_below words rows n))
      go (inl e) ih = subst (λ c. Different (cons_if c n (leaves_below words rows n))) (sym e) ih
      go (inr e) ih = subst (λ c. Different (cons_if c n (leaves_below words rows n))) (sym e) (λ m. omega (arith, (leaves_are n n m).0), ih)

  pub leaves_most : (n : ℕ) → length (leaves_below words rows n) ≤ n
  unfolding leaves_below
  leaves_most zero = omega arith
  leaves_most (suc n) = go (leaf_or_not (row_at words rows n)) (leaves_most n)
    where
      go : (leaf_count (row_at words rows n) ≡ 0) ⊎ (leaf_count (row_at words rows n) ≡ 1) → length (leaves_below words rows n) ≤ n
          → length (cons_if (leaf_count (row_at words rows n)) n (leaves_below words rows n)) ≤ suc n
      go (inl e) ih = subst (λ c. length (cons_if c n (leaves_below words rows n)) ≤ suc n) (sym e) (omega (arith, ih))
      go (inr e) ih = subst (λ c. length (cons_if c n (leaves_below words rows n)) ≤ suc n) (sym e) (omega (arith, ih))

  -- the scan counts them
  pub scan_counts : (root n : ℕ) → n ≤ 8192 → Sound words rows root n → (scan words rows root n).leaves ≡ length (leaves_below words rows n)
  unfolding scan leaves_below
  scan_counts root zero l s = refl
  scan_counts root (suc n) l s =
      let before : Sound words rows root n = λ r k. s r (omega arith) in
      rw (scan_holds words rows root n before) (go (leaf_or_not (row_at words rows n)) (scan_counts root n (omega arith) before))
    where
      go : (leaf_count (row_at words rows n) ≡ 0) ⊎ (leaf_count (row_at words rows n) ≡ 1) → (scan words rows root n).leaves ≡ length (leaves_below words rows n)
          → plus (leaf_count (row_at words rows n)) (scan words rows root n).leaves ≡ length (cons_if (leaf_count (row_at words rows n)) n (leaves_below words rows n))
      go (inl e) ih =
          subst (λ c. plus c (scan words rows root n).leaves ≡ length (cons_if c n (leaves_below words rows n))) (sym e)
          (omega (arith, plus_min 0 (scan words rows root n).leaves, ih, leaves_most n))
      go (inr e) ih =
          subst (λ c. plus c (scan words rows root n).leaves ≡ length (cons_if c n (leaves_below words rows n))) (sym e)
          (omega (arith, plus_min 1 (scan words rows root n).leaves, ih, leaves_most n))
