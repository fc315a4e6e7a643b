-- What the ranges of links and curves say.
-- Assumes nothing.
use mathlib.Core.Path.{◌≡◌, refl}
use mathlib.Core.Bool.{Bool, true, false, ◌||◌}
use mathlib.Core.Logic.{◌⊎◌, inl, inr}
use Prim.Native.Nat.{ℕ, ◌≤◌, ◌<◌}
use lib.Dec.{eqb, leb, ltb}
use borrow.Author.Tests.{ltb-true, leb-true, eqb-true, lt-ltb, le-leb}
use Rattle.points.specs.Word.{NONE}
use Rattle.points.proofs.Tests.{and_l, and_r, and_i}
use Rattle.words.specs.Layout.{most_curve}
use Rattle.words.specs.Range.{link_in, curve_in}

pub or_true : (a b : Bool) → (a || b) ≡ true → (a ≡ true) ⊎ (b ≡ true)
or_true true b e = inl refl
or_true false b e = inr e

pub or_right : (a : Bool) {b : Bool} → b ≡ true → (a || b) ≡ true
or_right true e = refl
or_right false e = e

-- none is a link
pub link_none : (rows : ℕ) → link_in rows NONE ≡ true
unfolding link_in
link_none rows = refl

-- a row is a link
pub link_row : (rows x : ℕ) → x < rows → link_in rows x ≡ true
unfolding link_in
link_row rows x h = or_right (eqb x NONE) (lt-ltb x rows h)

-- and there are no other links
pub link_tells : (rows x : ℕ) → link_in rows x ≡ true → (x ≡ NONE) ⊎ (x < rows)
unfolding link_in
link_tells rows x e = go (or_true (eqb x NONE) (ltb x rows) e)
  where
    go : (eqb x NONE ≡ true) ⊎ (ltb x rows ≡ true) → (x ≡ NONE) ⊎ (x < rows)
    go (inl f) = inl (eqb-true x NONE f)
    go (inr f) = inr (ltb-true x rows f)

pub curve_in_lem : (curve : ℕ) → 1 ≤ curve → curve ≤ most_curve → curve_in curve ≡ true
unfolding curve_in
curve_in_lem curve h l = and_i (le-leb 1 curve h) (le-leb curve most_curve l)

pub curve_tells : (curve : ℕ) → curve_in curve ≡ true → (1 ≤ curve) × (curve ≤ most_curve)
unfolding curve_in
curve_tells curve e = (leb-true 1 curve (and_l (leb 1 curve) (leb curve most_curve) e), leb-true curve most_curve (and_r (leb 1 curve) (leb curve most_curve) e))
