-- A walk along links, at most n rows and to the end: whether it goes on, taken apart.
use Prim.Native.Nat.{ℕ, zero, suc, ◌<◌}
use mathlib.Core.Path.{◌≡◌, refl, sym}
use mathlib.Core.Logic.{◌⊎◌, inl, inr}
use mathlib.Core.Bool.{Bool, true, false, ◌&&◌, not, false≢true, and-eq-true_iff}
use native.Mathlib.Omega.{arith}
use lib.Dec.{eqb, ltb}
use borrow.Author.Tests.{lt-ltb, ltb-true, not-true}
use Rattle.points.specs.Word.{NONE}

-- while it goes on, rows are left and the link is not none
pub going : (n link : ℕ) → (ltb 0 n && not (eqb link NONE)) ≡ true → (0 < n) × (eqb link NONE ≡ false)
going n link e =
    let both = (and-eq-true_iff (ltb 0 n) (not (eqb link NONE))).0 e in
    (ltb-true 0 n both.0, not-true (eqb link NONE) both.1)

-- where it has ended, no row is left or the link is none
pub ended : (n link : ℕ) → (ltb 0 n && not (eqb link NONE)) ≡ false → (n ≡ 0) ⊎ (eqb link NONE ≡ true)
ended zero link e = inl refl
ended (suc n) link e = go (eqb link NONE) refl (rw (lt-ltb 0 (suc n) (omega arith)) at e)
  where
    go : (b : Bool) → eqb link NONE ≡ b → (true && not b) ≡ false → (suc n ≡ 0) ⊎ (eqb link NONE ≡ true)
    go true f e = inr f
    go false f e = absurd (false≢true (sym e))
