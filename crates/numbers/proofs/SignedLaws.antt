-- The two's complement of 32 bits: every pattern is the number that it is read as, and the machine's way there.
-- Assumes nothing.
use mathlib.Core.Path.{◌≡◌, refl, ap}
use mathlib.Core.Bool.{Bool, true, false}
use Prim.Native.Nat.{ℕ, zero, suc, ◌-◌, ◌<◌}
use native.Mathlib.Omega.{arith}
use borrow.Author.Tests.{ltb-true, ltb-false, lt-ltb, le-ltb}
use lib.Dec.{T, ltb}
use lib.IntN.{ℤ, pos, negsuc, nat_abs, ◌-ℤ◌}
use lib.Signed.{lt_z, mag, non_neg}
use mir.Syntax.{w32}
use mir.Val.{SFits}
use Rattle.numbers.specs.Signed.{signed_of, unsigned_of}
pub use Rattle.numbers.specs.SameBits.{unsigned_signed}

-- −1 − z, of either sign
pub minus_pos : (n : ℕ) → negsuc 0 -ℤ pos n ≡ negsuc n
minus_pos zero = refl
minus_pos (suc n) = ap negsuc (omega arith)

pub minus_negsuc : (n : ℕ) → negsuc 0 -ℤ negsuc n ≡ pos n
minus_negsuc n = simp (le-ltb (suc n) 1 (omega arith)) (ap pos (omega arith))

-- a negative number x is written by way of −1 − x
pub record Flipped (x : ℤ) : Type 0 where
  pub there : SFits w32 (negsuc 0 -ℤ x)
  pub not_negative : T (non_neg (negsuc 0 -ℤ x))
  pub small : nat_abs (negsuc 0 -ℤ x) < 2147483648
  pub pattern : 4294967295 - nat_abs (negsuc 0 -ℤ x) ≡ unsigned_of x

pub flipped : (x : ℤ) → mag x < 2147483648 → lt_z x (pos 0) ≡ true → Flipped x
unfolding unsigned_of
flipped (pos n) near h = absurd (omega (arith, ltb-true n 0 h))
flipped (negsuc n) near h =
    record {
      there = rw (minus_negsuc n) (record { sfits = near });
      not_negative = rw (minus_negsuc n) tt;
      small = rw (minus_negsuc n) (near);
      pattern = rw (minus_negsuc n);
    }

-- a number that is not negative is its own pattern
pub record Kept (x : ℤ) : Type 0 where
  pub not_negative : T (non_neg x)
  pub small : nat_abs x < 2147483648
  pub pattern : nat_abs x ≡ unsigned_of x

pub kept : (x : ℤ) → mag x < 2147483648 → lt_z x (pos 0) ≡ false → Kept x
unfolding unsigned_of
kept (pos n) near h = record { not_negative = tt; small = near; pattern = refl }
kept (negsuc n) near h = let z : ◌≡◌ {A = ℕ} 0 1 = cc in absurd (omega arith)

-- the pattern of a number has 32 bits
pub unsigned_fits : (z : ℤ) → mag z < 2147483648 → unsigned_of z < 4294967296
unfolding unsigned_of
unsigned_fits (pos n) h = omega arith
unsigned_fits (negsuc n) h = omega arith

-- a pattern is read as a number of its width
pub signed_near : (w : ℕ) → w < 4294967296 → mag (signed_of w) < 2147483648
unfolding signed_of
signed_near w h = go (ltb w 2147483648) refl
  where
    go : (b : Bool) → ltb w 2147483648 ≡ b → mag (signed_of w) < 2147483648
    go true e = rw e (ltb-true w 2147483648 e)
    go false e = rw e (omega (arith, ltb-false w 2147483648 e))

-- writing a number and reading it again
pub signed_unsigned : (z : ℤ) → mag z < 2147483648 → signed_of (unsigned_of z) ≡ z
unfolding unsigned_of signed_of
signed_unsigned (pos n) near = simp (lt-ltb n 2147483648 (near))
signed_unsigned (negsuc n) near =
    simp (le-ltb (4294967295 - n) 2147483648 (omega (arith, near))) (ap negsuc (omega (arith, near)))
