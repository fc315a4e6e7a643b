-- Every pattern of 32 bits is that of the signed number that it stands for: the law of `Number` for signed numbers.
use Rattle.std.specs.Prelude.{◌≡◌, refl, ℕ, ◌<◌, Bool, true, false, ltb}
use Rattle.std.proofs.Common.{arith}
use borrow.Author.Tests.{ltb-false}
use Rattle.numbers.specs.Signed.{signed_of, unsigned_of}

-- reading a pattern and writing it again
pub unsigned_signed : (w : ℕ) → w < 4294967296 → unsigned_of (signed_of w) ≡ w
unfolding unsigned_of signed_of
unsigned_signed w h = go (ltb w 2147483648) refl
  where
    go : (b : Bool) → ltb w 2147483648 ≡ b → unsigned_of (signed_of w) ≡ w
    go true e = rw e
    go false e = rw e (omega (arith, ltb-false w 2147483648 e))
