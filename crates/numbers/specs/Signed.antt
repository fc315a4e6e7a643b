-- The two's complement of 32 bits.
use Rattle.std.specs.Prelude.{ℕ, ◌-◌, cond, ltb, ℤ, pos, negsuc}

-- the signed number that 32 bits stand for: from 2147483648 on it is the number less 4294967296
unfoldable pub signed_of : ℕ → ℤ
signed_of w = cond (ltb w 2147483648) (pos w) (negsuc (4294967295 - w))

-- the 32 bits of a signed number; `negsuc n` is −1 − n
unfoldable pub unsigned_of : ℤ → ℕ
unsigned_of (pos n) = n
unsigned_of (negsuc n) = 4294967295 - n
