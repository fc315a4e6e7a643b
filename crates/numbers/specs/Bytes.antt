-- Numbers in bytes, the lowest byte first.
use Rattle.std.specs.Prelude.{ℕ, zero, suc, ◌+◌, ◌*◌, ◌/◌, ◌%◌, ◌<◌, List, [], ◌∷◌, get_or, set}

-- every number of the list is a byte
abbrev pub AllBytes : List ℕ → Type 0
AllBytes bytes = (i : ℕ) → get_or bytes i 0 < 256

-- the number of n bytes from an offset on; a byte that is not there is 0
unfoldable pub number_at : ℕ → List ℕ → ℕ → ℕ
number_at zero bytes at = 0
number_at (suc n) bytes at = get_or bytes at 0 + 256 * number_at n bytes (at + 1)

-- a number as n bytes
unfoldable pub bytes_of : ℕ → ℕ → List ℕ
bytes_of zero x = []
bytes_of (suc n) x = x % 256 ∷ bytes_of n (x / 256)

-- the bytes with a number of n bytes written from an offset on
unfoldable pub put_number : ℕ → List ℕ → ℕ → ℕ → List ℕ
put_number zero bytes at x = bytes
put_number (suc n) bytes at x = put_number n (set bytes at (x % 256)) (at + 1) (x / 256)

-- the bytes with others written from an offset on
abbrev pub put_all : List ℕ → ℕ → List ℕ → List ℕ
put_all bytes at [] = bytes
put_all bytes at (x ∷ xs) = put_all (set bytes at x) (at + 1) xs
