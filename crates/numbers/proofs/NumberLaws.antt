-- Numbers in bytes: a number written and read again (`two_whole`, `four_whole`), and bytes read and written again (`bytes_number`).
-- Assumes nothing.
use mathlib.Core.Path.{◌≡◌, refl, ap, ◌∙◌}
use mathlib.Core.List.{List}
use Prim.Native.Nat.{ℕ, zero, suc, ◌+◌, ◌*◌, ◌/◌, ◌%◌, ◌<◌, ◌≤◌}
use native.Mathlib.Omega.{arith}
use native.Mathlib.Numerals.{add-one}
use lib.ListN.{length, get_or, take, drop}
use lib.Seq.{drop-cons}
use Rattle.numbers.specs.Bytes.{AllBytes, number_at, bytes_of}

-- a byte of a number, and what is above it
low_byte : (b m : ℕ) → b < 256 → (b + 256 * m) % 256 ≡ b
low_byte b m h = omega arith

above_byte : (b m : ℕ) → b < 256 → (b + 256 * m) / 256 ≡ m
above_byte b m h = omega arith

pub two_whole : (x : ℕ) → x < 65536 → x % 256 + 256 * (x / 256 % 256 + 256 * 0) ≡ x
two_whole x h = omega arith

pub four_whole : (x : ℕ) → x < 4294967296 →
    x % 256 + 256 * (x / 256 % 256 + 256 * (x / 256 / 256 % 256 + 256 * (x / 256 / 256 / 256 % 256 + 256 * 0))) ≡ x
four_whole x h = omega arith

-- n bytes of a list are those of the number that they are read as
pub bytes_number : (n : ℕ) (bytes : List ℕ) (at : ℕ) → AllBytes bytes → at + n ≤ length bytes → bytes_of n (number_at n bytes at) ≡ take n (drop at bytes)
unfolding bytes_of number_at
bytes_number zero bytes at small h = refl
bytes_number (suc n) bytes at small h =
    let b = get_or bytes at 0 in
    let m = number_at n bytes (at + 1) in
    let tail : bytes_of n m ≡ take n (drop (suc at) bytes) =
    bytes_number n bytes (at + 1) small (omega arith) ∙ ap (λ (k : ℕ). take n (drop k bytes)) (add-one at) in
    rw (low_byte b m (small at), above_byte b m (small at), tail, drop-cons bytes at 0 (omega arith))

-- what is read fits its width
pub two_fits : (bytes : List ℕ) (at : ℕ) → AllBytes bytes → number_at 2 bytes at < 65536
unfolding number_at
two_fits bytes at small = omega (arith, small at, small (at + 1))

pub four_fits : (bytes : List ℕ) (at : ℕ) → AllBytes bytes → number_at 4 bytes at < 4294967296
unfolding number_at
four_fits bytes at small = omega (arith, small at, small (at + 1), small (at + 1 + 1), small (at + 1 + 1 + 1))
