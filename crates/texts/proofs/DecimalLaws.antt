-- Decimal numbers: what the digits stand for (`decimal_value`), that the fewest digits of a number are these (`decimal_digits`), and how many they are
-- (`decimal_length`).
-- Assumes nothing.
use Prim.Native.Nat.{ℕ, zero, suc, ◌+◌, ◌*◌, ◌-◌, ◌/◌, ◌%◌, ◌^◌, ◌≤◌, ◌<◌}
use mathlib.Core.Path.{◌≡◌, refl, sym, ap, ◌∙◌}
use mathlib.Core.Bool.{Bool, true, false}
use mathlib.Core.List.{List, [], ◌∷◌, ◌++◌}
use native.Mathlib.Omega.{arith}
use native.Mathlib.Nat.{mod-eq_of_lt, one-le-pow}
use native.Mathlib.Decide.{dec_lt}
use borrow.Author.Tests.{ltb-true, ltb-false, lt-ltb, le-ltb}
use lib.Dec.{ltb}
use lib.IntN.{ℤ, pos, negsuc, nat_abs, ◌-ℤ◌}
use lib.Signed.{lt_z, mag}
use lib.ListN.{length, length-append}
use Rattle.io.specs.Digits.{hex_digit_ascii, last_digits as digits, IsDigitCount}
use Rattle.texts.specs.Decimal.{digit_of, value_after, minus, decimal_for, decimal_of, signed_decimal}
use Rattle.numbers.proofs.SignedLaws.{minus_negsuc}

-- ---- the recursion

-- with fuel enough it does not matter how much
decimal_enough : (j k n : ℕ) → n < j → n < k → decimal_for j n ≡ decimal_for k n
unfolding decimal_for
decimal_enough zero k n h l = absurd (omega arith)
decimal_enough (suc j) zero n h l = absurd (omega arith)
decimal_enough (suc j) (suc k) n h l = go (decimal_enough j k (n / 10)) (ltb n 10) refl
  where
    go : (n / 10 < j → n / 10 < k → decimal_for j (n / 10) ≡ decimal_for k (n / 10)) → (b : Bool) → ltb n 10 ≡ b → decimal_for (suc j) n ≡ decimal_for (suc k) n
    go rest true e = rw e
    go rest false e =
        let some : 10 ≤ n = ltb-false n 10 e in
        rw e (ap (λ (xs : List ℕ). xs ++ (digit_of (n % 10) ∷ [])) (rest (omega arith) (omega arith)))

-- below 10 a digit
pub decimal_one : (n : ℕ) → n < 10 → decimal_of n ≡ digit_of n ∷ []
unfolding decimal_of decimal_for
decimal_one n h = rw (lt-ltb n 10 h)

-- from 10 on the digits of n / 10, and behind them that of n % 10
pub decimal_more : (n : ℕ) → 10 ≤ n → decimal_of n ≡ decimal_of (n / 10) ++ (digit_of (n % 10) ∷ [])
unfolding decimal_of decimal_for
decimal_more n h =
    rw (le-ltb n 10 h) (ap (λ (xs : List ℕ). xs ++ (digit_of (n % 10) ∷ [])) (decimal_enough n (suc (n / 10)) (n / 10) (omega arith) (omega arith)))

-- ---- the number that the digits stand for

value_last : (v : ℕ) (digits : List ℕ) (digit : ℕ) → value_after v (digits ++ (digit ∷ [])) ≡ 10 * value_after v digits + (digit - 48)
value_last v [] digit = refl
value_last v (first ∷ digits) digit = value_last (10 * v + (first - 48)) digits digit

value_below : (k n : ℕ) → n < k → value_after 0 (decimal_of n) ≡ n
value_below zero n h = absurd (omega arith)
value_below (suc k) n h = go (value_below k (n / 10)) (dec_lt n 10)
  where
    go : (n / 10 < k → value_after 0 (decimal_of (n / 10)) ≡ n / 10) → Dec (n < 10) → value_after 0 (decimal_of n) ≡ n
    go rest (yes small) = rw (decimal_one n small) (omega arith)
    go rest (no large) =
        let some : 10 ≤ n = omega arith in
        rw (decimal_more n some) (value_last 0 (decimal_of (n / 10)) (digit_of (n % 10)) ∙ omega (arith, rest (omega arith)))

pub decimal_value : (n : ℕ) → value_after 0 (decimal_of n) ≡ n
decimal_value n = value_below (suc n) n (omega arith)

-- ---- the digits that are worked out

digit_is : (d : ℕ) → d < 10 → hex_digit_ascii d ≡ digit_of d
digit_is d h = rw (lt-ltb d 10 h)

pub decimal_digits : (k n : ℕ) → IsDigitCount 10 1 n k → digits 10 k n ≡ decimal_of n
decimal_digits zero n f = absurd (omega (arith, f.0))
decimal_digits (suc zero) n f =
    let h : n < 10 = omega (arith, f.1) in
    ap (λ (d : ℕ). d ∷ []) (digit_is (n % 10) (omega arith) ∙ ap digit_of (mod-eq_of_lt h)) ∙ sym (decimal_one n h)
decimal_digits (suc (suc k)) n f =
    let last : suc (suc k) - 1 ≡ suc k = omega arith in
    let least : 10 ^ suc k ≤ n = rw last at (f.2 (omega arith)) in
    let one : 1 ≤ 10 ^ k = one-le-pow k 10 (omega arith) in
    let before : suc k - 1 ≡ k = omega arith in
    let fewest : IsDigitCount 10 1 (n / 10) (suc k) = (omega arith, omega (arith, f.1), (λ more. rw before (omega arith))) in
    ap (λ (xs : List ℕ). xs ++ (hex_digit_ascii (n % 10) ∷ [])) (decimal_digits (suc k) (n / 10) fewest)
    ∙ ap (λ (d : ℕ). decimal_of (n / 10) ++ (d ∷ [])) (digit_is (n % 10) (omega arith))
    ∙ sym (decimal_more n (omega arith))

-- ---- how long it is

pub decimal_length : (k n : ℕ) → n < 10 ^ suc k → length (decimal_of n) ≤ suc k
decimal_length zero n h = let small : n < 10 = omega arith in rw (decimal_one n small) (omega arith)
decimal_length (suc k) n h = go (decimal_length k (n / 10)) (dec_lt n 10)
  where
    go : (n / 10 < 10 ^ suc k → length (decimal_of (n / 10)) ≤ suc k) → Dec (n < 10) → length (decimal_of n) ≤ suc (suc k)
    go rest (yes small) = rw (decimal_one n small) (omega arith)
    go rest (no large) =
        let some : 10 ≤ n = omega arith in
        rw (decimal_more n some) (omega (arith, length-append (decimal_of (n / 10)) (digit_of (n % 10) ∷ []), rest (omega arith)))

-- a number of 64 bits, of 32, and a signed one of 32
pub long_length : (n : ℕ) → n < 18446744073709551616 → length (decimal_of n) ≤ 20
long_length n h = decimal_length 19 n (omega arith)

pub word_length : (n : ℕ) → n < 4294967296 → length (decimal_of n) ≤ 10
word_length n h = decimal_length 9 n (omega arith)

pub signed_length : (z : ℤ) → mag z < 2147483648 → length (signed_decimal z) ≤ 11
unfolding signed_decimal
signed_length (pos n) h = omega (arith, word_length n (omega (arith, h)))
signed_length (negsuc n) h = omega (arith, word_length (suc n) (omega (arith, h)))

-- ---- the sign

-- a number that is negative, and one that is not, by its size
pub signed_negative : (z : ℤ) → lt_z z (pos 0) ≡ true → signed_decimal z ≡ minus ∷ decimal_of (nat_abs z)
unfolding signed_decimal
signed_negative (pos n) h = absurd (omega (arith, ltb-true n 0 h))
signed_negative (negsuc n) h = refl

pub signed_positive : (z : ℤ) → lt_z z (pos 0) ≡ false → signed_decimal z ≡ decimal_of (nat_abs z)
unfolding signed_decimal
signed_positive (pos n) h = refl
signed_positive (negsuc n) h = let z : ◌≡◌ {A = ℕ} 0 1 = cc in absurd (omega arith)

-- one more than −1 − z is the size of a negative number
pub size_negative : (z : ℤ) → lt_z z (pos 0) ≡ true → 1 + nat_abs (negsuc 0 -ℤ z) ≡ nat_abs z
size_negative (pos n) h = absurd (omega (arith, ltb-true n 0 h))
size_negative (negsuc n) h = rw (minus_negsuc n) (omega arith)
