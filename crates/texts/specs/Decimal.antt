-- Numbers as text in ASCII: decimal digits, the most significant first and no zero in front, and a minus sign before a negative number.
use Rattle.std.specs.Prelude.{ℕ, zero, suc, ◌+◌, ◌*◌, ◌-◌, ◌/◌, ◌%◌, cond, List, [], ◌∷◌, ◌++◌, ltb, ℤ, pos, negsuc}

-- a digit from 0 to 9; `0` is 48
abbrev pub digit_of : ℕ → ℕ
digit_of d = 48 + d

-- with at most so many digits: below 10 the digit itself, else the digits of n / 10 and behind them that of n % 10
unfoldable pub decimal_for : ℕ → ℕ → List ℕ
decimal_for zero n = []
decimal_for (suc most) n =
    let more = decimal_for most (n / 10) ++ (digit_of (n % 10) ∷ []) in
    cond (ltb n 10) (digit_of n ∷ []) more

-- a number has no more digits than one more than itself
unfoldable pub decimal_of : ℕ → List ℕ
decimal_of n = decimal_for (suc n) n

-- the number that digits stand for, behind those of a number; `decimal_value` says that they are those of the number
abbrev pub value_after : ℕ → List ℕ → ℕ
value_after n [] = n
value_after n (digit ∷ digits) = value_after (10 * n + (digit - 48)) digits

-- `-`
abbrev pub minus : ℕ
minus = 45

-- a signed number; `negsuc n` is −(n + 1)
unfoldable pub signed_decimal : ℤ → List ℕ
signed_decimal (pos n) = decimal_of n
signed_decimal (negsuc n) = minus ∷ decimal_of (suc n)
