-- The fixed generator of numbers: each number of 32 bits is that before it, three times joined by exclusive or with itself shifted.
use Rattle.std.specs.Prelude.{ℕ, cond, eqb, bit_xor, ◌*◌, ◌/◌, ◌%◌, ◌^◌}

-- with itself shifted up, and with itself shifted down; what passes 32 bits is gone
abbrev shifted_up : ℕ → ℕ → ℕ
shifted_up by x = bit_xor x (x * 2 ^ by % 2 ^ 32)

abbrev shifted_down : ℕ → ℕ → ℕ
shifted_down by x = bit_xor x (x / 2 ^ by)

-- the number after x: up by 13, down by 17, up by 5
abbrev pub number_after : ℕ → ℕ
number_after x = shifted_up 5 (shifted_down 17 (shifted_up 13 x))

-- a number below n; 0 where n is 0
abbrev pub number_below : ℕ → ℕ → ℕ
number_below n x = cond (eqb n 0) 0 (x % n)
