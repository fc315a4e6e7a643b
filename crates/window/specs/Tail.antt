-- The tail (Rules 11.6): the last so many of a list, or all of it where it is shorter.
use Rattle.std.specs.Prelude.{ℕ, ◌-◌, min, ◌≡◌, List, ◌++◌, length, drop}

unfoldable pub tail_of : ℕ → List ℕ → List ℕ
tail_of n xs = drop (length xs - n) xs

-- the same in words: ys ends xs, and there are n in it, or all of xs
pub record IsTail (n : ℕ) (xs ys : List ℕ) : Type 0 where
  pub before : List ℕ
  pub ends : before ++ ys ≡ xs
  pub many : length ys ≡ min n (length xs)
