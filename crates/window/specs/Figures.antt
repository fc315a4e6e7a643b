-- What is told of some readings: "the sum, the least, the greatest and the mean rounded half up" (Rules 11.5).
use Rattle.std.specs.Prelude.{ℕ, ◌+◌, ◌*◌, ◌/◌, ◌≤◌, ◌<◌, min, max, length}
use mathlib.Core.List.{List, [], ◌∷◌, Memᴰ}
use Rattle.window.specs.declared.figures.Summary.{Summary}
use Rattle.window.specs.declared.figures.Figures.{Figures}

unfoldable pub sum_of : List ℕ → ℕ
sum_of [] = 0
sum_of (x ∷ xs) = x + sum_of xs

-- the least of a number and some more
unfoldable pub least_from : ℕ → List ℕ → ℕ
least_from least [] = least
least_from least (x ∷ xs) = least_from (min least x) xs

-- the least; 0 where there is none
unfoldable pub least_of : List ℕ → ℕ
least_of [] = 0
least_of (x ∷ xs) = least_from x xs

-- the greatest of a number and some more
unfoldable pub greatest_from : ℕ → List ℕ → ℕ
greatest_from greatest [] = greatest
greatest_from greatest (x ∷ xs) = greatest_from (max greatest x) xs

-- the greatest; 0 where there is none
unfoldable pub greatest_of : List ℕ → ℕ
greatest_of [] = 0
greatest_of (x ∷ xs) = greatest_from x xs

-- the mean of n readings: "the whole part of sum / n + 1 / 2" (Rules 11.5)
unfoldable pub mean_of : ℕ → ℕ → ℕ
mean_of sum n = (2 * sum + n) / (2 * n)

-- the four figures, "all over the readings present" (Rules 11.5)
unfoldable pub figures_of : List ℕ → Figures
figures_of xs = record { number = 0; sum = sum_of xs; least = least_of xs; greatest = greatest_of xs; mean = mean_of (sum_of xs) (length xs) }

-- a refusal is its number and four zeros (Rules 11.5)
abbrev pub refused_with : ℕ → Figures
refused_with number = record { number = number; sum = 0; least = 0; greatest = 0; mean = 0 }

-- the four without the number
abbrev pub summary_of : List ℕ → Summary
summary_of xs = record { sum = sum_of xs; least = least_of xs; greatest = greatest_of xs; mean = mean_of (sum_of xs) (length xs) }

-- and these with the number of a reading that is accepted
abbrev pub figures_told : Summary → Figures
figures_told s = record { number = 0; sum = s.sum; least = s.least; greatest = s.greatest; mean = s.mean }

-- ---- the same in words

-- m is one of the readings, and none is less
pub record IsLeast (m : ℕ) (xs : List ℕ) : Type 0 where
  pub among : Memᴰ m xs
  pub none_less : (x : ℕ) → Memᴰ x xs → m ≤ x

-- m is one of the readings, and none is greater
pub record IsGreatest (m : ℕ) (xs : List ℕ) : Type 0 where
  pub among : Memᴰ m xs
  pub none_greater : (x : ℕ) → Memᴰ x xs → x ≤ m

-- m is the mean of n readings of this sum, rounded half up: m − 1/2 ≤ sum / n < m + 1/2
pub record IsMean (sum n m : ℕ) : Type 0 where
  pub not_less : 2 * n * m ≤ 2 * sum + n
  pub not_more : 2 * sum + n < 2 * n * (m + 1)
