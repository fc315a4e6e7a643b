-- The mean rounded half up in words (`mean_exact`), that no other number is it (`mean_only`), and that it lies from the least to the greatest (`mean_between`).
use Prim.Native.Nat.{ℕ, ◌+◌, ◌*◌, ◌/◌, ◌%◌, ◌≤◌, ◌<◌}
use mathlib.Core.Path.{◌≡◌, refl, ap, ◌∙◌}
use mathlib.Core.Bool.{true}
use mathlib.Core.List.{List, [], ◌∷◌, Memᴰ}
use native.Mathlib.Omega.{arith}
use native.Mathlib.Decide.{dec_lt}
use native.Mathlib.Nat.{mul_comm, mul_assoc, mul-suc, mul-le-mul_left, mod-lt, div-add-mod'}
use native.Mathlib.Numerals.{add-one}
use lib.ListN.{length}
use Rattle.window.specs.Figures.{sum_of, least_of, greatest_of, mean_of, IsMean}
use Rattle.window.specs.declared.window.Window.{Window}
use Rattle.window.specs.Window.{longest, wettest, present_in, is_sound}
use Rattle.window.proofs.WindowLaws.{AllIn, sound_tells, present_length, present_in_lem}
use Rattle.window.proofs.LeastLaws.{least_exact, greatest_exact}

one_more : (k m : ℕ) → k * (m + 1) ≡ k * m + k
one_more k m = ap (λ (j : ℕ). k * j) (add-one m) ∙ mul-suc k m

pub mean_exact : (sum n : ℕ) → 1 ≤ n → IsMean sum n (mean_of sum n)
unfolding mean_of
mean_exact sum n l =
    let a : ℕ = 2 * sum + n in
    let k : ℕ = 2 * n in
    let whole : k * (a / k) + a % k ≡ a = ap (λ (j : ℕ). j + a % k) (mul_comm k (a / k)) ∙ div-add-mod' a k in
    let rest : a % k < k = mod-lt a (omega arith) in
    record { not_less = omega (arith, whole); not_more = omega (arith, whole, rest, one_more k (a / k)) }

-- two numbers that are both the mean are one
pub mean_only : (sum n m m' : ℕ) → IsMean sum n m → IsMean sum n m' → m ≡ m'
mean_only sum n m m' h h' = go (dec_lt m m') (dec_lt m' m)
  where
    no_gap : (a b : ℕ) → IsMean sum n a → IsMean sum n b → a < b → ⊥
    no_gap a b p q l = omega (arith, mul-le-mul_left {m = a + 1} {n = b} (2 * n) (omega arith), p.not_more, q.not_less)

    go : Dec (m < m') → Dec (m' < m) → m ≡ m'
    go (yes l) d = absurd (no_gap m m' h h' l)
    go (no k) (yes l) = absurd (no_gap m' m h' h l)
    go (no k) (no l) = omega arith

-- ---- from the least to the greatest

pub sum_above : (low : ℕ) (xs : List ℕ) → ((x : ℕ) → Memᴰ x xs → low ≤ x) → low * length xs ≤ sum_of xs
unfolding sum_of
sum_above low [] f = omega arith
sum_above low (x ∷ xs) f = omega (arith, mul-suc low (length xs), sum_above low xs (λ y u. f y (Memᴰ.tail u)), f x (Memᴰ.head refl))

pub sum_below : (high : ℕ) (xs : List ℕ) → ((x : ℕ) → Memᴰ x xs → x ≤ high) → sum_of xs ≤ high * length xs
unfolding sum_of
sum_below high [] f = omega arith
sum_below high (x ∷ xs) f = omega (arith, mul-suc high (length xs), sum_below high xs (λ y u. f y (Memᴰ.tail u)), f x (Memᴰ.head refl))

-- the sum of n readings in range
pub sum_in : (xs : List ℕ) → AllIn xs → sum_of xs ≤ wettest * length xs
unfolding sum_of
sum_in [] a = omega arith
sum_in (x ∷ xs) a = omega (arith, mul-suc wettest (length xs), sum_in xs a.1, a.0)

-- so the sum of the readings present fits
pub sum_present : (w : Window) → length w.readings ≡ longest → is_sound w ≡ true → sum_of (present_in w) ≤ wettest * longest
sum_present w size e =
    let h = sound_tells w e in
    omega (arith, sum_in (present_in w) (present_in_lem w size h), present_length w size h, h.present, h.most)

pub record Between (low m high : ℕ) : Type 0 where
  pub from : low ≤ m
  pub to : m ≤ high

pub mean_between : (xs : List ℕ) → 1 ≤ length xs → Between (least_of xs) (mean_of (sum_of xs) (length xs)) (greatest_of xs)
mean_between xs l = record { from = at_least (dec_lt mean low); to = at_most (dec_lt high mean) }
  where
    n : ℕ
    n = length xs

    sum : ℕ
    sum = sum_of xs

    low : ℕ
    low = least_of xs

    high : ℕ
    high = greatest_of xs

    mean : ℕ
    mean = mean_of sum n

    is : IsMean sum n mean
    is = mean_exact sum n l

    twice : (k : ℕ) → 2 * n * k ≡ 2 * (k * n)
    twice k = mul_assoc 2 n k ∙ ap (λ (j : ℕ). 2 * j) (mul_comm n k)

    above : low * n ≤ sum
    above = sum_above low xs (least_exact xs l).none_less

    below : sum ≤ high * n
    below = sum_below high xs (greatest_exact xs l).none_greater

    at_least : Dec (mean < low) → low ≤ mean
    at_least (yes u) = absurd (omega (arith, is.not_more, mul-le-mul_left {m = mean + 1} {n = low} (2 * n) (omega arith), twice low, above))
    at_least (no u) = omega arith

    at_most : Dec (high < mean) → mean ≤ high
    at_most (yes u) = absurd (omega (arith, is.not_less, mul-le-mul_left {m = high + 1} {n = mean} (2 * n) (omega arith), one_more (2 * n) high, twice high, below))
    at_most (no u) = omega arith
