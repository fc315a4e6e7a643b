-- The least and the greatest in words: one of the readings, and no reading is less, or greater (`least_exact`, `greatest_exact`).
use Prim.Native.Nat.{ℕ, ◌≤◌, ◌<◌, min, max}
use mathlib.Core.Path.{◌≡◌, refl, ◌∙◌}
use mathlib.Core.Logic.{◌⊎◌, inl, inr}
use mathlib.Core.List.Memᴰ
use mathlib.Core.List.{List, [], ◌∷◌, Memᴰ}
use native.Mathlib.Omega.{arith}
use native.Mathlib.Decide.{dec_lt}
use lib.ListN.{length}
use Rattle.window.specs.Figures.{least_from, least_of, greatest_from, greatest_of, IsLeast, IsGreatest}

-- of two that are first, one is the lesser or greater, c
first_of_two : (c a b : ℕ) (xs : List ℕ) (m : ℕ) → (c ≡ a) ⊎ (c ≡ b) → Memᴰ m (c ∷ xs) → Memᴰ m (a ∷ b ∷ xs)
first_of_two c a b xs m which u = go which (Memᴰ.cases_cons u)
  where
    go : (c ≡ a) ⊎ (c ≡ b) → (m ≡ c) ⊎ Memᴰ m xs → Memᴰ m (a ∷ b ∷ xs)
    go (inl e) (inl d) = Memᴰ.head (d ∙ e)
    go (inr e) (inl d) = Memᴰ.tail (Memᴰ.head (d ∙ e))
    go which (inr v) = Memᴰ.tail (Memᴰ.tail v)

min_either : (a b : ℕ) → (min a b ≡ a) ⊎ (min a b ≡ b)
min_either a b = go (dec_lt b a)
  where
    go : Dec (b < a) → (min a b ≡ a) ⊎ (min a b ≡ b)
    go (yes l) = inr (omega arith)
    go (no l) = inl (omega arith)

max_either : (a b : ℕ) → (max a b ≡ a) ⊎ (max a b ≡ b)
max_either a b = go (dec_lt a b)
  where
    go : Dec (a < b) → (max a b ≡ a) ⊎ (max a b ≡ b)
    go (yes l) = inr (omega arith)
    go (no l) = inl (omega arith)

least_from_lem : (m : ℕ) (xs : List ℕ) → IsLeast (least_from m xs) (m ∷ xs)
unfolding least_from
least_from_lem m [] = record { among = Memᴰ.head refl; none_less = λ x u. go x (Memᴰ.cases_cons u) }
  where
    go : (x : ℕ) → (x ≡ m) ⊎ Memᴰ x [] → m ≤ x
    go x (inl e) = omega arith
    go x (inr u) = absurd (Memᴰ.not-nil u)
least_from_lem m (y ∷ ys) = more (least_from_lem (min m y) ys)
  where
    more : IsLeast (least_from (min m y) ys) (min m y ∷ ys) → IsLeast (least_from (min m y) ys) (m ∷ y ∷ ys)
    more h = record { among = first_of_two (min m y) m y ys _ (min_either m y) h.among; none_less = λ x u. go x (Memᴰ.cases_cons u) }
      where
        first : least_from (min m y) ys ≤ min m y
        first = h.none_less (min m y) (Memᴰ.head refl)

        next : (x : ℕ) → (x ≡ y) ⊎ Memᴰ x ys → least_from (min m y) ys ≤ x
        next x (inl e) = omega (arith, first)
        next x (inr u) = h.none_less x (Memᴰ.tail u)

        go : (x : ℕ) → (x ≡ m) ⊎ Memᴰ x (y ∷ ys) → least_from (min m y) ys ≤ x
        go x (inl e) = omega (arith, first)
        go x (inr u) = next x (Memᴰ.cases_cons u)

greatest_from_lem : (m : ℕ) (xs : List ℕ) → IsGreatest (greatest_from m xs) (m ∷ xs)
unfolding greatest_from
greatest_from_lem m [] = record { among = Memᴰ.head refl; none_greater = λ x u. go x (Memᴰ.cases_cons u) }
  where
    go : (x : ℕ) → (x ≡ m) ⊎ Memᴰ x [] → x ≤ m
    go x (inl e) = omega arith
    go x (inr u) = absurd (Memᴰ.not-nil u)
greatest_from_lem m (y ∷ ys) = more (greatest_from_lem (max m y) ys)
  where
    more : IsGreatest (greatest_from (max m y) ys) (max m y ∷ ys) → IsGreatest (greatest_from (max m y) ys) (m ∷ y ∷ ys)
    more h = record { among = first_of_two (max m y) m y ys _ (max_either m y) h.among; none_greater = λ x u. go x (Memᴰ.cases_cons u) }
      where
        first : max m y ≤ greatest_from (max m y) ys
        first = h.none_greater (max m y) (Memᴰ.head refl)

        next : (x : ℕ) → (x ≡ y) ⊎ Memᴰ x ys → x ≤ greatest_from (max m y) ys
        next x (inl e) = omega (arith, first)
        next x (inr u) = h.none_greater x (Memᴰ.tail u)

        go : (x : ℕ) → (x ≡ m) ⊎ Memᴰ x (y ∷ ys) → x ≤ greatest_from (max m y) ys
        go x (inl e) = omega (arith, first)
        go x (inr u) = next x (Memᴰ.cases_cons u)

pub least_exact : (xs : List ℕ) → 1 ≤ length xs → IsLeast (least_of xs) xs
unfolding least_of
least_exact [] l = absurd (omega arith)
least_exact (x ∷ xs) l = least_from_lem x xs

pub greatest_exact : (xs : List ℕ) → 1 ≤ length xs → IsGreatest (greatest_of xs) xs
unfolding greatest_of
greatest_exact [] l = absurd (omega arith)
greatest_exact (x ∷ xs) l = greatest_from_lem x xs

-- so the least is not above the greatest
pub least_le_greatest : (xs : List ℕ) → 1 ≤ length xs → least_of xs ≤ greatest_of xs
least_le_greatest xs l = (least_exact xs l).none_less (greatest_of xs) (greatest_exact xs l).among
