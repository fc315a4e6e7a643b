-- The figures of some readings and one more (`figures_more`), as one loop works them out (`running_first`, `running_more`, `running_all`), and as iterators do
-- (`sum_is`, `least_is`, `greatest_is`).
use Prim.Native.Nat.{ℕ, ◌+◌, ◌*◌, ◌≤◌, ◌<◌, min, max}
use mathlib.Core.Path.{◌≡◌, refl, sym, ap, ◌∙◌}
use mathlib.Core.List.{List, [], ◌∷◌, ◌++◌}
use native.Mathlib.Omega.{arith}
use native.Mathlib.Numerals.{add-one}
use lib.ListN.{length, take, get_or}
use lib.Seq.{take-suc, take-length, length-take-le}
use Rattle.std.specs.List.{sum, fold, reduce}
use Rattle.std.specs.Option.{unwrap_or}
use Rattle.std.proofs.lemmas.List.Recursion.{is_sum_by}
use Rattle.window.specs.Figures.{sum_of, least_from, least_of, greatest_from, greatest_of}
use Rattle.window.specs.Window.{wettest}
use Rattle.window.proofs.WindowLaws.{AllIn, in_at}

sum_snoc : (xs : List ℕ) (y : ℕ) → sum_of (xs ++ (y ∷ [])) ≡ sum_of xs + y
unfolding sum_of
sum_snoc [] y = omega arith
sum_snoc (x ∷ xs) y = omega (arith, sum_snoc xs y)

least_from_snoc : (m : ℕ) (xs : List ℕ) (y : ℕ) → least_from m (xs ++ (y ∷ [])) ≡ min (least_from m xs) y
unfolding least_from
least_from_snoc m [] y = refl
least_from_snoc m (x ∷ xs) y = least_from_snoc (min m x) xs y

least_snoc : (xs : List ℕ) (y : ℕ) → 1 ≤ length xs → least_of (xs ++ (y ∷ [])) ≡ min (least_of xs) y
unfolding least_of
least_snoc [] y l = absurd (omega arith)
least_snoc (x ∷ xs) y l = least_from_snoc x xs y

greatest_from_snoc : (m : ℕ) (xs : List ℕ) (y : ℕ) → greatest_from m (xs ++ (y ∷ [])) ≡ max (greatest_from m xs) y
unfolding greatest_from
greatest_from_snoc m [] y = refl
greatest_from_snoc m (x ∷ xs) y = greatest_from_snoc (max m x) xs y

greatest_snoc : (xs : List ℕ) (y : ℕ) → 1 ≤ length xs → greatest_of (xs ++ (y ∷ [])) ≡ max (greatest_of xs) y
unfolding greatest_of
greatest_snoc [] y l = absurd (omega arith)
greatest_snoc (x ∷ xs) y l = greatest_from_snoc x xs y

-- the figures of one reading more
pub record More (xs : List ℕ) (i : ℕ) : Type 0 where
  pub sum : sum_of (take (i + 1) xs) ≡ sum_of (take i xs) + get_or xs i 0
  pub least : least_of (take (i + 1) xs) ≡ min (least_of (take i xs)) (get_or xs i 0)
  pub greatest : greatest_of (take (i + 1) xs) ≡ max (greatest_of (take i xs)) (get_or xs i 0)

take_more : (xs : List ℕ) (i : ℕ) → i < length xs → take (i + 1) xs ≡ take i xs ++ (get_or xs i 0 ∷ [])
take_more xs i l = ap (λ (k : ℕ). take k xs) (add-one i) ∙ take-suc xs i 0 l

pub figures_more : (xs : List ℕ) (i : ℕ) → 1 ≤ i → i < length xs → More xs i
figures_more xs i p l =
    let e = take_more xs i l in
    let n : length (take i xs) ≡ i = length-take-le i xs (omega arith) in
    record {
      sum = ap sum_of e ∙ sum_snoc (take i xs) (get_or xs i 0);
      least = ap least_of e ∙ least_snoc (take i xs) (get_or xs i 0) (omega arith);
      greatest = ap greatest_of e ∙ greatest_snoc (take i xs) (get_or xs i 0) (omega arith);
    }

-- the figures of the first reading alone
pub record First (xs : List ℕ) : Type 0 where
  pub sum : sum_of (take 1 xs) ≡ get_or xs 0 0
  pub least : least_of (take 1 xs) ≡ get_or xs 0 0
  pub greatest : greatest_of (take 1 xs) ≡ get_or xs 0 0

pub figures_first : (xs : List ℕ) → 1 ≤ length xs → First xs
unfolding sum_of least_of greatest_of least_from greatest_from
figures_first [] l = absurd (omega arith)
figures_first (x ∷ xs) l = record { sum = omega arith; least = refl; greatest = refl }

-- ---- by one loop, which begins with no reading: the sum at 0, the least at 100 %, the greatest at 0

-- what it has of the first i
pub record Running (xs : List ℕ) (i s l g : ℕ) : Type 0 where
  pub sum : s ≡ sum_of (take i xs)
  pub most : s ≤ wettest * i
  pub least : l ≡ least_from wettest (take i xs)
  pub greatest : g ≡ greatest_from 0 (take i xs)

pub running_first : (xs : List ℕ) → Running xs 0 0 wettest 0
unfolding sum_of least_from greatest_from
running_first xs = record { sum = refl; most = omega arith; least = refl; greatest = refl }

pub running_more : (xs : List ℕ) (i s l g : ℕ) → AllIn xs → i < length xs → Running xs i s l g → Running xs (i + 1) (s + get_or xs i 0) (min l (get_or xs i 0)) (max g (get_or xs i 0))
running_more xs i s l g all h r =
    let e = take_more xs i h in
    let x : ℕ = get_or xs i 0 in
    record {
      sum = ap (λ (k : ℕ). k + x) r.sum ∙ sym (ap sum_of e ∙ sum_snoc (take i xs) x);
      most = omega (arith, r.most, in_at xs all i);
      least = ap (λ (k : ℕ). min k x) r.least ∙ sym (ap (least_from wettest) e ∙ least_from_snoc wettest (take i xs) x);
      greatest = ap (λ (k : ℕ). max k x) r.greatest ∙ sym (ap (greatest_from 0) e ∙ greatest_from_snoc 0 (take i xs) x);
    }

least_begun : (xs : List ℕ) → AllIn xs → 1 ≤ length xs → least_from wettest xs ≡ least_of xs
unfolding least_of least_from
least_begun [] a l = absurd (omega arith)
least_begun (x ∷ xs) a l = let e : min wettest x ≡ x = omega (arith, a.0) in ap (λ (m : ℕ). least_from m xs) e

greatest_begun : (xs : List ℕ) → 1 ≤ length xs → greatest_from 0 xs ≡ greatest_of xs
unfolding greatest_of greatest_from
greatest_begun [] l = absurd (omega arith)
greatest_begun (x ∷ xs) l = let e : max 0 x ≡ x = omega arith in ap (λ (m : ℕ). greatest_from m xs) e

-- and of all, where there is one at least
pub record Whole (xs : List ℕ) (s l g : ℕ) : Type 0 where
  pub sum : s ≡ sum_of xs
  pub least : l ≡ least_of xs
  pub greatest : g ≡ greatest_of xs

pub running_all : (xs : List ℕ) (i s l g : ℕ) → AllIn xs → 1 ≤ length xs → i ≡ length xs → Running xs i s l g → Whole xs s l g
running_all xs i s l g all some e r =
    let whole : take i xs ≡ xs = ap (λ (k : ℕ). take k xs) e ∙ take-length xs in
    record {
      sum = r.sum ∙ ap sum_of whole;
      least = r.least ∙ ap (least_from wettest) whole ∙ least_begun xs all some;
      greatest = r.greatest ∙ ap (greatest_from 0) whole ∙ greatest_begun xs some;
    }

-- ---- by iterators

pub sum_is : (xs : List ℕ) → sum_of xs ≡ sum xs
unfolding sum_of
sum_is xs = is_sum_by sum_of (λ x. x) refl (λ _ _. refl) xs

least_fold : (m : ℕ) (xs : List ℕ) → fold min m xs ≡ least_from m xs
unfolding least_from
least_fold m [] = refl
least_fold m (x ∷ xs) = least_fold (min m x) xs

pub least_is : (xs : List ℕ) (r : ℕ) → r ≡ unwrap_or (reduce min xs) 0 → r ≡ least_of xs
unfolding least_of
least_is [] r e = e
least_is (x ∷ xs) r e = e ∙ least_fold x xs

greatest_fold : (m : ℕ) (xs : List ℕ) → fold max m xs ≡ greatest_from m xs
unfolding greatest_from
greatest_fold m [] = refl
greatest_fold m (x ∷ xs) = greatest_fold (max m x) xs

pub greatest_is : (xs : List ℕ) (r : ℕ) → r ≡ unwrap_or (reduce max xs) 0 → r ≡ greatest_of xs
unfolding greatest_of
greatest_is [] r e = e
greatest_is (x ∷ xs) r e = e ∙ greatest_fold x xs
