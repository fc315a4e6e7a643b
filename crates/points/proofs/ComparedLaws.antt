-- A comparison goes axis by axis (`compared_at_next`) and ends at the first that differs, or at the last (`compared_at_end`, `compared_at_last`); `to_come` is the same as its
-- loop has it. What it tells of the number of axes that it looked at, in words, is `looked_first`, and `looked_only`: these words fit no other number.
use Prim.Native.Nat.{ℕ, zero, suc, ◌+◌, ◌-◌, ◌≤◌, ◌<◌}
use mathlib.Core.Path.{◌≡◌, refl, sym, ap, ◌∙◌, subst}
use mathlib.Core.Logic.{◌⊎◌, inl, inr}
use mathlib.Core.Bool.{Bool, true, false, cond}
use native.Mathlib.Omega.{arith}
use native.Mathlib.Numerals.{add-one}
use borrow.Author.Tests.{ltb-true, ltb-false, lt-ltb, le-ltb}
use lib.Dec.{ltb}
use Rattle.points.specs.declared.point.Point.{Point}
use Rattle.std.specs.declared.cmp.Ordering.{Ordering}
use Rattle.std.specs.declared.cmp.Ordering.TheVariants.{Less, Equal, Greater}
use Rattle.std.specs.Ordering.{ordering_then, is_ne}
use Rattle.points.specs.declared.order.Compared.{Compared}
use Rattle.points.specs.Point.{coordinate_of}
use Rattle.points.specs.Order.{by_axis, order_of, is_equal, looked_of, compared_of, Looked}
use Rattle.points.proofs.Tests.{no! }
use Rattle.points.proofs.OrderLaws.{axis_equal, axis_same, points_equal}

-- the order from axis k on, with n axes after it, and how many axes it takes
order_from : Point → Point → ℕ → ℕ → Ordering
order_from a b zero k = by_axis a b k
order_from a b (suc n) k = ordering_then (by_axis a b k) (order_from a b n (suc k))

looked_from : Point → Point → ℕ → ℕ → ℕ
looked_from a b zero k = k
looked_from a b (suc n) k = cond (is_equal (by_axis a b k)) (looked_from a b n (suc k)) k

-- what a comparison tells where it ends
abbrev pub told : Ordering → ℕ → Compared
told order looked = record { order = order; looked = looked }

pub compared_from : Point → Point → ℕ → ℕ → Compared
compared_from a b n k = told (order_from a b n k) (looked_from a b n k)

module _ (a b : Point) where
  pub compared_first : compared_of a b ≡ compared_from a b 4 1
  unfolding compared_of order_of looked_of compared_from order_from looked_from
  compared_first = refl

  -- an axis that is equal is passed
  pub compared_on : (n k : ℕ) → is_equal (by_axis a b k) ≡ true → compared_from a b (suc n) k ≡ compared_from a b n (suc k)
  unfolding compared_from order_from looked_from
  compared_on n k e = go (by_axis a b k) e
    where
      go : (o : Ordering) → is_equal o ≡ true
          → told (ordering_then o (order_from a b n (suc k))) (cond (is_equal o) (looked_from a b n (suc k)) k) ≡ told (order_from a b n (suc k)) (looked_from a b n (suc k))
      go Less e = no! e
      go Equal e = refl
      go Greater e = no! e

  -- the comparison ends at one that differs
  compared_ends : (n k : ℕ) → is_equal (by_axis a b k) ≡ false → compared_from a b n k ≡ told (by_axis a b k) k
  unfolding compared_from order_from looked_from
  compared_ends zero k e = refl
  compared_ends (suc n) k e = go (by_axis a b k) e
    where
      go : (o : Ordering) → is_equal o ≡ false → told (ordering_then o (order_from a b n (suc k))) (cond (is_equal o) (looked_from a b n (suc k)) k) ≡ told o k
      go Less e = refl
      go Equal e = no! (sym e)
      go Greater e = refl

  -- and at the last
  compared_last : (k : ℕ) → compared_from a b 0 k ≡ told (by_axis a b k) k
  unfolding compared_from order_from looked_from
  compared_last k = refl

  -- ---- the comparison from axis k on
  pub compared_at : ℕ → Compared
  compared_at k = compared_from a b (5 - k) k

  pub compared_at_first : compared_of a b ≡ compared_at 1
  unfolding compared_at
  compared_at_first = compared_first

  pub compared_at_next : (k : ℕ) → k < 5 → is_ne (by_axis a b k) ≡ false → compared_at k ≡ compared_at (k + 1)
  unfolding compared_at
  compared_at_next k h e =
      let one : 5 - k ≡ suc (5 - (k + 1)) = omega arith in
      ap (λ (n : ℕ). compared_from a b n k) one ∙ compared_on (5 - (k + 1)) k (go (by_axis a b k) e) ∙ ap (compared_from a b (5 - (k + 1))) (sym (add-one k))
    where
      go : (o : Ordering) → is_ne o ≡ false → is_equal o ≡ true
      go Less e = no! (sym e)
      go Equal e = refl
      go Greater e = no! (sym e)

  pub compared_at_end : (k : ℕ) → is_ne (by_axis a b k) ≡ true → compared_at k ≡ told (by_axis a b k) k
  unfolding compared_at
  compared_at_end k e = compared_ends (5 - k) k (go (by_axis a b k) e)
    where
      go : (o : Ordering) → is_ne o ≡ true → is_equal o ≡ false
      go Less e = refl
      go Equal e = no! e
      go Greater e = refl

  pub compared_at_last : compared_at 5 ≡ told (by_axis a b 5) 5
  unfolding compared_at
  compared_at_last = compared_last 5

  -- ---- what a comparison comes to, before axis k and with what it has told so far: from axis k on, or that where no axis is left
  pub to_come : ℕ → Compared → Compared
  to_come k c = cond (ltb k 6) (compared_at k) c

  pub to_come_first : (c : Compared) → compared_of a b ≡ to_come 1 c
  unfolding to_come
  to_come_first c = compared_at_first

  to_come_is : (k : ℕ) (c : Compared) → k < 6 → to_come k c ≡ compared_at k
  unfolding to_come
  to_come_is k c h = rw (lt-ltb k 6 h) refl

  pub to_come_last : (k : ℕ) (c : Compared) → 6 ≤ k → to_come k c ≡ c
  unfolding to_come
  to_come_last k c h = rw (le-ltb k 6 h) refl

  -- an axis that is equal is passed, and the comparison ends at one that differs
  pub to_come_next : (k : ℕ) (c : Compared) → k < 6 → is_ne (by_axis a b k) ≡ false → to_come k c ≡ to_come (k + 1) (told (by_axis a b k) k)
  to_come_next k c h e = to_come_is k c h ∙ go (ltb k 5) refl
    where
      go : (t : Bool) → ltb k 5 ≡ t → compared_at k ≡ to_come (k + 1) (told (by_axis a b k) k)
      go true f = let l = ltb-true k 5 f in compared_at_next k l e ∙ sym (to_come_is (k + 1) (told (by_axis a b k) k) (omega arith))
      go false f =
          let five : k ≡ 5 = omega (arith, ltb-false k 5 f) in
          rw five (compared_at_last ∙ sym (to_come_last 6 (told (by_axis a b 5) 5) (omega arith)))

  pub to_come_end : (k : ℕ) (c : Compared) → k < 6 → is_ne (by_axis a b k) ≡ true → to_come k c ≡ told (by_axis a b k) k
  to_come_end k c h e = to_come_is k c h ∙ compared_at_end k e

  -- ---- how many axes are looked at

  -- the axes before n are equal
  abbrev Alike : ℕ → Type 0
  Alike n = (k : ℕ) → 1 ≤ k → k < n → coordinate_of a k ≡ coordinate_of b k

  alike_on : (n : ℕ) → Alike n → coordinate_of a n ≡ coordinate_of b n → Alike (suc n)
  alike_on n f e k h l = go (ltb k n) refl
    where
      go : (t : Bool) → ltb k n ≡ t → coordinate_of a k ≡ coordinate_of b k
      go true g = f k h (ltb-true k n g)
      go false g = let q : k ≡ n = omega (arith, ltb-false k n g) in rw q e

  alike_all : Alike 6 → a ≡ b
  alike_all f =
      points_equal a b (f 1 (omega arith) (omega arith)) (f 2 (omega arith) (omega arith)) (f 3 (omega arith) (omega arith)) (f 4 (omega arith) (omega arith))
      (f 5 (omega arith) (omega arith))

  is_equal_lem : (k : ℕ) → is_equal (by_axis a b k) ≡ true → coordinate_of a k ≡ coordinate_of b k
  is_equal_lem k e = axis_equal a b k (go (by_axis a b k) e)
    where
      go : (o : Ordering) → is_equal o ≡ true → o ≡ Equal
      go Less e = no! e
      go Equal e = refl
      go Greater e = no! e

  differs : (k : ℕ) → is_equal (by_axis a b k) ≡ false → ¬ (coordinate_of a k ≡ coordinate_of b k)
  differs k e q = no! (sym e ∙ ap is_equal (axis_same a b k q))

  looked_from_lem : (n k : ℕ) → 1 ≤ k → n + k ≡ 5 → Alike k → Looked a b (looked_from a b n k)
  unfolding looked_from
  looked_from_lem zero k l s f = record { least = l; most = omega arith; before = f; ends = go (is_equal (by_axis a b k)) refl }
    where
      go : (t : Bool) → is_equal (by_axis a b k) ≡ t → ¬ (coordinate_of a k ≡ coordinate_of b k) ⊎ ((k ≡ 5) × (a ≡ b))
      go true e = let five : k ≡ 5 = omega arith in inr (five, alike_all (subst (λ n. Alike (suc n)) five (alike_on k f (is_equal_lem k e))))
      go false e = inl (differs k e)
  looked_from_lem (suc n) k l s f = go (is_equal (by_axis a b k)) refl (looked_from_lem n (suc k) (omega arith) (omega arith))
    where
      go : (t : Bool) → is_equal (by_axis a b k) ≡ t → (Alike (suc k) → Looked a b (looked_from a b n (suc k))) → Looked a b (cond t (looked_from a b n (suc k)) k)
      go true e ih = ih (alike_on k f (is_equal_lem k e))
      go false e ih = record { least = l; most = omega arith; before = f; ends = inl (differs k e) }

  -- the number that a comparison tells is that of the first axis that differs, or 5 where none does
  pub looked_first : Looked a b (looked_of a b)
  unfolding looked_of looked_from
  looked_first = looked_from_lem 4 1 (omega arith) refl (λ k h l. absurd (omega arith))

  looked_least : (n m : ℕ) → Looked a b n → Looked a b m → m ≤ n
  looked_least n m x y = go (ltb n m) refl
    where
      go : (t : Bool) → ltb n m ≡ t → m ≤ n
      go true e = elim x.ends [
        | inl d ↦ absurd (d (y.before n x.least (ltb-true n m e)))
        | inr p ↦ omega (arith, p.0, y.most, ltb-true n m e)
      ]
      go false e = ltb-false n m e

  -- and no other number is
  pub looked_only : (n : ℕ) → Looked a b n → n ≡ looked_of a b
  looked_only n x = omega (arith, looked_least n (looked_of a b) x looked_first, looked_least (looked_of a b) n looked_first x)

  -- what a comparison tells: the order of the points, and that number
  pub compared_tells : ((compared_of a b).order ≡ order_of a b) × Looked a b (compared_of a b).looked
  unfolding compared_of
  compared_tells = (refl, looked_first)

pub ruleset comparison = (to_come_first, to_come_next, to_come_end, to_come_last)
