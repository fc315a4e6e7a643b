-- Where one is asked for, the best is all that is kept: it is the bound (`one_bound`), and an element takes its place only if it is chosen over it
-- (`one_new`, `one_same`). A right list is then the one candidate that is chosen over every other, or there is no candidate (`right_none`, `none_right`, `one_right`).
-- Assumes nothing.
use Prim.Native.Nat.{ℕ, ◌≤◌}
use mathlib.Core.Path.{◌≡◌, refl, ap}
use mathlib.Core.Logic.{inl, inr}
use mathlib.Core.Bool.{Bool, true, false, cond}
use mathlib.Core.List.{List, [], ◌∷◌}
use mathlib.Core.Option.{Option, none, some}
use native.Mathlib.Omega.{arith}
use lib.Dec.{leb}
use borrow.Author.Tests.{le-leb}
use Rattle.points.specs.declared.point.Point.{Point}
use Rattle.points.specs.Kept.{firsts, list_of, placed, bound_of, gathered, Ordered, Right}
use Rattle.points.proofs.OrderLaws.{point_dec}
use Rattle.points.proofs.KeptLaws.{over_asym}

-- ---- what is kept

-- nothing kept gives no bound
pub bound_none : {A : Type 0} (most : ℕ) → bound_of {A = A} most [] ≡ none
unfolding bound_of
bound_none {A} most = go (leb most 0)
  where
    go : (b : Bool) → ◌≡◌ {A = Option A} (cond b none none) none
    go true = refl
    go false = refl

module _ {A : Type 0} (most : ℕ) (one : most ≡ 1) where
  pub one_bound : (o : Option A) → bound_of most (list_of o) ≡ o
  unfolding bound_of
  one_bound none = bound_none most
  one_bound (some x) = rw (le-leb most 1 (omega (arith, one)), cond)

  one_first : (x : A) (list : List A) → firsts most (x ∷ list) ≡ x ∷ []
  unfolding firsts
  one_first x list = ap (λ n. firsts n (x ∷ list)) one

  module _ (point : A → Point) (over : A → A → Bool) (order : Ordered point over) where
    -- the best itself changes nothing
    pub one_same : (o : Option A) → gathered over most (list_of o) o ≡ list_of o
    unfolding gathered placed
    one_same none = refl
    one_same (some x) = rw (order.irreflexive x x refl, cond) (one_first x [])

    -- the first is kept
    pub one_only : (x : A) → gathered over most [] (some x) ≡ x ∷ []
    unfolding gathered placed
    one_only x = one_first x []

    -- and one that is chosen over the best is kept in its place
    pub one_new : (x y : A) → over y x ≡ true → gathered over most (x ∷ []) (some y) ≡ y ∷ []
    unfolding gathered placed
    one_new x y e = go (over x y) refl
      where
        go : (b : Bool) → over x y ≡ b → gathered over most (x ∷ []) (some y) ≡ y ∷ []
        go true f = absurd (over_asym point over order x y f e)
        go false f = rw (f, e, cond) (one_first y (x ∷ []))

-- ---- what is right

module _ {A : Type 0} (point : A → Point) (over : A → A → Bool) where
  -- none is kept only where there is no candidate
  pub right_none : (most : ℕ) (P : A → Type 0) → 1 ≤ most → Right point over most P [] → (x : A) → P x → ⊥
  right_none most P l v x i = elim (v.others x i) [ inl m ↦ m | inr a ↦ omega (arith, a.0) ]

  pub none_right : (most : ℕ) (P : A → Type 0) → ((x : A) → P x → ⊥) → Right point over most P []
  none_right most P n = record { found = tt; sorted = tt; within = omega arith; others = λ x i. absurd (n x i) }

  -- one that is chosen over every other candidate is all that is kept
  pub one_right : (P : A → Type 0) (x : A) → P x → ((y : A) → P y → ¬ (point y ≡ point x) → over x y ≡ true) → Right point over 1 P (x ∷ [])
  one_right P x i f = record {
    found = (i, tt);
    sorted = (tt, tt);
    within = omega arith;
    others = λ y j. elim (point_dec (point y) (point x)) [ yes e ↦ inl (inl e) | no n ↦ inr (omega arith, (f y j n, tt)) ];
  }
