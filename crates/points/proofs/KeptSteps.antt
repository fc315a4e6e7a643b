-- The definitions of `specs/Kept`, as equations: for the crates above, which go along them and do not unfold them.
-- Assumes nothing.
use Prim.Native.Nat.{ℕ, zero, suc}
use mathlib.Core.Path.{◌≡◌, refl}
use mathlib.Core.Bool.{Bool, cond}
use mathlib.Core.List.{List, [], ◌∷◌}
use mathlib.Core.Option.{none, some}
use lib.Dec.{leb}
use lib.ListN.{length}
use Rattle.points.specs.Kept.{firsts, last_of, placed, bound_of, gathered}

module _ {A : Type 0} where
  -- the first n
  pub firsts_none : (list : List A) → firsts 0 list ≡ []
  unfolding firsts
  firsts_none list = refl

  pub firsts_empty : (n : ℕ) → firsts {A = A} n [] ≡ []
  unfolding firsts
  firsts_empty zero = refl
  firsts_empty (suc n) = refl

  pub firsts_more : (n : ℕ) (x : A) (list : List A) → firsts (suc n) (x ∷ list) ≡ x ∷ firsts n list
  unfolding firsts
  firsts_more n x list = refl

  -- the bound
  pub bound_is : (most : ℕ) (kept : List A) → bound_of most kept ≡ cond (leb most (length kept)) (last_of kept) none
  unfolding bound_of
  bound_is most kept = refl

  module _ (over : A → A → Bool) where
    -- an element put into its place
    pub placed_alone : (x : A) → placed over x [] ≡ x ∷ []
    unfolding placed
    placed_alone x = refl

    pub placed_among : (x y : A) (list : List A)
        → placed over x (y ∷ list) ≡ cond (over y x) (y ∷ placed over x list) (cond (over x y) (x ∷ (y ∷ list)) (y ∷ list))
    unfolding placed
    placed_among x y list = refl

    -- what is gathered
    pub gathered_none : (most : ℕ) (kept : List A) → gathered over most kept none ≡ kept
    unfolding gathered
    gathered_none most kept = refl

    pub gathered_some : (most : ℕ) (kept : List A) (x : A) → gathered over most kept (some x) ≡ firsts most (placed over x kept)
    unfolding gathered
    gathered_some most kept x = refl
