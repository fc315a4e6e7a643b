-- A list that is right for its candidates is the only one (`right_unique`): it is the first `most` of them in order (`right_firsts`).
-- Assumes nothing.
use Prim.Native.Nat.{ℕ, zero, suc}
use mathlib.Core.Path.{◌≡◌, refl, sym, ◌∙◌, subst}
use mathlib.Core.Logic.{◌↔◌, ◌⊎◌, inl, inr}
use mathlib.Core.Bool.{Bool, true, false, true≢false}
use mathlib.Core.List.Memᴰ
use mathlib.Core.List.{List, [], ◌∷◌, map, Memᴰ}
use native.Mathlib.Omega.{arith}
use lib.ListN.{length-map}
use Rattle.points.specs.declared.point.Point.{Point}
use Rattle.points.specs.Kept.{firsts, placed, in_order, Ordered, Each, OverAll, AllOver, Sorted, HasPoint, Decided, Right}
use Rattle.points.proofs.OrderLaws.{point_dec}
use Rattle.points.proofs.KeptLaws.{firsts_length, firsts_each, each_moves, one_point, over_in, firsts_sorted, firsts_in, placed_old, placed_new, placed_sorted, placed_each}

-- each of a list is in it
each_in : {A : Type 0} (list : List A) → Each (λ x. Memᴰ x list) list
each_in [] = tt
each_in {A} (x ∷ list) =
    (Memᴰ.head refl, each_moves (λ (y : A). Memᴰ y list) (λ (y : A). Memᴰ y (x ∷ list)) (λ y m. Memᴰ.tail m) list (each_in list))

module _ {A : Type 0} (point : A → Point) (over : A → A → Bool) (order : Ordered point over) where
  -- ---- all in order

  pub in_order_sorted : (list : List A) → Sorted over (in_order over list)
  unfolding in_order
  in_order_sorted [] = tt
  in_order_sorted (x ∷ list) = placed_sorted point over order x (in_order over list) (in_order_sorted list)

  pub in_order_each : (Is : A → Type 0) (list : List A) → Each Is list → Each Is (in_order over list)
  unfolding in_order
  in_order_each Is [] e = tt
  in_order_each Is (x ∷ list) e = placed_each point over order Is x (in_order over list) e.0 (in_order_each Is list e.1)

  -- each has its point there
  pub in_order_has : (list : List A) (x : A) → Memᴰ x list → HasPoint point (in_order over list) (point x)
  unfolding in_order
  in_order_has [] x m = absurd (Memᴰ.not-nil m)
  in_order_has (y ∷ list) x m = go (in_order_has list x) (Memᴰ.cases_cons m)
    where
      go : (Memᴰ x list → HasPoint point (in_order over list) (point x)) → (x ≡ y) ⊎ Memᴰ x list → HasPoint point (placed over y (in_order over list)) (point x)
      go ih (inl e) = rw e (placed_new point over order y (in_order over list))
      go ih (inr n) = placed_old point over order y (in_order over list) (point x) (ih n)

  -- the first of them all in order are right
  pub firsts_right : (most : ℕ) (list : List A) → Right point over most (λ x. Memᴰ x list) (firsts most (in_order over list))
  firsts_right most list = record {
    found = firsts_each (λ x. Memᴰ x list) most (in_order over list) (in_order_each (λ x. Memᴰ x list) list (each_in list));
    sorted = firsts_sorted point over order most (in_order over list) (in_order_sorted list);
    within = firsts_length most (in_order over list);
    others = λ x m. firsts_in point over order most x (in_order over list) (in_order_sorted list) (in_order_has list x m);
  }

  -- only which elements are candidates counts
  pub right_moves : (most : ℕ) (P Q : A → Type 0) (kept : List A) → ((x : A) → P x ↔ Q x) → Right point over most P kept → Right point over most Q kept
  right_moves most P Q kept same v = record {
    found = each_moves P Q (λ x i. (same x).0 i) kept v.found;
    sorted = v.sorted;
    within = v.within;
    others = λ x i. v.others x ((same x).1 i);
  }

  -- ---- the first of a right list

  module _ (most : ℕ) (P : A → Type 0) (x : A) (list : List A) (v : Right point over most P (x ∷ list)) where
    -- it is chosen over every other candidate
    pub right_first : (y : A) → P y → ¬ (point y ≡ point x) → over x y ≡ true
    right_first y i n = elim (v.others y i) [
      | inl (inl e) ↦ absurd (n e)
      | inl (inr m) ↦ over_in point over order x y list v.sorted.0 m
      | inr a ↦ a.1.0
    ]

    -- so no candidate is chosen over it
    first_unbeaten : (y : A) → P y → over y x ≡ false
    first_unbeaten y i = elim (point_dec (point y) (point x)) [ yes e ↦ order.irreflexive y x e | no n ↦ go (over y x) refl (right_first y i n) ]
      where
        go : (b : Bool) → over y x ≡ b → over x y ≡ true → over y x ≡ false
        go false e f = e
        go true e f = absurd (true≢false (sym (order.transitive x y x f e) ∙ order.irreflexive x x refl))

  -- ---- there is one right list

  -- the other candidates
  abbrev Others : (A → Type 0) → Point → A → Type 0
  Others P p x = P x × (¬ (point x ≡ p))

  found_others : (P : A → Type 0) (x : A) (list : List A) → OverAll over x list → Each P list → Each (Others P (point x)) list
  found_others P x [] u f = tt
  found_others P x (y ∷ list) u f =
      ((f.0, λ e. true≢false (sym u.0 ∙ order.irreflexive x y (sym e))), found_others P x list u.1 f.1)

  -- the rest of a right list is right for the other candidates
  rest_right : (n : ℕ) (P : A → Type 0) (x : A) (list : List A) → Right point over (suc n) P (x ∷ list) → Right point over n (Others P (point x)) list
  rest_right n P x list v = record {
    found = found_others P x list v.sorted.0 v.found.1;
    sorted = v.sorted.1;
    within = omega (arith, v.within);
    others = λ y i. elim (v.others y i.0) [
      | inl (inl m) ↦ absurd (i.1 m)
      | inl (inr m) ↦ inl m
      | inr a ↦ inr (omega (arith, a.0), a.1.1)
    ];
  }

  -- where candidates with one point are one, two right lists are one
  pub right_unique : (most : ℕ) (P : A → Type 0) → ((x y : A) → P x → P y → point x ≡ point y → x ≡ y)
      → (xs ys : List A) → Right point over most P xs → Right point over most P ys → xs ≡ ys
  right_unique most P once [] [] v w = refl
  right_unique most P once [] (y ∷ ys) v w = elim (v.others y w.found.0) [ inl m ↦ absurd m | inr a ↦ absurd (omega (arith, a.0, w.within)) ]
  right_unique most P once (x ∷ xs) [] v w = elim (w.others x v.found.0) [ inl m ↦ absurd m | inr a ↦ absurd (omega (arith, a.0, v.within)) ]
  right_unique zero P once (x ∷ xs) (y ∷ ys) v w = absurd (omega (arith, v.within))
  right_unique (suc n) P once (x ∷ xs) (y ∷ ys) v w =
      let points : point x ≡ point y = one_point point over order x y (first_unbeaten (suc n) P y ys w x v.found.0) (first_unbeaten (suc n) P x xs v y w.found.0) in
      let same : x ≡ y = once x y v.found.0 w.found.0 points in
      let tails : xs ≡ ys = right_unique n (Others P (point x)) (λ a b i j. once a b i.0 j.0) xs ys (rest_right n P x xs v)
      (subst (λ (p : Point). Right point over n (Others P p) ys) (sym points) (rest_right n P y ys w)) in
      λ i. same i ∷ tails i

  -- so it is the first of them all in order
  pub right_firsts : (most : ℕ) (list : List A) → ((x y : A) → Memᴰ x list → Memᴰ y list → point x ≡ point y → x ≡ y)
      → (kept : List A) → Right point over most (λ x. Memᴰ x list) kept → kept ≡ firsts most (in_order over list)
  right_firsts most list once kept v = right_unique most (λ x. Memᴰ x list) once kept (firsts most (in_order over list)) v (firsts_right most list)

-- ---- the same list in other elements

module _ {A B : Type 0} (point : A → Point) (over : A → A → Bool) (point' : B → Point) (over' : B → B → Bool) (f : A → B)
    (points : (x : A) → point' (f x) ≡ point x) (overs : (x y : A) → over' (f x) (f y) ≡ over x y) where
  map_over_all : (x : A) (list : List A) → OverAll over x list → OverAll over' (f x) (map f list)
  map_over_all x [] u = tt
  map_over_all x (y ∷ list) u = (overs x y ∙ u.0, map_over_all x list u.1)

  map_all_over : (list : List A) (x : A) → AllOver over list x → AllOver over' (map f list) (f x)
  map_all_over [] x a = tt
  map_all_over (y ∷ list) x a = (overs y x ∙ a.0, map_all_over list x a.1)

  map_sorted : (list : List A) → Sorted over list → Sorted over' (map f list)
  map_sorted [] s = tt
  map_sorted (x ∷ list) s = (map_over_all x list s.0, map_sorted list s.1)

  map_has : (list : List A) (p : Point) → HasPoint point list p → HasPoint point' (map f list) p
  map_has [] p m = absurd m
  map_has (x ∷ list) p (inl e) = inl (e ∙ sym (points x))
  map_has (x ∷ list) p (inr m) = inr (map_has list p m)

  map_each : (P : A → Type 0) (Q : B → Type 0) → ((x : A) → P x → Q (f x)) → (list : List A) → Each P list → Each Q (map f list)
  map_each P Q g [] e = tt
  map_each P Q g (x ∷ list) e = (g x e.0, map_each P Q g list e.1)

  -- where the candidates are those of the other elements
  pub right_map : (most : ℕ) (P : A → Type 0) (Q : B → Type 0) (kept : List A) → ((x : A) → P x → Q (f x)) → ((y : B) → Q y → (x : A) × (P x × (y ≡ f x)))
      → Right point over most P kept → Right point' over' most Q (map f kept)
  right_map most P Q kept there back v = record {
    found = map_each P Q there kept v.found;
    sorted = map_sorted kept v.sorted;
    within = omega (arith, length-map kept f, v.within);
    others = λ y i. others y (back y i);
  }
    where
      others : (y : B) → (x : A) × (P x × (y ≡ f x)) → Decided point' over' most (map f kept) y
      others y b = rw b.1.1 (elim (v.others b.0 b.1.0) [
        | inl m ↦ inl (rw (points b.0) (map_has kept (point b.0) m))
        | inr a ↦ inr (omega (arith, length-map kept f, a.0), map_all_over kept b.0 a.1)
      ])
