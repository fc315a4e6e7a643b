-- A list kept in the order of a choice. Whatever is put to it, it stays in order and no longer than was asked for, what was decided stays decided
-- (`gathered_old`), and what was put is decided (`gathered_new`).
-- Assumes nothing.
use Prim.Native.Nat.{ℕ, zero, suc, ◌≤◌}
use mathlib.Core.Path.{◌≡◌, refl, sym, ◌∙◌, ap}
use mathlib.Core.Logic.{◌⊎◌, inl, inr}
use mathlib.Core.Bool.{Bool, true, false, cond, true≢false}
use mathlib.Core.List.{List, [], ◌∷◌}
use mathlib.Core.Option.{Option, none, some, none-ne-some, some-injective}
use native.Mathlib.Omega.{arith}
use lib.Dec.{leb}
use lib.ListN.{length}
use borrow.Author.Tests.{leb-true}
use Rattle.points.specs.declared.point.Point.{Point}
use Rattle.points.specs.Kept.{firsts, last_of, placed, bound_of, gathered, Ordered, by_point, Each, OverAll, AllOver, Sorted, HasPoint, Beaten, Decided}
use Rattle.points.proofs.OrderLaws.{point_dec}

-- a choice between points that is a strict total order puts elements of any type in order
pub ordered_by : {A : Type 0} (point : A → Point) (over : Point → Point → Bool) → ((a : Point) → over a a ≡ false)
    → ((a b c : Point) → over a b ≡ true → over b c ≡ true → over a c ≡ true) → ((a b : Point) → ¬ (a ≡ b) → over a b ≡ false → over b a ≡ true)
    → Ordered point (by_point point over)
ordered_by point over irrefl trans total = record {
  irreflexive = λ x y e. ap (over (point x)) (sym e) ∙ irrefl (point x);
  transitive = λ x y z. trans (point x) (point y) (point z);
  total = λ x y. total (point x) (point y);
}

-- ---- the first n
module _ {A : Type 0} where
  pub firsts_length : (n : ℕ) (list : List A) → length (firsts n list) ≤ n
  unfolding firsts
  firsts_length zero list = omega arith
  firsts_length (suc n) [] = omega arith
  firsts_length (suc n) (x ∷ list) = omega (arith, firsts_length n list)

  pub firsts_full : (n : ℕ) (list : List A) → n ≤ length list → n ≤ length (firsts n list)
  unfolding firsts
  firsts_full zero list l = omega arith
  firsts_full (suc n) [] l = l
  firsts_full (suc n) (x ∷ list) l = let ih = firsts_full n list (omega (arith, l)) in omega arith

  -- a list that is no longer is all of it
  pub firsts_all : (n : ℕ) (list : List A) → length list ≤ n → firsts n list ≡ list
  unfolding firsts
  firsts_all zero [] l = refl
  firsts_all zero (x ∷ list) l = absurd (omega (arith, l))
  firsts_all (suc n) [] l = refl
  firsts_all (suc n) (x ∷ list) l = ap (λ (rest : List A). x ∷ rest) (firsts_all n list (omega (arith, l)))

  pub firsts_each : (Is : A → Type 0) (n : ℕ) (list : List A) → Each Is list → Each Is (firsts n list)
  unfolding firsts
  firsts_each Is zero list f = tt
  firsts_each Is (suc n) [] f = tt
  firsts_each Is (suc n) (x ∷ list) f = (f.0, firsts_each Is n list f.1)

  -- what holds of each of them holds of another thing too, where the one says the other
  pub each_moves : (Is Is' : A → Type 0) → ((x : A) → Is x → Is' x) → (list : List A) → Each Is list → Each Is' list
  each_moves Is Is' f [] e = tt
  each_moves Is Is' f (x ∷ list) e = (f x e.0, each_moves Is Is' f list e.1)

module _ {A : Type 0} (point : A → Point) (over : A → A → Bool) (order : Ordered point over) where
  -- ---- two elements

  -- neither is chosen over the other: they have one point
  pub one_point : (x y : A) → over x y ≡ false → over y x ≡ false → point x ≡ point y
  one_point x y e f = elim (point_dec (point x) (point y)) [ yes q ↦ q | no n ↦ absurd (true≢false (sym (order.total x y n e) ∙ f)) ]

  pub over_asym : (x y : A) → over x y ≡ true → over y x ≡ true → ⊥
  over_asym x y e f = true≢false (sym (order.transitive x y x e f) ∙ order.irreflexive x x refl)

  -- what is chosen over an element is chosen over each with its point
  over_moves : (x y z : A) → point y ≡ point z → over x y ≡ true → over x z ≡ true
  over_moves x y z e f = go (over x z) refl
    where
      go : (b : Bool) → over x z ≡ b → over x z ≡ true
      go true g = g
      go false g = elim (point_dec (point x) (point z)) [
        | yes q ↦ absurd (true≢false (sym f ∙ order.irreflexive x y (q ∙ sym e)))
        | no n ↦ absurd (true≢false (sym (order.transitive z x y (order.total x z n g) f) ∙ order.irreflexive z y (sym e)))
      ]

  -- ---- an element and a list

  pub over_in : (x y : A) (list : List A) → OverAll over x list → HasPoint point list (point y) → over x y ≡ true
  over_in x y [] u m = absurd m
  over_in x y (z ∷ list) u (inl e) = over_moves x z y (sym e) u.0
  over_in x y (z ∷ list) u (inr m) = over_in x y list u.1 m

  over_all_trans : (x y : A) (list : List A) → over x y ≡ true → OverAll over y list → OverAll over x list
  over_all_trans x y [] e u = tt
  over_all_trans x y (z ∷ list) e u = (order.transitive x y z e u.0, over_all_trans x y list e u.1)

  -- ---- the first n of a list in order

  firsts_all_over : (n : ℕ) (x : A) (list : List A) → AllOver over list x → AllOver over (firsts n list) x
  unfolding firsts
  firsts_all_over zero x list a = tt
  firsts_all_over (suc n) x [] a = tt
  firsts_all_over (suc n) x (y ∷ list) a = (a.0, firsts_all_over n x list a.1)

  firsts_over_all : (n : ℕ) (x : A) (list : List A) → OverAll over x list → OverAll over x (firsts n list)
  unfolding firsts
  firsts_over_all zero x list a = tt
  firsts_over_all (suc n) x [] a = tt
  firsts_over_all (suc n) x (y ∷ list) a = (a.0, firsts_over_all n x list a.1)

  pub firsts_sorted : (n : ℕ) (list : List A) → Sorted over list → Sorted over (firsts n list)
  unfolding firsts
  firsts_sorted zero list s = tt
  firsts_sorted (suc n) [] s = tt
  firsts_sorted (suc n) (x ∷ list) s = (firsts_over_all n x list s.0, firsts_sorted n list s.1)

  -- an element of the list is among the first n, or these are n and chosen over it
  pub firsts_in : (n : ℕ) (x : A) (list : List A) → Sorted over list → HasPoint point list (point x) → Decided point over n (firsts n list) x
  unfolding firsts
  firsts_in zero x list s m = inr (omega arith, tt)
  firsts_in (suc n) x [] s m = absurd m
  firsts_in (suc n) x (y ∷ list) s (inl e) = inl (inl e)
  firsts_in (suc n) x (y ∷ list) s (inr m) = elim (firsts_in n x list s.1 m) [
    | inl i ↦ inl (inr i)
    | inr i ↦ inr (omega (arith, i.0), (over_in y x list s.0 m, i.1))
  ]

  -- ---- an element put into its place

  -- by the two tests at the first of them
  module _ (x y : A) (list : List A) where
    placed_after : over y x ≡ true → placed over x (y ∷ list) ≡ y ∷ placed over x list
    unfolding placed
    placed_after e = rw (e, cond)

    placed_before : over y x ≡ false → over x y ≡ true → placed over x (y ∷ list) ≡ x ∷ (y ∷ list)
    unfolding placed
    placed_before e f = rw (e, f, cond)

    placed_there : over y x ≡ false → over x y ≡ false → placed over x (y ∷ list) ≡ y ∷ list
    unfolding placed
    placed_there e f = rw (e, f, cond)

    placed_cases : (P : List A → Type 0) → (over y x ≡ true → P (y ∷ placed over x list)) → (over x y ≡ true → P (x ∷ (y ∷ list)))
        → (point x ≡ point y → P (y ∷ list)) → P (placed over x (y ∷ list))
    placed_cases P after before there = go (over y x) (over x y) refl refl
      where
        go : (d e : Bool) → over y x ≡ d → over x y ≡ e → P (placed over x (y ∷ list))
        go true e f g = rw (placed_after f) (after f)
        go false true f g = rw (placed_before f g) (before g)
        go false false f g = rw (placed_there f g) (there (one_point x y g f))

  pub placed_old : (x : A) (list : List A) (p : Point) → HasPoint point list p → HasPoint point (placed over x list) p
  placed_old x [] p m = absurd m
  placed_old x (y ∷ list) p m =
      placed_cases x y list (λ l. HasPoint point l p) (λ e. elim m [ inl f ↦ inl f | inr n ↦ inr (placed_old x list p n) ]) (λ e. inr m) (λ e. m)

  pub placed_new : (x : A) (list : List A) → HasPoint point (placed over x list) (point x)
  unfolding placed
  placed_new x [] = inl refl
  placed_new x (y ∷ list) = placed_cases x y list (λ l. HasPoint point l (point x)) (λ e. inr (placed_new x list)) (λ e. inl refl) (λ e. inl e)

  placed_over_all : (z x : A) (list : List A) → over z x ≡ true → OverAll over z list → OverAll over z (placed over x list)
  unfolding placed
  placed_over_all z x [] e u = (e, tt)
  placed_over_all z x (y ∷ list) e u = placed_cases x y list (OverAll over z) (λ f. (u.0, placed_over_all z x list e u.1)) (λ f. (e, u)) (λ f. u)

  pub placed_sorted : (x : A) (list : List A) → Sorted over list → Sorted over (placed over x list)
  unfolding placed
  placed_sorted x [] s = (tt, tt)
  placed_sorted x (y ∷ list) s =
      placed_cases x y list (Sorted over) (λ f. (placed_over_all y x list f s.0, placed_sorted x list s.1))
      (λ f. ((f, over_all_trans x y list f s.0), s)) (λ f. s)

  pub placed_each : (Is : A → Type 0) (x : A) (list : List A) → Is x → Each Is list → Each Is (placed over x list)
  unfolding placed
  placed_each Is x [] f g = (f, tt)
  placed_each Is x (y ∷ list) f g = placed_cases x y list (Each Is) (λ e. (g.0, placed_each Is x list f g.1)) (λ e. (f, g)) (λ e. g)

  -- an element that n of them are chosen over is so still
  placed_all_over : (n : ℕ) (x z : A) (list : List A) → n ≤ length list → AllOver over list z
      → (n ≤ length (firsts n (placed over x list))) × AllOver over (firsts n (placed over x list)) z
  unfolding firsts
  placed_all_over zero x z list l a = (omega arith, tt)
  placed_all_over (suc n) x z [] l a = absurd (omega (arith, l))
  placed_all_over (suc n) x z (y ∷ list) l a =
      placed_cases x y list (λ d. (suc n ≤ length (firsts (suc n) d)) × AllOver over (firsts (suc n) d) z)
      (λ e. let ih = placed_all_over n x z list (omega (arith, l)) a.1 in (omega (arith, ih.0), (a.0, ih.1)))
      (λ e. (omega (arith, firsts_full n (y ∷ list) (omega (arith, l))), (order.transitive x y z e a.0, firsts_all_over n z (y ∷ list) a)))
      (λ e. (firsts_full (suc n) (y ∷ list) l, firsts_all_over (suc n) z (y ∷ list) a))

  -- one that is there is not put in again
  pub placed_known : (x : A) (list : List A) → Sorted over list → HasPoint point list (point x) → placed over x list ≡ list
  placed_known x [] s m = absurd m
  placed_known x (y ∷ list) s (inl e) = placed_there x y list (order.irreflexive y x (sym e)) (order.irreflexive x y e)
  placed_known x (y ∷ list) s (inr m) = placed_after x y list (over_in y x list s.0 m) ∙ ap (λ (rest : List A). y ∷ rest) (placed_known x list s.1 m)

  -- one that all are chosen over comes last
  placed_last : (n : ℕ) (x : A) (list : List A) → length list ≡ n → AllOver over list x → firsts n (placed over x list) ≡ list
  unfolding firsts
  placed_last zero x [] l a = refl
  placed_last zero x (y ∷ list) l a = absurd (omega (arith, l))
  placed_last (suc n) x [] l a = absurd (omega (arith, l))
  placed_last (suc n) x (y ∷ list) l a =
      ap (firsts (suc n)) (placed_after x y list a.0) ∙ ap (λ (rest : List A). y ∷ rest) (placed_last n x list (omega (arith, l)) a.1)

  -- ---- the bound

  last_in : (b : A) (list : List A) → last_of list ≡ some b → HasPoint point list (point b)
  last_in b [] e = absurd (none-ne-some b e)
  last_in b (x ∷ []) e = inl (ap point (sym (some-injective x b e)))
  last_in b (x ∷ (y ∷ list)) e = inr (last_in b (y ∷ list) e)

  last_beaten : (x : A) (list : List A) → Sorted over list → Beaten over x (last_of list) → HasPoint point list (point x) ⊎ AllOver over list x
  last_beaten x [] s l = absurd l
  last_beaten x (y ∷ []) s l = elim (point_dec (point x) (point y)) [ yes e ↦ inl (inl e) | no n ↦ inr (order.total x y n l, tt) ]
  last_beaten x (y ∷ (z ∷ list)) s l = elim (last_beaten x (z ∷ list) s.1 l) [
    | inl m ↦ inl (inr m)
    | inr a ↦ inr (order.transitive y z x s.0.0 a.0, a)
  ]

  module _ (most : ℕ) where
    -- while fewer are kept than are asked for there is no bound; so what is not chosen over the bound is decided
    pub bound_decided : (x : A) (kept : List A) → Sorted over kept → Beaten over x (bound_of most kept) → Decided point over most kept x
    unfolding bound_of
    bound_decided x kept s l = go (leb most (length kept)) refl
      where
        go : (b : Bool) → leb most (length kept) ≡ b → Decided point over most kept x
        go true e =
            let m : Beaten over x (last_of kept) = rw (e, bound_of, cond) at l in
            elim (last_beaten x kept s m) [ inl i ↦ inl i | inr i ↦ inr (leb-true most (length kept) e, i) ]
        go false e = let m : ⊥ = rw (e, bound_of, cond) at l in absurd m

    -- ---- what is gathered

    pub gathered_sorted : (kept : List A) (o : Option A) → Sorted over kept → Sorted over (gathered over most kept o)
    unfolding gathered
    gathered_sorted kept none s = s
    gathered_sorted kept (some x) s = firsts_sorted most (placed over x kept) (placed_sorted x kept s)

    pub gathered_within : (kept : List A) (o : Option A) → length kept ≤ most → length (gathered over most kept o) ≤ most
    unfolding gathered
    gathered_within kept none l = l
    gathered_within kept (some x) l = firsts_length most (placed over x kept)

    pub gathered_each : (Is : A → Type 0) (kept : List A) (x : A) → Is x → Each Is kept → Each Is (gathered over most kept (some x))
    unfolding gathered
    gathered_each Is kept x i e = firsts_each Is most (placed over x kept) (placed_each Is x kept i e)

    -- nothing that was decided is undone
    pub gathered_old : (kept : List A) (o : Option A) (z : A) → Sorted over kept → Decided point over most kept z → Decided point over most (gathered over most kept o) z
    unfolding gathered
    gathered_old kept none z s d = d
    gathered_old kept (some x) z s d = elim d [
      | inl m ↦ firsts_in most z (placed over x kept) (placed_sorted x kept s) (placed_old x kept (point z) m)
      | inr a ↦ inr (placed_all_over most x z kept a.0 a.1)
    ]

    -- and what was put is decided
    pub gathered_new : (kept : List A) (x : A) → Sorted over kept → Decided point over most (gathered over most kept (some x)) x
    unfolding gathered
    gathered_new kept x s = firsts_in most x (placed over x kept) (placed_sorted x kept s) (placed_new x kept)

    -- an element that is decided changes nothing
    pub gathered_decided : (kept : List A) (x : A) → Sorted over kept → length kept ≤ most → Decided point over most kept x → gathered over most kept (some x) ≡ kept
    unfolding gathered
    gathered_decided kept x s l (inl m) = ap (firsts most) (placed_known x kept s m) ∙ firsts_all most kept l
    gathered_decided kept x s l (inr a) = placed_last most x kept (omega (arith, l, a.0)) a.1

    -- nor does the bound, which is among those kept
    pub gathered_bound : (kept : List A) → Sorted over kept → length kept ≤ most → gathered over most kept (bound_of most kept) ≡ kept
    unfolding bound_of gathered
    gathered_bound kept s l = go (leb most (length kept))
      where
        same : (o : Option A) → last_of kept ≡ o → gathered over most kept o ≡ kept
        same none e = refl
        same (some b) e = gathered_decided kept b s l (inl (last_in b kept e))

        go : (b : Bool) → gathered over most kept (cond b (last_of kept) none) ≡ kept
        go true = same (last_of kept) refl
        go false = refl
