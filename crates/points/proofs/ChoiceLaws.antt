-- Laws 3 and 4, by any square. A target's choice is what the rule says in words (`chosen_exact`) and a strict total order (`chosen_irrefl`,
-- `chosen_trans`, `chosen_total`). Where the square is bounded from below on every axis (`Bounds`), exclusion is sound, strictly:
-- no record of the grade beyond an excluded cut is chosen over the best (`far_loses`), and while there is no best none is there (`far_none`).
-- A search needs nothing else about squares and ties.
-- Assumes nothing.
use mathlib.Core.Path.{◌≡◌, refl, sym, ap, ◌∙◌}
use mathlib.Core.Logic.{◌↔◌, inl, inr}
use mathlib.Core.Bool.{Bool, true, false, not, cond, true≢false}
use Prim.Native.Nat.{ℕ, suc, ◌+◌, ◌*◌, ◌≤◌, ◌<◌}
use native.Mathlib.Omega.{arith}
use native.Mathlib.Nat.{mul-le-mul, mul-le-mul_left, mul_assoc, mul_left_comm}
use borrow.Author.Tests.{ltb-true, ltb-false, lt-ltb, le-ltb, eqb-true}
use lib.Dec.{ltb, eqb}
use lib.IntN.{ℤ, nat_abs, ◌+ℤ◌, ◌-ℤ◌}
use lib.Signed.{lt_z, mag}
use Rattle.points.specs.declared.point.Point.{Point}
use Rattle.points.specs.declared.cut.Cut.{Cut}
use Rattle.std.specs.declared.cmp.Ordering.{Ordering}
use Rattle.std.specs.declared.cmp.Ordering.TheVariants.{Less, Equal, Greater}
use Rattle.points.specs.Point.{range_of, coordinate_of}
use Rattle.points.specs.Number.{number_of}
use Rattle.points.specs.Order.{by_axis, tie_of, is_less, is_equal}
use Rattle.points.specs.Square.{gap_of, topped}
use Rattle.points.specs.Cut.{goes_left}
use Rattle.points.specs.Word.{stored_in, word_of}
use Rattle.points.specs.Choice.{same_grade, chosen_by, Chosen, nearer, heavier, lower, far_gap, excluded_by, Bounds, no_square}
use Rattle.points.proofs.Tests.{no! }
use Rattle.points.proofs.IntegerLaws.{raise, Near, near_add, near_raise, near_more, raise_add, lt_z_raise, apart_raise}
use Rattle.points.proofs.OrderLaws.{turned, clash, axis_equal, axis_same}
use Rattle.points.proofs.TieLaws.{tie_heavier, tie_level, tie_tells, tie_refl, tie_turn, tie_trans, tie_equal}

-- ---- grades
grade_equal : (a b : Point) → same_grade a b ≡ true → coordinate_of a 1 ≡ coordinate_of b 1
unfolding same_grade
grade_equal a b e = go (by_axis a b 1) refl
  where
    go : (o : Ordering) → by_axis a b 1 ≡ o → coordinate_of a 1 ≡ coordinate_of b 1
    go Less f = no! (sym (ap is_equal f) ∙ e)
    go Equal f = axis_equal a b 1 f
    go Greater f = no! (sym (ap is_equal f) ∙ e)

grade_same : (a b : Point) → coordinate_of a 1 ≡ coordinate_of b 1 → same_grade a b ≡ true
unfolding same_grade
grade_same a b e = ap is_equal (axis_same a b 1 e)

-- points of one grade store it as one word
pub grade_word : (a b : Point) → same_grade a b ≡ true → word_of a 1 ≡ word_of b 1
unfolding word_of
grade_word a b e = ap (λ x. stored_in (range_of 1) x) (grade_equal a b e)

pub grade_refl : (a : Point) → same_grade a a ≡ true
grade_refl a = grade_same a a refl

pub grade_turn : (a b : Point) → same_grade a b ≡ true → same_grade b a ≡ true
grade_turn a b e = grade_same b a (sym (grade_equal a b e))

pub grade_trans : (a b c : Point) → same_grade a b ≡ true → same_grade b c ≡ true → same_grade a c ≡ true
grade_trans a b c e f = grade_same a c (grade_equal a b e ∙ grade_equal b c f)

-- ---- the choice, by any square
module _ (square : Point → Point → ℕ) where
  -- what a choice is made by: the square, or the tie
  data Reason (t a b : Point) : Type 0 where
    by_square : square t a < square t b → Reason t a b
    by_tie : square t a ≡ square t b → tie_of a b ≡ Less → Reason t a b

  chosen : (t a b : Point) → chosen_by square t a b ≡ true → Reason t a b
  unfolding chosen_by
  chosen t a b = go (ltb (square t a) (square t b)) refl (ltb (square t b) (square t a)) refl (tie_of a b) refl
    where
      go : (s : Bool) → ltb (square t a) (square t b) ≡ s → (u : Bool) → ltb (square t b) (square t a) ≡ u → (o : Ordering) → tie_of a b ≡ o
          → cond s true (cond u false (is_less o)) ≡ true → Reason t a b
      go true e u f o g h = by_square (ltb-true (square t a) (square t b) e)
      go false e true f o g h = no! h
      go false e false f Less g h = by_tie (omega (arith, ltb-false (square t a) (square t b) e, ltb-false (square t b) (square t a) f)) g
      go false e false f Equal g h = no! h
      go false e false f Greater g h = no! h

  choose : (t a b : Point) → Reason t a b → chosen_by square t a b ≡ true
  unfolding chosen_by
  choose t a b (by_square h) = rw (lt-ltb (square t a) (square t b) h)
  choose t a b (by_tie e o) =
      rw (le-ltb (square t a) (square t b) (omega arith), le-ltb (square t b) (square t a) (omega arith), o)

  -- the choice in words
  pub chosen_exact : (t a b : Point) → (chosen_by square t a b ≡ true) ↔ Chosen square t a b
  chosen_exact t a b = (λ e. tells (chosen t a b e), λ c. choose t a b (told c))
    where
      tells : Reason t a b → Chosen square t a b
      tells (by_square h) = nearer h
      tells (by_tie e o) = elim (tie_tells a b o) [ inl h ↦ heavier e h | inr p ↦ lower e p.0 p.1 ]

      told : Chosen square t a b → Reason t a b
      told (nearer h) = by_square h
      told (heavier e h) = by_tie e (tie_heavier a b h)
      told (lower e w o) = by_tie e (tie_level a b w ∙ o)

  refuse : (t a b : Point) → (Reason t a b → ⊥) → chosen_by square t a b ≡ false
  refuse t a b n = go (chosen_by square t a b) refl
    where
      go : (s : Bool) → chosen_by square t a b ≡ s → chosen_by square t a b ≡ false
      go true e = absurd (n (chosen t a b e))
      go false e = e

  pub chosen_irrefl : (t a : Point) → chosen_by square t a a ≡ false
  chosen_irrefl t a = refuse t a a never
    where
      never : Reason t a a → ⊥
      never (by_square h) = omega arith
      never (by_tie e o) = clash (cc (tie_refl a))

  pub chosen_asym : (t a b : Point) → chosen_by square t a b ≡ true → chosen_by square t b a ≡ false
  chosen_asym t a b c = refuse t b a (never (chosen t a b c))
    where
      never : Reason t a b → Reason t b a → ⊥
      never (by_square h) (by_square k) = omega arith
      never (by_square h) (by_tie e o) = omega arith
      never (by_tie e o) (by_square k) = omega arith
      never (by_tie e o) (by_tie f p) = clash (cc (tie_turn a b, ap turned o))

  pub chosen_trans : (t a b c : Point) → chosen_by square t a b ≡ true → chosen_by square t b c ≡ true → chosen_by square t a c ≡ true
  chosen_trans t a b c e f = choose t a c (go (chosen t a b e) (chosen t b c f))
    where
      go : Reason t a b → Reason t b c → Reason t a c
      go (by_square h) (by_square k) = by_square (omega arith)
      go (by_square h) (by_tie q o) = by_square (omega arith)
      go (by_tie q o) (by_square k) = by_square (omega arith)
      go (by_tie q o) (by_tie r p) = by_tie (q ∙ r) (tie_trans a b c o p)

  pub chosen_total : (t a b : Point) → ¬ (a ≡ b) → chosen_by square t a b ≡ false → chosen_by square t b a ≡ true
  chosen_total t a b ne e = choose t b a (go (ltb (square t a) (square t b)) refl (ltb (square t b) (square t a)) refl (tie_of a b) refl)
    where
      lost : Reason t a b → ⊥
      lost c = true≢false (sym (choose t a b c) ∙ e)

      go : (s : Bool) → ltb (square t a) (square t b) ≡ s → (u : Bool) → ltb (square t b) (square t a) ≡ u → (o : Ordering) → tie_of a b ≡ o → Reason t b a
      go true f u g o h = absurd (lost (by_square (ltb-true (square t a) (square t b) f)))
      go false f true g o h = by_square (ltb-true (square t b) (square t a) g)
      go false f false g Less h = absurd (lost (by_tie (omega (arith, ltb-false (square t a) (square t b) f, ltb-false (square t b) (square t a) g)) h))
      go false f false g Equal h = absurd (ne (tie_equal a b h))
      go false f false g Greater h = by_tie (omega (arith, ltb-false (square t a) (square t b) f, ltb-false (square t b) (square t a) g)) (tie_turn a b ∙ ap turned h)

  -- a record that is not chosen over the best is not chosen over a better one
  pub chosen_stays : (t r a b : Point) → chosen_by square t a b ≡ true → chosen_by square t r b ≡ false → chosen_by square t r a ≡ false
  chosen_stays t r a b e f = refuse t r a (λ c. true≢false (sym (chosen_trans t r a b (choose t r a c) e) ∙ f))

-- ---- the far side of a cut

-- twice the distance of a point beyond the cut is at least the far gap
far_gap_le : (k : Cut) (t p : Point) → goes_left k p ≡ not (goes_left k t) → far_gap k t ≤ 2 * gap_of t p k.axis
unfolding far_gap gap_of goes_left
far_gap_le k t p far = go (lt_z (x +ℤ x) s) refl
  where
    x : ℤ
    x = number_of t k.axis

    y : ℤ
    y = number_of p k.axis

    s : ℤ
    s = k.sum

    b : ℕ
    b = suc (mag x + mag y + mag s)

    nx : Near b x
    nx = record { near = omega arith }

    ny : Near b y
    ny = record { near = omega arith }

    ns : Near b s
    ns = record { near = omega arith }

    ns2 : Near (b + b) s
    ns2 = near_more (b + b) (omega arith) ns

    tests : (z : ℤ) → Near b z → lt_z (z +ℤ z) s ≡ ltb (raise b z + raise b z) (raise b s + b)
    tests z n = lt_z_raise (z +ℤ z) s (near_add z z n n) ns2 ∙ (λ i. ltb (raise_add z z n n i) (near_raise s ns b i))

    go : (u : Bool) → lt_z (x +ℤ x) s ≡ u → cond (lt_z (x +ℤ x) s) (nat_abs (s -ℤ (x +ℤ x))) (suc (nat_abs (x +ℤ x -ℤ s))) ≤ 2 * nat_abs (x -ℤ y)
    go true e =
        rw e
        (omega (
          arith,
          apart_raise s (x +ℤ x) ns2 (near_add x x nx nx),
          raise_add x x nx nx,
          near_raise s ns b,
          apart_raise x y nx ny,
          ltb-true (raise b x + raise b x) (raise b s + b) (sym (tests x nx) ∙ e),
          ltb-false (raise b y + raise b y) (raise b s + b) (sym (tests y ny) ∙ far ∙ ap not e),
        ))
    go false e =
        rw e
        (omega (
          arith,
          apart_raise (x +ℤ x) s (near_add x x nx nx) ns2,
          raise_add x x nx nx,
          near_raise s ns b,
          apart_raise x y nx ny,
          ltb-false (raise b x + raise b x) (raise b s + b) (sym (tests x nx) ∙ e),
          ltb-true (raise b y + raise b y) (raise b s + b) (sym (tests y ny) ∙ far ∙ ap not e),
        ))

double_square : (d : ℕ) → 2 * d * (2 * d) ≡ 4 * (d * d)
double_square d = rw (mul_assoc 2 d (2 * d), mul_left_comm d 2 d) (omega arith)

count_double : (c d : ℕ) → c * (2 * d * (2 * d)) ≡ 4 * (c * (d * d))
count_double c d = ap (λ x. c * x) (double_square d) ∙ mul_left_comm c 4 (d * d)

-- a cut on axis 1 sends points of one grade to one side
grade_side : (k : Cut) (t p : Point) → k.axis ≡ 1 → same_grade t p ≡ true → goes_left k p ≡ goes_left k t
unfolding goes_left number_of
grade_side k t p e g = rw (e, grade_equal t p g)

not_self : (b : Bool) → b ≡ not b → ⊥
not_self true e = true≢false e
not_self false e = no! e

-- by any square that is bounded from below on every axis
module _ (square : Point → Point → ℕ) (count : ℕ → ℕ) (bounds : Bounds square count) where
  -- where the far side is excluded by distance, every point there has a greater square than the best
  far_greater : (k : Cut) (t p : Point) (best : ℕ) → ltb (topped (4 * best)) (topped (count k.axis * (far_gap k t * far_gap k t))) ≡ true → goes_left k p ≡ not (goes_left k t)
      → best < square t p
  unfolding topped
  far_greater k t p best e far =
      let d = gap_of t p k.axis in
      let c = count k.axis in
      let g = far_gap_le k t p far in
      let wide = mul-le-mul_left c (mul-le-mul g g) in
      omega (arith, wide, count_double c d, bounds.below t p k.axis, ltb-true (topped (4 * best)) (topped (c * (far_gap k t * far_gap k t))) e)

  -- what an excluded far side tells
  data Beyond (k : Cut) (t p : Point) (best : ℕ) : Type 0 where
    other : (same_grade t p ≡ true → ⊥) → Beyond k t p best
    farther : topped (4 * best) < topped (count k.axis * (far_gap k t * far_gap k t)) → best < square t p → Beyond k t p best

  beyond : (k : Cut) (t p : Point) (best : ℕ) → excluded_by count k t best ≡ true → goes_left k p ≡ not (goes_left k t) → Beyond k t p best
  unfolding excluded_by
  beyond k t p best e far = go (eqb k.axis 1) refl e
    where
      go : (u : Bool) → eqb k.axis 1 ≡ u → cond u true (ltb (topped (4 * best)) (topped (count k.axis * (far_gap k t * far_gap k t)))) ≡ true → Beyond k t p best
      go true f h = other (λ g. not_self (goes_left k t) (sym (grade_side k t p (eqb-true k.axis 1 f) g) ∙ far))
      go false f h =
          farther (ltb-true (topped (4 * best)) (topped (count k.axis * (far_gap k t * far_gap k t))) h) (far_greater k t p best h far)

  pub far_loses : (k : Cut) (t b p : Point) → excluded_by count k t (square t b) ≡ true → goes_left k p ≡ not (goes_left k t) → same_grade t p ≡ true → chosen_by square t p b ≡ false
  far_loses k t b p e far g = go (beyond k t p (square t b) e far)
    where
      never : square t b < square t p → Reason square t p b → ⊥
      never h (by_square i) = omega arith
      never h (by_tie i o) = omega arith

      go : Beyond k t p (square t b) → chosen_by square t p b ≡ false
      go (other n) = absurd (n g)
      go (farther l h) = refuse square t p b (never h)

  pub far_none : (k : Cut) (t p : Point) → excluded_by count k t no_square ≡ true → goes_left k p ≡ not (goes_left k t) → same_grade t p ≡ true → ⊥
  unfolding topped
  far_none k t p e far g = go (beyond k t p no_square e far)
    where
      go : Beyond k t p no_square → ⊥
      go (other n) = n g
      go (farther l h) = omega arith
