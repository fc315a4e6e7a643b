-- The numbers of a point in range, on the axes that a rule goes by: they are not capped (`dry_plain`, `grown_plain`), lie in their ranges
-- (`number_within`), and two points with the same five numbers are one (`numbers_equal`): equal moisture below 10,000 and equal dry weight give equal
-- weight (`weight_same`).
-- Assumes nothing.
use mathlib.Core.Path.{◌≡◌, refl, sym, ap, subst, ◌∙◌}
use mathlib.Core.Bool.{Bool, true, false, not, cond, ◌&&◌, ◌||◌}
use Prim.Native.Nat.{ℕ, zero, suc, ◌+◌, ◌-◌, ◌*◌, ◌≤◌, ◌<◌}
use native.Mathlib.Omega.{arith}
use native.Mathlib.Nat.{mul-le-mul, eq_of_mul-eq-mul_right}
use native.Mathlib.Decide.{ℕ_discrete, dec_le}
use borrow.Author.Tests.{ltb-true, le-ltb, eqb-true, eq-eqb, ne_eqb, le-leb, lt-leb}
use lib.Dec.{eqb, leb, lit<, lit≤}
use lib.IntN.{ℤ, pos, negsuc, nat_abs, ◌-ℤ◌, ◌*ℤ◌}
use lib.Signed.{lt_z}
use Rattle.points.specs.declared.point.Point.{Point}
use Rattle.points.specs.Signed.{pick_z, capped_of}
use Rattle.points.specs.Point.{index_of, range_of, coordinate_of, on_axis, in_range}
use Rattle.points.specs.Rule.{plain_rule, dry_rule, shift_of, axis_of}
use Rattle.points.specs.Number.{dry_of, grown_of, number_of, number_range_of, in_range_by}
use Rattle.points.proofs.Tests.{and_l, and_r, and_i}
use Rattle.points.proofs.IntegerLaws.{raise, Near, near_more, near_lt, near_raise, near_mul, raise_grown, raise_inj, lt_z_raise, abs_raise, not_below, pos_sub}
use Rattle.points.proofs.PointLaws.{reach, Within, within, range_narrow, in_range_axis, axis_within, coordinates_equal}

-- a number that 32 bits hold is not capped
pub capped_plain : (z : ℤ) → Near 2147483648 z → capped_of z ≡ z
unfolding capped_of
capped_plain z n =
    let low : Near 2147483648 (negsuc 2147483647) = record { near = lit< tt } in
    let high : Near 2147483648 (pos 2147483647) = record { near = lit< tt } in
    rw (lt_z_raise z (negsuc 2147483647) n low ∙ le-ltb (raise 2147483648 z) 0 (omega arith), lt_z_raise (pos 2147483647) z high n ∙ le-ltb 4294967295 (raise 2147483648 z) (omega (arith, near_lt z n)))

-- the axes of rule 2 are four on from those of rule 1
pub shift_le : (rule : ℕ) → shift_of rule ≤ 4
unfolding shift_of
shift_le rule = go (eqb rule dry_rule)
  where
    go : (t : Bool) → cond t 4 0 ≤ 4
    go true = lit≤ tt
    go false = lit≤ tt

-- ---- points in range under a rule
pub by_is : (rule : ℕ) (p : Point) → in_range_by rule p ≡ (in_range p && (not (eqb rule dry_rule) || lt_z p.moisture (pos 10000)))
unfolding in_range_by
by_is rule p = refl

pub in_range_by_lem : (rule : ℕ) (p : Point) → in_range_by rule p ≡ true → in_range p ≡ true
unfolding in_range_by
in_range_by_lem rule p e = and_l (in_range p) _ e

-- under rule 1 as before
pub in_range_plain : (p : Point) → in_range_by plain_rule p ≡ in_range p
unfolding in_range_by
in_range_plain p = go (in_range p)
  where
    go : (t : Bool) → (t && true) ≡ t
    go true = refl
    go false = refl

-- under rule 2 the moisture is below 10,000
pub in_range_dry : (p : Point) → in_range_by dry_rule p ≡ true → lt_z p.moisture (pos 10000) ≡ true
unfolding in_range_by
in_range_dry p e = and_r (in_range p) _ e

-- and no more is asked
pub by_range : (rule : ℕ) (p : Point) → in_range p ≡ true → (not (eqb rule dry_rule) || lt_z p.moisture (pos 10000)) ≡ true → in_range_by rule p ≡ true
unfolding in_range_by
by_range rule p e m = and_i e m

-- ---- the dry weight

-- weight and moisture, as natural numbers
record Sheet (p : Point) : Type 0 where
  weight : ℕ
  moisture : ℕ
  weighs : p.weight ≡ pos weight
  moist : p.moisture ≡ pos moisture
  some : 1 ≤ weight
  most : weight ≤ 100000
  damp : moisture ≤ 10000

sheet : (p : Point) → in_range p ≡ true → Sheet p
unfolding range_of index_of coordinate_of
sheet p e =
    let w = axis_within p e 2 in
    let v = axis_within p e 3 in
    record {
      weight = nat_abs p.weight;
      moisture = nat_abs p.moisture;
      weighs = not_below p.weight w.near (omega (arith, w.from));
      moist = not_below p.moisture v.near (omega (arith, v.from));
      some = omega (arith, abs_raise p.weight w.near, w.from);
      most = omega (arith, abs_raise p.weight w.near, w.from, w.to);
      damp = omega (arith, abs_raise p.moisture v.near, v.from, v.to);
    }

-- under rule 2 there is a dry weight
solid : (p : Point) (s : Sheet p) → in_range_by dry_rule p ≡ true → s.moisture ≤ 9999
solid p s e = omega (arith, ltb-true s.moisture 10000 (sym (ap (λ z. lt_z z (pos 10000)) s.moist) ∙ in_range_dry p e))

module _ (p : Point) (s : Sheet p) where
  dry : ℕ
  dry = s.weight * (10000 - s.moisture)

  dry_some : s.moisture ≤ 9999 → 1 ≤ dry
  unfolding dry
  dry_some d =
      let h : 1 ≤ 10000 - s.moisture = omega arith in
      omega (arith, mul-le-mul s.some h)

  dry_most : dry ≤ 1000000000
  unfolding dry
  dry_most =
      let h : 10000 - s.moisture ≤ 10000 = omega arith in
      omega (arith, mul-le-mul s.most h)

  product : p.weight *ℤ (pos 10000 -ℤ p.moisture) ≡ pos dry
  unfolding dry
  product = (λ i. s.weighs i *ℤ (pos 10000 -ℤ s.moist i)) ∙ ap (λ z. pos s.weight *ℤ z) (pos_sub 10000 s.moisture s.damp)

  dry_is : dry_of p ≡ pos dry
  unfolding dry_of
  dry_is = ap capped_of product ∙ capped_plain (pos dry) (record { near = omega (arith, dry_most) })

-- weight × (10,000 − moisture), which is not capped
pub dry_plain : (p : Point) → in_range p ≡ true → dry_of p ≡ p.weight *ℤ (pos 10000 -ℤ p.moisture)
dry_plain p e = let s = sheet p e in dry_is p s ∙ sym (product p s)

-- equal moisture below 10,000 and equal dry weight give equal weight
pub weight_same : (a b : Point) → in_range_by dry_rule a ≡ true → in_range_by dry_rule b ≡ true → a.moisture ≡ b.moisture → dry_of a ≡ dry_of b → a.weight ≡ b.weight
unfolding dry
weight_same a b e f m d =
    let s = sheet a (in_range_by_lem dry_rule a e) in
    let t = sheet b (in_range_by_lem dry_rule b f) in
    let moist : s.moisture ≡ t.moisture = ap nat_abs (sym s.moist ∙ m ∙ t.moist) in
    let both : dry a s ≡ dry b t = ap nat_abs (sym (dry_is a s) ∙ d ∙ dry_is b t) in
    let left : 0 < 10000 - t.moisture = omega (arith, solid b t f) in
    let same : s.weight * (10000 - t.moisture) ≡ t.weight * (10000 - t.moisture) = ap (λ k. s.weight * (10000 - k)) (sym moist) ∙ both in
    s.weighs ∙ ap pos (eq_of_mul-eq-mul_right (10000 - t.moisture) left s.weight t.weight same) ∙ sym t.weighs

-- ---- coordinates times 10,000
record Grown (p : Point) (axis : ℕ) : Type 0 where
  is : grown_of p axis ≡ pos 10000 *ℤ coordinate_of p axis
  near : Near reach (pos 10000 *ℤ coordinate_of p axis)
  raised : raise reach (pos 10000 *ℤ coordinate_of p axis) + 9999 * reach ≡ 10000 * raise reach (coordinate_of p axis)

grown : (p : Point) → in_range p ≡ true → (axis : ℕ) → Grown p axis
unfolding grown_of on_axis
grown p e axis =
    let x = coordinate_of p axis in
    let z = pos 10000 *ℤ x in
    let w = within (range_of axis) x (range_narrow axis) (in_range_axis p e axis) in
    let t : Near 10001 (pos 10000) = record { near = lit< tt } in
    let m : Near 1000110002 z = near_mul (pos 10000) x t w.near in
    let n : Near reach z = near_more reach (lit≤ tt) m in
    record { is = capped_plain z (near_more 2147483648 (lit≤ tt) m); near = n; raised = sym (near_raise z n (9999 * reach)) ∙ raise_grown x (near_more reach (lit≤ tt) w.near) }

-- they are not capped
pub grown_plain : (p : Point) → in_range p ≡ true → (axis : ℕ) → grown_of p axis ≡ pos 10000 *ℤ coordinate_of p axis
grown_plain p e axis = (grown p e axis).is

-- and equal only of equal coordinates
pub grown_same : (a b : Point) → in_range a ≡ true → in_range b ≡ true → (axis : ℕ) → grown_of a axis ≡ grown_of b axis → coordinate_of a axis ≡ coordinate_of b axis
grown_same a b ea eb axis e =
    let g = grown a ea axis in
    let h = grown b eb axis in
    let same = ap (raise reach) (sym g.is ∙ e ∙ h.is) in
    raise_inj (coordinate_of a axis) (coordinate_of b axis) (axis_within a ea axis).near (axis_within b eb axis).near (omega (arith, same, g.raised, h.raised))

-- ---- the numbers of a point in range under a rule

-- on axes 1 to 5 they are the coordinates
pub number_plain : (p : Point) (axis : ℕ) → axis ≤ 5 → number_of p axis ≡ coordinate_of p axis
unfolding number_of
number_plain p axis h = rw (le-leb axis 5 h)

-- and on axis 6 the dry weight, on axes 7 to 9 those of axes 3 to 5 times 10,000
-- by its axis, with the four of rule 2 told apart
grown_last : (p : Point) (k : ℕ) → 5 ≤ k → grown_of p k ≡ grown_of p 5
unfolding grown_of coordinate_of
grown_last p zero h = absurd (omega arith)
grown_last p (suc zero) h = absurd (omega arith)
grown_last p (suc (suc zero)) h = absurd (omega arith)
grown_last p (suc (suc (suc zero))) h = absurd (omega arith)
grown_last p (suc (suc (suc (suc zero)))) h = absurd (omega arith)
grown_last p (suc (suc (suc (suc (suc n))))) h = refl

pub number_picked : (p : Point) (axis : ℕ)
    → cond (leb axis 5) (coordinate_of p axis) (cond (eqb axis 6) (dry_of p) (cond (eqb axis 7) (grown_of p 3) (cond (eqb axis 8) (grown_of p 4) (grown_of p 5)))) ≡ number_of p axis
unfolding number_of
number_picked p axis = five (dec_le axis 5)
  where
    eight : 8 ≤ axis → Dec (axis ≡ 8) → cond (eqb axis 8) (grown_of p 4) (grown_of p 5) ≡ grown_of p (axis - 4)
    eight h (yes e) = rw e refl
    eight h (no n) = rw (ne_eqb axis 8 n) (sym (grown_last p (axis - 4) (omega arith)))

    seven : 7 ≤ axis → Dec (axis ≡ 7) → cond (eqb axis 7) (grown_of p 3) (cond (eqb axis 8) (grown_of p 4) (grown_of p 5)) ≡ grown_of p (axis - 4)
    seven h (yes e) = rw e refl
    seven h (no n) = rw (ne_eqb axis 7 n) (eight (omega arith) (ℕ_discrete axis 8))

    six : 6 ≤ axis → Dec (axis ≡ 6)
        → cond (eqb axis 6) (dry_of p) (cond (eqb axis 7) (grown_of p 3) (cond (eqb axis 8) (grown_of p 4) (grown_of p 5))) ≡ pick_z (eqb axis 6) (dry_of p) (grown_of p (axis - 4))
    six h (yes e) = rw (eq-eqb axis 6 e)
    six h (no n) = rw (ne_eqb axis 6 n) (seven (omega arith) (ℕ_discrete axis 7))

    five : Dec (axis ≤ 5)
        → cond (leb axis 5) (coordinate_of p axis) (cond (eqb axis 6) (dry_of p) (cond (eqb axis 7) (grown_of p 3) (cond (eqb axis 8) (grown_of p 4) (grown_of p 5)))) ≡ number_of p axis
    five (yes h) = rw (le-leb axis 5 h)
    five (no n) = rw (lt-leb axis 5 (omega arith)) (six (omega arith) (ℕ_discrete axis 6))

pub number_dry : (p : Point) → number_of p 6 ≡ dry_of p
unfolding number_of
number_dry p = refl

pub number_grown : (p : Point) (axis : ℕ) → 3 ≤ axis → number_of p (axis + 4) ≡ grown_of p axis
unfolding number_of
number_grown p axis h =
    let back : axis + 4 - 4 ≡ axis = omega arith in
    rw (lt-leb (axis + 4) 5 (omega arith), ne_eqb (axis + 4) 6 (λ e. omega arith), back)

-- of a point on an axis: in the range of the numbers there
abbrev pub Numbered : Point → ℕ → Type 0
Numbered p axis = Within reach (number_range_of axis) (number_of p axis)

plain_numbered : (p : Point) → in_range p ≡ true → (axis : ℕ) → leb axis 5 ≡ true → Numbered p axis
unfolding number_range_of number_of
plain_numbered p e axis f = rw f (axis_within p e axis)

dry_numbered : (p : Point) → in_range_by dry_rule p ≡ true → Numbered p 6
unfolding number_range_of number_of
dry_numbered p e =
    let s = sheet p (in_range_by_lem dry_rule p e) in
    rw (dry_is p s)
    (record { near = record { near = omega (arith, dry_most p s) }; from = omega (arith, dry_some p s (solid p s e)); to = omega (arith, dry_most p s) })

moisture_numbered : (p : Point) → in_range_by dry_rule p ≡ true → Numbered p 7
unfolding number_range_of number_of range_of index_of coordinate_of
moisture_numbered p e =
    let r = in_range_by_lem dry_rule p e in
    let g = grown p r 3 in
    let w = axis_within p r 3 in
    let s = sheet p r in
    let below : raise reach p.moisture ≤ 9999 + reach = rw s.moist (omega (arith, solid p s e)) in
    rw g.is (record { near = g.near; from = omega (arith, g.raised, w.from); to = omega (arith, g.raised, below) })

module _ (p : Point) (e : in_range p ≡ true) where
  speed_numbered : Numbered p 8
  unfolding number_range_of number_of range_of index_of
  speed_numbered =
      let g = grown p e 4 in
      let w = axis_within p e 4 in
      rw g.is (record { near = g.near; from = omega (arith, g.raised, w.from); to = omega (arith, g.raised, w.to) })

  draw_numbered : Numbered p 9
  unfolding number_range_of number_of range_of index_of
  draw_numbered =
      let g = grown p e 5 in
      let w = axis_within p e 5 in
      rw g.is (record { near = g.near; from = omega (arith, g.raised, w.from); to = omega (arith, g.raised, w.to) })

-- the five axes of a rule, one by one
five_axes : (P : ℕ → Type 0) → P 1 → P 2 → P 3 → P 4 → P 5 → (k : ℕ) → 1 ≤ k → k ≤ 5 → P k
five_axes P a b c d e zero h i = absurd (omega arith)
five_axes P a b c d e (suc zero) h i = a
five_axes P a b c d e (suc (suc zero)) h i = b
five_axes P a b c d e (suc (suc (suc zero))) h i = c
five_axes P a b c d e (suc (suc (suc (suc zero)))) h i = d
five_axes P a b c d e (suc (suc (suc (suc (suc zero))))) h i = e
five_axes P a b c d e (suc (suc (suc (suc (suc (suc n)))))) h i = absurd (omega arith)

pub number_within : (rule : ℕ) (p : Point) → in_range_by rule p ≡ true → (k : ℕ) → 1 ≤ k → k ≤ 5 → Numbered p (axis_of rule k)
unfolding axis_of shift_of
number_within rule p e = go (eqb rule dry_rule) refl
  where
    r : in_range p ≡ true
    r = in_range_by_lem rule p e

    go : (t : Bool) → eqb rule dry_rule ≡ t → (k : ℕ) → 1 ≤ k → k ≤ 5 → Numbered p (axis_of rule k)
    go true f =
        let d : in_range_by dry_rule p ≡ true = subst (λ x. in_range_by x p ≡ true) (eqb-true rule dry_rule f) e in
        five_axes (λ k. Numbered p (axis_of rule k)) (plain_numbered p r 1 refl) (rw f (dry_numbered p d)) (rw f (moisture_numbered p d)) (rw f (speed_numbered p r)) (rw f (draw_numbered p r))
    go false f =
        five_axes (λ k. Numbered p (axis_of rule k)) (plain_numbered p r 1 refl) (rw f (plain_numbered p r 2 refl)) (rw f (plain_numbered p r 3 refl)) (rw f (plain_numbered p r 4 refl))
        (rw f (plain_numbered p r 5 refl))

-- ---- points with the same five numbers are one
pub numbers_equal : (rule : ℕ) (a b : Point) → in_range_by rule a ≡ true → in_range_by rule b ≡ true
    → ((k : ℕ) → 1 ≤ k → k ≤ 5 → number_of a (axis_of rule k) ≡ number_of b (axis_of rule k)) → a ≡ b
unfolding axis_of shift_of number_of coordinate_of
numbers_equal rule a b ra rb same = coordinates_equal a b (go (eqb rule dry_rule) refl)
  where
    ea : in_range a ≡ true
    ea = in_range_by_lem rule a ra

    eb : in_range b ≡ true
    eb = in_range_by_lem rule b rb

    go : (t : Bool) → eqb rule dry_rule ≡ t → (k : ℕ) → 1 ≤ k → k ≤ 5 → coordinate_of a k ≡ coordinate_of b k
    go false f = five_axes (λ k. coordinate_of a k ≡ coordinate_of b k)
        (same 1 (lit≤ tt) (lit≤ tt))
        (rw f at (same 2 (lit≤ tt) (lit≤ tt)))
        (rw f at (same 3 (lit≤ tt) (lit≤ tt)))
        (rw f at (same 4 (lit≤ tt) (lit≤ tt)))
        (rw f at (same 5 (lit≤ tt) (lit≤ tt)))
    go true f =
        let is = eqb-true rule dry_rule f in
        let da : in_range_by dry_rule a ≡ true = subst (λ x. in_range_by x a ≡ true) is ra in
        let db : in_range_by dry_rule b ≡ true = subst (λ x. in_range_by x b ≡ true) is rb in
        let moisture : a.moisture ≡ b.moisture = grown_same a b ea eb 3 (rw f at (same 3 (lit≤ tt) (lit≤ tt))) in
        let dried : dry_of a ≡ dry_of b = rw f at (same 2 (lit≤ tt) (lit≤ tt)) in
        five_axes (λ k. coordinate_of a k ≡ coordinate_of b k)
        (same 1 (lit≤ tt) (lit≤ tt))
        (weight_same a b da db moisture dried)
        moisture
        (grown_same a b ea eb 4 (rw f at (same 4 (lit≤ tt) (lit≤ tt))))
        (grown_same a b ea eb 5 (rw f at (same 5 (lit≤ tt) (lit≤ tt))))
