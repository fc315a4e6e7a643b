-- Law 5: of points and factors in range the square is the sum itself (`square_plain`) and at most 17,625,567,969,600,000,016 (`square_le`), under rule 1
-- at most 11,015,800,001,000 (the same law); both are below the number that stands for none (`most_below_none`). The square is symmetric
-- (`square_turn`) and 0 at the target (`square_self`); on every axis it is at least the squared gap, as often as the axis counts (`scale_bounds`). With
-- rule 1 and factors of one it is the plain sum (`plain_scale_lem`). How great a sum can get whose gaps and factors two tests bound (`near_square`).
-- Assumes nothing.
use mathlib.Core.Path.{◌≡◌, refl, sym, subst, ◌∙◌}
use mathlib.Core.Bool.{Bool, true, false, cond, ◌&&◌}
use Prim.Native.Nat.{ℕ, zero, suc, ◌+◌, ◌*◌, ◌≤◌, ◌<◌, min}
use native.Mathlib.Omega.{arith}
use native.Mathlib.Nat.{mul-le-mul, mul-le-mul_left, mul-le-mul_right, add-mul}
use native.Mathlib.Decide.{dec_le}
use borrow.Author.Tests.{eqb-true, leb-true}
use lib.Dec.{eqb, leb, lit<, lit≤}
use lib.IntN.{ℤ, pos, nat_abs, ◌-ℤ◌, ◌*ℤ◌}
use lib.Signed.{mag}
use Rattle.points.specs.declared.point.Point.{Point}
use Rattle.points.specs.declared.scale.Scale.{Scale}
use Rattle.points.specs.Point.{index_of, range_of, coordinate_of, in_range}
use Rattle.points.specs.Rule.{dry_rule, shift_of, axis_of}
use Rattle.points.specs.Number.{number_of, number_range_of, in_range_by}
use Rattle.points.specs.Scale.{count_of, most_factor, factor_in, factors_in, plain_scale}
use Rattle.points.specs.Square.{gap_of, squared_of, topped, four_squares, plain_square, square_of, most_plain, most_dry, most_square}
use Rattle.points.specs.Choice.{Bounds, no_square}
use Rattle.points.proofs.Tests.{and_l, and_r}
use Rattle.points.proofs.IntegerLaws.{raise, Near, near_self, apart_raise}
use Rattle.points.proofs.PointLaws.{reach}
use Rattle.points.proofs.NumberLaws.{in_range_by_lem, by_range, dry_plain, grown_plain, number_plain, number_dry, number_grown, number_within}

-- ---- the square is bounded from below on every axis
pub scale_bounds : (scale : Scale) → Bounds (square_of scale) (count_of scale)
unfolding square_of plain_square four_squares count_of topped
scale_bounds scale = record { below = below }
  where
    by : ℕ
    by = shift_of scale.rule

    below : (a b : Point) (axis : ℕ) → topped (count_of scale axis * squared_of a b axis) ≤ square_of scale a b
    below a b axis = go (eqb axis (2 + by)) refl (eqb axis (3 + by)) refl (eqb axis (4 + by)) refl (eqb axis (5 + by)) refl
      where
        go : (p : Bool) → eqb axis (2 + by) ≡ p → (q : Bool) → eqb axis (3 + by) ≡ q → (r : Bool) → eqb axis (4 + by) ≡ r → (t : Bool) → eqb axis (5 + by) ≡ t
            → topped (count_of scale axis * squared_of a b axis) ≤ square_of scale a b
        go true e q f r g t h = rw (e, eqb-true axis (2 + by) e) (omega arith)
        go false e true f r g t h = rw (e, f, eqb-true axis (3 + by) f) (omega arith)
        go false e false f true g t h = rw (e, f, g, eqb-true axis (4 + by) g) (omega arith)
        go false e false f false g true h = rw (e, f, g, h, eqb-true axis (5 + by) h) (omega arith)
        go false e false f false g false h = rw (e, f, g, h) (omega arith)

-- ---- gaps
pub apart_self : (x : ℤ) → nat_abs (x -ℤ x) ≡ 0
apart_self x = omega (arith, apart_raise x x (near_self x) (near_self x))

pub apart_turn : (x y : ℤ) → nat_abs (x -ℤ y) ≡ nat_abs (y -ℤ x)
apart_turn x y =
    let b = suc (mag x + mag y) in
    let f : Near b x = record { near = omega arith } in
    let g : Near b y = record { near = omega arith } in
    omega (arith, apart_raise x y f g, apart_raise y x g f)

gap_self : (a : Point) (axis : ℕ) → gap_of a a axis ≡ 0
unfolding gap_of
gap_self a axis = apart_self (number_of a axis)

pub gap_turn : (a b : Point) (axis : ℕ) → gap_of a b axis ≡ gap_of b a axis
unfolding gap_of
gap_turn a b axis = apart_turn (number_of a axis) (number_of b axis)

-- in coordinates: on axes 1 to 5, on axis 6, and on axes 7 to 9
pub gap_plain : (a b : Point) (axis : ℕ) → axis ≤ 5 → gap_of a b axis ≡ nat_abs (coordinate_of a axis -ℤ coordinate_of b axis)
unfolding gap_of
gap_plain a b axis h = λ i. nat_abs (number_plain a axis h i -ℤ number_plain b axis h i)

pub gap_dry : (a b : Point) → in_range a ≡ true → in_range b ≡ true
    → gap_of a b 6 ≡ nat_abs (a.weight *ℤ (pos 10000 -ℤ a.moisture) -ℤ b.weight *ℤ (pos 10000 -ℤ b.moisture))
unfolding gap_of
gap_dry a b e f = λ i. nat_abs ((number_dry a ∙ dry_plain a e) i -ℤ (number_dry b ∙ dry_plain b f) i)

pub gap_grown : (a b : Point) → in_range a ≡ true → in_range b ≡ true → (axis : ℕ) → 3 ≤ axis
    → gap_of a b (axis + 4) ≡ nat_abs (pos 10000 *ℤ coordinate_of a axis -ℤ pos 10000 *ℤ coordinate_of b axis)
unfolding gap_of
gap_grown a b e f axis h =
    let x = number_grown a axis h ∙ grown_plain a e axis in
    let y = number_grown b axis h ∙ grown_plain b f axis in
    λ i. nat_abs (x i -ℤ y i)

-- the gap of two points in range is at most the span of the axis, on the axes of the rule
gap_le : (rule : ℕ) (a b : Point) → in_range_by rule a ≡ true → in_range_by rule b ≡ true → (k : ℕ) → 1 ≤ k → k ≤ 5
    → gap_of a b (axis_of rule k) + raise reach (number_range_of (axis_of rule k)).low ≤ raise reach (number_range_of (axis_of rule k)).high
unfolding gap_of
gap_le rule a b e f k h l =
    let x = number_within rule a e k h l in
    let y = number_within rule b f k h l in
    let axis = axis_of rule k in
    omega (arith, apart_raise (number_of a axis) (number_of b axis) x.near y.near, x.from, x.to, y.from, y.to)

-- ---- squares
pub square_self : (scale : Scale) (a : Point) → square_of scale a a ≡ 0
unfolding square_of plain_square four_squares topped
square_self scale a =
    let by = shift_of scale.rule in
    rw (gap_self a (2 + by), gap_self a (3 + by), gap_self a (4 + by), gap_self a (5 + by)) (omega arith)

pub square_turn : (scale : Scale) (a b : Point) → square_of scale a b ≡ square_of scale b a
unfolding square_of plain_square
square_turn scale a b =
    let by = shift_of scale.rule in
    rw (gap_turn a b (2 + by), gap_turn a b (3 + by), gap_turn a b (4 + by), gap_turn a b (5 + by))

pub plain_scale_lem : (a b : Point) → plain_square plain_scale a b ≡ squared_of a b 2 + squared_of a b 3 + squared_of a b 4 + squared_of a b 5
unfolding plain_square four_squares shift_of
plain_scale_lem a b = omega arith

-- ---- the bound
record Factors (scale : Scale) (most : ℕ) : Type 0 where
  weight : scale.weight ≤ most
  moisture : scale.moisture ≤ most
  speed : scale.speed ≤ most
  draw : scale.draw ≤ most

factor_le : (rule factor : ℕ) → factor_in rule factor ≡ true → factor ≤ most_factor rule
factor_le rule factor e = leb-true factor (most_factor rule) (and_r (leb 1 factor) (leb factor (most_factor rule)) e)

factors : (scale : Scale) → factors_in scale ≡ true → Factors scale (most_factor scale.rule)
unfolding factors_in
factors scale e =
    let rule = scale.rule in
    let a = factor_in rule scale.weight in
    let b = factor_in rule scale.moisture in
    let c = factor_in rule scale.speed in
    let d = factor_in rule scale.draw in
    let three = and_l ((a && b) && c) d e in
    let two = and_l (a && b) c three in
    record {
      weight = factor_le rule scale.weight (and_l a b two);
      moisture = factor_le rule scale.moisture (and_r a b two);
      speed = factor_le rule scale.speed (and_r (a && b) c three);
      draw = factor_le rule scale.draw (and_r ((a && b) && c) d e);
    }

-- the greatest square of a rule, as a number
pub most_is : (rule : ℕ) → most_square rule ≡ cond (eqb rule dry_rule) most_dry most_plain
unfolding most_square
most_is rule = refl

-- that of either rule is never taken for none
pub most_below_none : (rule : ℕ) → most_square rule < no_square
unfolding most_square
most_below_none rule = go (eqb rule dry_rule)
  where
    go : (t : Bool) → cond t most_dry most_plain < no_square
    go true = lit< tt
    go false = lit< tt

-- four gaps up to these, by factors up to m
four_le : (scale : Scale) (m : ℕ) → Factors scale m → (p q r s : ℕ) {w x y z : ℕ} → p ≤ w → q ≤ x → r ≤ y → s ≤ z
    → four_squares scale p q r s ≤ m * (w * w) + m * (x * x) + m * (y * y) + m * (z * z)
unfolding four_squares
four_le scale m k p q r s f g h l =
    omega (
      arith,
      mul-le-mul k.weight (mul-le-mul f f),
      mul-le-mul k.moisture (mul-le-mul g g),
      mul-le-mul k.speed (mul-le-mul h h),
      mul-le-mul k.draw (mul-le-mul l l),
    )

module _ (scale : Scale) (a b : Point) (h : factors_in scale ≡ true) (e : in_range_by scale.rule a ≡ true) (f : in_range_by scale.rule b ≡ true) where
  -- the gap on the k-th axis of the rule
  gap : (k : ℕ) → 1 ≤ k → k ≤ 5 → gap_of a b (axis_of scale.rule k) + raise reach (number_range_of (axis_of scale.rule k)).low ≤ raise reach (number_range_of (axis_of scale.rule k)).high
  gap = gap_le scale.rule a b e f

  -- the two rules, one by one
  plain_below : eqb scale.rule dry_rule ≡ false → plain_square scale a b ≤ most_plain
  unfolding plain_square axis_of shift_of most_factor number_range_of range_of index_of
  plain_below g =
      let weight : gap_of a b 2 ≤ 99999 = omega (arith, (rw g at (gap 2 (lit≤ tt) (lit≤ tt)))) in
      let moisture : gap_of a b 3 ≤ 10000 = omega (arith, (rw g at (gap 3 (lit≤ tt) (lit≤ tt)))) in
      let speed : gap_of a b 4 ≤ 30000 = omega (arith, (rw g at (gap 4 (lit≤ tt) (lit≤ tt)))) in
      let draw : gap_of a b 5 ≤ 4000 = omega (arith, (rw g at (gap 5 (lit≤ tt) (lit≤ tt)))) in
      let sum = four_le scale (most_factor scale.rule) (factors scale h) (gap_of a b 2) (gap_of a b 3) (gap_of a b 4) (gap_of a b 5) weight moisture speed draw in
      rw g (omega (arith, (rw g at sum)))

  dry_below : eqb scale.rule dry_rule ≡ true → plain_square scale a b ≤ most_dry
  unfolding plain_square axis_of shift_of most_factor number_range_of
  dry_below g =
      let weight : gap_of a b 6 ≤ 999999999 = omega (arith, (rw g at (gap 2 (lit≤ tt) (lit≤ tt)))) in
      let moisture : gap_of a b 7 ≤ 99990000 = omega (arith, (rw g at (gap 3 (lit≤ tt) (lit≤ tt)))) in
      let speed : gap_of a b 8 ≤ 300000000 = omega (arith, (rw g at (gap 4 (lit≤ tt) (lit≤ tt)))) in
      let draw : gap_of a b 9 ≤ 40000000 = omega (arith, (rw g at (gap 5 (lit≤ tt) (lit≤ tt)))) in
      let sum = four_le scale (most_factor scale.rule) (factors scale h) (gap_of a b 6) (gap_of a b 7) (gap_of a b 8) (gap_of a b 9) weight moisture speed draw in
      rw g (omega (arith, (rw g at sum)))

  pub plain_le : plain_square scale a b ≤ most_square scale.rule
  unfolding most_square
  plain_le = go (eqb scale.rule dry_rule) refl
    where
      go : (t : Bool) → eqb scale.rule dry_rule ≡ t → plain_square scale a b ≤ cond t most_dry most_plain
      go true g = dry_below g
      go false g = plain_below g

  -- of points and factors in range nothing stops at the greatest number
  pub square_plain : square_of scale a b ≡ plain_square scale a b
  unfolding square_of topped
  square_plain = omega (arith, plain_le, most_below_none scale.rule)

  -- what the sum is, under rule 1 and under rule 2
  pub square_sum : eqb scale.rule dry_rule ≡ false
      → square_of scale a b ≡ scale.weight * squared_of a b 2 + scale.moisture * squared_of a b 3 + scale.speed * squared_of a b 4 + scale.draw * squared_of a b 5
  unfolding plain_square four_squares shift_of
  square_sum g = square_plain ∙ rw g refl

  pub square_sum_dry : eqb scale.rule dry_rule ≡ true
      → square_of scale a b ≡ scale.weight * squared_of a b 6 + scale.moisture * squared_of a b 7 + scale.speed * squared_of a b 8 + scale.draw * squared_of a b 9
  unfolding plain_square four_squares shift_of
  square_sum_dry g = square_plain ∙ rw g refl

  pub square_le : square_of scale a b ≤ most_square scale.rule
  square_le = rw square_plain plain_le

-- the same in coordinates, with a name for each difference
module _ (scale : Scale) (a b : Point) where
  pub plain_differences : eqb scale.rule dry_rule ≡ false → factors_in scale ≡ true → in_range a ≡ true → in_range b ≡ true
      → (w m s d : ℕ) → w ≡ nat_abs (a.weight -ℤ b.weight) → m ≡ nat_abs (a.moisture -ℤ b.moisture) → s ≡ nat_abs (a.speed -ℤ b.speed) → d ≡ nat_abs (a.draw -ℤ b.draw)
      → square_of scale a b ≡ scale.weight * (w * w) + scale.moisture * (m * m) + scale.speed * (s * s) + scale.draw * (d * d)
  unfolding coordinate_of
  plain_differences g h e f w m s d pw pm ps pd =
      let x = gap_plain a b 2 (lit≤ tt) ∙ sym pw in
      let y = gap_plain a b 3 (lit≤ tt) ∙ sym pm in
      let z = gap_plain a b 4 (lit≤ tt) ∙ sym ps in
      let v = gap_plain a b 5 (lit≤ tt) ∙ sym pd in
      square_sum scale a b h (by_range scale.rule a e (rw g refl)) (by_range scale.rule b f (rw g refl)) g
      ∙ (λ i. scale.weight * (x i * x i) + scale.moisture * (y i * y i) + scale.speed * (z i * z i) + scale.draw * (v i * v i))

  pub dry_differences : eqb scale.rule dry_rule ≡ true → factors_in scale ≡ true → in_range_by dry_rule a ≡ true → in_range_by dry_rule b ≡ true
      → (w m s d : ℕ) → w ≡ nat_abs (a.weight *ℤ (pos 10000 -ℤ a.moisture) -ℤ b.weight *ℤ (pos 10000 -ℤ b.moisture))
      → m ≡ nat_abs (pos 10000 *ℤ a.moisture -ℤ pos 10000 *ℤ b.moisture) → s ≡ nat_abs (pos 10000 *ℤ a.speed -ℤ pos 10000 *ℤ b.speed)
      → d ≡ nat_abs (pos 10000 *ℤ a.draw -ℤ pos 10000 *ℤ b.draw)
      → square_of scale a b ≡ scale.weight * (w * w) + scale.moisture * (m * m) + scale.speed * (s * s) + scale.draw * (d * d)
  unfolding coordinate_of
  dry_differences g h e f w m s d pw pm ps pd =
      let k = in_range_by_lem dry_rule a e in
      let l = in_range_by_lem dry_rule b f in
      let same = sym (eqb-true scale.rule dry_rule g) in
      let x = gap_dry a b k l ∙ sym pw in
      let y = gap_grown a b k l 3 (lit≤ tt) ∙ sym pm in
      let z = gap_grown a b k l 4 (lit≤ tt) ∙ sym ps in
      let v = gap_grown a b k l 5 (lit≤ tt) ∙ sym pd in
      square_sum_dry scale a b h (subst (λ n. in_range_by n a ≡ true) same e) (subst (λ n. in_range_by n b ≡ true) same f) g
      ∙ (λ i. scale.weight * (x i * x i) + scale.moisture * (y i * y i) + scale.speed * (z i * z i) + scale.draw * (v i * v i))

-- ---- products that stop at the greatest number

-- a product that stops twice stops where it would at the end
pub topped_again : (c x : ℕ) → topped (c * topped x) ≡ topped (c * x)
unfolding topped
topped_again zero x = omega arith
topped_again (suc n) x = by (dec_le x 18446744073709551615)
  where
    by : Dec (x ≤ 18446744073709551615) → min (suc n * min x 18446744073709551615) 18446744073709551615 ≡ min (suc n * x) 18446744073709551615
    by (yes h) = let e : min x 18446744073709551615 ≡ x = omega arith in rw e
    by (no h) =
        let e : min x 18446744073709551615 ≡ 18446744073709551615 = omega arith in
        let one : 1 ≤ suc n = omega arith in
        rw e (omega (arith, mul-le-mul_right x one))

-- ---- the square without stops

near_part : (f g n : ℕ) → g ≤ n → f * (g * g) ≤ f * (n * n)
near_part f g n h = mul-le-mul_left f (mul-le-mul h h)

-- of gaps that add up to at most n, by factors that add up to at most m, as two tests tell
pub near_square : (f g h k p q r s : ℕ) {x : ℕ} → x ≡ f + g + h + k → (m n : ℕ) → (leb (p + q + r + s) n && leb x m) ≡ true
    → f * (p * p) + g * (q * q) + h * (r * r) + k * (s * s) ≤ m * (n * n)
near_square f g h k p q r s {x} e m n t =
    let all = leb-true (p + q + r + s) n (and_l (leb (p + q + r + s) n) (leb x m) t) in
    let sum = mul-le-mul_right (n * n) (leb-true x m (and_r (leb (p + q + r + s) n) (leb x m) t)) in
    omega (
      arith,
      rw (e, add-mul (f + g + h) k (n * n), add-mul (f + g) h (n * n), add-mul f g (n * n)) at sum,
      near_part f p n (omega arith),
      near_part g q n (omega arith),
      near_part h r n (omega arith),
      near_part k s n (omega arith),
    )

-- so the sum passes no bound where the gaps and the factors add up to little
module _ (scale : Scale) (p q r s : ℕ) {x y : ℕ} (d : y ≡ p + q + r + s) (e : x ≡ scale.weight + scale.moisture + scale.speed + scale.draw)
    (t : (leb y 67108863 && leb x 4096) ≡ true) where
  pub squares_fit : four_squares scale p q r s ≤ 18446744073709551615
  unfolding four_squares
  squares_fit = omega (arith, near_square scale.weight scale.moisture scale.speed scale.draw p q r s e 4096 67108863 (rw d at t))

  pub squares_plain : four_squares scale p q r s ≡ topped (four_squares scale p q r s)
  unfolding topped
  squares_plain = omega (arith, squares_fit)

-- a squared gap as often as an axis counts, where two tests tell that both are small
pub counted_small : (count gap m n : ℕ) → m * (n * n) ≤ 18446744073709551615 → (leb count m && leb gap n) ≡ true → count * (gap * gap) ≡ topped (count * (gap * gap))
unfolding topped
counted_small count gap m n h t =
    let k = leb-true count m (and_l (leb count m) (leb gap n) t) in
    let g = leb-true gap n (and_r (leb count m) (leb gap n) t) in
    omega (arith, h, mul-le-mul k (mul-le-mul g g))
