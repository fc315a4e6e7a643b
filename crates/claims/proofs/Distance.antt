-- Points in range, the two rules of distance, and squares (Rules 1.1, 1.5, 1.8): what is in range (`point_ranges`, `moisture_ranges`, `rule_exact`, `factor_ranges`), what the square is
-- under either rule (`square_sum`, `square_dry`) and at most (`square_most`, `plain_most`, `never_none`), that cuts bound it from below (`square_bounds`), and that the cut
-- between two points parts them (`points_parted`).
use Prim.Native.Nat.{ℕ, ◌+◌, ◌*◌, ◌≤◌, ◌<◌}
use mathlib.Core.Path.{◌≡◌, refl, ◌∙◌}
use mathlib.Core.Logic.{◌⊎◌, ◌↔◌}
use mathlib.Core.Bool.{true, false, cond, not, ◌&&◌, ◌||◌}
use native.Mathlib.Omega.{arith}
use lib.Dec.{eqb, leb}
use lib.IntN.{pos, negsuc, nat_abs, ◌-ℤ◌, ◌*ℤ◌}
use lib.Signed.{le_z, lt_z}
use Rattle.claims.specs.Definitions.{Scale, rule_in, factors_in, count_of, plain_scale, Point, in_range, in_range_by, square_of, cut_of, goes_left, Bounds, no_square}
use Rattle.points.proofs.PointLaws
use Rattle.points.proofs.NumberLaws
use Rattle.points.proofs.ScaleLaws
use Rattle.points.proofs.SquareLaws
use Rattle.points.proofs.CutLaws

-- ---- ranges

-- Rules 1.1: the ranges of the five coordinates
pub point_ranges : (p : Point)
    → in_range p
    ≡ (((((le_z (pos 1) p.grade && le_z p.grade (pos 9999))
    && (le_z (pos 1) p.weight && le_z p.weight (pos 100000)))
    && (le_z (pos 0) p.moisture && le_z p.moisture (pos 10000)))
    && (le_z (pos 0) p.speed && le_z p.speed (pos 30000)))
    && (le_z (negsuc 1999) p.draw && le_z p.draw (pos 2000)))
point_ranges = PointLaws.point_ranges

-- Rules 1.8: under rule 2 a moisture of 10,000 is out of range as well
pub moisture_ranges : (rule : ℕ) (p : Point) → in_range_by rule p ≡ (in_range p && (not (eqb rule 2) || lt_z p.moisture (pos 10000)))
moisture_ranges = NumberLaws.by_is

-- Rules 7.1, question 20: the rule is 1 or 2
pub rule_exact : (rule : ℕ) → (rule_in rule ≡ true) ↔ ((rule ≡ 1) ⊎ (rule ≡ 2))
rule_exact = ScaleLaws.rule_exact

-- question 17: each factor is 1 to 1,000, under rule 2 1 to 16
pub factor_ranges : (scale : Scale) (most : ℕ) → most ≡ cond (eqb scale.rule 2) 16 1000
    → factors_in scale
    ≡ ((((leb 1 scale.weight && leb scale.weight most)
    && (leb 1 scale.moisture && leb scale.moisture most))
    && (leb 1 scale.speed && leb scale.speed most))
    && (leb 1 scale.draw && leb scale.draw most))
factor_ranges scale most e = rw (e, ← ScaleLaws.factor_most scale.rule) (ScaleLaws.factor_ranges scale)

-- ---- squares

-- Rules 1.5: of two points in range the square is the sum of the squared differences on axes 2 to 5, each multiplied by its factor
pub square_sum : (scale : Scale) (a b : Point) → eqb scale.rule 2 ≡ false → factors_in scale ≡ true → in_range a ≡ true → in_range b ≡ true
    → (w m s d : ℕ) → w ≡ nat_abs (a.weight -ℤ b.weight) → m ≡ nat_abs (a.moisture -ℤ b.moisture) → s ≡ nat_abs (a.speed -ℤ b.speed) → d ≡ nat_abs (a.draw -ℤ b.draw)
    → square_of scale a b ≡ scale.weight * (w * w) + scale.moisture * (m * m) + scale.speed * (s * s) + scale.draw * (d * d)
square_sum = SquareLaws.plain_differences

-- Rules 1.8: under rule 2 these are the differences of the dry weights, and of moisture, speed and draw times 10,000
pub square_dry : (scale : Scale) (a b : Point) → eqb scale.rule 2 ≡ true → factors_in scale ≡ true → in_range_by 2 a ≡ true → in_range_by 2 b ≡ true
    → (w m s d : ℕ) → w ≡ nat_abs (a.weight *ℤ (pos 10000 -ℤ a.moisture) -ℤ b.weight *ℤ (pos 10000 -ℤ b.moisture))
    → m ≡ nat_abs (pos 10000 *ℤ a.moisture -ℤ pos 10000 *ℤ b.moisture) → s ≡ nat_abs (pos 10000 *ℤ a.speed -ℤ pos 10000 *ℤ b.speed)
    → d ≡ nat_abs (pos 10000 *ℤ a.draw -ℤ pos 10000 *ℤ b.draw)
    → square_of scale a b ≡ scale.weight * (w * w) + scale.moisture * (m * m) + scale.speed * (s * s) + scale.draw * (d * d)
square_dry = SquareLaws.dry_differences

-- it is at most 11,015,800,001,000 under rule 1, at most 17,625,567,969,600,000,016 under rule 2
pub square_most : (scale : Scale) (a b : Point) → factors_in scale ≡ true → in_range_by scale.rule a ≡ true → in_range_by scale.rule b ≡ true
    → square_of scale a b ≤ cond (eqb scale.rule 2) 17625567969600000016 11015800001000
square_most scale a b h e f = rw (← SquareLaws.most_is scale.rule) (SquareLaws.square_le scale a b h e f)

-- so it is never the number that stands for no square
pub never_none : (scale : Scale) (a b : Point) → factors_in scale ≡ true → in_range_by scale.rule a ≡ true → in_range_by scale.rule b ≡ true → square_of scale a b < no_square
never_none scale a b h e f = omega (arith, SquareLaws.square_le scale a b h e f, SquareLaws.most_below_none scale.rule)

-- under rule 1 with factors of one it is at most 11,015,800,001: a thousandth of what it is with factors of 1,000
pub plain_most : (a b : Point) → in_range a ≡ true → in_range b ≡ true → square_of plain_scale a b ≤ 11015800001
plain_most a b e f =
    let k : Scale = record { rule = 1; weight = 1000; moisture = 1000; speed = 1000; draw = 1000 } in
    omega (
      arith,
      square_sum plain_scale a b refl (factor_ranges plain_scale 1000 refl) e f _ _ _ _ refl refl refl refl,
      square_sum k a b refl (factor_ranges k 1000 refl) e f _ _ _ _ refl refl refl refl,
      square_most k a b (factor_ranges k 1000 refl) (NumberLaws.in_range_plain a ∙ e) (NumberLaws.in_range_plain b ∙ f),
    )

-- ---- what the search rests on

-- the square of either rule is one that the cuts bound from below: on every axis it is at least the squared difference there, as often as the axis counts
pub square_bounds : (scale : Scale) → Bounds (square_of scale) (count_of scale)
square_bounds = SquareLaws.scale_bounds

-- Rules 6.2, under either rule: the cut between two points in range that are not one sends them to its two sides
pub points_parted : (rule : ℕ) (a b : Point) → in_range_by rule a ≡ true → in_range_by rule b ≡ true → ¬ (a ≡ b) → goes_left (cut_of rule a b) b ≡ not (goes_left (cut_of rule a b) a)
points_parted = CutLaws.cut_parts
