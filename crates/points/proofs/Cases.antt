-- P1 to P4 (Rules 13) and nine more cases, by computation of the definitions that the contracts cite.
-- Assumes nothing.
use mathlib.Core.Path.{◌≡◌, refl}
use mathlib.Core.Bool.{true, false}
use Prim.Native.Nat.{ℕ}
use lib.IntN.{ℤ, pos, negsuc}
use Rattle.points.specs.declared.point.Point.{Point}
use Rattle.points.specs.declared.scale.Scale.{Scale}
use Rattle.points.specs.Point.{index_of, range_of, coordinate_of, within_range, on_axis, in_range}
use Rattle.points.specs.Signed.{capped_of}
use Rattle.points.specs.Rule.{plain_rule, dry_rule, shift_of, axis_of}
use Rattle.points.specs.Number.{dry_of, grown_of, number_of, in_range_by}
use Rattle.points.specs.Scale.{count_of, most_factor, factors_in, plain_scale}
use Rattle.points.specs.Square.{gap_of, topped, four_squares, plain_square, square_of, most_plain, most_dry}
use Rattle.points.specs.Order.{by_axis, order_of, tie_of}
use Rattle.points.specs.Choice.{chosen_by, chosen_over, far_gap, excluded_by, excluded}
use Rattle.points.specs.Cut.{wider_of, spread_of, widest_of, cut_of, goes_left}
use Rattle.points.proofs.SquareLaws.{square_plain}

-- grade 12, 80 g/m², 5.5 %, 900 m/min, with the weight, speed and draw given
abbrev pub point_with : ℤ → ℤ → ℤ → Point
point_with weight speed draw = record { grade = pos 12; weight = weight; moisture = pos 550; speed = speed; draw = draw }

-- P1: draws −3 and 4, else equal: square 49
pub p1 : square_of plain_scale (point_with (pos 8000) (pos 9000) (negsuc 2)) (point_with (pos 8000) (pos 9000) (pos 4)) ≡ 49
unfolding square_of plain_square four_squares topped gap_of number_of shift_of coordinate_of
p1 = refl

-- P2: cut of 3 and 4: 3 left, 4 right
pub p2 : (goes_left (cut_of plain_rule (point_with (pos 8000) (pos 9000) (pos 3)) (point_with (pos 8000) (pos 9000) (pos 4))) (point_with (pos 8000) (pos 9000) (pos 3)) ≡ true)
    × (goes_left (cut_of plain_rule (point_with (pos 8000) (pos 9000) (pos 3)) (point_with (pos 8000) (pos 9000) (pos 4))) (point_with (pos 8000) (pos 9000) (pos 4)) ≡ false)
unfolding goes_left cut_of capped_of widest_of wider_of spread_of gap_of number_of axis_of shift_of coordinate_of
p2 = (refl, refl)

-- P3: cut of −4 and −3: −4 left, −3 right
pub p3 : (goes_left (cut_of plain_rule (point_with (pos 8000) (pos 9000) (negsuc 3)) (point_with (pos 8000) (pos 9000) (negsuc 2))) (point_with (pos 8000) (pos 9000) (negsuc 3)) ≡ true)
    × (goes_left (cut_of plain_rule (point_with (pos 8000) (pos 9000) (negsuc 3)) (point_with (pos 8000) (pos 9000) (negsuc 2))) (point_with (pos 8000) (pos 9000) (negsuc 2)) ≡ false)
unfolding goes_left cut_of capped_of widest_of wider_of spread_of gap_of number_of axis_of shift_of coordinate_of
p3 = (refl, refl)

-- P4: points equal but for weight +5 and speed +5: axis 2
pub p4 : (cut_of plain_rule (point_with (pos 8000) (pos 9000) (pos 0)) (point_with (pos 8005) (pos 9005) (pos 0))).axis ≡ 2
unfolding cut_of widest_of wider_of spread_of gap_of number_of axis_of shift_of coordinate_of
p4 = refl

-- a far side at the distance of the best may hold the record that wins the tie: target 9,000, best 8,990, and beyond the cut, from 9,010 on, the heavier
pub tie_kept : (far_gap (record { axis = 2; sum = pos 18020 }) (point_with (pos 9000) (pos 9000) (pos 0)) ≡ 20)
    × (excluded plain_scale (record { axis = 2; sum = pos 18020 }) (point_with (pos 9000) (pos 9000) (pos 0)) 100 ≡ false)
    × (chosen_over plain_scale (point_with (pos 9000) (pos 9000) (pos 0)) (point_with (pos 9010) (pos 9000) (pos 0)) (point_with (pos 8990) (pos 9000) (pos 0)) ≡ true)
unfolding excluded excluded_by count_of far_gap goes_left chosen_over chosen_by square_of plain_square four_squares topped gap_of number_of shift_of tie_of order_of by_axis coordinate_of
tie_kept = (refl, refl, refl)

-- the same to the left: target speed 9,000, best 9,010, and beyond the cut, up to 8,990, the lower of two of one weight
pub tie_kept_left : (far_gap (record { axis = 4; sum = pos 17981 }) (point_with (pos 8000) (pos 9000) (pos 0)) ≡ 20)
    × (excluded plain_scale (record { axis = 4; sum = pos 17981 }) (point_with (pos 8000) (pos 9000) (pos 0)) 100 ≡ false)
    × (chosen_over plain_scale (point_with (pos 8000) (pos 9000) (pos 0)) (point_with (pos 8000) (pos 8990) (pos 0)) (point_with (pos 8000) (pos 9010) (pos 0)) ≡ true)
unfolding excluded excluded_by count_of far_gap goes_left chosen_over chosen_by square_of plain_square four_squares topped gap_of number_of shift_of tie_of order_of by_axis coordinate_of
tie_kept_left = (refl, refl, refl)

-- a rule, and four factors of one size
abbrev pub factors_of : ℕ → ℕ → Scale
factors_of rule factor = record { rule = rule; weight = factor; moisture = factor; speed = factor; draw = factor }

-- the upper and the lower ends of the ranges of axes 2 to 5
abbrev pub highest : Point
highest = record { grade = pos 1; weight = pos 100000; moisture = pos 10000; speed = pos 30000; draw = pos 2000 }

abbrev pub lowest : Point
lowest = record { grade = pos 1; weight = pos 1; moisture = pos 0; speed = pos 0; draw = negsuc 1999 }

-- the greatest and the least dry weight, with the other ends
abbrev pub driest : Point
driest = record { grade = pos 1; weight = pos 100000; moisture = pos 0; speed = pos 0; draw = negsuc 1999 }

abbrev pub wettest : Point
wettest = record { grade = pos 1; weight = pos 1; moisture = pos 9999; speed = pos 30000; draw = pos 2000 }

pub ends_in_range : (in_range_by plain_rule highest ≡ true) × (in_range_by plain_rule lowest ≡ true) × (in_range_by dry_rule driest ≡ true) × (in_range_by dry_rule wettest ≡ true)
unfolding in_range_by in_range on_axis within_range range_of index_of coordinate_of
ends_in_range = (refl, refl, refl, refl)

-- they meet the bound of `square_le` under rule 2 with factors of 16, and under rule 1 with factors of 1,000
pub most_attained : square_of (factors_of dry_rule 16) driest wettest ≡ most_dry
unfolding plain_square four_squares gap_of number_of shift_of dry_of grown_of capped_of coordinate_of factors_in most_factor
most_attained = square_plain (factors_of dry_rule 16) driest wettest refl ends_in_range.2 ends_in_range.3

pub most_attained_plain : square_of (factors_of plain_rule 1000) highest lowest ≡ most_plain
unfolding plain_square four_squares gap_of number_of shift_of coordinate_of factors_in most_factor
most_attained_plain = square_plain (factors_of plain_rule 1000) highest lowest refl ends_in_range.0 ends_in_range.1

-- two points of one dry weight, 40,000,000, and of different moisture: under rule 2 the cut is on moisture, and parts them
abbrev pub moist : ℤ → ℤ → Point
moist weight moisture = record { grade = pos 12; weight = weight; moisture = moisture; speed = pos 9000; draw = pos 0 }

pub dry_parted : (dry_of (moist (pos 5000) (pos 2000)) ≡ dry_of (moist (pos 8000) (pos 5000)))
    × ((cut_of dry_rule (moist (pos 5000) (pos 2000)) (moist (pos 8000) (pos 5000))).axis ≡ 7)
    × (goes_left (cut_of dry_rule (moist (pos 5000) (pos 2000)) (moist (pos 8000) (pos 5000))) (moist (pos 5000) (pos 2000)) ≡ true)
    × (goes_left (cut_of dry_rule (moist (pos 5000) (pos 2000)) (moist (pos 8000) (pos 5000))) (moist (pos 8000) (pos 5000)) ≡ false)
unfolding goes_left cut_of capped_of widest_of wider_of spread_of gap_of number_of dry_of grown_of axis_of shift_of coordinate_of
dry_parted = (refl, refl, refl, refl)

-- a moisture of 10,000 is in range under rule 1 alone, one of 9,999 under rule 2 too
pub soaked : (in_range_by plain_rule (moist (pos 8000) (pos 10000)) ≡ true) × (in_range_by dry_rule (moist (pos 8000) (pos 10000)) ≡ false) × (in_range_by dry_rule (moist (pos 8000) (pos 9999)) ≡ true)
unfolding in_range_by in_range on_axis within_range range_of index_of coordinate_of
soaked = (refl, refl, refl)

-- a factor turns a choice: of a record 10 away in weight and one 20 away in speed the first is chosen, and the second once weight counts five times
pub factors_choose : (chosen_over plain_scale (point_with (pos 9000) (pos 9000) (pos 0)) (point_with (pos 9010) (pos 9000) (pos 0)) (point_with (pos 9000) (pos 9020) (pos 0)) ≡ true)
    × (chosen_over (record { rule = plain_rule; weight = 5; moisture = 1; speed = 1; draw = 1 }) (point_with (pos 9000) (pos 9000) (pos 0)) (point_with (pos 9000) (pos 9020) (pos 0))
    (point_with (pos 9010) (pos 9000) (pos 0))
    ≡ true)
unfolding chosen_over chosen_by square_of plain_square four_squares topped gap_of number_of shift_of coordinate_of
factors_choose = (refl, refl)

-- the ends of the ranges: a draw of −2,000 is in, one of −2,001 is not
pub least_draw : (in_range (point_with (pos 1) (pos 0) (negsuc 1999)) ≡ true) × (in_range (point_with (pos 1) (pos 0) (negsuc 2000)) ≡ false)
unfolding in_range on_axis within_range range_of index_of coordinate_of
least_draw = (refl, refl)
