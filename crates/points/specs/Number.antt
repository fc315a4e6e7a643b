-- The numbers of a point by which squares and cuts go. On axes 1 to 5 they are its coordinates, on axes 6 to 9 what rule 2 makes of axes 2 to 5
-- (Rules 1.8): "the dry weight is weight × (10,000 − moisture), moisture, speed and draw are multiplied by 10,000".
use Rattle.std.specs.Prelude.{ℕ, ◌-◌, Bool, true, false, not, ◌&&◌, ◌||◌, eqb, leb, ℤ, pos, negsuc, ◌-ℤ◌, ◌*ℤ◌}
use Rattle.std.specs.Int.Signed.{lt_z}
use Rattle.points.specs.declared.point.Point.{Point}
use Rattle.points.specs.declared.point.Range.{Range}
use Rattle.points.specs.Signed.{pick_z, capped_of}
use Rattle.points.specs.Point.{coordinate_of, range_of, in_range}
use Rattle.points.specs.Rule.{dry_rule}

-- the dry weight; of points in range it is never capped (`dry_plain`)
unfoldable pub dry_of : Point → ℤ
dry_of p = capped_of (p.weight *ℤ (pos 10000 -ℤ p.moisture))

-- a coordinate times 10,000; of points in range it is never capped (`grown_plain`)
unfoldable pub grown_of : Point → ℕ → ℤ
grown_of p axis = capped_of (pos 10000 *ℤ coordinate_of p axis)

-- the number of a point on an axis; any axis above 9 is taken for axis 9
unfoldable pub number_of : Point → ℕ → ℤ
number_of p axis = pick_z (leb axis 5) (coordinate_of p axis) (pick_z (eqb axis 6) (dry_of p) (grown_of p (axis - 4)))

-- one of two ranges
abbrev pub pick_range : Bool → Range → Range → Range
pick_range true x y = x
pick_range false x y = y

-- the range of those numbers, on axes 6 to 9 of points with a moisture of at most 9,999
unfoldable pub number_range_of : ℕ → Range
number_range_of axis =
    pick_range (leb axis 5) (range_of axis)
    (pick_range (eqb axis 6) (record { low = pos 1; high = pos 1000000000 })
    (pick_range (eqb axis 7) (record { low = pos 0; high = pos 99990000 })
    (pick_range (eqb axis 8) (record { low = pos 0; high = pos 300000000 }) (record { low = negsuc 19999999; high = pos 20000000 }))))

-- Rules 7.1, question 8: every coordinate lies in its range, and under rule 2 the moisture is below 10,000, where there would be no dry weight
unfoldable pub in_range_by : ℕ → Point → Bool
in_range_by rule p = in_range p && (not (eqb rule dry_rule) || lt_z p.moisture (pos 10000))
