-- Rules 1.5, the square of two points: "the sum of the squared differences on axes 2 to 5, each multiplied by the factor of its axis", by the numbers of
-- the rule (Rules 1.8).
use Rattle.std.specs.Prelude.{ℕ, ◌+◌, ◌*◌, min, cond, eqb, nat_abs, ◌-ℤ◌}
use Rattle.points.specs.declared.point.Point.{Point}
use Rattle.points.specs.declared.scale.Scale.{Scale}
use Rattle.points.specs.Rule.{dry_rule, shift_of}
use Rattle.points.specs.Number.{number_of}

-- how far apart two points lie on an axis
unfoldable pub gap_of : Point → Point → ℕ → ℕ
gap_of a b axis = nat_abs (number_of a axis -ℤ number_of b axis)

-- its square
abbrev pub squared_of : Point → Point → ℕ → ℕ
squared_of a b axis = gap_of a b axis * gap_of a b axis

-- a number, or the greatest of 64 bits where it lies beyond that
unfoldable pub topped : ℕ → ℕ
topped n = min n 18446744073709551615

-- the sum of the four, each as often as its factor says
unfoldable pub four_squares : Scale → ℕ → ℕ → ℕ → ℕ → ℕ
four_squares scale weight moisture speed draw =
    scale.weight * (weight * weight) + scale.moisture * (moisture * moisture) + scale.speed * (speed * speed) + scale.draw * (draw * draw)

-- those of the axes that the rule takes for 2 to 5
unfoldable pub plain_square : Scale → Point → Point → ℕ
plain_square scale a b =
    let by = shift_of scale.rule in
    four_squares scale (gap_of a b (2 + by)) (gap_of a b (3 + by)) (gap_of a b (4 + by)) (gap_of a b (5 + by))

-- the square; of points and factors in range it is the sum itself, below the greatest number (`square_plain`, `square_le`)
unfoldable pub square_of : Scale → Point → Point → ℕ
square_of scale a b = topped (plain_square scale a b)

-- the greatest square of points and factors in range under rule 1: 1,000 × (99,999² + 10,000² + 30,000² + 4,000²)
abbrev pub most_plain : ℕ
most_plain = 11015800001000

-- under rule 2: 16 × (999,999,999² + 99,990,000² + 300,000,000² + 40,000,000²)
abbrev pub most_dry : ℕ
most_dry = 17625567969600000016

unfoldable pub most_square : ℕ → ℕ
most_square rule = cond (eqb rule dry_rule) most_dry most_plain
