-- Cuts: the cut between two points (Rules 6.2), and the side on which it sends a point (Rules 6.3).
use Rattle.std.specs.Prelude.{ℕ, Bool, true, false, ltb, ◌+ℤ◌}
use Rattle.std.specs.Int.Signed.{lt_z}
use Rattle.points.specs.declared.point.Point.{Point}
use Rattle.points.specs.declared.cut.Cut.{Cut}
use Rattle.points.specs.declared.cut.Spread.{Spread}
use Rattle.points.specs.Signed.{capped_of}
use Rattle.points.specs.Number.{number_of}
use Rattle.points.specs.Rule.{axis_of}
use Rattle.points.specs.Square.{gap_of}

-- one of two spreads
abbrev pub pick_spread : Bool → Spread → Spread → Spread
pick_spread true x y = x
pick_spread false x y = y

-- the wider of two spreads; the first where they are equal
unfoldable pub wider_of : Spread → Spread → Spread
wider_of first second = pick_spread (ltb first.gap second.gap) second first

-- an axis with the gap of two points there
unfoldable pub spread_of : Point → Point → ℕ → Spread
spread_of a b axis = record { axis = axis; gap = gap_of a b axis }

-- of the axes that a rule goes by, that of the greatest difference, the lowest on a tie
unfoldable pub widest_of : ℕ → Point → Point → ℕ
widest_of rule a b =
    let on : ℕ → Spread = λ k. spread_of a b (axis_of rule k) in
    (wider_of (wider_of (wider_of (wider_of (on 1) (on 2)) (on 3)) (on 4)) (on 5)).axis

-- the cut between two points keeps the sum of that axis; a sum of points in range is never capped (`cut_plain`)
unfoldable pub cut_of : ℕ → Point → Point → Cut
cut_of rule a b =
    let axis = widest_of rule a b in
    record { axis = axis; sum = capped_of (number_of a axis +ℤ number_of b axis) }

-- a point goes left exactly if twice its number on the axis is less than the sum
unfoldable pub goes_left : Cut → Point → Bool
goes_left cut p = lt_z (number_of p cut.axis +ℤ number_of p cut.axis) cut.sum
