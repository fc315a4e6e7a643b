-- The choice of the nearest (Rules 1.6, 1.7), and what a cut says of the records beyond it.
use Rattle.std.specs.Prelude.{ℕ, suc, ◌*◌, ◌≤◌, ◌<◌, ◌≡◌, Bool, true, false, cond, eqb, ltb, nat_abs, ◌+ℤ◌, ◌-ℤ◌}
use Rattle.std.specs.Int.Signed.{lt_z}
use Rattle.std.specs.declared.cmp.Ordering.TheVariants.{Less}
use Rattle.points.specs.declared.point.Point.{Point}
use Rattle.points.specs.declared.cut.Cut.{Cut}
use Rattle.points.specs.declared.scale.Scale.{Scale}
use Rattle.points.specs.Number.{number_of}
use Rattle.points.specs.Order.{by_axis, order_of, tie_of, is_less, is_equal}
use Rattle.points.specs.Scale.{count_of}
use Rattle.points.specs.Square.{squared_of, topped, square_of}
use Rattle.points.specs.Cut.{goes_left}

-- Rules 1.6: "Only records of the target's grade are candidates"
unfoldable pub same_grade : Point → Point → Bool
same_grade a b = is_equal (by_axis a b 1)

-- a at the square x over b at the square y: the smaller is chosen (Rules 1.6); "Among equal squares the higher basis weight wins", then the lower point
-- (Rules 1.7)
abbrev pub chosen_at : ℕ → ℕ → Point → Point → Bool
chosen_at x y a b = cond (ltb x y) true (cond (ltb y x) false (is_less (tie_of a b)))

-- by any square
unfoldable pub chosen_by : (Point → Point → ℕ) → Point → Point → Point → Bool
chosen_by square target a b = chosen_at (square target a) (square target b) a b

-- the same in words, as the law `chosen_exact` has it: a is nearer to the target than b; or as near and heavier; or as near, of one weight, and lower
pub data Chosen (square : Point → Point → ℕ) (target a b : Point) : Type 0 where
  nearer : square target a < square target b → Chosen square target a b
  heavier : square target a ≡ square target b → lt_z b.weight a.weight ≡ true → Chosen square target a b
  lower : square target a ≡ square target b → a.weight ≡ b.weight → order_of a b ≡ Less → Chosen square target a b

-- by the square of the opening
unfoldable pub chosen_over : Scale → Point → Point → Point → Bool
chosen_over scale target a b = chosen_by (square_of scale) target a b

-- twice the least distance of the target from the far side, on the cut's axis
unfoldable pub far_gap : Cut → Point → ℕ
far_gap cut target =
    let x = number_of target cut.axis in
    cond (goes_left cut target) (nat_abs (cut.sum -ℤ (x +ℤ x))) (suc (nat_abs (x +ℤ x -ℤ cut.sum)))

-- no record beyond the cut can be chosen over one at the best square: always on axis 1, where the far side has other grades;
-- else where even the least distance there has a greater square, as often as the axis counts. At an equal square a record may still win the tie.
unfoldable pub excluded_by : (ℕ → ℕ) → Cut → Point → ℕ → Bool
excluded_by count cut target best =
    cond (eqb cut.axis 1) true (ltb (topped (4 * best)) (topped (count cut.axis * (far_gap cut target * far_gap cut target))))

-- by the rule and the factors of the opening
unfoldable pub excluded : Scale → Cut → Point → ℕ → Bool
excluded scale cut target best = excluded_by (count_of scale) cut target best

-- a square that the cuts bound from below: on every axis it is at least the squared gap there, as often as the axis counts
pub record Bounds (square : Point → Point → ℕ) (count : ℕ → ℕ) : Type 0 where
  pub below : (a b : Point) (axis : ℕ) → topped (count axis * squared_of a b axis) ≤ square a b

-- the best square while there is no best: only a cut on axis 1 excludes its far side then
abbrev pub no_square : ℕ
no_square = 18446744073709551615
