-- Points and cuts as stored words: a coordinate less the least of its axis, a sum less twice that, an axis less one.
use Rattle.std.specs.Prelude.{ℕ, ◌+◌, ◌-◌, Bool, cond, ◌&&◌, leb, ℤ, pos, nat_abs, ◌+ℤ◌, ◌-ℤ◌}
use Rattle.std.specs.Int.Signed.{le_z}
use Rattle.points.specs.declared.point.Point.{Point}
use Rattle.points.specs.declared.point.Range.{Range}
use Rattle.points.specs.declared.cut.Cut.{Cut}
use Rattle.points.specs.Point.{range_of, within_range, coordinate_of}
use Rattle.points.specs.Rule.{is_axis_by}
use Rattle.points.specs.Number.{number_range_of}

-- the word for none, which stands for no number of a range
abbrev pub NONE : ℕ
NONE = 4294967295

-- the number that is in no range
abbrev pub outside : ℤ
outside = pos 2147483647

-- a number of a range as its distance from the least
unfoldable pub stored_in : Range → ℤ → ℕ
stored_in r x = cond (within_range r x) (nat_abs (x -ℤ r.low)) NONE

-- the number of a range at a distance from the least
unfoldable pub loaded_in : Range → ℕ → ℤ
loaded_in r w = cond (le_z (r.low +ℤ pos w) r.high) (r.low +ℤ pos w) outside

-- the range of the sums of two numbers of an axis
unfoldable pub sum_range_of : ℕ → Range
sum_range_of axis = record { low = (number_range_of axis).low +ℤ (number_range_of axis).low; high = (number_range_of axis).high +ℤ (number_range_of axis).high }

-- the greatest word of a range, of an axis's coordinates and of its sums
unfoldable pub span_in : Range → ℕ
span_in r = nat_abs (r.high -ℤ r.low)

abbrev pub span_of : ℕ → ℕ
span_of axis = span_in (range_of axis)

abbrev pub sum_span_of : ℕ → ℕ
sum_span_of axis = span_in (sum_range_of axis)

-- the word of a point's coordinate on an axis
unfoldable pub word_of : Point → ℕ → ℕ
word_of p axis = stored_in (range_of axis) (coordinate_of p axis)

-- the coordinate that a word stands for on an axis
unfoldable pub coordinate_at : ℕ → ℕ → ℤ
coordinate_at axis w = loaded_in (range_of axis) w

-- the point of five words
unfoldable pub point_at : ℕ → ℕ → ℕ → ℕ → ℕ → Point
point_at grade weight moisture speed draw = record {
  grade = coordinate_at 1 grade;
  weight = coordinate_at 2 weight;
  moisture = coordinate_at 3 moisture;
  speed = coordinate_at 4 speed;
  draw = coordinate_at 5 draw;
}

-- an axis from 1 to 9
abbrev pub is_axis : ℕ → Bool
is_axis axis = leb 1 axis && leb axis 9

-- an axis that the rule goes by, and a sum that two points in range can have there
unfoldable pub cut_in_range : ℕ → Cut → Bool
cut_in_range rule cut = is_axis_by rule cut.axis && within_range (sum_range_of cut.axis) cut.sum

-- the word of a cut's axis
unfoldable pub axis_word_of : Cut → ℕ
axis_word_of cut = cond (is_axis cut.axis) (cut.axis - 1) NONE

-- the word of a cut's sum
unfoldable pub sum_word_of : Cut → ℕ
sum_word_of cut = stored_in (sum_range_of cut.axis) cut.sum

-- the cut of two words; no axis where the first is above 8
unfoldable pub cut_at : ℕ → ℕ → Cut
cut_at axis sum = cond (leb axis 8) (record { axis = axis + 1; sum = loaded_in (sum_range_of (axis + 1)) sum }) (record { axis = 0; sum = pos 0 })
