-- The order of points, compared axis by axis (Rules 1.4), and their order on a tie (Rules 1.7).
use Rattle.std.specs.Prelude.{ℕ, ◌≤◌, ◌<◌, ◌≡◌, ◌⊎◌, Bool, cond}
use Rattle.std.specs.declared.cmp.Ordering.{Ordering}
use Rattle.std.specs.Ordering.{int_cmp, ordering_then, is_lt, is_eq}
use Rattle.points.specs.declared.point.Point.{Point}
use Rattle.points.specs.declared.order.Compared.{Compared}
use Rattle.points.specs.Point.{coordinate_of}

-- the order of two points on an axis
unfoldable pub by_axis : Point → Point → ℕ → Ordering
by_axis a b axis = int_cmp (coordinate_of a axis) (coordinate_of b axis)

-- the order of two points: the first axis on which they differ decides
unfoldable pub order_of : Point → Point → Ordering
order_of a b =
    ordering_then (by_axis a b 1) (ordering_then (by_axis a b 2) (ordering_then (by_axis a b 3) (ordering_then (by_axis a b 4) (by_axis a b 5))))

abbrev pub is_less : Ordering → Bool
is_less order = is_lt order

abbrev pub is_equal : Ordering → Bool
is_equal order = is_eq order

-- how many axes a comparison looks at (Rules 1.4): the number of the first that differs, or 5 where none does
unfoldable pub looked_of : Point → Point → ℕ
looked_of a b =
    cond (is_equal (by_axis a b 1)) (cond (is_equal (by_axis a b 2)) (cond (is_equal (by_axis a b 3)) (cond (is_equal (by_axis a b 4)) 5 4) 3) 2) 1

-- a comparison: the order, and how many axes it looks at
unfoldable pub compared_of : Point → Point → Compared
compared_of a b = record { order = order_of a b; looked = looked_of a b }

-- the same in words, as the law `looked_first` has it: the axes before n are equal, and axis n differs, or n is 5 and the points are one
pub record Looked (a b : Point) (n : ℕ) : Type 0 where
  pub least : 1 ≤ n
  pub most : n ≤ 5
  pub before : (k : ℕ) → 1 ≤ k → k < n → coordinate_of a k ≡ coordinate_of b k
  pub ends : ¬ (coordinate_of a n ≡ coordinate_of b n) ⊎ ((n ≡ 5) × (a ≡ b))

-- the order on a tie: the heavier first, and of two of one weight the lower
unfoldable pub tie_of : Point → Point → Ordering
tie_of a b = ordering_then (by_axis b a 2) (order_of a b)

-- the two points are one
unfoldable pub same_point : Point → Point → Bool
same_point a b = is_equal (order_of a b)
