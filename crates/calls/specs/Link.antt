-- What a row links to, and rows with other links. A row that is not of the kind asked for has no link, and is not changed into another.
use Rattle.std.specs.Prelude.{ℕ, Bool, true, false, cond, ◌||◌, eqb}
use Rattle.points.specs.declared.point.Point.{Point}
use Rattle.points.specs.Order.{same_point}
use Rattle.points.specs.Word.{NONE, point_at}
use Rattle.rows.specs.declared.row.Row.{Row}
use Rattle.rows.specs.declared.row.Row.TheVariants.{Bad, Spare, Removed, Leaf, Cut}

-- the next link of a free row
abbrev pub next_of : Row → ℕ
next_of Bad = NONE
next_of (Spare next freed) = next
next_of (Removed next freed added point curve) = next
next_of (Leaf parent added point curve) = NONE
next_of (Cut parent cut left right) = NONE

-- the parent link of a row of the tree
abbrev pub parent_of : Row → ℕ
parent_of Bad = NONE
parent_of (Spare next freed) = NONE
parent_of (Removed next freed added point curve) = NONE
parent_of (Leaf parent added point curve) = parent
parent_of (Cut parent cut left right) = parent

-- the other child of a cut
abbrev pub sibling_of : ℕ → Row → ℕ
sibling_of child Bad = NONE
sibling_of child (Spare next freed) = NONE
sibling_of child (Removed next freed added point curve) = NONE
sibling_of child (Leaf parent added point curve) = NONE
sibling_of child (Cut parent cut left right) = cond (eqb left child) right left

-- a cut that has the child
abbrev pub links_to : ℕ → Row → Bool
links_to child Bad = false
links_to child (Spare next freed) = false
links_to child (Removed next freed added point curve) = false
links_to child (Leaf parent added point curve) = false
links_to child (Cut parent cut left right) = eqb left child || eqb right child

abbrev pub is_leaf : Row → Bool
is_leaf Bad = false
is_leaf (Spare next freed) = false
is_leaf (Removed next freed added point curve) = false
is_leaf (Leaf parent added point curve) = true
is_leaf (Cut parent cut left right) = false

abbrev pub is_cut : Row → Bool
is_cut Bad = false
is_cut (Spare next freed) = false
is_cut (Removed next freed added point curve) = false
is_cut (Leaf parent added point curve) = false
is_cut (Cut parent cut left right) = true

-- a row of the tree
abbrev pub is_tree : Row → Bool
is_tree row = is_leaf row || is_cut row

-- a free row
abbrev pub is_free : Row → Bool
is_free Bad = false
is_free (Spare next freed) = true
is_free (Removed next freed added point curve) = true
is_free (Leaf parent added point curve) = false
is_free (Cut parent cut left right) = false

-- a leaf with the point
abbrev pub holds_point : Point → Row → Bool
holds_point p Bad = false
holds_point p (Spare next freed) = false
holds_point p (Removed next freed added point curve) = false
holds_point p (Leaf parent added point curve) = same_point point p
holds_point p (Cut parent cut left right) = false

-- the point and the curve of a leaf
abbrev pub leaf_point : Row → Point
leaf_point Bad = point_at 0 0 0 0 0
leaf_point (Spare next freed) = point_at 0 0 0 0 0
leaf_point (Removed next freed added point curve) = point_at 0 0 0 0 0
leaf_point (Leaf parent added point curve) = point
leaf_point (Cut parent cut left right) = point_at 0 0 0 0 0

abbrev pub leaf_curve : Row → ℕ
leaf_curve Bad = 0
leaf_curve (Spare next freed) = 0
leaf_curve (Removed next freed added point curve) = 0
leaf_curve (Leaf parent added point curve) = curve
leaf_curve (Cut parent cut left right) = 0

-- a free row with another next link
abbrev pub with_next : ℕ → Row → Row
with_next x Bad = Bad
with_next x (Spare next freed) = Spare x freed
with_next x (Removed next freed added point curve) = Removed x freed added point curve
with_next x (Leaf parent added point curve) = Bad
with_next x (Cut parent cut left right) = Bad

-- a row of the tree with another parent link
abbrev pub with_parent : ℕ → Row → Row
with_parent x Bad = Bad
with_parent x (Spare next freed) = Bad
with_parent x (Removed next freed added point curve) = Bad
with_parent x (Leaf parent added point curve) = Leaf x added point curve
with_parent x (Cut parent cut left right) = Cut x cut left right

-- a leaf as the removed row that it becomes, with its next link and the number of its removal
abbrev pub removed_as : ℕ → ℕ → Row → Row
removed_as next number Bad = Bad
removed_as next number (Spare n freed) = Bad
removed_as next number (Removed n freed added point curve) = Bad
removed_as next number (Leaf parent added point curve) = Removed next number added point curve
removed_as next number (Cut parent cut left right) = Bad

-- a cut with a new child in the place of an old one
abbrev pub replaced : ℕ → ℕ → Row → Row
replaced old new Bad = Bad
replaced old new (Spare next freed) = Bad
replaced old new (Removed next freed added point curve) = Bad
replaced old new (Leaf parent added point curve) = Bad
replaced old new (Cut parent cut left right) = cond (eqb left old) (Cut parent cut new right) (Cut parent cut left new)
