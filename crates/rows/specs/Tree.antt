-- Rows of the tree: leaves and cuts, and the children of a cut.
use Rattle.std.specs.Prelude.{ℕ, ◌+◌, Bool, cond, List}
use Rattle.rows.specs.declared.row.Row.{Row}
use Rattle.rows.specs.declared.row.Row.TheVariants.{Bad, Spare, Removed, Leaf, Cut}
use Rattle.words.specs.Layout.{at_row}
use Rattle.words.specs.Words.{get}

-- a leaf or a cut as it is, and Bad for any other row
abbrev pub tree_row : Row → Row
tree_row Bad = Bad
tree_row (Spare next freed) = Bad
tree_row (Removed next freed added point curve) = Bad
tree_row (Leaf parent added point curve) = Leaf parent added point curve
tree_row (Cut parent cut left right) = Cut parent cut left right

-- the word of the child of row r on a side, left or not, and that child where the row is a cut
unfoldable pub at_child : ℕ → Bool → ℕ
at_child r left = at_row r + cond left 6 7

unfoldable pub child_at : List ℕ → ℕ → Bool → ℕ
child_at words r left = get words (at_child r left)
