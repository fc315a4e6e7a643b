-- Counts of an audit: sums that stop at the greatest word.
use Rattle.std.specs.Prelude.{ℕ, ◌+◌, ◌-◌, cond, leb}
use Rattle.points.specs.Word.{NONE}

-- a sum that stops at the greatest word
unfoldable pub plus : ℕ → ℕ → ℕ
plus x y = cond (leb (x + y) NONE) (x + y) NONE

-- the rows of a tree of n leaves: n leaves and n − 1 cuts
abbrev pub tree_rows : ℕ → ℕ
tree_rows leaves = plus leaves (leaves - 1)
