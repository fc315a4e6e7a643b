-- The tree of an audit. Every row answers for itself, with nothing kept from row to row but a count of leaves: a leaf climbs to the root; the two
-- links of a cut differ, and both rows link back to it; the root has no parent.
use Rattle.std.specs.Prelude.{ℕ, zero, suc, Bool, true, false, ◌&&◌, ◌||◌, not, List, eqb}
use Rattle.stations.specs.Counts.{counts_at}
use Rattle.points.specs.Word.{NONE}
use Rattle.rows.specs.declared.row.Row.{Row}
use Rattle.rows.specs.declared.row.Row.TheVariants.{Bad, Spare, Removed, Leaf, Cut}
use Rattle.rows.specs.Row.{row_at}
use Rattle.stations.specs.Common.{rows_in}
use Rattle.calls.specs.declared.tree.Count.{Count}
use Rattle.calls.specs.Sum.{plus}
use Rattle.calls.specs.Climb.{climb}

-- a leaf or a cut with this parent link
abbrev pub links_up : ℕ → Row → Bool
links_up parent Bad = false
links_up parent (Spare next freed) = false
links_up parent (Removed next freed added point curve) = false
links_up parent (Leaf over added point curve) = eqb over parent
links_up parent (Cut over cut left right) = eqb over parent

-- the links of the cut r differ, and both rows link back to it
abbrev pub forks : List ℕ → ℕ → ℕ → ℕ → ℕ → Bool
forks words rows r left right = not (eqb left right) && (links_up r (row_at words rows left) && links_up r (row_at words rows right))

-- a row of the tree answers for itself; a free row is the queue's to judge
abbrev pub row_sound : List ℕ → ℕ → ℕ → ℕ → Row → Bool
row_sound words rows root r Bad = false
row_sound words rows root r (Spare next freed) = true
row_sound words rows root r (Removed next freed added point curve) = true
row_sound words rows root r (Leaf over added point curve) = climb words rows root point rows r over
row_sound words rows root r (Cut over cut left right) = forks words rows r left right

-- a leaf counts one
abbrev pub leaf_count : Row → ℕ
leaf_count Bad = 0
leaf_count (Spare next freed) = 0
leaf_count (Removed next freed added point curve) = 0
leaf_count (Leaf over added point curve) = 1
leaf_count (Cut over cut left right) = 0

-- the count of one row
abbrev pub row_count : List ℕ → ℕ → ℕ → ℕ → Row → Count
row_count words rows root r row = record { leaves = leaf_count row; sound = row_sound words rows root r row }

-- one of two counts
abbrev pub pick_count : Bool → Count → Count → Count
pick_count true x y = x
pick_count false x y = y

-- one row more
abbrev pub added : Count → Count → Count
added c row = record { leaves = plus row.leaves c.leaves; sound = row.sound }

-- after an unsound row none is looked at
abbrev pub counted : Count → Count → Count
counted c row = pick_count c.sound (added c row) c

-- the rows below n: how many of them are leaves, and whether all are sound
unfoldable pub scan : List ℕ → ℕ → ℕ → ℕ → Count
scan words rows root zero = record { leaves = 0; sound = true }
scan words rows root (suc n) = counted (scan words rows root n) (row_count words rows root n (row_at words rows n))

-- the root link is none, or that of a leaf or a cut without a parent
abbrev pub root_sound : ℕ → Row → Bool
root_sound root row = eqb root NONE || links_up NONE row

-- all the rows counted, and the root
abbrev pub tree_of : Count → Bool → Count
tree_of c sound = record { leaves = c.leaves; sound = c.sound && sound }

-- the tree that the root links to
unfoldable pub tree_in : List ℕ → Count
tree_in words =
    tree_of (scan words (rows_in words) (counts_at words).root (rows_in words)) (root_sound (counts_at words).root (row_at words (rows_in words) (counts_at words).root))
