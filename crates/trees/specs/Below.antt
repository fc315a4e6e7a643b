-- What lies below each side of a cut. A point may have its mark on a side: where each record has its marks (`Covered`), a search need not see a side
-- that has not the mark of its target (`Closed`). An add marks the sides that it passes (`Passed`).
use Rattle.std.specs.Prelude.{ℕ, ◌≡◌, ◌⊎◌, Bool, true, false}
use Rattle.std.proofs.Math.Option.{Option, none, some}
use Rattle.points.specs.declared.point.Point.{Point}
use Rattle.points.specs.Cut.{goes_left}
use Rattle.points.specs.Word.{NONE}
use Rattle.trees.specs.Row.{Entry}
use Rattle.trees.specs.Tree.{Tree, leaf, cut, TreeHolds}
use Rattle.trees.specs.Choice.{Choice}
use Rattle.trees.specs.Tour.{Opens}

-- one of two trees
abbrev pub pick_tree : Bool → Tree → Tree → Tree
pick_tree true l r = l
pick_tree false l r = r

-- e is on a leaf on that side, true for left, of the cut in row x
abbrev pub TreeBelow : Tree → ℕ → Bool → Entry → Type 0
TreeBelow (leaf a d) x side e = ⊥
TreeBelow (cut a k l r) x side e = ((x ≡ a) × TreeHolds (pick_tree side l r) e) ⊎ (TreeBelow l x side e ⊎ TreeBelow r x side e)

-- the empty tree has no cut
abbrev pub Below : Option Tree → ℕ → Bool → Entry → Type 0
Below none x side e = ⊥
Below (some t) x side e = TreeBelow t x side e

-- no candidate lies on a side that is not open
abbrev pub Closed : Opens → Choice → Option Tree → Type 0
Closed opens c t = (x : ℕ) (side : Bool) (e : Entry) → opens x side ≡ false → Below t x side e → c.candidate e.point ≡ true → ⊥

-- whether a point has its mark on a side of a cut, by the row of the cut and the side, true for left
abbrev pub Marks : Type 0
Marks = ℕ → Bool → Point → Bool

-- each record of the tree has its mark on its side of every cut above it
abbrev pub TreeCovered : Marks → Tree → Type 0
TreeCovered marks t = (x : ℕ) (side : Bool) (e : Entry) → TreeBelow t x side e → marks x side e.point ≡ true

-- the same of a tree that may be empty
abbrev pub Covered : Marks → Option Tree → Type 0
Covered marks t = (x : ℕ) (side : Bool) (e : Entry) → Below t x side e → marks x side e.point ≡ true

-- row x lies on the way of p from the top of the tree, and each cut above it has the mark of p on the side of p
abbrev pub TreePassed : Marks → Tree → Point → ℕ → Type 0
TreePassed marks (leaf a e) p x = x ≡ a
TreePassed marks (cut a k l r) p x =
    (x ≡ a)
    ⊎ (((goes_left k p ≡ true) × (marks a true p ≡ true) × TreePassed marks l p x)
    ⊎ ((goes_left k p ≡ false) × (marks a false p ≡ true) × TreePassed marks r p x))

-- in the empty tree no row does
abbrev pub Passed : Marks → Option Tree → Point → ℕ → Type 0
Passed marks none p x = ⊥
Passed marks (some t) p x = TreePassed marks t p x

-- an unfinished add of p: its cursor is none, which means the root link, or on the way of p, marked down to it
abbrev pub Passing : Marks → Option Tree → Point → ℕ → Type 0
Passing marks t p x = (x ≡ NONE) ⊎ Passed marks t p x

-- the cut in row x is one of the tree's
abbrev pub TreeHasCut : Tree → ℕ → Type 0
TreeHasCut (leaf a e) x = ⊥
TreeHasCut (cut a k l r) x = (x ≡ a) ⊎ (TreeHasCut l x ⊎ TreeHasCut r x)

-- in the empty tree there is none
abbrev pub HasCut : Option Tree → ℕ → Type 0
HasCut none x = ⊥
HasCut (some t) x = TreeHasCut t x

-- no mark on a cut of the tree is lost
abbrev pub TreeGrows : Marks → Marks → Tree → Type 0
TreeGrows marks marks' t = (x : ℕ) → TreeHasCut t x → (side : Bool) (p : Point) → marks x side p ≡ true → marks' x side p ≡ true

-- the same of a tree that may be empty
abbrev pub Grows : Marks → Marks → Option Tree → Type 0
Grows marks marks' t = (x : ℕ) → HasCut t x → (side : Bool) (p : Point) → marks x side p ≡ true → marks' x side p ≡ true
