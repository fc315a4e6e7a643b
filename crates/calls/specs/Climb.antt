-- The climb of a leaf: by parent links to the root, where each cut on the way sends the leaf's point to the row that the climb came from.
use Rattle.std.specs.Prelude.{ℕ, zero, suc, Bool, false, cond, ◌&&◌, List, eqb}
use Rattle.points.specs.declared.point.Point.{Point}
use Rattle.points.specs.declared.cut.Cut.{Cut as PointCut}
use Rattle.points.specs.Cut.{goes_left}
use Rattle.points.specs.Word.{NONE}
use Rattle.rows.specs.declared.row.Row.{Row}
use Rattle.rows.specs.declared.row.Row.TheVariants.{Bad, Spare, Removed, Leaf, Cut}
use Rattle.rows.specs.Row.{row_at}
use Rattle.calls.specs.declared.climb.Climb.{Climb}

-- the link of a cut on the side that it sends the point to
abbrev pub child_of : PointCut → ℕ → ℕ → Point → ℕ
child_of cut left right point = cond (goes_left cut point) left right

-- a row above: a cut that sends the point to the row below
abbrev pub climb_row : Point → ℕ → Row → (ℕ → Bool) → Bool
climb_row point from Bad above = false
climb_row point from (Spare next freed) above = false
climb_row point from (Removed next freed added held curve) above = false
climb_row point from (Leaf over added held curve) above = false
climb_row point from (Cut over cut left right) above = eqb (child_of cut left right point) from && above over

-- from a row with the parent link `up` to the root, at most n rows up
unfoldable pub climb : List ℕ → ℕ → ℕ → Point → ℕ → ℕ → ℕ → Bool
climb words rows root point zero from up = cond (eqb up NONE) (eqb from root) false
climb words rows root point (suc n) from up =
    cond (eqb up NONE) (eqb from root) (climb_row point from (row_at words rows up) (λ over. climb words rows root point n up over))

-- ---- the same row by row, as the code climbs; `climb_on` and `climb_end` say that it is the same

-- no cut: the climb ends here
abbrev pub stopped : Climb → Climb
stopped c = record { from = c.from; up = NONE; sound = false }

-- up to a cut whose link on the point's side is `child`
abbrev pub over_cut : Climb → ℕ → ℕ → Climb
over_cut c child over = record { from = c.up; up = over; sound = c.sound && eqb child c.from }

-- one row up
abbrev pub over_row : Point → Climb → Row → Climb
over_row point c Bad = stopped c
over_row point c (Spare next freed) = stopped c
over_row point c (Removed next freed added held curve) = stopped c
over_row point c (Leaf over added held curve) = stopped c
over_row point c (Cut over cut left right) = over_cut c (child_of cut left right point) over
