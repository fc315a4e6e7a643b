-- The moves of a search through the tree: down to the near child of a cut, over to the far one, and up again.
use Rattle.std.specs.Prelude.{ℕ, zero, suc, Bool, true, cond, not, List, eqb}
use Rattle.points.specs.declared.cut.Cut.{Cut as PointCut}
use Rattle.points.specs.Square.{square_of}
use Rattle.points.specs.Cut.{goes_left}
use Rattle.points.specs.Choice.{excluded, no_square}
use Rattle.points.specs.Word.{NONE}
use Rattle.rows.specs.declared.row.Row.{Row}
use Rattle.rows.specs.declared.row.Row.TheVariants.{Bad, Spare, Removed, Leaf, Cut}
use Rattle.stations.specs.declared.call.Best.{Best}
use Rattle.rows.specs.Row.{row_at}
use Rattle.rows.specs.Grades.{admits}
use Rattle.calls.specs.declared.aim.Aim.{Aim}
use Rattle.calls.specs.declared.progress.Progress.{Progress}
use Rattle.calls.specs.Link.{parent_of, is_tree}
use Rattle.calls.specs.Progress.{pick_progress, considered, onward, strayed}

-- the best square; while there is no best, that which only a cut on axis 1 excludes
abbrev pub best_square : Aim → Best → ℕ
best_square aim best = cond (eqb best.curve 0) no_square (square_of aim.scale aim.point best.point)

-- the far side of the cut in row x is shut at that best square: the target's slot is not among its grades, or it is excluded
abbrev pub shut_at : List ℕ → ℕ → Aim → ℕ → ℕ → PointCut → Bool → Bool
shut_at words slot aim square x cut goes = cond (admits words x (not goes) slot) (excluded aim.scale cut aim.point square) true

abbrev pub far_shut : List ℕ → ℕ → Aim → Best → ℕ → PointCut → Bool → Bool
far_shut words slot aim best x cut goes = shut_at words slot aim (best_square aim best) x cut goes

-- phase down, at a cut: to the near child where its side admits the target's slot, else to the far one unless that is shut, else the way leads up
abbrev pub down_cut : List ℕ → ℕ → Aim → Progress → PointCut → ℕ → ℕ → Bool → Progress
down_cut words slot aim p cut left right goes =
    pick_progress (admits words p.cursor goes slot) (onward p (cond goes left right) 0 p.best)
    (pick_progress (far_shut words slot aim p.best p.cursor cut goes) (onward p p.cursor 1 p.best) (onward p (cond goes right left) 0 p.best))

-- phase down; at a leaf consider it
abbrev pub tour_down : List ℕ → ℕ → Aim → Progress → Row → Progress
tour_down words slot aim p Bad = strayed p
tour_down words slot aim p (Spare next freed) = strayed p
tour_down words slot aim p (Removed next freed added point curve) = strayed p
tour_down words slot aim p (Leaf parent added point curve) = onward p p.cursor 1 (considered aim p.best added point curve)
tour_down words slot aim p (Cut parent cut left right) = down_cut words slot aim p cut left right (goes_left cut aim.point)

-- up at the cut above, from the near child: over to the far one unless that side is shut
abbrev pub from_near : Progress → ℕ → ℕ → Bool → Progress
from_near p above far shut = pick_progress shut (onward p above 1 p.best) (onward p far 0 p.best)

-- up at the cut above, of which the row is one child
abbrev pub from_child : Progress → ℕ → ℕ → ℕ → Bool → Progress
from_child p above near far shut =
    pick_progress (eqb near p.cursor) (from_near p above far shut) (pick_progress (eqb far p.cursor) (onward p above 1 p.best) (strayed p))

-- the same, with the sides of the cut told apart
abbrev pub above_cut : List ℕ → ℕ → Aim → Progress → ℕ → PointCut → ℕ → ℕ → Bool → Progress
above_cut words slot aim p above cut left right goes = from_child p above (cond goes left right) (cond goes right left) (far_shut words slot aim p.best above cut goes)

abbrev pub tour_above : List ℕ → ℕ → Aim → Progress → ℕ → Row → Progress
tour_above words slot aim p above Bad = strayed p
tour_above words slot aim p above (Spare next freed) = strayed p
tour_above words slot aim p above (Removed next freed added point curve) = strayed p
tour_above words slot aim p above (Leaf parent added point curve) = strayed p
tour_above words slot aim p above (Cut parent cut left right) = above_cut words slot aim p above cut left right (goes_left cut aim.point)

-- phase up: with no parent the tour is over
abbrev pub tour_up : List ℕ → ℕ → ℕ → Aim → Progress → Row → Progress
tour_up words rows slot aim p row =
    pick_progress (is_tree row)
    (pick_progress (eqb (parent_of row) NONE) (onward p NONE 1 p.best) (tour_above words slot aim p (parent_of row) (row_at words rows (parent_of row))))
    (strayed p)

-- one move, with the slot of the target
unfoldable pub tour : List ℕ → ℕ → ℕ → Aim → Progress → Progress
tour words rows slot aim p =
    pick_progress (eqb p.cursor NONE) p
    (pick_progress (eqb p.phase 0) (tour_down words slot aim p (row_at words rows p.cursor)) (tour_up words rows slot aim p (row_at words rows p.cursor)))

-- so many moves
unfoldable pub toured : List ℕ → ℕ → ℕ → Aim → ℕ → Progress → Progress
toured words rows slot aim zero p = p
toured words rows slot aim (suc n) p = tour words rows slot aim (toured words rows slot aim n p)
