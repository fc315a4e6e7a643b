-- How a step goes from row to row with one reading for each: it keeps the parent link of the row where it stands on its way up, and the square of the
-- best. The moves are those of `tour` (`moved_is` of `proofs/TourLaws`).
use Rattle.std.specs.Prelude.{ℕ, Bool, true, false, cond, not, ◌&&◌, ◌||◌, List, eqb}
use Rattle.points.specs.declared.point.Point.{Point}
use Rattle.points.specs.declared.cut.Cut.{Cut as PointCut}
use Rattle.points.specs.Square.{square_of}
use Rattle.points.specs.Cut.{goes_left}
use Rattle.points.specs.Choice.{chosen_at, no_square}
use Rattle.points.specs.Word.{NONE}
use Rattle.rows.specs.declared.row.Row.{Row}
use Rattle.rows.specs.declared.row.Row.TheVariants.{Bad, Spare, Removed, Leaf, Cut}
use Rattle.rows.specs.Row.{row_at}
use Rattle.rows.specs.Tree.{tree_row, child_at}
use Rattle.rows.specs.Grades.{admits}
use Rattle.stations.specs.declared.call.Best.{Best}
use Rattle.calls.specs.declared.aim.Aim.{Aim}
use Rattle.calls.specs.declared.progress.Progress.{Progress}
use Rattle.calls.specs.declared.reached.Reached.{Reached}
use Rattle.calls.specs.Link.{parent_of, is_tree}
use Rattle.calls.specs.Tour.{best_square, shut_at}
use Rattle.calls.specs.Progress.{may_find, onward, strayed}

-- the parent link of the row where a search stands on its way up; none on its way down
unfoldable pub above_of : List ℕ → ℕ → Progress → ℕ
above_of words rows p = cond (eqb p.phase 0) NONE (parent_of (row_at words rows p.cursor))

-- a progress with a link and a square, and with those that belong to it
abbrev pub reaching : Progress → ℕ → ℕ → Reached
reaching p above square = record { above = above; square = square; progress = p }

abbrev pub reached_at : List ℕ → ℕ → Aim → Progress → Reached
reached_at words rows aim p = reaching p (above_of words rows p) (best_square aim p.best)

-- one of two
abbrev pub pick_reached : Bool → Reached → Reached → Reached
pick_reached true x y = x
pick_reached false x y = y

-- down to a child, up from a row of that parent, and no further, at the best square
abbrev pub go_to : Progress → ℕ → ℕ → Reached
go_to p square child = reaching (onward p child 0 p.best) NONE square

abbrev pub go_up : Progress → ℕ → ℕ → ℕ → Reached
go_up p square x parent = reaching (onward p x 1 p.best) parent square

abbrev pub refused : Progress → ℕ → ℕ → Reached
refused p square above = reaching (strayed p) above square

-- past the near side of the cut in row x: to its far child, or up where that side is shut
abbrev pub past_near : List ℕ → ℕ → Aim → Progress → ℕ → ℕ → ℕ → ℕ → PointCut → Bool → Reached
past_near words slot aim p square x parent far cut goes = pick_reached (shut_at words slot aim square x cut goes) (go_up p square x parent) (go_to p square far)

-- past its far side: further up
abbrev pub past_far : Progress → ℕ → ℕ → ℕ → ℕ → ℕ → Reached
past_far p square above x parent far = pick_reached (eqb far p.cursor) (go_up p square x parent) (refused p square above)

-- past a side of it: the near one on the way down, else that where the search comes from
abbrev pub past_side : List ℕ → ℕ → Aim → Reached → ℕ → ℕ → ℕ → ℕ → PointCut → Bool → Reached
past_side words slot aim reached x parent near far cut goes =
    pick_reached (eqb reached.progress.phase 0 || eqb near reached.progress.cursor)
    (past_near words slot aim reached.progress reached.square x parent far cut goes)
    (past_far reached.progress reached.square reached.above x parent far)

-- at the cut in row x: down to its near child where its side admits the slot, else past a side
abbrev pub visit_sides : List ℕ → ℕ → Aim → Reached → ℕ → ℕ → PointCut → Bool → Reached
visit_sides words slot aim reached x parent cut goes =
    pick_reached (eqb reached.progress.phase 0 && admits words x goes slot) (go_to reached.progress reached.square (child_at words x goes))
    (past_side words slot aim reached x parent (child_at words x goes) (child_at words x (not goes)) cut goes)

abbrev pub visit_cut : List ℕ → ℕ → Aim → Reached → ℕ → ℕ → PointCut → Reached
visit_cut words slot aim reached x parent cut = visit_sides words slot aim reached x parent cut (goes_left cut aim.point)

-- a record at its own square prevails over the best at that square: `prevails` where both are those of the points (`prevails_at_lem`)
abbrev pub prevails_at : Aim → Best → ℕ → ℕ → Point → ℕ → Bool
prevails_at aim best square added point own = may_find aim added point && (eqb best.curve 0 || chosen_at own square point best.point)

-- down at a leaf: it is considered, and the way leads up
abbrev pub down_leaf : Aim → Progress → ℕ → ℕ → ℕ → Point → ℕ → ℕ → Reached
down_leaf aim p square parent added point curve own =
    pick_reached (prevails_at aim p.best square added point own)
    (reaching (onward p p.cursor 1 (record { curve = curve; point = point })) parent (cond (eqb curve 0) no_square own))
    (go_up p square p.cursor parent)

-- at a leaf, which no way up leads to
abbrev pub visit_leaf : Aim → Reached → ℕ → ℕ → Point → ℕ → Reached
visit_leaf aim reached parent added point curve =
    pick_reached (eqb reached.progress.phase 0)
    (down_leaf aim reached.progress reached.square parent added point curve (square_of aim.scale aim.point point))
    (refused reached.progress reached.square reached.above)

-- at the row x
abbrev pub visit_row : List ℕ → ℕ → Aim → Reached → ℕ → Row → Reached
visit_row words slot aim reached x Bad = refused reached.progress reached.square reached.above
visit_row words slot aim reached x (Spare next freed) = refused reached.progress reached.square reached.above
visit_row words slot aim reached x (Removed next freed added point curve) = refused reached.progress reached.square reached.above
visit_row words slot aim reached x (Leaf parent added point curve) = visit_leaf aim reached parent added point curve
visit_row words slot aim reached x (Cut parent cut left right) = visit_cut words slot aim reached x parent cut

-- up from a row with no parent: the tour is over, if that row is one of the tree
abbrev pub at_top : List ℕ → ℕ → Reached → Reached
at_top words rows reached =
    pick_reached (is_tree (row_at words rows reached.progress.cursor)) (go_up reached.progress reached.square NONE NONE)
    (refused reached.progress reached.square NONE)

-- one move, by the row x
abbrev pub move_to : List ℕ → ℕ → ℕ → Aim → Reached → ℕ → Reached
move_to words rows slot aim reached x =
    pick_reached (eqb x NONE) (at_top words rows reached) (visit_row words slot aim reached x (tree_row (row_at words rows x)))

-- one move: by the row where the search stands, or by the one above it
unfoldable pub moved : List ℕ → ℕ → ℕ → Aim → Reached → Reached
moved words rows slot aim reached =
    pick_reached (eqb reached.progress.cursor NONE) reached
    (move_to words rows slot aim reached (cond (eqb reached.progress.phase 0) reached.progress.cursor reached.above))
