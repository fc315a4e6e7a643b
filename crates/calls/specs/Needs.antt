-- What a step needs of the rows, apart from what it does (question 11): the rows that it reads, and what each must be. Nothing is written here, and what the code
-- asks is exactly this (`step_needs_lem` of `proofs/NeedLaws`).
use Rattle.std.specs.Prelude.{ℕ, zero, suc, Bool, true, false, not, ◌&&◌, ◌||◌, List, [], ◌∷◌, ◌++◌, eqb, leb}
use Rattle.points.specs.Word.{NONE}
use Rattle.stations.specs.declared.call.Call.{Call}
use Rattle.stations.specs.Answer.{code_added, code_removed}
use Rattle.stations.specs.Call.{call_at, nearest_kind}
use Rattle.stations.specs.Common.{rows_in}
use Rattle.stations.specs.Counts.{counts_at}
use Rattle.rows.specs.Row.{row_at}
use Rattle.rows.specs.Grades.{slot_of}
use Rattle.calls.specs.declared.aim.Aim.{Aim}
use Rattle.calls.specs.declared.insert.Site.{Site}
use Rattle.calls.specs.declared.progress.Progress.{Progress}
use Rattle.calls.specs.declared.unlink.Around.{Around}
use Rattle.calls.specs.declared.walk.Way.{Way}
use Rattle.calls.specs.Link.{next_of, parent_of, links_to, is_leaf, is_cut, is_tree, is_free}
use Rattle.calls.specs.Insert.{site_at}
use Rattle.calls.specs.Unlink.{around_at}
use Rattle.calls.specs.Look.{look}
use Rattle.calls.specs.Tour.{toured}
use Rattle.calls.specs.Search.{tours_of, aim_at, progress_at}
use Rattle.calls.specs.Walk.{way_of, code_at, stands_at}

-- ---- a need

-- A row of the tree: a leaf or a cut. A leaf. A cut that links to a child. A free row. A free row with one after it in the queue, and one with none after it.
-- Two rows that differ. A record that is counted as held.
pub data Need : Type 0 where
  tree_at : ℕ → Need
  leaf_at : ℕ → Need
  cut_over : ℕ → ℕ → Need
  free_at : ℕ → Need
  free_before : ℕ → Need
  free_last : ℕ → Need
  apart : ℕ → ℕ → Need
  counted : Need

-- a need is met: the row, as it is read, is what it must be. A row with a field out of range is read as none of these.
abbrev pub met : List ℕ → ℕ → Need → Bool
met words rows (tree_at r) = is_tree (row_at words rows r)
met words rows (leaf_at r) = is_leaf (row_at words rows r)
met words rows (cut_over r child) = links_to child (row_at words rows r)
met words rows (free_at r) = is_free (row_at words rows r)
met words rows (free_before r) = is_free (row_at words rows r) && not (eqb (next_of (row_at words rows r)) NONE)
met words rows (free_last r) = is_free (row_at words rows r) && eqb (next_of (row_at words rows r)) NONE
met words rows (apart a b) = not (eqb a b)
met words rows counted = leb 1 (counts_at words).held

-- all of them
unfoldable pub all_met : List ℕ → ℕ → List Need → Bool
all_met words rows [] = true
all_met words rows (need ∷ needs) = met words rows need && all_met words rows needs

-- the rows that a need asks about
abbrev pub rows_of : Need → List ℕ
rows_of (tree_at r) = r ∷ []
rows_of (leaf_at r) = r ∷ []
rows_of (cut_over r child) = r ∷ []
rows_of (free_at r) = r ∷ []
rows_of (free_before r) = r ∷ []
rows_of (free_last r) = r ∷ []
rows_of (apart a b) = []
rows_of counted = []

-- none where there is nothing to ask about, and one of two lists
abbrev pub unless : Bool → List Need → List Need
unless true needs = []
unless false needs = needs

abbrev pub pick_needs : Bool → List Need → List Need → List Need
pick_needs true x y = x
pick_needs false x y = y

-- ---- an add, a remove, a contains

-- six rows down from a cut
abbrev pub way_needs : Way → List Need
way_needs way = tree_at way.at ∷ tree_at way.one ∷ tree_at way.two ∷ tree_at way.three ∷ tree_at way.four ∷ tree_at way.five ∷ []

-- an insert takes one row from the queue, and beside a leaf two; the parent of that leaf, if any, links to it
abbrev pub site_needs : Site → List Need
site_needs site =
    free_before site.first
    ∷ unless (eqb site.at NONE)
    (leaf_at site.at ∷ free_before site.second ∷ apart site.second site.first ∷ unless (eqb site.over NONE) (cut_over site.over site.at ∷ []))

-- an unlink puts the leaf behind the last row of the queue; the cut over it, if any, links to it and to another row of the tree, and the row above that cut,
-- if any, links to the cut
abbrev pub around_needs : Around → List Need
around_needs a =
    free_last a.tail
    ∷ leaf_at a.at
    ∷ counted
    ∷ unless (eqb a.over NONE)
    (cut_over a.over a.at ∷ apart a.side a.at ∷ tree_at a.side ∷ unless (eqb a.above NONE) (cut_over a.above a.over ∷ []))

-- what the answer needs: only one that changes the held records needs rows
abbrev pub answer_needs : List ℕ → ℕ → ℕ → ℕ → List Need
answer_needs words rows at code =
    pick_needs (eqb code code_added) (site_needs (site_at words rows at)) (pick_needs (eqb code code_removed) (around_needs (around_at words rows at)) [])

-- at a cut the way down; else the leaf, unless the tree is empty, and what its answer needs
unfoldable pub walk_needs : List ℕ → ℕ → ℕ → Call → List Need
walk_needs words rows s call =
    let at = stands_at words s in
    pick_needs (is_cut (row_at words rows at)) (way_needs (way_of words rows call.point at))
    (unless (eqb at NONE) (leaf_at at ∷ []) ++ answer_needs words rows at (code_at words s call (row_at words rows at)))

-- ---- a nearest

-- the first missed row, if any, and the one after it, if any
abbrev pub look_needs : List ℕ → ℕ → Progress → List Need
look_needs words rows p =
    let next = next_of (row_at words rows p.missed) in
    unless (eqb p.missed NONE) (free_at p.missed ∷ unless (eqb next NONE) (free_at next ∷ []))

-- the row where the search stands, and on its way up the parent of that row, if any
abbrev pub tour_needs : List ℕ → ℕ → Progress → List Need
tour_needs words rows p =
    let parent = parent_of (row_at words rows p.cursor) in
    unless (eqb p.cursor NONE) (tree_at p.cursor ∷ unless (eqb p.phase 0 || eqb parent NONE) (cut_over parent p.cursor ∷ []))

-- so many moves, each from where the one before has come
unfoldable pub tours_needs : List ℕ → ℕ → ℕ → Aim → ℕ → Progress → List Need
tours_needs words rows slot aim zero p = []
tours_needs words rows slot aim (suc n) p = tours_needs words rows slot aim n p ++ tour_needs words rows (toured words rows slot aim n p)

unfoldable pub search_needs : List ℕ → ℕ → ℕ → Call → List Need
search_needs words rows s call =
    let aim = aim_at words call in
    let p = progress_at words s call in
    look_needs words rows p ++ tours_needs words rows (slot_of aim.point) aim (tours_of p.missed) (look words rows aim p)

-- ---- a step

unfoldable pub step_needs : List ℕ → ℕ → List Need
step_needs words s =
    let rows = rows_in words in
    let call = call_at words s in
    pick_needs (eqb call.kind nearest_kind) (search_needs words rows s call) (walk_needs words rows s call)

-- question 11 about the rows of a step of station s
unfoldable pub rows_sound : List ℕ → ℕ → Bool
rows_sound words s = all_met words (rows_in words) (step_needs words s)
