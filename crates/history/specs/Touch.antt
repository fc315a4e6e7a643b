-- What an event may touch (Rules 5).
use Rattle.std.specs.Prelude.{ℕ, ◌≡◌, Bool, true, false, cond, eqb, ltb, length}
use mathlib.Core.List.{List, [], ◌∷◌, Memᴰ}
use Rattle.points.specs.Word.{NONE}
use Rattle.rows.specs.declared.row.Row.{Row}
use Rattle.stations.specs.declared.call.Call.{Call}
use Rattle.words.specs.Words.{get}
use Rattle.words.specs.Agree.{Off, in_common, in_station, in_row, start_of, size_of, AgreeIn}
use Rattle.rows.specs.Row.{row_at}
use Rattle.rows.specs.Grades.{slot_of}
use Rattle.stations.specs.Call.{call_at}
use Rattle.calls.specs.declared.insert.Site.{Site}
use Rattle.calls.specs.declared.unlink.Around.{Around}
use Rattle.calls.specs.declared.progress.Progress.{Progress}
use Rattle.calls.specs.declared.walk.Way.{Way}
use Rattle.stations.specs.Common.{rows_in}
use Rattle.calls.specs.Link.{next_of, parent_of, is_cut}
use Rattle.calls.specs.Search.{aim_at, progress_at}
use Rattle.calls.specs.Tour.{toured}
use Rattle.calls.specs.Look.{look}
use Rattle.calls.specs.Insert.{site_at}
use Rattle.calls.specs.Unlink.{around_at}
use Rattle.calls.specs.Walk.{way_of, code_at, stands_at}

-- Rules 5.1: "Two slices of one length that agree in the common record and in the station's record, as far as these are there", and in some rows
pub record AgreeOn (v w : List ℕ) (s : ℕ) (rows : List ℕ) : Type 0 where
  pub common : AgreeIn v w in_common
  pub station : AgreeIn v w (in_station s)
  pub row : (r : ℕ) → Memᴰ r rows → AgreeIn v w (in_row r)

-- Rules 5.1: "each keeps every other word"
pub record KeepsOthers (v v' : List ℕ) (s : ℕ) (rows : List ℕ) : Type 0 where
  pub lengths : length v' ≡ length v
  pub others : (k : ℕ) → Off (start_of in_common) (size_of in_common) k → Off (start_of (in_station s)) (size_of (in_station s)) k
      → ((r : ℕ) → Memᴰ r rows → Off (start_of (in_row r)) (size_of (in_row r)) k) → get v' k ≡ get v k

-- from v and w an event left v' and w': they agree there again, and every other word is kept
pub record Leaves (v w v' w' : List ℕ) (s : ℕ) (rows : List ℕ) : Type 0 where
  pub agree : AgreeOn v' w' s rows
  pub first : KeepsOthers v v' s rows
  pub second : KeepsOthers w w' s rows

-- ---- the rows that a step needs (Rules 5.2)

-- of a walk that goes on: six on its way
abbrev pub way_rows : Way → List ℕ
way_rows way = way.at ∷ (way.one ∷ (way.two ∷ (way.three ∷ (way.four ∷ (way.five ∷ [])))))

-- of an insert, and of an unlink
abbrev pub site_rows : Site → List ℕ
site_rows site = site.at ∷ (site.first ∷ (site.second ∷ (site.over ∷ [])))

abbrev pub around_rows : Around → List ℕ
around_rows a = a.at ∷ (a.tail ∷ (a.over ∷ (a.side ∷ (a.above ∷ []))))

abbrev pub pick_rows : Bool → List ℕ → List ℕ → List ℕ
pick_rows true x y = x
pick_rows false x y = y

-- of a walk that ends
abbrev pub end_rows : List ℕ → ℕ → ℕ → Call → ℕ → Row → List ℕ
end_rows words rows s call at row =
    pick_rows (eqb (code_at words s call row) 1) (site_rows (site_at words rows at))
    (pick_rows (eqb (code_at words s call row) 5) (around_rows (around_at words rows at)) (at ∷ []))

abbrev pub walk_rows : List ℕ → ℕ → ℕ → Call → List ℕ
walk_rows words rows s call =
    pick_rows (is_cut (row_at words rows (stands_at words s))) (way_rows (way_of words rows call.point (stands_at words s)))
    (end_rows words rows s call (stands_at words s) (row_at words rows (stands_at words s)))

-- of a look, and of a tour
abbrev pub look_rows : List ℕ → ℕ → Progress → List ℕ → List ℕ
look_rows words rows p rest = p.missed ∷ (next_of (row_at words rows p.missed) ∷ rest)

abbrev pub tour_rows : List ℕ → ℕ → Progress → List ℕ → List ℕ
tour_rows words rows p rest = p.cursor ∷ (parent_of (row_at words rows p.cursor) ∷ rest)

-- of a later tour the one row that was not read before it: down its own, up the one above
abbrev pub new_row : List ℕ → ℕ → Progress → ℕ
new_row words rows p = cond (eqb p.phase 0) p.cursor (parent_of (row_at words rows p.cursor))

-- of a search: five tours, or a look and three
abbrev pub search_rows : List ℕ → ℕ → ℕ → Call → List ℕ
search_rows words rows s call =
    let begun = progress_at words s call in
    let aim = aim_at words call in
    let looked = look words rows aim begun in
    let one = new_row words rows (toured words rows (slot_of aim.point) aim 1 looked) in
    let two = new_row words rows (toured words rows (slot_of aim.point) aim 2 looked) in
    let three = new_row words rows (toured words rows (slot_of aim.point) aim 3 looked) in
    let four = new_row words rows (toured words rows (slot_of aim.point) aim 4 looked) in
    pick_rows (eqb begun.missed NONE) (tour_rows words rows looked (one ∷ (two ∷ (three ∷ (four ∷ [])))))
    (look_rows words rows begun (tour_rows words rows looked (one ∷ (two ∷ []))))

-- those numbers that are rows of an index of so many
unfoldable pub rows_below : ℕ → List ℕ → List ℕ
rows_below rows [] = []
rows_below rows (r ∷ rest) = pick_rows (ltb r rows) (r ∷ rows_below rows rest) (rows_below rows rest)

-- of a step of station s
unfoldable pub step_rows : List ℕ → ℕ → List ℕ
step_rows words s =
    rows_below (rows_in words)
    (pick_rows (eqb (call_at words s).kind 4) (search_rows words (rows_in words) s (call_at words s)) (walk_rows words (rows_in words) s (call_at words s)))
