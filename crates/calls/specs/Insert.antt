-- A record is inserted where the walk of its point ended, at row `at`: beside the leaf there, under a new cut (Rules 6.2), or alone where `at` is none.
use Rattle.std.specs.Prelude.{ℕ, zero, suc, Bool, cond, ◌&&◌, ◌||◌, not, List, eqb}
use Rattle.stations.specs.Answer.{code_added}
use Rattle.words.specs.Refusal.{unsound}
use Rattle.stations.specs.Track.{track_at, put_track, standing}
use Rattle.stations.specs.declared.counts.Counts.{Counts}
use Rattle.stations.specs.declared.track.Track.{Track}
use Rattle.stations.specs.Counts.{counts_at, put_counts}
use Rattle.stations.specs.Counter.{change_counted}
use Rattle.points.specs.declared.point.Point.{Point}
use Rattle.points.specs.declared.cut.Cut.{Cut as PointCut}
use Rattle.points.specs.Cut.{cut_of, goes_left}
use Rattle.points.specs.Word.{NONE}
use Rattle.rows.specs.declared.row.Row.{Row}
use Rattle.rows.specs.declared.row.Row.TheVariants.{Leaf, Cut}
use Rattle.stations.specs.declared.call.Call.{Call}
use Rattle.words.specs.Layout.{stations}
use Rattle.words.specs.Words.{more}
use Rattle.words.specs.Rule.{rule_at}
use Rattle.rows.specs.Row.{row_at, put_row}
use Rattle.rows.specs.Grades.{slot_of, begin_grades}
use Rattle.calls.specs.declared.insert.Site.{Site}
use Rattle.calls.specs.Link.{next_of, parent_of, links_to, is_leaf, leaf_point, with_parent, replaced}
use Rattle.calls.specs.Reply.{Reply, done, ask}
use Rattle.calls.specs.Answer.{answer, answered_words}

-- ---- what is read

abbrev pub site_with : List ℕ → ℕ → ℕ → Row → ℕ → Row → Site
site_with words rows at front second leaf = record {
  rule = rule_at words;
  first = (counts_at words).head;
  front = front;
  second = second;
  behind = row_at words rows second;
  at = at;
  leaf = leaf;
  over = parent_of leaf;
  cut = row_at words rows (parent_of leaf);
}

-- the rule, the first row of the queue, where there is a leaf also the second, the leaf, and the row above it
unfoldable pub site_at : List ℕ → ℕ → ℕ → Site
site_at words rows at =
    site_with words rows at (row_at words rows (counts_at words).head) (cond (eqb at NONE) NONE (next_of (row_at words rows (counts_at words).head))) (row_at words rows at)

-- the rows are what a queue and a tree have there (Rules 7.13): free rows with a row behind them, and a leaf whose parent, if any, links to it
unfoldable pub site_sound : Site → Bool
site_sound site =
    not (eqb (next_of site.front) NONE)
    && (eqb site.at NONE
    || (((is_leaf site.leaf && not (eqb (next_of site.behind) NONE)) && not (eqb site.second site.first))
    && (eqb site.over NONE || links_to site.at site.cut)))

-- ---- what is written

-- the new leaf, under the new cut
unfoldable pub new_leaf : Site → ℕ → Point → ℕ → Row
new_leaf site added point curve = Leaf site.second added point curve

-- the new cut between the two points, with the two leaves on their sides
abbrev pub cut_with : Site → PointCut → Bool → Row
cut_with site cut left = Cut site.over cut (cond left site.first site.at) (cond left site.at site.first)

-- the new record lies on its left side
unfoldable pub new_side : Site → Point → Bool
new_side site point = goes_left (cut_of site.rule point (leaf_point site.leaf)) point

unfoldable pub new_cut : Site → Point → Row
new_cut site point = cut_with site (cut_of site.rule point (leaf_point site.leaf)) (new_side site point)

-- the cut is written with the grades of the two records
unfoldable pub put_cut : List ℕ → Site → Point → List ℕ
put_cut words site point =
    begin_grades (put_row words site.second (new_cut site point)) site.second (new_side site point) (slot_of point) (slot_of (leaf_point site.leaf))

-- the rows: the new leaf, the cut, the old leaf under it, and the cut in the old leaf's place
unfoldable pub insert_rows : List ℕ → Site → ℕ → Point → ℕ → List ℕ
insert_rows words site added point curve =
    put_row
    (put_row (put_cut (put_row words site.first (new_leaf site added point curve)) site point) site.at (with_parent site.second site.leaf))
    site.over
    (replaced site.at site.second site.cut)

-- the head of the queue and the root afterwards
unfoldable pub insert_head : Site → ℕ
insert_head site = cond (eqb site.at NONE) (next_of site.front) (next_of site.behind)

unfoldable pub insert_root : Site → ℕ → ℕ
insert_root site root = cond (eqb site.over NONE) (cond (eqb site.at NONE) site.first site.second) root

-- an addition is counted, and the tree and the queue begin at other rows
unfoldable pub count_inserted : Site → Counts → Counts
count_inserted site counts = record {
  changes = more counts.changes;
  held = more counts.held;
  root = insert_root site counts.root;
  head = insert_head site;
  tail = counts.tail;
  removals = counts.removals;
}

-- for the index, and for the station that adds
unfoldable pub insert_counts : List ℕ → ℕ → Site → List ℕ
insert_counts words s site = change_counted (put_counts words (count_inserted site (counts_at words))) s

-- a track with its cursor moved where that stands on the row gone
unfoldable pub cursor_to : ℕ → ℕ → Track → Track
cursor_to gone to track = standing (cond (eqb track.cursor gone) to track.cursor) track.phase track

-- that of station s
unfoldable pub cursor_moved : ℕ → ℕ → ℕ → List ℕ → List ℕ
cursor_moved gone to s words = put_track words s (cursor_to gone to (track_at words s))

-- every cursor on the row gone moves, and phases stay: of the first n stations
unfoldable pub cursors_moved : ℕ → ℕ → ℕ → List ℕ → List ℕ
cursors_moved gone to zero words = words
cursors_moved gone to (suc n) words = cursor_moved gone to n (cursors_moved gone to n words)

unfoldable pub insert_words : List ℕ → ℕ → Site → Point → ℕ → List ℕ
insert_words words s site point curve =
    insert_rows (cursors_moved site.at site.second stations (insert_counts words s site)) site (more (counts_at words).changes) point curve

-- ---- the insert

abbrev pub insert_to : List ℕ → ℕ → Call → Site → Reply
insert_to words s call site =
    ask (site_sound site) unsound words
    (done (answered_words (insert_words words s site call.point call.curve) s (answer code_added call.point call.curve 0)))

unfoldable pub insert_of : List ℕ → ℕ → ℕ → Call → ℕ → Reply
insert_of words rows s call at = insert_to words s call (site_at words rows at)
