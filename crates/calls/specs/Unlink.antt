-- The leaf at row `at` is taken from the tree; its record stays in the row for the searches that began before.
use Rattle.std.specs.Prelude.{ℕ, zero, suc, ◌-◌, Bool, cond, ◌&&◌, ◌||◌, not, List, eqb, leb}
use Rattle.stations.specs.Answer.{code_removed}
use Rattle.words.specs.Refusal.{unsound}
use Rattle.stations.specs.Track.{track_at, put_track}
use Rattle.stations.specs.declared.counts.Counts.{Counts}
use Rattle.stations.specs.declared.track.Track.{Track}
use Rattle.stations.specs.Counts.{counts_at, put_counts}
use Rattle.stations.specs.Counter.{change_counted}
use Rattle.points.specs.declared.point.Point.{Point}
use Rattle.points.specs.Cut.{goes_left}
use Rattle.points.specs.Word.{NONE}
use Rattle.rows.specs.declared.row.Row.{Row}
use Rattle.rows.specs.declared.row.Row.TheVariants.{Bad, Spare, Removed, Leaf, Cut}
use Rattle.stations.specs.declared.call.Call.{Call}
use Rattle.words.specs.Layout.{stations}
use Rattle.words.specs.Words.{more}
use Rattle.rows.specs.Row.{row_at, put_row}
use Rattle.stations.specs.Target.{target_at}
use Rattle.calls.specs.declared.unlink.Around.{Around}
use Rattle.calls.specs.Link.{next_of, parent_of, sibling_of, links_to, is_leaf, is_tree, is_free, leaf_curve, with_next, with_parent, removed_as, replaced}
use Rattle.calls.specs.Reply.{Reply, done, ask}
use Rattle.calls.specs.Answer.{answer, answered_words}

-- ---- what is read

abbrev pub around_with : List ℕ → ℕ → ℕ → Row → Row → Around
around_with words rows at leaf cut = record {
  tail = (counts_at words).tail;
  last = row_at words rows (counts_at words).tail;
  at = at;
  leaf = leaf;
  over = parent_of leaf;
  cut = cut;
  side = sibling_of at cut;
  other = row_at words rows (sibling_of at cut);
  above = parent_of cut;
  grand = row_at words rows (parent_of cut);
}

-- the last row of the queue, the leaf, the cut over it, the other child, and the row above the cut
unfoldable pub around_at : List ℕ → ℕ → ℕ → Around
around_at words rows at = around_with words rows at (row_at words rows at) (row_at words rows (parent_of (row_at words rows at)))

-- the rows are what a queue and a tree have there (Rules 7.14)
unfoldable pub around_sound : Around → Bool
around_sound a =
    ((is_free a.last && eqb (next_of a.last) NONE) && is_leaf a.leaf)
    && (eqb a.over NONE
    || (((links_to a.at a.cut && not (eqb a.side a.at)) && is_tree a.other)
    && (eqb a.above NONE || links_to a.over a.grand)))

-- ---- what is written

-- the rows, with the number of the removal: the old tail, the leaf, the cut over it, the other child, and the row above the cut
unfoldable pub unlink_rows : List ℕ → Around → ℕ → List ℕ
unlink_rows words a number =
    put_row
    (put_row
    (put_row
    (put_row (put_row words a.tail (with_next a.at a.last)) a.at (removed_as a.over number a.leaf))
    a.over
    (Spare NONE number))
    a.side
    (with_parent a.above a.other))
    a.above
    (replaced a.over a.side a.grand)

-- the tail of the queue and the root afterwards
unfoldable pub unlink_tail : Around → ℕ
unlink_tail a = cond (eqb a.over NONE) a.at a.over

unfoldable pub unlink_root : Around → ℕ → ℕ
unlink_root a root = cond (eqb a.above NONE) a.side root

-- a removal is counted, the tree begins and the queue ends at other rows
unfoldable pub count_unlinked : Around → Counts → Counts
count_unlinked a counts = record {
  changes = more counts.changes;
  held = counts.held - 1;
  root = unlink_root a counts.root;
  head = counts.head;
  tail = unlink_tail a;
  removals = more counts.removals;
}

-- for the index, and for the station that removes
unfoldable pub unlink_counts : List ℕ → ℕ → Around → List ℕ
unlink_counts words s a = change_counted (put_counts words (count_unlinked a (counts_at words))) s

-- the phase in which a search that stood at the leaf goes on at the other child of the cut: down where the leaf was the near child for its target, since
-- the other is still to be seen; up where it was the far one, since the near one comes first. Down where the leaf had no cut over it.
abbrev pub landing : Point → ℕ → Row → ℕ
landing target at Bad = 0
landing target at (Spare next freed) = 0
landing target at (Removed next freed added point curve) = 0
landing target at (Leaf parent added point curve) = 0
landing target at (Cut parent cut left right) = cond (eqb (cond (goes_left cut target) left right) at) 0 1

-- Every cursor on the leaf moves to the other child, in the phase of `landing`; every cursor on the cut over it moves there too, and its phase stays;
-- every unfinished nearest whose missed is none gets the leaf for it. Nothing reads the phase of a walk.
unfoldable pub cursor_after : Around → ℕ → ℕ
cursor_after a cursor = cond (eqb cursor a.at || eqb cursor a.over) a.side cursor

unfoldable pub phase_after : Around → Point → ℕ → ℕ → ℕ
phase_after a target cursor phase = cond (eqb cursor a.at) (landing target a.at a.cut) phase

unfoldable pub missed_after : Around → ℕ → ℕ → ℕ
missed_after a since missed = cond (not (eqb since NONE) && eqb missed NONE) a.at missed

-- the track of a station whose last search had this target
unfoldable pub track_after : Around → Point → Track → Track
track_after a target track = record {
  cursor = cursor_after a track.cursor;
  phase = phase_after a target track.cursor track.phase;
  since = track.since;
  missed = missed_after a track.since track.missed;
}

unfoldable pub station_moved : List ℕ → ℕ → Around → List ℕ
station_moved words s a = put_track words s (track_after a (target_at words s) (track_at words s))

-- a call stands at neither row, and does not begin to miss rows: its track stays (`track_stays`)
unfoldable pub stays : Around → Track → Bool
stays a track = not (eqb track.cursor a.at || eqb track.cursor a.over) && (eqb track.since NONE || not (eqb track.missed NONE))

-- the first n stations
unfoldable pub stations_moved : Around → ℕ → List ℕ → List ℕ
stations_moved a zero words = words
stations_moved a (suc n) words = station_moved (stations_moved a n words) n a

unfoldable pub unlink_words : List ℕ → ℕ → Around → List ℕ
unlink_words words s a = unlink_rows (stations_moved a stations (unlink_counts words s a)) a (more (counts_at words).removals)

-- ---- the unlink

abbrev pub unlink_to : List ℕ → ℕ → Call → Around → Reply
unlink_to words s call a =
    ask (around_sound a && leb 1 (counts_at words).held) unsound words
    (done (answered_words (unlink_words words s a) s (answer code_removed call.point (leaf_curve a.leaf) 0)))

unfoldable pub unlink_of : List ℕ → ℕ → ℕ → Call → ℕ → Reply
unlink_of words rows s call at = unlink_to words s call (around_at words rows at)
