-- What an unlink writes of the common record: it counts a removal, for its station too, puts rows behind the queue, and moves the cursors on the leaf and on the cut
-- over it to the cut's other child, those on the leaf in the phase of `landing`; an unfinished nearest that has missed nothing yet has now missed the leaf.
use Prim.Native.Nat.{ℕ, zero, suc, ◌*◌, ◌-◌, ◌≤◌, ◌<◌}
use mathlib.Core.Path.{◌≡◌}
use mathlib.Core.Bool.{cond, ◌&&◌, ◌||◌, not}
use mathlib.Core.List.{List}
use native.Mathlib.Omega.{arith}
use lib.Dec.{eqb}
use lib.ListN.{length}
use Rattle.points.specs.declared.scale.Scale.{Scale}
use Rattle.points.specs.Word.{NONE}
use Rattle.words.specs.Layout.{stations, records}
use Rattle.words.specs.Words.{more}
use Rattle.stations.specs.Common.{Opened, opened_in}
use Rattle.stations.specs.Counts.{counts_at}
use Rattle.stations.specs.Counter.{counter_at}
use Rattle.stations.proofs.OpeningLaws.{opened_tells, opened_station}
use Rattle.stations.proofs.StationLaws.{there_of}
use Rattle.calls.specs.declared.unlink.Around.{Around}
use Rattle.calls.specs.Unlink.{unlink_tail, unlink_root, count_unlinked, unlink_counts, landing, cursor_after, phase_after, missed_after, track_after, station_moved, stations_moved}
use Rattle.calls.proofs.ChangeLaws.{Counting, unlink_counted}
use Rattle.table.specs.Table.{put}
use Rattle.history.specs.View.{Seat, seat_at, with_track, SameRows, Written}
use Rattle.history.proofs.TrackEffects.{Moved, moved_at, moved_none, moved_next, moved_written, moved_rows}

-- a leaf and the cut over it leave
abbrev pub moved_seat : Around → Seat → Seat
moved_seat a seat = with_track seat (record {
  cursor = cond (eqb seat.track.cursor a.at || eqb seat.track.cursor a.over) a.side seat.track.cursor;
  phase = cond (eqb seat.track.cursor a.at) (landing seat.target a.at a.cut) seat.track.phase;
  since = seat.track.since;
  missed = cond (not (eqb seat.track.since NONE) && eqb seat.track.missed NONE) a.at seat.track.missed;
})

stations_moved_lem : (a : Around) (n : ℕ) (w : List ℕ) → n ≤ stations → records ≤ length w → Moved (track_after a) (stations_moved a n w) w n
unfolding stations_moved station_moved
stations_moved_lem a zero w h long = moved_none (track_after a) w
stations_moved_lem a (suc n) w h long =
    let m = stations_moved_lem a n w (omega arith) long in
    let here = there_of (stations_moved a n w) n (record { station = omega arith; long = omega (arith, m.only.lengths) }) in
    moved_next (moved_at (track_after a) (stations_moved a n w) n here) m

module _ (words : List ℕ) (places limit : ℕ) (scale : Scale) (o : opened_in words ≡ Opened places limit scale) (s : ℕ) (l : s < stations) (a : Around) where
  long : records ≤ length words
  long = omega (arith, (opened_tells words places limit scale o).long)

  counted : Counting (unlink_counts words s a) words (count_unlinked a (counts_at words)) s
  counted = unlink_counted words s a (opened_station words places limit scale o s l)

  moves : Moved (track_after a) (stations_moved a stations (unlink_counts words s a)) (unlink_counts words s a) stations
  moves = stations_moved_lem a stations (unlink_counts words s a) (omega arith) (omega (arith, counted.only.lengths, long))

  pub unlink_written : Written words (stations_moved a stations (unlink_counts words s a))
      (record {
        changes = more (counts_at words).changes;
        held = (counts_at words).held - 1;
        root = unlink_root a (counts_at words).root;
        head = (counts_at words).head;
        tail = unlink_tail a;
        removals = more (counts_at words).removals;
      })
      (put (counter_at words) s (more (counter_at words s)))
      (λ u. moved_seat a (seat_at words u))
  unfolding count_unlinked track_after cursor_after phase_after missed_after
  unlink_written =
      moved_written (track_after a) (stations_moved a stations (unlink_counts words s a)) (unlink_counts words s a) words (count_unlinked a (counts_at words)) s counted moves

  pub unlink_same_rows : SameRows words (stations_moved a stations (unlink_counts words s a)) (2 * places)
  unlink_same_rows =
      moved_rows (track_after a) (stations_moved a stations (unlink_counts words s a)) (unlink_counts words s a) words (count_unlinked a (counts_at words)) s counted moves (2 * places)
