-- What an insert writes of the common record: it counts an addition, for its station too, takes rows from the queue, and moves the cursors on the leaf to the cut.
use Prim.Native.Nat.{ℕ, zero, suc, ◌*◌, ◌≤◌, ◌<◌}
use mathlib.Core.Path.{◌≡◌}
use mathlib.Core.Bool.{cond}
use mathlib.Core.List.{List}
use native.Mathlib.Omega.{arith}
use lib.Dec.{eqb}
use lib.ListN.{length}
use Rattle.points.specs.declared.scale.Scale.{Scale}
use Rattle.words.specs.Layout.{stations, records}
use Rattle.words.specs.Words.{more}
use Rattle.stations.specs.Track.{standing}
use Rattle.stations.specs.Common.{Opened, opened_in}
use Rattle.stations.specs.Counts.{counts_at}
use Rattle.stations.specs.Counter.{counter_at}
use Rattle.stations.proofs.OpeningLaws.{opened_tells, opened_station}
use Rattle.stations.proofs.StationLaws.{there_of}
use Rattle.calls.specs.declared.insert.Site.{Site}
use Rattle.calls.specs.Insert.{insert_head, insert_root, count_inserted, insert_counts, cursor_to, cursor_moved, cursors_moved}
use Rattle.calls.proofs.ChangeLaws.{Counting, insert_counted}
use Rattle.table.specs.Table.{put}
use Rattle.history.specs.View.{Seat, seat_at, with_track, SameRows, Written}
use Rattle.history.proofs.TrackEffects.{Moved, moved_at, moved_none, moved_next, moved_written, moved_rows}

-- the cursors on a row move to another
abbrev pub moved_cursor : ℕ → ℕ → Seat → Seat
moved_cursor gone to seat = with_track seat (standing (cond (eqb seat.track.cursor gone) to seat.track.cursor) seat.track.phase seat.track)

cursors_moved_lem : (gone to n : ℕ) (w : List ℕ) → n ≤ stations → records ≤ length w → Moved (λ target. cursor_to gone to) (cursors_moved gone to n w) w n
unfolding cursors_moved cursor_moved
cursors_moved_lem gone to zero w h long = moved_none (λ target. cursor_to gone to) w
cursors_moved_lem gone to (suc n) w h long =
    let m = cursors_moved_lem gone to n w (omega arith) long in
    let here = there_of (cursors_moved gone to n w) n (record { station = omega arith; long = omega (arith, m.only.lengths) }) in
    moved_next (moved_at (λ target. cursor_to gone to) (cursors_moved gone to n w) n here) m

module _ (words : List ℕ) (places limit : ℕ) (scale : Scale) (o : opened_in words ≡ Opened places limit scale) (s : ℕ) (l : s < stations) (site : Site) where
  long : records ≤ length words
  long = omega (arith, (opened_tells words places limit scale o).long)

  counted : Counting (insert_counts words s site) words (count_inserted site (counts_at words)) s
  counted = insert_counted words s site (opened_station words places limit scale o s l)

  moves : Moved (λ target. cursor_to site.at site.second) (cursors_moved site.at site.second stations (insert_counts words s site)) (insert_counts words s site) stations
  moves = cursors_moved_lem site.at site.second stations (insert_counts words s site) (omega arith) (omega (arith, counted.only.lengths, long))

  pub insert_written : Written words (cursors_moved site.at site.second stations (insert_counts words s site))
      (record {
        changes = more (counts_at words).changes;
        held = more (counts_at words).held;
        root = insert_root site (counts_at words).root;
        head = insert_head site;
        tail = (counts_at words).tail;
        removals = (counts_at words).removals;
      })
      (put (counter_at words) s (more (counter_at words s)))
      (λ u. moved_cursor site.at site.second (seat_at words u))
  unfolding count_inserted cursor_to
  insert_written =
      moved_written (λ target. cursor_to site.at site.second) (cursors_moved site.at site.second stations (insert_counts words s site)) (insert_counts words s site) words
      (count_inserted site (counts_at words))
      s
      counted
      moves

  pub insert_same_rows : SameRows words (cursors_moved site.at site.second stations (insert_counts words s site)) (2 * places)
  insert_same_rows =
      moved_rows (λ target. cursor_to site.at site.second) (cursors_moved site.at site.second stations (insert_counts words s site)) (insert_counts words s site) words
      (count_inserted site (counts_at words))
      s
      counted
      moves
      (2 * places)
