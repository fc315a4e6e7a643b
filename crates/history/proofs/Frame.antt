-- What a write to one region of the slice leaves of seats and rows.
use Prim.Native.Nat.{ℕ, ◌<◌}
use mathlib.Core.Path.{◌≡◌}
use mathlib.Core.List.{List}
use native.Mathlib.Omega.{arith}
use Rattle.points.specs.declared.point.Point.{Point}
use Rattle.words.specs.Agree.{in_common, in_station, in_row, OnlyIn}
use Rattle.words.specs.Rule.{rule_at}
use Rattle.words.proofs.AgreeLaws.{row_common, station_common}
use Rattle.stations.specs.Track.{track_at}
use Rattle.stations.specs.Target.{target_at}
use Rattle.stations.specs.Station.{state_at}
use Rattle.stations.specs.Call.{call_at}
use Rattle.stations.specs.Answer.{answer_at}
use Rattle.rows.specs.Grades.{slot_of}
use Rattle.rows.proofs.GradeLaws.{slot_below}
use Rattle.calls.proofs.UnseenLaws.{StationReads, reads_unseen}
use Rattle.history.specs.View.{Seat, seat_at, SameRows}

-- ---- seats by their parts
pub seat_of : (v : List ℕ) (s : ℕ) (seat : Seat) → track_at v s ≡ seat.track → target_at v s ≡ seat.target → (state_at v s).word ≡ seat.state → call_at v s ≡ seat.call
    → answer_at v s ≡ seat.answer → seat_at v s ≡ seat
unfolding seat_at
seat_of v s seat p g t c a = λ i. record { track = p i; target = g i; state = t i; call = c i; answer = a i }

-- with the same track, target and record of a station
pub seat_same : (v w : List ℕ) (s : ℕ) → track_at v s ≡ track_at w s → target_at v s ≡ target_at w s → StationReads v w s → seat_at v s ≡ seat_at w s
unfolding seat_at
seat_same v w s p g r = λ i. record { track = p i; target = g i; state = (r.state i).word; call = r.call i; answer = r.answer i }

-- ---- what two slices have in common

-- the slot of a point is one of those that a row has room for
pub slot_fits : (p : Point) → slot_of p < 128
slot_fits p = omega (arith, slot_below p)

-- a write to the common record that leaves the rule leaves the stations' records and the rows
pub common_stations : {v w : List ℕ} → rule_at v ≡ rule_at w → OnlyIn v w in_common → (s : ℕ) → StationReads v w s
common_stations e g s = reads_unseen in_common (in_station s) e g (station_common s)

pub common_rows : {v w : List ℕ} → rule_at v ≡ rule_at w → OnlyIn v w in_common → (rows : ℕ) → SameRows w v rows
common_rows e g rows = record {
  row = λ r l. (reads_unseen in_common (in_row r) e g (row_common r)).row rows;
  marks = λ x side p. (reads_unseen in_common (in_row x) e g (row_common x)).grades side (slot_of p) (slot_fits p);
}
