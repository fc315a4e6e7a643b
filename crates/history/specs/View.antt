-- What the words say, field by field: the counts of the common record, the seat of a station, and the rows as values.
use Rattle.std.specs.Prelude.{ℕ, ◌<◌, ◌≡◌, Bool, true, false, List, eqb}
use Rattle.std.proofs.Math.Option.{Option, none, some}
use Rattle.words.specs.Layout.{stations}
use Rattle.points.specs.declared.point.Point.{Point}
use Rattle.rows.specs.declared.row.Row.{Row as WordRow}
use Rattle.rows.specs.declared.row.Row.TheVariants.{Spare, Removed, Leaf, Cut}
use Rattle.stations.specs.declared.call.Best.{Best as WordBest}
use Rattle.stations.specs.declared.call.Call.{Call}
use Rattle.stations.specs.declared.answer.Answer.{Answer}
use Rattle.stations.specs.declared.counts.Counts.{Counts}
use Rattle.stations.specs.declared.track.Track.{Track}
use Rattle.rows.specs.Row.{row_at}
use Rattle.rows.specs.Grades.{slot_of, admits}
use Rattle.stations.specs.Common.{opened_in}
use Rattle.stations.specs.Counts.{counts_at}
use Rattle.stations.specs.Counter.{counter_at}
use Rattle.stations.specs.Station.{state_at}
use Rattle.stations.specs.Track.{nowhere, track_at}
use Rattle.stations.specs.Target.{target_at}
use Rattle.stations.specs.Call.{call_at}
use Rattle.stations.specs.Answer.{answer_at}
use Rattle.trees.specs.Row.{Row, spare_row, removed_row, leaf_row, cut_row, Heap}
use Rattle.trees.specs.Stand.{Phase, Down, Up}
use Rattle.trees.specs.Tour.{Best, Progress, Opens}
use Rattle.trees.specs.Below.{Marks}

-- the seat of a station: what the common record keeps of it, which is the track of its call and the target of its last search, and the station's own record
pub record Seat : Type 0 where
  pub track : Track
  pub target : Point
  pub state : ℕ
  pub call : Call
  pub answer : Answer

unfoldable pub seat_at : List ℕ → ℕ → Seat
seat_at words s =
    record { track = track_at words s; target = target_at words s; state = (state_at words s).word; call = call_at words s; answer = answer_at words s }

-- the row of the words that a row value is
abbrev pub word_row : Row → WordRow
word_row (spare_row next n) = Spare next n
word_row (removed_row next n e) = Removed next n e.added e.point e.curve
word_row (leaf_row parent e) = Leaf parent e.added e.point e.curve
word_row (cut_row parent k l r) = Cut parent k l r

-- the rows read as the heap says
abbrev pub Reads : List ℕ → ℕ → Heap → Type 0
Reads words rows h = (r : ℕ) → r < rows → row_at words rows r ≡ word_row (h r)

-- a phase, 0 down and 1 up; a best, whose curve is 0 where there is none
abbrev pub phase_of : ℕ → Phase
phase_of n = elim (eqb n 0) [ true ↦ Down | false ↦ Up ]

abbrev pub best_of : WordBest → Option Best
best_of b = elim (eqb b.curve 0) [ true ↦ none | false ↦ some (record { point = b.point; curve = b.curve }) ]

-- what a seat keeps of a search
abbrev pub progress_of : Seat → Progress
progress_of seat =
    record { stand = record { cursor = seat.track.cursor; phase = phase_of seat.track.phase }; missed = seat.track.missed; best = best_of seat.call.best }

-- a seat with another track, and seats of which that of station s is as given
abbrev pub with_track : Seat → Track → Seat
with_track seat track = record { track = track; target = seat.target; state = seat.state; call = seat.call; answer = seat.answer }

unfoldable pub seat_put : (ℕ → Seat) → ℕ → Seat → ℕ → Seat
seat_put seats s x u = elim (eqb u s) [ true ↦ x | false ↦ seats u ]

-- the seat of a station whose call is answered; it keeps the target
abbrev pub answered_seat : Seat → Answer → Seat
answered_seat seat a = record { track = nowhere; target = seat.target; state = 2; call = seat.call; answer = a }

-- the heap with a row written
unfoldable pub heap_put : Heap → ℕ → Row → Heap
heap_put h r row i = elim (eqb i r) [ true ↦ row | false ↦ h i ]

-- the marks of the words: the slot of p is among the grades of a side, left or not, of row x
abbrev pub marks_in : List ℕ → Marks
marks_in words x side p = admits words x side (slot_of p)

-- the sides of the cuts that admit a slot
abbrev pub opens_in : List ℕ → ℕ → Opens
opens_in words slot x side = admits words x side slot

-- two slices have the same rows and the same marks
pub record SameRows (words words' : List ℕ) (rows : ℕ) : Type 0 where
  pub row : (r : ℕ) → r < rows → row_at words' rows r ≡ row_at words rows r
  pub marks : (x : ℕ) (side : Bool) (p : Point) → marks_in words' x side p ≡ marks_in words x side p

-- what a call leaves of the common record and the stations; `made` are the changes of each station
pub record Written (words words' : List ℕ) (counts : Counts) (made : ℕ → ℕ) (seats : ℕ → Seat) : Type 0 where
  pub opened : opened_in words' ≡ opened_in words
  pub counted : counts_at words' ≡ counts
  pub counters : (s : ℕ) → counter_at words' s ≡ made s
  pub seated : (s : ℕ) → s < stations → seat_at words' s ≡ seats s
