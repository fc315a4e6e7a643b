-- The relation of words and table that every event of a history keeps: a record of named invariants.
use Rattle.std.specs.Prelude.{ℕ, ◌*◌, ◌≤◌, ◌<◌, ◌≡◌, ◌↔◌, true, length}
use mathlib.Core.List.{List, map, Memᴰ}
use Rattle.std.proofs.Math.Option.{Option, none, some}
use Rattle.words.specs.Layout.{stations}
use Rattle.stations.specs.Counts.{counts_at}
use Rattle.stations.specs.Counter.{counter_at}
use Rattle.stations.specs.declared.track.Track.{Track}
use Rattle.stations.specs.declared.counts.Counts.{Counts}
use Rattle.points.specs.declared.point.Point.{Point}
use Rattle.points.specs.declared.scale.Scale.{Scale}
use Rattle.points.specs.Number.{in_range_by}
use Rattle.points.specs.Word.{NONE}
use Rattle.words.specs.Range.{curve_in}
use Rattle.stations.specs.Common.{opened_in, least_since, Opened}
use Rattle.stations.specs.Answer.{answer_sound}
use Rattle.table.specs.Record.{Record, Once, Same, nearest_of}
use Rattle.table.specs.Call.{Call, add, remove, contains, nearest, point_of, Answer, nearest_answer}
use Rattle.table.specs.Table.{Station, idle, unfinished, waiting, Table, all_changes}
use Rattle.table.proofs.Removals.{since_of}
use Rattle.trees.specs.Row.{Entry, Heap}
use Rattle.trees.specs.Tree.{Tree, top_of, Holds, count_of, entries_of}
use Rattle.trees.specs.Queue.{Free, head_of, tail_of}
use Rattle.trees.specs.Store.{Store}
use Rattle.trees.specs.Route.{Walking}
use Rattle.trees.specs.Search.{Search}
use Rattle.trees.specs.Below.{Marks, Covered, Passing}
use Rattle.trees.proofs.ChoiceOf.{choice_of}
use Rattle.history.specs.Index.{answer_of}
use Rattle.history.specs.View.{Seat, seat_at, Reads, progress_of, marks_in}

-- the record of an entry
abbrev pub record_of : Entry → Record
record_of e = record { point = e.point; curve = e.curve }

-- the kind and the curve of a call (Rules 2.2)
abbrev pub kind_of : Call → ℕ
kind_of (add p c) = 1
kind_of (remove p) = 2
kind_of (contains p) = 3
kind_of (nearest p) = 4

abbrev pub curve_of : Call → ℕ
curve_of (add p c) = c
curve_of (remove p) = 0
curve_of (contains p) = 0
curve_of (nearest p) = 0

-- an add has a curve in range
abbrev pub CurveFits : Call → Type 0
CurveFits (add p c) = curve_in c ≡ true
CurveFits (remove p) = Unit {0}
CurveFits (contains p) = Unit {0}
CurveFits (nearest p) = Unit {0}

-- the seat of a station with no unfinished call stands nowhere
pub record Quiet (track : Track) : Type 0 where
  pub cursor : track.cursor ≡ NONE
  pub phase : track.phase ≡ 0
  pub since : track.since ≡ NONE
  pub missed : track.missed ≡ NONE

-- while nothing is set down for a nearest call, the entries held at its submission are those held now; then the answer is that of their records
abbrev pub Set : Scale → Point → List Entry → Option Tree → Option Answer → Type 0
Set scale target entries tree none = (e : Entry) → Memᴰ e entries ↔ Holds tree e
Set scale target entries tree (some a) = a ≡ nearest_answer scale target (nearest_of scale target (map record_of entries))

-- point and curve of each entry are in range under the rule
abbrev pub EntriesIn : ℕ → List Entry → Type 0
EntriesIn rule entries = (e : Entry) → Memᴰ e entries → (in_range_by rule e.point ≡ true) × (curve_in e.curve ≡ true)

-- an unfinished nearest call; `entries` were held at its submission
pub record Searching (t : Table) (tree : Option Tree) (queue : List Free) (seat : Seat) (i : ℕ) (target : Point) (set : Option Answer) : Type 0 where
  pub since : seat.track.since ≡ since_of i t.removals
  pub aimed : seat.target ≡ target
  pub entries : List Entry
  pub once : Once (map record_of entries)
  pub ranged : EntriesIn t.scale.rule entries
  pub search : Search (choice_of t.scale target) seat.call.asof seat.track.since (λ e. Memᴰ e entries) tree queue (all_changes t) (length t.removals) (progress_of seat)
  pub answer : Set t.scale target entries tree set

-- an unfinished add, remove or contains
pub record Walks (tree : Option Tree) (seat : Seat) (p : Point) (set : Option Answer) : Type 0 where
  pub since : seat.track.since ≡ NONE
  pub missed : seat.track.missed ≡ NONE
  pub unset : set ≡ none
  pub walking : Walking tree p seat.track.cursor
  pub best : seat.call.best.curve ≡ 0

abbrev pub Works : Table → Option Tree → List Free → Seat → ℕ → Call → Option Answer → Type 0
Works t tree queue seat i (add p c) set = Walks tree seat p set
Works t tree queue seat i (remove p) set = Walks tree seat p set
Works t tree queue seat i (contains p) set = Walks tree seat p set
Works t tree queue seat i (nearest p) set = Searching t tree queue seat i p set

-- an unfinished call
pub record Busy (t : Table) (tree : Option Tree) (queue : List Free) (seat : Seat) (i : ℕ) (call : Call) (set : Option Answer) : Type 0 where
  pub state : seat.state ≡ 1
  pub kind : seat.call.kind ≡ kind_of call
  pub point : seat.call.point ≡ point_of call
  pub curve : seat.call.curve ≡ curve_of call
  pub ranged : in_range_by t.scale.rule (point_of call) ≡ true
  pub fits : CurveFits call
  pub asof : seat.call.asof ≤ all_changes t
  pub kept : in_range_by t.scale.rule seat.call.best.point ≡ true
  pub phase : seat.track.phase ≤ 1
  pub works : Works t tree queue seat i call set

pub record Idle (seat : Seat) : Type 0 where
  pub state : seat.state ≡ 0
  pub quiet : Quiet seat.track

pub record Waits (rule : ℕ) (seat : Seat) (a : Answer) : Type 0 where
  pub state : seat.state ≡ 2
  pub sound : answer_sound rule seat.answer ≡ true
  pub answer : answer_of seat.answer ≡ a
  pub quiet : Quiet seat.track

-- the seat says what the table's station says
abbrev pub Says : Table → Option Tree → List Free → Seat → Station → Type 0
Says t tree queue seat idle = Idle seat
Says t tree queue seat (unfinished i call set) = Busy t tree queue seat i call set
Says t tree queue seat (waiting a) = Waits t.scale.rule seat a

-- an unfinished add has marked its way as far as it has come
abbrev pub Marking : Marks → Option Tree → ℕ → Station → Type 0
Marking marks tree cursor idle = Unit {0}
Marking marks tree cursor (waiting a) = Unit {0}
Marking marks tree cursor (unfinished i (add p c) set) = Passing marks tree p cursor
Marking marks tree cursor (unfinished i (remove p) set) = Unit {0}
Marking marks tree cursor (unfinished i (contains p) set) = Unit {0}
Marking marks tree cursor (unfinished i (nearest p) set) = Unit {0}

-- the counts are those of the table, the tree and the queue
pub record Counted (t : Table) (tree : Option Tree) (queue : List Free) (counts : Counts) : Type 0 where
  pub changes : counts.changes ≡ all_changes t
  pub held : counts.held ≡ count_of tree
  pub root : counts.root ≡ top_of tree
  pub head : counts.head ≡ head_of queue
  pub tail : counts.tail ≡ tail_of queue
  pub removals : counts.removals ≡ length t.removals

pub record Related (words : List ℕ) (t : Table) : Type 0 where
  pub opened : opened_in words ≡ Opened t.places t.limit t.scale
  pub heap : Heap
  pub tree : Option Tree
  pub queue : List Free
  pub reads : Reads words (2 * t.places) heap
  pub store : Store t.places heap tree queue (all_changes t) (length t.removals) (least_since words)
  pub counted : Counted t tree queue (counts_at words)
  pub counters : (s : ℕ) → s < stations → counter_at words s ≡ t.counters s
  pub records : Same (map record_of (entries_of tree)) t.held
  pub number : count_of tree ≡ length t.held
  pub seats : (s : ℕ) → s < stations → Says t tree queue (seat_at words s) (t.stations s)
  pub covered : Covered (marks_in words) tree
  pub marking : (s : ℕ) → s < stations → Marking (marks_in words) tree (seat_at words s).track.cursor (t.stations s)
