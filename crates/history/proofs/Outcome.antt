-- What is left to a station's unfinished call while the others stand still (`Left`), and what a step of it comes to (`Outcome`): it goes on with less
-- left and moves nothing else, or it ends as the table says and leaves no other search more than was spent on it (`Beside`).
use Prim.Native.Nat.{ℕ, ◌+◌, ◌*◌, ◌≤◌, ◌<◌, ◌-◌}
use mathlib.Core.Path.{◌≡◌, ap}
use mathlib.Core.Logic.{◌≢◌}
use mathlib.Core.List.{List}
use mathlib.Core.Option.{Option, some}
use Rattle.words.specs.Layout.{stations}
use Rattle.stations.specs.Counts.{counts_at}
use Rattle.stations.specs.declared.track.Track.{Track}
use Rattle.stations.specs.declared.counts.Counts.{Counts}
use Rattle.table.specs.Call.{Call, add, remove, contains, nearest, Answer}
use Rattle.table.specs.Table.{Station, idle, unfinished, waiting, Table}
use Rattle.table.proofs.Simulation.{finished}
use Rattle.trees.specs.Choice.{side_of}
use Rattle.trees.specs.Tree.{Tree}
use Rattle.trees.specs.Queue.{Free}
use Rattle.trees.specs.Route.{stands_at}
use Rattle.trees.specs.Measure.{walk_left, search_left, step_moves, progress_left}
use Rattle.calls.specs.Reply.{Reply as WordReply}
use Rattle.history.specs.View.{Seat, seat_at, progress_of}
use Rattle.history.specs.Related.{Searching, Related}
use native.Mathlib.Omega.{arith}
use Rattle.points.specs.declared.point.Point.{Point}

-- what is left to a walk: as much for each leaf at or below the row where it stands as a step takes
abbrev pub walk_moves : Option Tree → Seat → ℕ
walk_moves tree seat = step_moves * walk_left tree (stands_at tree seat.track.cursor)

-- at most n is left to a walk or to a search, counted so that a step that does not answer takes `step_moves` at least
abbrev pub LeftSays : Table → Option Tree → List Free → Seat → Station → ℕ → Type 0
LeftSays t tree queue seat idle n = Unit {0}
LeftSays t tree queue seat (waiting a) n = Unit {0}
LeftSays t tree queue seat (unfinished i (add p c) o) n = walk_moves tree seat ≤ n
LeftSays t tree queue seat (unfinished i (remove p) o) n = walk_moves tree seat ≤ n
LeftSays t tree queue seat (unfinished i (contains p) o) n = walk_moves tree seat ≤ n
LeftSays t tree queue seat (unfinished i (nearest p) o) n = (v : Searching t tree queue seat i p o) × (search_left v.search ≤ n)

pub record Left (words : List ℕ) (t : Table) (s n : ℕ) : Type 0 where
  pub related : Related words t
  pub left : LeftSays t related.tree related.queue (seat_at words s) (t.stations s) n

-- nothing moved but the call of station s: the tree and the queue are as they were, and so is the seat of every other station
pub record Aside {words words' : List ℕ} {t : Table} (r : Related words t) (r' : Related words' t) (s : ℕ) : Type 0 where
  pub tree : r'.tree ≡ r.tree
  pub queue : r'.queue ≡ r.queue
  pub others : (u : ℕ) → u < stations → u ≢ s → seat_at words' u ≡ seat_at words u

-- ---- what an answer leaves to the searches of other stations

-- the moves and looks left to the search at a seat
abbrev pub left_at : Option Tree → List Free → Seat → ℕ
left_at tree queue seat = progress_left (side_of seat.call.point) tree queue (progress_of seat)

-- by the target of its call
pub left_target : (tree : Option Tree) (queue : List Free) (seat : Seat) (p : Point) → seat.call.point ≡ p
    → left_at tree queue seat ≡ progress_left (side_of p) tree queue (progress_of seat)
left_target tree queue seat p e = ap (λ (x : Point). progress_left (side_of x) tree queue (progress_of seat)) e

-- what others have spent on a search since its submission, by the counts: four for each record held or removed since, and a look for each removed
abbrev pub spent_by : Counts → Track → ℕ
spent_by counts track = 4 * (counts.held + (counts.removals - track.since)) + step_moves * (counts.removals - track.since)

-- the search of any station but s has no more left, but for what was spent
abbrev pub Beside : {words words' : List ℕ} {t t' : Table} → Related words t → Related words' t' → ℕ → Type 0
Beside {words} {words'} {t} r r' s =
    (u : ℕ) → u < stations → u ≢ s → (i : ℕ) (p : Point) (a : Answer) → t.stations u ≡ unfinished i (nearest p) (some a)
    → left_at r'.tree r'.queue (seat_at words' u) + spent_by (counts_at words) (seat_at words u).track
    ≤ left_at r.tree r.queue (seat_at words u) + spent_by (counts_at words') (seat_at words' u).track

-- so where tree, queue, counts and the other seats are as they were
pub beside_still : {words words' : List ℕ} {t t' : Table} (r : Related words t) (r' : Related words' t') (s : ℕ) → r'.tree ≡ r.tree → r'.queue ≡ r.queue
    → counts_at words' ≡ counts_at words → ((u : ℕ) → u < stations → u ≢ s → seat_at words' u ≡ seat_at words u) → Beside r r' s
beside_still {words} {words'} r r' s tree queue counts others u k d i p a q =
    let seat = others u k d in
    let left : left_at r'.tree r'.queue (seat_at words' u) ≡ left_at r.tree r.queue (seat_at words u) = (λ j. left_at (tree j) (queue j) (seat j)) in
    let spent : spent_by (counts_at words') (seat_at words' u).track ≡ spent_by (counts_at words) (seat_at words u).track = (λ j. spent_by (counts j) (seat j).track) in
    omega (arith, left, spent)

-- the words after a step of station s from words that are related by r
pub record Next {words : List ℕ} {t : Table} (r : Related words t) (s : ℕ) (words' : List ℕ) (t' : Table) : Type 0 where
  pub related : Related words' t'
  pub beside : Beside r related s

-- a step of a call with at most n left, from words that are related by r
pub data Outcome {words : List ℕ} {t : Table} (r : Related words t) (s : ℕ) (c : Call) (o : Option Answer) (n : ℕ) (x : WordReply) : Type 0 where
  goes_on : x.number ≡ 0 → (m : ℕ) → step_moves + m ≤ n → (w : Left x.words t s m) → Aside r w.related s → Outcome r s c o n x
  ends : x.number ≡ 0 → Next r s x.words (finished t s c o) → Outcome r s c o n x
