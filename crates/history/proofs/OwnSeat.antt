-- The seat of the station that steps: its answer waits there (`next_answered`), or its walk goes on with fewer moves left (`left_walks`). What is
-- released stays the same where removals and since words do (`least_same`).
use Prim.Native.Nat.{ℕ, ◌*◌, ◌≤◌, ◌<◌}
use mathlib.Core.Path.{◌≡◌, refl, sym, ◌∙◌}
use mathlib.Core.Logic.{◌≢◌, inr}
use mathlib.Core.Bool.{true, false, true≢false}
use mathlib.Core.List.{List}
use mathlib.Core.Option.{Option, none}
use native.Mathlib.Omega.{arith}
use lib.ListN.{length}
use borrow.Author.Tests.{ne_eqb}
use Rattle.words.specs.Layout.{stations}
use Rattle.calls.specs.Walk.{walked_words}
use Rattle.stations.specs.Counts.{counts_at}
use Rattle.stations.specs.Track.{standing}
use Rattle.points.specs.Word.{NONE}
use Rattle.stations.specs.declared.answer.Answer.{Answer as Given}
use Rattle.stations.specs.Common.{least_since}
use Rattle.stations.specs.Answer.{answer_sound}
use Rattle.stations.proofs.TakenLaws.{least_removals, least_since_lem}
use Rattle.table.specs.Call.{Call, add, remove, contains, nearest, is_search, point_of}
use Rattle.table.specs.Table.{unfinished, waiting, Table, put, with_stations}
use Rattle.table.proofs.Stations.{put_same, put_other}
use Rattle.trees.specs.Tree.{Tree}
use Rattle.trees.specs.Queue.{Free}
use Rattle.trees.specs.Route.{OnRoute}
use Rattle.trees.specs.Measure.{walk_left, step_moves}
use Rattle.calls.specs.Answer.{answered_words}
use Rattle.history.specs.Index.{answer_of}
use Rattle.history.specs.View.{Seat, seat_at, with_track, marks_in, answered_seat}
use Rattle.history.specs.Related.{Works, Busy, Says, Marking, Related}
use Rattle.history.proofs.BusyLaws.{busy_on}
use Rattle.history.proofs.Effects.{answer_written, answer_rows, walk_written, walk_rows}
use Rattle.history.proofs.Readings.{nearest_search}
use Rattle.history.proofs.LeastLaws.{least_up}
use Rattle.history.proofs.SaysLaws.{seat_put_same, seat_put_other, related_written}
use Rattle.history.proofs.SeatLaws.{related_seat}
use Rattle.history.proofs.Outcome.{walk_moves, LeftSays, Left, Aside, beside_still, Next}

-- ---- what is released

-- no more than the since of each seat
pub least_seat : (w : List ℕ) (s : ℕ) → s < stations → least_since w ≤ (seat_at w s).track.since
unfolding seat_at
least_seat w s l = least_since_lem w s l

-- the same where removals and since words are the same
pub least_same : (v w : List ℕ) → (counts_at w).removals ≡ (counts_at v).removals → ((s : ℕ) → s < stations → (seat_at w s).track.since ≡ (seat_at v s).track.since) → least_since w ≡ least_since v
unfolding seat_at
least_same v w e f =
    let a : least_since v ≤ least_since w = least_up w v (omega arith) (λ s l. omega (arith, f s l)) in
    let b : least_since w ≤ least_since v = least_up v w (omega arith) (λ s l. omega (arith, f s l)) in
    omega arith

-- ---- a walk on another row

-- what is left to a walk is the leaves below the row where it stands
pub left_walk : (t : Table) (tree : Option Tree) (queue : List Free) (seat : Seat) (i : ℕ) (c : Call) (n : ℕ) → is_search c ≡ false → walk_moves tree seat ≤ n
    → LeftSays t tree queue seat (unfinished i c none) n
left_walk t tree queue seat i (add p c) n e l = l
left_walk t tree queue seat i (remove p) n e l = l
left_walk t tree queue seat i (contains p) n e l = l
left_walk t tree queue seat i (nearest p) n e l = absurd (true≢false (sym (nearest_search p) ∙ e))

pub left_tells : (t : Table) (tree : Option Tree) (queue : List Free) (seat : Seat) (i : ℕ) (c : Call) (n : ℕ) → is_search c ≡ false → LeftSays t tree queue seat (unfinished i c none) n
    → walk_moves tree seat ≤ n
left_tells t tree queue seat i (add p c) n e l = l
left_tells t tree queue seat i (remove p) n e l = l
left_tells t tree queue seat i (contains p) n e l = l
left_tells t tree queue seat i (nearest p) n e l = absurd (true≢false (sym (nearest_search p) ∙ e))

-- it stands on another row of the way of its point
works_walk : (t : Table) (tree : Option Tree) (queue : List Free) (seat : Seat) (i : ℕ) (c : Call) (to : ℕ) → is_search c ≡ false → OnRoute tree (point_of c) to
    → Works t tree queue seat i c none
    → Works t tree queue (with_track seat (standing to 0 seat.track)) i c none
works_walk t tree queue seat i (add p c) to e o w = record { since = w.since; missed = w.missed; unset = refl; walking = inr o; best = w.best }
works_walk t tree queue seat i (remove p) to e o w = record { since = w.since; missed = w.missed; unset = refl; walking = inr o; best = w.best }
works_walk t tree queue seat i (contains p) to e o w = record { since = w.since; missed = w.missed; unset = refl; walking = inr o; best = w.best }
works_walk t tree queue seat i (nearest p) to e o w = absurd (true≢false (sym (nearest_search p) ∙ e))

-- ---- the relation

module _ {words : List ℕ} {t : Table} (s : ℕ) (l : s < stations) (r : Related words t) where
  -- an answer waits at station s
  related_answered : (a : Given) → length t.removals ≤ NONE → answer_sound t.scale.rule a ≡ true
      → Related (answered_words words s a) (with_stations t (put t.stations s (waiting (answer_of a))))
  related_answered a n e =
      related_seat words (answered_words words s a) t (put t.stations s (waiting (answer_of a))) s (answered_seat (seat_at words s) a) r
      (answer_written words t.places t.limit t.scale r.opened s l a t.scale.rule e) (answer_rows words t.places t.limit t.scale r.opened s l a)
      (omega (arith, least_removals words, r.counted.removals))
      (λ u d. put_other t.stations s u (waiting (answer_of a)) d)
      (rw (put_same t.stations s (waiting (answer_of a))) (record { state = refl; sound = e; answer = refl; quiet = record { cursor = refl; phase = refl; since = refl; missed = refl } }))
      (rw (put_same t.stations s (waiting (answer_of a))) tt)

  -- and no other search has more left
  pub next_answered : (a : Given) → length t.removals ≤ NONE → answer_sound t.scale.rule a ≡ true
      → Next r s (answered_words words s a) (with_stations t (put t.stations s (waiting (answer_of a))))
  unfolding related_answered related_seat related_written
  next_answered a n e =
      let v = answer_written words t.places t.limit t.scale r.opened s l a t.scale.rule e in
      let next = related_answered a n e in
      record {
        related = next;
        beside = beside_still r next s refl refl v.counted (λ u k d. v.seated u k ∙ seat_put_other (λ z. seat_at words z) s u _ d);
      }

  module _ {i : ℕ} {c : Call} (to : ℕ) (q : t.stations s ≡ unfinished i c none) (e : is_search c ≡ false) (o : OnRoute r.tree (point_of c) to)
      (marked : Marking (marks_in words) r.tree to (unfinished i c none)) where
    -- the seat of the walk
    abbrev walk_seat : Seat
    walk_seat = with_track (seat_at words s) (standing to 0 (seat_at words s).track)

    walk_busy : Says t r.tree r.queue walk_seat (t.stations s)
    unfolding seat_at
    walk_busy =
        let b : Busy t r.tree r.queue (seat_at words s) i c none = rw q at (r.seats s l) in
        rw q (busy_on b walk_seat.track refl b.asof (omega arith) (works_walk t r.tree r.queue (seat_at words s) i c to e o b.works))

    walk_least : least_since words ≤ walk_seat.track.since
    unfolding seat_at
    walk_least = least_since_lem words s l

    -- a walk of station s goes on to a row on the way of its point
    pub left_walks : (n : ℕ) → to ≢ NONE → step_moves * walk_left r.tree to ≤ n → Left (walked_words words s to) t s n
    unfolding related_seat related_written
    left_walks n there few = record {
      related = next;
      left = rw q (left_walk t next.tree next.queue (seat_at (walked_words words s to) s) i c n e (rw (seated, ne_eqb to NONE there) few));
    }
      where
        next : Related (walked_words words s to) t
        next = related_seat words (walked_words words s to) t t.stations s walk_seat r (walk_written words t.places t.limit t.scale r.opened s l to) (walk_rows words t.places t.limit t.scale r.opened s l to)
            walk_least (λ u d. refl) walk_busy (rw q marked)

        seated : seat_at (walked_words words s to) s ≡ walk_seat
        seated = (walk_written words t.places t.limit t.scale r.opened s l to).seated s l ∙ seat_put_same (λ u. seat_at words u) s walk_seat

    -- and nothing else moves
    pub aside_walks : (n : ℕ) (there : to ≢ NONE) (few : step_moves * walk_left r.tree to ≤ n) → Aside r (left_walks n there few).related s
    unfolding left_walks related_seat related_written
    aside_walks n there few = record {
      tree = refl;
      queue = refl;
      others = λ u k d. (walk_written words t.places t.limit t.scale r.opened s l to).seated u k ∙ seat_put_other (λ z. seat_at words z) s u walk_seat d;
    }
