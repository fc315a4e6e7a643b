-- What the seats say after an insert (`says_insert`): every cursor on the old leaf has moved to the new cut, so that walks stay on the way of
-- their points and searches have all before them that they had.
use Prim.Native.Nat.{ℕ, suc, ◌≤◌, ◌+◌}
use mathlib.Core.Path.{subst, ◌≡◌, refl, sym, ◌∙◌, ap}
use mathlib.Core.Logic.{◌≢◌}
use mathlib.Core.Bool.{Bool, true, false, cond, true≢false}
use mathlib.Core.List.{List}
use mathlib.Core.Option.{Option, none, some}
use native.Mathlib.Omega.{arith}
use native.Mathlib.Decide.{ℕ_discrete}
use lib.Dec.{eqb}
use lib.ListN.{length}
use borrow.Author.Tests.{ne_eqb}
use Rattle.stations.specs.Answer.{answer_sound}
use Rattle.points.specs.declared.point.Point.{Point}
use Rattle.points.specs.declared.cut.Cut.{Cut}
use Rattle.points.specs.declared.scale.Scale.{Scale}
use Rattle.points.specs.Word.{NONE}
use Rattle.table.specs.Call.{Call, add, remove, contains, nearest, Answer}
use Rattle.table.specs.Table.{Station, idle, unfinished, waiting, Table, all_changes}
use Rattle.table.proofs.Eager.{unsettled}
use Rattle.trees.specs.Choice.{side_of}
use Rattle.trees.specs.Row.{Entry, Heap}
use Rattle.trees.specs.Tree.{Tree}
use Rattle.trees.specs.Queue.{Free}
use Rattle.trees.specs.Stand.{Stand, pick_stand, after_insert}
use Rattle.trees.specs.Tour.{search_after_insert, Progress}
use Rattle.trees.specs.Reads.{Leaf}
use Rattle.trees.specs.Insert.{leaf_of, cut_for, Inserted}
use Rattle.trees.specs.Below.{Marks, Grows}
use Rattle.trees.proofs.MarkLaws.{pass_grows}
use Rattle.trees.proofs.RouteLaws.{walk_insert}
use Rattle.trees.proofs.SearchLaws.{search_insert}
use Rattle.trees.specs.Measure.{progress_left}
use Rattle.trees.specs.Store.{Store}
use Rattle.trees.proofs.OthersLaws.{others_insert}
use Rattle.history.specs.View.{Seat, phase_of, progress_of}
use Rattle.history.specs.Related.{EntriesIn, Quiet, Set, Walks, Works, Says, Marking, Busy}
use Rattle.history.proofs.BusyLaws.{busy_on}
use Rattle.history.proofs.Effects.{moved_cursor}
use Rattle.history.proofs.Readings.{nearest_unsettled, insert_stand}
use Rattle.history.proofs.Outcome.{left_at, left_target}

-- ---- cursors moved

-- the cursor of a seat moves as that of a stand does
stand_moved : (gone to : ℕ) (seat : Seat) → after_insert gone to (progress_of seat).stand ≡ (progress_of (moved_cursor gone to seat)).stand
stand_moved gone to seat = insert_stand gone to (progress_of seat).stand ∙ go (eqb seat.track.cursor gone)
  where
    go : (b : Bool)
        → pick_stand b (record { cursor = to; phase = phase_of seat.track.phase }) (progress_of seat).stand ≡ record { cursor = cond b to seat.track.cursor; phase = phase_of seat.track.phase }
    go true = refl
    go false = refl

progress_moved : (gone to : ℕ) (seat : Seat) → search_after_insert gone to (progress_of seat) ≡ progress_of (moved_cursor gone to seat)
progress_moved gone to seat = ap (λ (s : Stand). record { stand = s; missed = (progress_of seat).missed; best = (progress_of seat).best }) (stand_moved gone to seat)

-- a seat that stands nowhere stays so
quiet_moved : (gone to : ℕ) (seat : Seat) → (gone ≡ NONE → to ≡ NONE) → Quiet seat.track → Quiet (moved_cursor gone to seat).track
quiet_moved gone to seat n w = record { cursor = go (ℕ_discrete gone NONE); phase = w.phase; since = w.since; missed = w.missed }
  where
    still : (b : Bool) → cond b NONE NONE ≡ NONE
    still true = refl
    still false = refl

    go : Dec (gone ≡ NONE) → cond (eqb seat.track.cursor gone) to seat.track.cursor ≡ NONE
    go (yes e) = rw (n e, w.cursor) (still (eqb NONE gone))
    go (no e) = rw (w.cursor, ne_eqb NONE gone (λ d. e (sym d)))

-- ---- after an insert

-- t' is the table with one change more and the same removals and factors
module _ {h h' : Heap} {tree : Option Tree} {queue : List Free} {released : ℕ} {new : Entry} {place : Option Leaf} {k : Cut} {a b : ℕ} (t t' : Table)
    (w : Inserted t.places h h' tree queue (all_changes t) (length t.removals) released new place k a b) (changes : all_changes t' ≡ suc (all_changes t)) (removals : t'.removals ≡ t.removals)
    (scale : t'.scale ≡ t.scale) (seat : Seat) where
  abbrev moved : Seat
  moved = moved_cursor (leaf_of place) (cut_for place b) seat

  walks_insert : (p : Point) (set : Option Answer) → Walks tree seat p set → Walks w.tree moved p set
  walks_insert p set v = record {
    since = v.since;
    missed = v.missed;
    unset = v.unset;
    walking = rw (stand_moved (leaf_of place) (cut_for place b) seat) at (walk_insert w p (progress_of seat).stand v.walking);
    best = v.best;
  }

  set_insert : (scale : Scale) (target : Point) (entries : List Entry) (set : Option Answer) → set ≢ none → Set scale target entries tree set → Set scale target entries w.tree set
  set_insert scale target entries none n v = absurd (n refl)
  set_insert scale target entries (some x) n v = v

  -- no nearest call is without an answer set down
  set_there : (i : ℕ) (p : Point) (set : Option Answer) → unsettled (unfinished i (nearest p) set) ≡ false → set ≢ none
  set_there i p none f e = true≢false (sym (nearest_unsettled i p) ∙ f)
  set_there i p (some x) f e = let z : ◌≡◌ {A = ℕ} 0 1 = cc in omega arith

  works_insert : (i : ℕ) (c : Call) (set : Option Answer) → released ≤ seat.track.since → unsettled (unfinished i c set) ≡ false → Works t tree queue seat i c set
      → Works t' w.tree w.queue moved i c set
  works_insert i (add p c) set l f v = walks_insert p set v
  works_insert i (remove p) set l f v = walks_insert p set v
  works_insert i (contains p) set l f v = walks_insert p set v
  works_insert i (nearest p) set l f v = record {
    since = rw removals v.since;
    aimed = v.aimed;
    entries = v.entries;
    once = v.once;
    ranged = subst (λ (x : Scale). EntriesIn x.rule v.entries) (sym scale) v.ranged;
    search = rw (changes, removals, scale, ← progress_moved (leaf_of place) (cut_for place b) seat) (search_insert w l v.search);
    answer = subst (λ (c : Scale). Set c p v.entries w.tree set) (sym scale) (set_insert t.scale p v.entries set (set_there i p set f) v.answer);
  }

  -- a search has at most four moves more left
  pub left_insert : Store t.places h tree queue (all_changes t) (length t.removals) released → (i : ℕ) (p : Point) (x : Answer) → released ≤ seat.track.since
      → Busy t tree queue seat i (nearest p) (some x) → left_at w.tree w.queue moved ≤ 4 + left_at tree queue seat
  left_insert st i p x l v =
      let same = ap (λ (z : Progress). progress_left (side_of p) w.tree w.queue z) (progress_moved (leaf_of place) (cut_for place b) seat) in
      omega (arith, same, left_target w.tree w.queue moved p v.point, left_target tree queue seat p v.point, others_insert st w l v.works.search)

  -- the seat says the same of its station
  pub says_insert : (x : Station) → released ≤ seat.track.since → (leaf_of place ≡ NONE → cut_for place b ≡ NONE) → unsettled x ≡ false → Says t tree queue seat x
      → Says t' w.tree w.queue moved x
  says_insert idle l n f v = record { state = v.state; quiet = quiet_moved (leaf_of place) (cut_for place b) seat n v.quiet }
  says_insert (waiting r) l n f v = record { state = v.state; sound = subst (λ (x : Scale). answer_sound x.rule seat.answer ≡ true) (sym scale) v.sound; answer = v.answer; quiet = quiet_moved (leaf_of place) (cut_for place b) seat n v.quiet }
  says_insert (unfinished i c set) l n f v = busy_on v moved.track scale (omega (arith, v.asof)) v.phase (works_insert i c set l f v.works)

  -- an add has marked its way down to the row where its cursor is
  pub marking_insert : (marks marks' : Marks) → Grows marks marks' tree → (x : Station) → Marking marks tree seat.track.cursor x → Marking marks' w.tree moved.track.cursor x
  marking_insert marks marks' g idle m = tt
  marking_insert marks marks' g (waiting r) m = tt
  marking_insert marks marks' g (unfinished i (add p c) set) m =
      rw (stand_moved (leaf_of place) (cut_for place b) seat) at (w.passes marks' p (progress_of seat).stand (pass_grows marks marks' tree p seat.track.cursor g m))
  marking_insert marks marks' g (unfinished i (remove p) set) m = tt
  marking_insert marks marks' g (unfinished i (contains p) set) m = tt
  marking_insert marks marks' g (unfinished i (nearest p) set) m = tt
