-- The other stations at an unlink: each seat, moved as the unlink moves it, says what the table's station says after the removal (`says_moved`).
use Prim.Native.Nat.{ℕ, ◌≤◌, ◌<◌, ◌+◌}
use mathlib.Core.Path.{◌≡◌, refl, sym, ap, ◌∙◌}
use mathlib.Core.Logic.{◌≢◌}
use mathlib.Core.Bool.{Bool, true, false, cond, ◌&&◌, ◌||◌, not, true≢false}
use mathlib.Core.List.{List, ◌∷◌}
use mathlib.Core.Option.{Option, none, some}
use native.Mathlib.Omega.{arith}
use lib.Dec.{eqb}
use lib.ListN.{length}
use borrow.Author.Tests.{eqb-true, eq-eqb, ne_eqb}
use Rattle.words.specs.Layout.{stations}
use Rattle.points.specs.declared.point.Point.{Point}
use Rattle.points.specs.Cut.{goes_left}
use Rattle.points.specs.Word.{NONE}
use Rattle.rows.specs.declared.row.Row.{Row as WordRow}
use Rattle.rows.specs.declared.row.Row.TheVariants.{Bad, Spare, Removed, Leaf as WordLeaf, Cut}
use Rattle.table.specs.Call.{Call, add, remove, contains, nearest, Answer}
use Rattle.table.specs.Table.{Station, idle, unfinished, waiting, Table, eight, searches, all_changes}
use Rattle.table.proofs.Stations.{eight_mem, searches_in}
use Rattle.table.proofs.Removals.{since_of, since_le, since_removal}
use Rattle.table.proofs.Eager.{unsettled}
use Rattle.trees.specs.Choice.{side_of}
use Rattle.trees.specs.Row.{Row, spare_row, removed_row, leaf_row, cut_row, Heap}
use Rattle.trees.specs.Tree.{Tree, Has}
use Rattle.trees.specs.Queue.{Free}
use Rattle.trees.specs.Store.{Store}
use Rattle.trees.specs.Stand.{Phase, Down, Up, Stand, pick_stand, pick_phase, landing_row, landing, after_unlink, missed_after}
use Rattle.trees.specs.Tour.{Progress, search_after_unlink}
use Rattle.trees.specs.Reads.{Leaf}
use Rattle.trees.specs.Unlink.{sibling_row, grand_row, Unlinked}
use Rattle.trees.specs.Below.{Marks, Grows}
use Rattle.trees.proofs.MarkLaws.{pass_grows}
use Rattle.trees.proofs.RouteLaws.{walk_unlink}
use Rattle.trees.proofs.SearchLaws.{search_unlink}
use Rattle.trees.specs.Measure.{step_moves, progress_left}
use Rattle.trees.proofs.OthersLaws.{others_unlink}
use Rattle.calls.specs.Unlink.{landing as landing_word}
use Rattle.history.specs.View.{Seat, word_row, phase_of, progress_of}
use Rattle.history.specs.Related.{Quiet, Searching, Walks, Works, Busy, Says, Marking}
use Rattle.history.proofs.BusyLaws.{busy_on}
use Rattle.history.proofs.Effects.{moved_seat}
use Rattle.history.proofs.Readings.{nearest_search, nearest_unsettled, removed_table, unlink_stand, unlink_missed, one_more}
use Rattle.history.proofs.UnlinkAround.{linked_row, around_of}
use Rattle.history.proofs.Outcome.{left_at, left_target}

-- ---- where a call stands

-- cursor and phase are moved as the trees have it
stand_moved : (leaf cut side c phase lands : ℕ)
    → record { cursor = cond (eqb c leaf || eqb c cut) side c; phase = phase_of (cond (eqb c leaf) lands phase) }
    ≡ after_unlink leaf cut side (phase_of lands) (record { cursor = c; phase = phase_of phase })
stand_moved leaf cut side c phase lands = go (eqb c leaf) (eqb c cut) ∙ sym (unlink_stand leaf cut side (phase_of lands) (record { cursor = c; phase = phase_of phase }))
  where
    go : (a b : Bool) → ◌≡◌ {A = Stand} (record { cursor = cond (a || b) side c; phase = phase_of (cond a lands phase) })
        (pick_stand a (record { cursor = side; phase = phase_of lands }) (pick_stand b (record { cursor = side; phase = phase_of phase }) (record { cursor = c; phase = phase_of phase })))
    go true b = refl
    go false true = refl
    go false false = refl

-- a search's missed row, where it has a since
missed_moved : (leaf since missed : ℕ) → since ≢ NONE → cond (not (eqb since NONE) && eqb missed NONE) leaf missed ≡ missed_after leaf missed
missed_moved leaf since missed n = rw (ne_eqb since NONE n) (sym (unlink_missed leaf missed))

-- another call's, which has none
missed_stays : (leaf since missed : ℕ) → since ≡ NONE → cond (not (eqb since NONE) && eqb missed NONE) leaf missed ≡ missed
missed_stays leaf since missed e = rw (eq-eqb since NONE e) refl

phase_in : (b : Bool) (lands phase : ℕ) → lands ≤ 1 → phase ≤ 1 → cond b lands phase ≤ 1
phase_in true lands phase k l = k
phase_in false lands phase k l = l

-- the phase in which a search lands is down or up
lands_in : (target : Point) (leaf : ℕ) (row : WordRow) → landing_word target leaf row ≤ 1
lands_in target leaf Bad = omega arith
lands_in target leaf (Spare next freed) = omega arith
lands_in target leaf (Removed next freed added point curve) = omega arith
lands_in target leaf (WordLeaf parent added point curve) = omega arith
lands_in target leaf (Cut parent cut left right) = go (eqb (cond (goes_left cut target) left right) leaf)
  where
    go : (b : Bool) → cond b 0 1 ≤ 1
    go true = omega arith
    go false = omega arith

-- and it is that of the trees
lands_word : (target : Point) (h : Heap) (cut leaf : ℕ) → phase_of (landing_word target leaf (linked_row h cut)) ≡ landing (side_of target) h cut leaf
unfolding landing
lands_word target h cut leaf = go (eqb cut NONE) (h cut)
  where
    by : (b : Bool) → phase_of (cond b 0 1) ≡ pick_phase b Down Up
    by true = refl
    by false = refl

    go : (b : Bool) (row : Row) → phase_of (landing_word target leaf (cond b Bad (word_row row))) ≡ pick_phase b Down (landing_row (side_of target) leaf row)
    go true row = refl
    go false (spare_row next n) = refl
    go false (removed_row next n e) = refl
    go false (leaf_row parent e) = refl
    go false (cut_row parent k l r) = by (eqb (cond (goes_left k target) l r) leaf)

-- ---- the seats

module _ (t : Table) (own : ℕ) (mine : own < stations) (p : Point) (f : ℕ → Station) (h h' : Heap) (tree : Option Tree) (queue : List Free) (released tail : ℕ) (l : Leaf)
    (st : Store t.places h tree queue (all_changes t) (length t.removals) released) (m : Has tree l.row)
    (w : Unlinked t.places h h' tree queue (all_changes t) (length t.removals) released l (sibling_row h l) (grand_row h l)) (few : length t.removals < NONE) where
  abbrev moved : Seat → Seat
  moved seat = moved_seat (around_of h tail l) seat

  -- the phase in which the search of a seat lands
  abbrev lands_at : Seat → ℕ
  lands_at seat = landing_word seat.target l.row (linked_row h l.parent)

  -- a track that stands nowhere stays so
  quiet_moved : (seat : Seat) → Quiet seat.track → Quiet (moved seat).track
  quiet_moved seat v = record {
    cursor = cursor (eqb NONE l.parent) refl;
    phase = rw (v.cursor, off) v.phase;
    since = v.since;
    missed = missed_stays l.row seat.track.since seat.track.missed v.since ∙ v.missed;
  }
    where
      off : eqb NONE l.row ≡ false
      off = ne_eqb NONE l.row (λ z. omega (arith, st.inside l.row m, st.fits))

      cursor : (b : Bool) → eqb NONE l.parent ≡ b
          → cond (eqb seat.track.cursor l.row || eqb seat.track.cursor l.parent) (sibling_row h l) seat.track.cursor ≡ NONE
      cursor true e = rw (v.cursor, off, e) (rw (eq-eqb l.parent NONE (sym (eqb-true NONE l.parent e))))
      cursor false e = rw (v.cursor, off, e)

  -- an add, a remove or a contains
  walks_moved : (seat : Seat) (point : Point) (set : Option Answer) → Walks tree seat point set → Walks w.tree (moved seat) point set
  walks_moved seat point set v =
      let stand : Stand = record { cursor = seat.track.cursor; phase = phase_of seat.track.phase } in
      record {
        since = v.since;
        missed = missed_stays l.row seat.track.since seat.track.missed v.since ∙ v.missed;
        unset = v.unset;
        walking = rw (ap (λ (x : Stand). x.cursor) (stand_moved l.row l.parent (sibling_row h l) seat.track.cursor seat.track.phase (lands_at seat)))
            (walk_unlink w point (phase_of (lands_at seat)) stand v.walking);
        best = v.best;
      }

  -- the identity of an unfinished nearest is in the new removal, so its since is the old one
  since_stays : (u i : ℕ) (target : Point) (set : Option Answer) → u < stations → t.stations u ≡ unfinished i (nearest target) set
      → since_of i (searches eight t.stations ∷ t.removals) ≡ since_of i t.removals
  since_stays u i target set k e =
      since_removal i (searches eight t.stations) t.removals
      (searches_in eight t.stations u i (eight_mem u k) (record { call = nearest target; set = set; is = e; search = nearest_search target }))

  -- a search goes on where the trees have it
  abbrev progress_after : Point → Seat → Progress
  progress_after target seat = search_after_unlink l.row l.parent (sibling_row h l) (landing (side_of target) h l.parent l.row) (progress_of seat)

  progress_moved : (seat : Seat) → seat.track.since ≢ NONE → progress_of (moved seat) ≡ progress_after seat.target seat
  progress_moved seat n =
      let stands = stand_moved l.row l.parent (sibling_row h l) seat.track.cursor seat.track.phase (lands_at seat)
      ∙ ap (λ (x : Phase). after_unlink l.row l.parent (sibling_row h l) x (progress_of seat).stand) (lands_word seat.target h l.parent l.row) in
      let missed = missed_moved l.row seat.track.since seat.track.missed n in
      λ i. record { stand = stands i; missed = missed i; best = (progress_of seat).best }

  -- a nearest whose answer is set down
  search_moved : (seat : Seat) (u i : ℕ) (target : Point) (a : Answer) → u < stations → t.stations u ≡ unfinished i (nearest target) (some a)
      → Searching t tree queue seat i target (some a) → Searching (removed_table t own p f) w.tree w.queue (moved seat) i target (some a)
  search_moved seat u i target a k e v =
      let there : seat.track.since ≢ NONE = λ z. omega (arith, v.since, since_le i t.removals) in
      record {
        since = v.since ∙ sym (since_stays u i target (some a) k e);
        aimed = v.aimed;
        entries = v.entries;
        once = v.once;
        ranged = v.ranged;
        search = rw (progress_moved seat there, v.aimed, one_more t own mine) (search_unlink st w v.search);
        answer = v.answer;
      }

  -- an unfinished call, whose work is kept
  busy_moved : (seat : Seat) (i : ℕ) (call : Call) (set : Option Answer) (v : Busy t tree queue seat i call set)
      → Works (removed_table t own p f) w.tree w.queue (moved seat) i call set → Busy (removed_table t own p f) w.tree w.queue (moved seat) i call set
  busy_moved seat i call set v works =
      busy_on v (moved seat).track refl (omega (arith, v.asof, one_more t own mine))
      (phase_in (eqb seat.track.cursor l.row) (lands_at seat) seat.track.phase (lands_in seat.target l.row (linked_row h l.parent)) v.phase) works

  -- Each other station's seat, moved, says what its station says after the removal.
  pub says_moved : (seat : Seat) (u : ℕ) (x : Station) → u < stations → unsettled x ≡ false → t.stations u ≡ x → Says t tree queue seat x
      → Says (removed_table t own p f) w.tree w.queue (moved seat) x
  says_moved seat u idle k s e v = record { state = v.state; quiet = quiet_moved seat v.quiet }
  says_moved seat u (waiting a) k s e v = record { state = v.state; sound = v.sound; answer = v.answer; quiet = quiet_moved seat v.quiet }
  says_moved seat u (unfinished i (add d c) set) k s e v = busy_moved seat i (add d c) set v (walks_moved seat d set v.works)
  says_moved seat u (unfinished i (remove d) set) k s e v = busy_moved seat i (remove d) set v (walks_moved seat d set v.works)
  says_moved seat u (unfinished i (contains d) set) k s e v = busy_moved seat i (contains d) set v (walks_moved seat d set v.works)
  says_moved seat u (unfinished i (nearest d) none) k s e v = absurd (true≢false (sym (nearest_unsettled i d) ∙ s))
  says_moved seat u (unfinished i (nearest d) (some a)) k s e v = busy_moved seat i (nearest d) (some a) v (search_moved seat u i d a k e v.works)

  -- a search has at most one look more left
  pub left_moved : (seat : Seat) (i : ℕ) (d : Point) (a : Answer) → Busy t tree queue seat i (nearest d) (some a)
      → left_at w.tree w.queue (moved seat) ≤ step_moves + left_at tree queue seat
  left_moved seat i d a v =
      let there : seat.track.since ≢ NONE = λ z. omega (arith, v.works.since, since_le i t.removals) in
      let e : progress_of (moved seat) ≡ progress_after d seat = progress_moved seat there ∙ ap (λ (x : Point). progress_after x seat) v.works.aimed in
      let same = ap (λ (z : Progress). progress_left (side_of d) w.tree w.queue z) e in
      omega (arith, same, left_target w.tree w.queue (moved seat) d v.point, left_target tree queue seat d v.point, others_unlink st w v.works.search)

  -- and an add has marked its way down to the row where its cursor is
  pub marking_moved : (marks marks' : Marks) → Grows marks marks' w.tree → (seat : Seat) (x : Station) → Marking marks tree seat.track.cursor x
      → Marking marks' w.tree (moved seat).track.cursor x
  marking_moved marks marks' g seat idle v = tt
  marking_moved marks marks' g seat (waiting a) v = tt
  marking_moved marks marks' g seat (unfinished i (add d c) set) v =
      let stand : Stand = record { cursor = seat.track.cursor; phase = phase_of seat.track.phase } in
      let e = ap (λ (x : Stand). x.cursor) (stand_moved l.row l.parent (sibling_row h l) seat.track.cursor seat.track.phase (lands_at seat)) in
      pass_grows marks marks' w.tree d (moved seat).track.cursor g (rw e (w.passes marks d (phase_of (lands_at seat)) stand v))
  marking_moved marks marks' g seat (unfinished i (remove d) set) v = tt
  marking_moved marks marks' g seat (unfinished i (contains d) set) v = tt
  marking_moved marks marks' g seat (unfinished i (nearest d) set) v = tt
