-- The slice after an accepted submission is related to the table with the call unfinished (`related_submitted`): a walk or a search begins at
-- the root.
use Prim.Native.Nat.{ℕ, zero, suc, ◌≤◌, ◌<◌}
use mathlib.Core.Path.{◌≡◌, refl, sym, ◌∙◌}
use mathlib.Core.Bool.{Bool, true, false, cond}
use mathlib.Core.List.{List}
use mathlib.Core.Option.{Option, none}
use native.Mathlib.Omega.{arith}
use lib.Dec.{eqb, leb}
use borrow.Author.Tests.{leb-true}
use Rattle.words.specs.Layout.{stations}
use Rattle.stations.specs.Counts.{counts_at}
use Rattle.points.specs.declared.point.Point.{Point}
use Rattle.points.specs.Number.{in_range_by}
use Rattle.points.proofs.NumberLaws.{in_range_by_lem}
use Rattle.points.specs.Word.{NONE}
use Rattle.stations.specs.Common.{least_since}
use Rattle.stations.proofs.SoundLaws.{no_best_point}
use Rattle.stations.proofs.TakenLaws.{least_removals, least_since_lem, least_greatest}
use Rattle.table.specs.Call.{Call, add, remove, contains, nearest, call_of, kind_in_range, point_of}
use Rattle.table.specs.Table.{unfinished, Table}
use Rattle.table.specs.Event.{enter}
use Rattle.table.proofs.Tests.{and_left, and_right}
use Rattle.table.proofs.Sound.{Sound}
use Rattle.table.proofs.Taken.{since_enter}
use Rattle.trees.specs.Tree.{Tree, top_of, entries_of}
use Rattle.trees.specs.Below.{Marks}
use Rattle.trees.proofs.ChoiceOf.{choice_of}
use Rattle.trees.proofs.MarkLaws.{pass_begin}
use Rattle.trees.proofs.RouteLaws.{walk_begin}
use Rattle.trees.proofs.SearchLaws.{search_begin}
use Rattle.trees.proofs.ShapeLaws.{entries_held}
use Rattle.calls.specs.Submit.{curve_fits, call_for, since_for, submitted_words}
use Rattle.history.specs.View.{Seat, seat_at, marks_in}
use Rattle.history.specs.Related.{kind_of, curve_of, CurveFits, Walks, Searching, Works, Busy, Marking, Related}
use Rattle.history.proofs.Effects.{submit_written, submit_rows}
use Rattle.history.proofs.RelatedLaws.{word_changes, word_root, word_removals, removals_word}
use Rattle.history.proofs.RelatedRows.{held_ranged}
use Rattle.history.proofs.HeldLaws.{entries_once}
use Rattle.history.proofs.SaysLaws.{seat_put_each, says_put, marking_put, written_removals, written_since, related_written}

-- ---- a search of the same records

-- ---- the new seat

-- the seat of a call that was just submitted
abbrev begun_seat : List ℕ → ℕ → ℕ → Point → ℕ → Seat
begun_seat words s kind p c = record {
  track = record { cursor = (counts_at words).root; phase = 0; since = since_for (counts_at words).removals kind; missed = NONE };
  target = cond (eqb kind 4) p (seat_at words s).target;
  state = 1;
  call = call_for (counts_at words).changes kind p c;
  answer = (seat_at words s).answer;
}

module _ {words : List ℕ} {t : Table} (s : ℕ) (p : Point) (c : ℕ) (h : Sound t) (r : Related words t) (ranged : in_range_by t.scale.rule p ≡ true) where
  -- a walk begins at the root
  walk_begun : (kind : ℕ) → since_for (counts_at words).removals kind ≡ NONE → Walks r.tree (begun_seat words s kind p c) p none
  unfolding call_for
  walk_begun kind e = record { since = e; missed = refl; unset = refl; walking = rw (word_root r) (walk_begin r.tree p); best = refl }

  -- so does a search, for the records held now
  search_begun : Searching (enter t s (nearest p)) r.tree r.queue (begun_seat words s 4 p c) t.calls p none
  unfolding call_for enter
  search_begun = record {
    since = word_removals r ∙ sym (since_enter t s (nearest p) h);
    aimed = refl;
    entries = entries_of r.tree;
    once = entries_once r;
    ranged = λ e m. held_ranged r e ((entries_held r.tree e).0 m);
    search = rw (word_changes r, word_removals r, word_root r) (search_begin (choice_of t.scale p) r.tree r.store (λ e. ((entries_held r.tree e).1, (entries_held r.tree e).0)));
    answer = entries_held r.tree;
  }

  -- the call is unfinished, whatever its kind
  busy_begun : (kind : ℕ) (call : Call) → kind_of call ≡ kind → point_of call ≡ p → curve_of call ≡ cond (eqb kind 1) c 0 → CurveFits call
      → Works (enter t s call) r.tree r.queue (begun_seat words s kind p c) t.calls call none
      → Busy (enter t s call) r.tree r.queue (begun_seat words s kind p c) t.calls call none
  unfolding call_for enter
  busy_begun kind call k e v fits works = record {
    state = refl;
    kind = sym k;
    point = sym e;
    curve = sym v;
    ranged = rw e ranged;
    fits = fits;
    asof = omega (arith, word_changes r);
    kept = no_best_point t.scale.rule;
    phase = omega arith;
    works = works;
  }

  -- by kind
  begun_busy : (kind : ℕ) → 1 ≤ kind → kind ≤ 4 → curve_fits kind c ≡ true
      → Busy (enter t s (call_of kind p c)) r.tree r.queue (begun_seat words s kind p c) t.calls (call_of kind p c) none
  unfolding call_of
  begun_busy zero l m f = absurd (omega arith)
  begun_busy (suc zero) l m f = busy_begun 1 (add p c) refl refl refl f (walk_begun 1 refl)
  begun_busy (suc (suc zero)) l m f = busy_begun 2 (remove p) refl refl refl tt (walk_begun 2 refl)
  begun_busy (suc (suc (suc zero))) l m f = busy_begun 3 (contains p) refl refl refl tt (walk_begun 3 refl)
  begun_busy (suc (suc (suc (suc zero)))) l m f = busy_begun 4 (nearest p) refl refl refl tt search_begun
  begun_busy (suc (suc (suc (suc (suc n))))) l m f = absurd (omega arith)

-- a new add stands at the root, above which there is no cut to mark
marking_begun : (marks : Marks) (tree : Option Tree) (i kind : ℕ) (p : Point) (c : ℕ) → Marking marks tree (top_of tree) (unfinished i (call_of kind p c) none)
unfolding call_of
marking_begun marks tree i kind p c = go (eqb kind 1) (eqb kind 2) (eqb kind 3)
  where
    go : (one two three : Bool) → Marking marks tree (top_of tree) (unfinished i (cond one (add p c) (cond two (remove p) (cond three (contains p) (nearest p)))) none)
    go true two three = pass_begin marks tree p
    go false true three = tt
    go false false true = tt
    go false false false = tt

-- the since word of a new call is no less than the removals
since_begun : (removals kind : ℕ) → removals ≤ NONE → removals ≤ since_for removals kind
since_begun removals kind l = go (eqb kind 4)
  where
    go : (b : Bool) → removals ≤ cond b removals NONE
    go true = omega arith
    go false = l

-- The slice with the call written is related to the table with the call entered.
pub related_submitted : {words : List ℕ} {t : Table} (s kind : ℕ) (p : Point) (c : ℕ) → Sound t → Related words t → s < stations → kind_in_range kind ≡ true → in_range_by t.scale.rule p ≡ true → curve_fits kind c ≡ true
    → Related (submitted_words words s kind p c) (enter t s (call_of kind p c))
unfolding enter seat_at kind_in_range
related_submitted {words} {t} s kind p c h r l k ranged fits =
    let w = submit_written words t.places t.limit t.scale r.opened s l kind p c (in_range_by_lem t.scale.rule p ranged) in
    let x : Seat = begun_seat words s kind p c in
    let low : least_since words ≤ since_for (counts_at words).removals kind =
    omega (arith, least_removals words, since_begun (counts_at words).removals kind (omega (arith, word_removals r, removals_word r h))) in
    related_written r w (submit_rows words t.places t.limit t.scale r.opened s l kind p c) (record { places = refl; limit = refl; scale = refl; held = refl; counters = refl; removals = refl })
    (least_greatest (submitted_words words s kind p c) (least_since words) (omega (arith, least_removals words, written_removals w)) (λ u m.
    rw (written_since w u m) (seat_put_each (λ (y : Seat). least_since words ≤ y.track.since) (λ v. seat_at words v) s x low u (least_since_lem words u m))))
    (says_put t (enter t s (call_of kind p c)) refl refl refl r.tree r.queue (λ u. seat_at words u) t.stations r.seats s x (unfinished t.calls (call_of kind p c) none)
    (begun_busy s p c h r ranged kind (leb-true 1 kind (and_left (leb 1 kind) (leb kind 4) k)) (leb-true kind 4 (and_right (leb 1 kind) (leb kind 4) k)) fits))
    (marking_put (marks_in words) r.tree (λ u. seat_at words u) t.stations r.marking s x (unfinished t.calls (call_of kind p c) none)
    (rw (word_root r) (marking_begun (marks_in words) r.tree t.calls kind p c)))
