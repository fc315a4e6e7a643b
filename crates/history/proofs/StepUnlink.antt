-- The step that ends a remove at the leaf of its point: the leaf is taken from the tree, and the answer is 5 with the curve that was held
-- (`unlink_outcome`).
use Prim.Native.Nat.{ℕ, suc, ◌*◌, ◌-◌, ◌≤◌, ◌<◌}
use mathlib.Core.Path.{◌≡◌, refl, sym, ap, subst, ◌∙◌}
use mathlib.Core.Logic.{inl, inr}
use mathlib.Core.Bool.{true, cond, ◌&&◌}
use mathlib.Core.List.{List, map}
use mathlib.Core.Option.{none, some}
use native.Mathlib.Omega.{arith}
use native.Mathlib.Decide.{ℕ_discrete}
use lib.Dec.{eqb, leb}
use lib.ListN.{length}
use borrow.Author.Tests.{eq-eqb, ne_eqb, le-leb}
use Rattle.words.specs.Layout.{stations}
use Rattle.stations.specs.Counter.{counter_at}
use Rattle.stations.specs.Counts.{counts_at}
use Rattle.stations.specs.declared.counts.Counts.{Counts}
use Rattle.stations.specs.Track.{track_at}
use Rattle.points.specs.declared.point.Point.{Point}
use Rattle.points.specs.Number.{in_range_by}
use Rattle.words.specs.Rule.{rule_at}
use Rattle.points.specs.Word.{NONE}
use Rattle.points.proofs.Tests.{and_r, and_i}
use Rattle.stations.specs.declared.answer.Answer.{Answer as Given}
use Rattle.words.specs.Words.{more}
use Rattle.words.specs.Range.{link_in, curve_in}
use Rattle.stations.specs.Common.{opened_in, least_since, Opened}
use Rattle.stations.specs.Call.{call_at}
use Rattle.stations.specs.Answer.{answer_sound}
use Rattle.words.proofs.RangeLaws.{curve_tells}
use Rattle.rows.proofs.RowLaws.{in_rows_leaf}
use Rattle.stations.proofs.TakenLaws.{least_removals, least_since_lem, least_greatest}
use Rattle.stations.proofs.SoundLaws.{answer_of_lem}
use Rattle.table.specs.Record.{Same, without}
use Rattle.table.specs.Call.{remove, Answer, answer, nearest}
use Rattle.table.specs.Table.{Station, unfinished, waiting, Table, put, with_stations, answer_of, all_changes}
use Rattle.table.proofs.Sound.{Sound, removals_changes}
use Rattle.table.proofs.Eager.{Settled}
use Rattle.table.proofs.Stations.{put_cases}
use Rattle.table.proofs.Simulation.{finished}
use Rattle.table.proofs.Answers.{remove_held, finished_change}
use Rattle.table.proofs.Removals.{since_le}
use Rattle.trees.specs.Row.{Entry, leaf_row}
use Rattle.trees.specs.Tree.{Has, entries_of}
use Rattle.trees.specs.Queue.{tail_of}
use Rattle.trees.specs.Store.{Store}
use Rattle.trees.specs.Route.{OnRoute}
use Rattle.trees.specs.Reads.{Leaf}
use Rattle.trees.specs.Unlink.{sibling_row, grand_row, Unlinked}
use Rattle.trees.specs.Below.{Grows}
use Rattle.trees.proofs.ReadLaws.{cut_has, cut_reads, unlink_reads}
use Rattle.trees.proofs.Room.{store_release}
use Rattle.trees.proofs.RouteLaws.{on_route_has}
use Rattle.trees.proofs.Unlink.{unlink}
use Rattle.calls.specs.declared.unlink.Around.{Around}
use Rattle.calls.specs.Reply.{done}
use Rattle.calls.specs.Answer.{answer as word_answer, answered_words}
use Rattle.calls.specs.Unlink.{around_at, around_sound, unlink_tail, unlink_root, unlink_counts, unlink_rows, stations_moved, unlink_words, unlink_of}
use Rattle.history.specs.View.{Seat, seat_at, seat_put, marks_in, Written, answered_seat}
use Rattle.history.specs.Related.{record_of, Busy, Says, Marking, Counted, Related}
use Rattle.history.proofs.RelatedLaws.{more_is, changes_word, counters_more}
use Rattle.history.proofs.Effects.{reads_in, answer_written, answer_rows, moved_seat, unlink_written, unlink_same_rows}
use Rattle.history.proofs.Outcome.{Outcome, ends, left_at, Beside, Next}
use Rattle.history.proofs.Readings.{removed_change, removed_table, changed_remove, one_more}
use Rattle.history.proofs.UnlinkAround.{around_of, around_is, around_sound_lem, alone_side}
use Rattle.history.proofs.UnlinkRows.{RowsUnlinked, rows_unlinked}
use Rattle.history.proofs.UnlinkSeats.{says_moved, marking_moved, left_moved}
use Rattle.history.proofs.RowKinds.{kind_at}
use Rattle.history.proofs.UnlinkMarks.{marks_unlinked}
use Rattle.history.proofs.UnlinkHeld.{curve_removed, records_unlinked, number_unlinked}

-- the seat of a station after an answer, and the others
put_own : (seats : ℕ → Seat) (s : ℕ) (x : Seat) → seat_put seats s x s ≡ x
unfolding seat_put
put_own seats s x = rw (eq-eqb s s refl, seat_put)

put_other : (seats : ℕ → Seat) (s u : ℕ) (x : Seat) → ¬ (u ≡ s) → seat_put seats s x u ≡ seats u
unfolding seat_put
put_other seats s u x n = rw (ne_eqb u s n, seat_put)

module _ (words : List ℕ) (t : Table) (s i : ℕ) (p : Point) (at parent : ℕ) (e : Entry) (sound : Sound t) (settled : Settled t) (below : s < stations)
    (is : t.stations s ≡ unfinished i (remove p) none) (R : Related words t) (route : OnRoute R.tree p at) (reads : R.heap at ≡ leaf_row parent e) (same : e.point ≡ p)
    (more_left : ¬ (t.counters s ≡ t.limit)) where
  -- ---- what is read

  abbrev leaf : Leaf
  leaf = record { row = at; parent = parent; entry = e }

  abbrev rows : ℕ
  rows = 2 * t.places

  abbrev around : Around
  around = around_of R.heap (tail_of R.queue) leaf

  has : Has R.tree at
  has = on_route_has R.tree p at route

  gathered : around_at words rows at ≡ around
  gathered = around_is words R.store R.reads R.counted.tail leaf has reads

  -- changes and removals are below the greatest word
  changes_few : all_changes t < NONE
  changes_few = omega (arith, changes_word R sound)

  removals_few : length t.removals < NONE
  removals_few = omega (arith, changes_few, removals_changes t sound)

  -- ---- what is written

  abbrev number : ℕ
  number = more (counts_at words).removals

  number_is : number ≡ suc (length t.removals)
  number_is = ap more R.counted.removals ∙ more_is (length t.removals) removals_few

  abbrev counts : Counts
  counts = record {
    changes = more (counts_at words).changes;
    held = (counts_at words).held - 1;
    root = unlink_root around (counts_at words).root;
    head = (counts_at words).head;
    tail = unlink_tail around;
    removals = number;
  }

  abbrev words₁ : List ℕ
  words₁ = stations_moved around stations (unlink_counts words s around)

  counted₁ : Written words words₁ counts (put (counter_at words) s (more (counter_at words s))) (λ u. moved_seat around (seat_at words u))
  counted₁ = unlink_written words t.places t.limit t.scale R.opened s below around

  abbrev words₂ : List ℕ
  words₂ = unlink_rows words₁ around number

  unlinked_rows : RowsUnlinked words₁ words₂ t.places R.heap (tail_of R.queue) number leaf
  unlinked_rows =
      rows_unlinked words₁ (counted₁.opened ∙ R.opened) (λ r k. (unlink_same_rows words t.places t.limit t.scale R.opened s below around).row r k ∙ R.reads r k) R.store number leaf has reads

  counted₂ : Written words words₂ counts (put (counter_at words) s (more (counter_at words s))) (λ u. moved_seat around (seat_at words u))
  counted₂ =
      let v = unlinked_rows.written in
      record { opened = v.opened ∙ counted₁.opened; counted = v.counted ∙ counted₁.counted; counters = λ u. v.counters u ∙ counted₁.counters u; seated = λ u k. v.seated u k ∙ counted₁.seated u k }

  after : Unlinked t.places R.heap unlinked_rows.heap R.tree R.queue (all_changes t) (length t.removals) (least_since words) leaf (sibling_row R.heap leaf) (grand_row R.heap leaf)
  after = unlink R.tree R.store has reads (rw number_is at unlinked_rows.writes)

  -- ---- the answer

  abbrev given : Given
  given = word_answer 5 p e.curve 0

  own : Busy t R.tree R.queue (seat_at words s) i (remove p) none
  own = rw is at (R.seats s below)

  asked : (call_at words s).point ≡ p
  unfolding seat_at
  asked = own.point

  given_sound : answer_sound t.scale.rule given ≡ true
  given_sound =
      let k = sym (in_rows_leaf (rule_at words) rows parent e.added e.point e.curve) ∙ rw reads at (reads_in words rows R.heap at (R.store.inside at has) R.reads) in
      let c = curve_tells e.curve (and_r (link_in rows parent && in_range_by (rule_at words) e.point) (curve_in e.curve) k) in
      answer_of_lem t.scale.rule given (record { code = refl; point = own.ranged; curve = c.1; square = omega arith })

  abbrev words₃ : List ℕ
  words₃ = answered_words words₂ s given

  opened₂ : opened_in words₂ ≡ Opened t.places t.limit t.scale
  opened₂ = counted₂.opened ∙ R.opened

  answered : Written words₂ words₃ (counts_at words₂) (counter_at words₂) (seat_put (λ u. seat_at words₂ u) s (answered_seat (seat_at words₂ s) given))
  answered = answer_written words₂ t.places t.limit t.scale opened₂ s below given t.scale.rule given_sound

  counts_are : counts_at words₃ ≡ counts
  counts_are = answered.counted ∙ counted₂.counted

  seat_own : seat_at words₃ s ≡ answered_seat (seat_at words₂ s) given
  seat_own = answered.seated s below ∙ put_own (λ u. seat_at words₂ u) s (answered_seat (seat_at words₂ s) given)

  seat_other : (u : ℕ) → u < stations → ¬ (u ≡ s) → seat_at words₃ u ≡ moved_seat around (seat_at words u)
  seat_other u k n = answered.seated u k ∙ put_other (λ v. seat_at words₂ v) s u (answered_seat (seat_at words₂ s) given) n ∙ counted₂.seated u k

  -- ---- the table

  abbrev spoken : Answer
  spoken = answer 5 p e.curve 0

  abbrev said : ℕ → Station
  said = put t.stations s (waiting spoken)

  answer_is : answer_of t s (remove p) ≡ spoken
  answer_is = remove_held t s p e.curve (rw same at (curve_removed after t.held R.records sound.once)) more_left

  finished_is : finished t s (remove p) none ≡ removed_table t s p said
  finished_is = finished_change t s (remove p) spoken answer_is (removed_change p e.curve) ∙ ap (λ (x : Table). with_stations x said) (changed_remove t s p)

  -- ---- the relation afterwards

  removals_after : (counts_at words₃).removals ≡ suc (length t.removals)
  removals_after = ap (λ (c : Counts). c.removals) counts_are ∙ number_is

  -- no since word has fallen below what was released
  since_after : (u : ℕ) → u < stations → least_since words ≤ (track_at words₃ u).since
  unfolding seat_at
  since_after u k = go (ℕ_discrete u s)
    where
      go : Dec (u ≡ s) → least_since words ≤ (track_at words₃ u).since
      go (yes z) =
          let none_there : (track_at words₃ s).since ≡ NONE = ap (λ (x : Seat). x.track.since) seat_own in
          rw (z, none_there) (omega (arith, least_removals words, R.counted.removals, removals_few))
      go (no n) =
          let stays : (track_at words₃ u).since ≡ (track_at words u).since = ap (λ (x : Seat). x.track.since) (seat_other u k n) in
          rw stays (least_since_lem words u k)

  store_after : Store t.places unlinked_rows.heap after.tree after.queue (suc (all_changes t)) (suc (length t.removals)) (least_since words₃)
  store_after =
      let most : least_since words ≤ (counts_at words₃).removals = omega (arith, removals_after, least_removals words, R.counted.removals) in
      store_release (least_greatest words₃ (least_since words) most since_after) (omega (arith, least_removals words₃, removals_after)) after.store

  counted_after : Counted (removed_table t s p said) after.tree after.queue (counts_at words₃)
  unfolding unlink_root unlink_tail
  counted_after = rw counts_are record {
    changes = ap more R.counted.changes ∙ more_is (all_changes t) changes_few ∙ sym (one_more t s below);
    held = omega (arith, R.counted.held, after.count);
    root = ap (λ (x : ℕ). cond (eqb (grand_row R.heap leaf) NONE) (sibling_row R.heap leaf) x) R.counted.root ∙ sym after.root;
    head = R.counted.head ∙ sym after.head;
    tail = sym after.tail;
    removals = number_is;
  }

  seats_after : (u : ℕ) → u < stations → Says (removed_table t s p said) after.tree after.queue (seat_at words₃ u) (said u)
  seats_after u k = elim (put_cases t.stations s u (waiting spoken)) [
    | inl v ↦ rw (v.1, v.0, seat_own) record { state = refl; sound = given_sound; answer = refl; quiet = record { cursor = refl; phase = refl; since = refl; missed = refl } }
    | inr v ↦ rw (v.1, seat_other u k v.0)
        (says_moved t s below p said R.heap unlinked_rows.heap R.tree R.queue (least_since words) (tail_of R.queue) leaf R.store has after removals_few
        (seat_at words u) u (t.stations u) k (settled u k) refl (R.seats u k))
  ]

  -- every cut of the tree keeps its marks
  grown : Grows (marks_in words) (marks_in words₃) after.tree
  grown x m side d g =
      let c = cut_reads after.tree after.store m in
      let there : ¬ (x ≡ NONE) = λ z. omega (arith, z, after.store.inside x (cut_has after.tree x m), after.store.fits) in
      let last = (unlink_reads R.tree R.store has).tail in
      let kept = marks_unlinked unlinked_rows.writes last.last last.reads (alone_side R.store leaf has reads) x there (ap kind_at c.reads) words₁ side d in
      (answer_rows words₂ t.places t.limit t.scale opened₂ s below given).marks x side d ∙ kept ∙ (unlink_same_rows words t.places t.limit t.scale R.opened s below around).marks x side d ∙ g

  marking_after : (u : ℕ) → u < stations → Marking (marks_in words₃) after.tree (seat_at words₃ u).track.cursor (said u)
  marking_after u k = elim (put_cases t.stations s u (waiting spoken)) [
    | inl v ↦ rw v.1 tt
    | inr v ↦ rw (v.1, seat_other u k v.0)
        (marking_moved t s below p said R.heap unlinked_rows.heap R.tree R.queue (least_since words) (tail_of R.queue) leaf R.store has after removals_few
        (marks_in words) (marks_in words₃) grown (seat_at words u) (t.stations u) (R.marking u k))
  ]

  related : Related words₃ (removed_table t s p said)
  related = record {
    opened = answered.opened ∙ opened₂;
    heap = unlinked_rows.heap;
    tree = after.tree;
    queue = after.queue;
    reads = λ r k. (answer_rows words₂ t.places t.limit t.scale opened₂ s below given).row r k ∙ unlinked_rows.reads r k;
    store = rw (one_more t s below) store_after;
    counted = counted_after;
    counters = λ u k. answered.counters u ∙ counted₂.counters u ∙ counters_more R sound s below u k;
    records = subst (λ (x : Point). Same (map record_of (entries_of after.tree)) (without x t.held)) same (records_unlinked after t.held R.records);
    number = number_unlinked after t.held R.records sound.once R.number ∙ ap (λ (x : Point). length (without x t.held)) same;
    seats = seats_after;
    covered = after.covers (marks_in words) (marks_in words₃) R.covered grown;
    marking = marking_after;
  }

  -- no other search has more left, but for one look, which was spent
  beside : Beside R related s
  unfolding related
  beside u k d j target a q =
      let b : Busy t R.tree R.queue (seat_at words u) j (nearest target) (some a) = rw q at (R.seats u k) in
      let few = left_moved t s below p said R.heap unlinked_rows.heap R.tree R.queue (least_since words) (tail_of R.queue) leaf R.store has after removals_few (seat_at words u) j target a b in
      let now = ap (λ (z : Seat). left_at after.tree after.queue z) (seat_other u k d) in
      let since = ap (λ (z : Seat). z.track.since) (seat_other u k d) in
      omega (
        arith,
        few,
        now,
        since,
        b.works.since,
        since_le j t.removals,
        R.counted.held,
        R.counted.removals,
        number_is,
        after.count,
        ap (λ (c : Counts). c.held) counts_are,
        ap (λ (c : Counts). c.removals) counts_are,
      )

  -- ---- the reply

  passes : (around_sound around && leb 1 (counts_at words).held) ≡ true
  passes = and_i (around_sound_lem R.store leaf has reads) (le-leb 1 (counts_at words).held (omega (arith, R.counted.held, after.count)))

  reply_is : unlink_of words rows s (call_at words s) at ≡ done words₃
  unfolding unlink_of unlink_words
  reply_is = rw (gathered, passes, asked) refl

  outcome : (n : ℕ) → Outcome R s (remove p) none n (unlink_of words rows s (call_at words s) at)
  outcome n = rw reply_is (ends refl (subst (λ (x : Table). Next R s words₃ x) (sym finished_is) (record { related = related; beside = beside })))

-- A remove that stands at the leaf of its point, with changes left, ends there with code 5.
pub unlink_outcome : {words : List ℕ} {t : Table} {s i : ℕ} {p : Point} (at parent : ℕ) (e : Entry) → Sound t → Settled t → s < stations → t.stations s ≡ unfinished i (remove p) none → (R : Related words t)
    → OnRoute R.tree p at → R.heap at ≡ leaf_row parent e → e.point ≡ p → ¬ (t.counters s ≡ t.limit)
    → (n : ℕ) → Outcome R s (remove p) none n (unlink_of words (2 * t.places) s (call_at words s) at)
unlink_outcome {words} {t} {s} {i} {p} at parent e sound settled below is R route reads same left = outcome words t s i p at parent e sound settled below is R route reads same left
