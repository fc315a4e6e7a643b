-- An add that finds its point not held, a change left and site: the record is inserted, and the step answers 1 (`insert_outcome`).
use Prim.Native.Nat.{ℕ, suc, ◌+◌, ◌-◌, ◌*◌, ◌<◌}
use mathlib.Core.Path.{◌≡◌, refl, sym, ◌∙◌, ap, subst}
use mathlib.Core.Logic.{◌↔◌, ◌⊎◌, inl, inr}
use mathlib.Core.Bool.{true}
use mathlib.Core.List.Memᴰ
use mathlib.Core.List.{List, ◌∷◌, map, Memᴰ}
use mathlib.Core.Option.{Option, none, some}
use native.Mathlib.Omega.{arith}
use lib.ListN.{length}
use borrow.Author.Tests.{ne_eqb}
use Rattle.words.specs.Layout.{stations}
use Rattle.stations.specs.Counts.{counts_at}
use Rattle.stations.specs.declared.counts.Counts.{Counts}
use Rattle.points.specs.declared.point.Point.{Point}
use Rattle.points.specs.declared.cut.Cut.{Cut}
use Rattle.points.specs.Cut.{cut_of}
use Rattle.words.specs.Rule.{rule_at}
use Rattle.points.specs.Word.{NONE}
use Rattle.words.specs.Words.{more}
use Rattle.stations.specs.Common.{least_since}
use Rattle.stations.specs.Call.{call_at}
use Rattle.stations.proofs.TakenLaws.{awaiting_is, taken_is}
use Rattle.words.proofs.RangeLaws.{curve_tells}
use Rattle.stations.proofs.SoundLaws.{answer_of_lem}
use Rattle.table.specs.Record.{Record, Same, curve_at}
use Rattle.table.specs.Call.{add, answer}
use Rattle.table.specs.Table.{unfinished, waiting, Table, put, with_stations, taken, all_changes}
use Rattle.table.proofs.Sound.{Sound}
use Rattle.table.proofs.Eager.{Settled}
use Rattle.table.proofs.Answers.{add_new, finished_change}
use Rattle.trees.specs.Row.{Entry, Heap, leaf_row, next_of}
use Rattle.trees.specs.Tree.{Tree, top_of, Holds, count_of, entries_of}
use Rattle.trees.specs.Queue.{head_of}
use Rattle.trees.specs.Store.{Store}
use Rattle.trees.specs.Route.{OnRoute}
use Rattle.trees.specs.Reads.{Leaf}
use Rattle.trees.specs.Insert.{leaf_of, cut_for, Ends, insert_root, insert_head, InsertMarks, Inserted}
use Rattle.trees.specs.Below.{Marks, Passed, Grows}
use Rattle.trees.proofs.ReadLaws.{cut_has, cut_reads}
use Rattle.trees.proofs.ShapeLaws.{entries_held}
use Rattle.trees.proofs.RouteLaws.{on_route_has}
use Rattle.trees.proofs.Insert.{insert}
use Rattle.calls.specs.declared.insert.Site.{Site}
use Rattle.calls.specs.Answer.{answer as given, answered_words}
use Rattle.calls.specs.Insert.{site_at, site_sound, insert_root as root_after, insert_head as head_after, insert_rows, insert_counts, cursors_moved, insert_words, insert_of}
use Rattle.history.specs.View.{Seat, seat_at, marks_in}
use Rattle.history.specs.Related.{record_of, Busy, Related}
use Rattle.history.proofs.Readings.{added_change, added_table, changed_add, one_more}
use Rattle.history.proofs.Effects.{moved_cursor, insert_written, insert_same_rows}
use Rattle.history.proofs.RelatedLaws.{related_rule, more_is, related_is_open, changes_word, removals_word, counters_more, related_busy, related_taken}
use Rattle.history.proofs.Outcome.{Outcome, ends, left_at, Beside, Next}
use Rattle.history.proofs.OwnSeat.{least_same, least_seat, next_answered}
use Rattle.history.proofs.OtherSeats.{says_insert, marking_insert, left_insert}
use Rattle.history.proofs.RowWrites.{Holding, held_first}
use Rattle.history.proofs.RowKinds.{kind_at}
use Rattle.history.proofs.InsertMarks.{marks_inserted, mark_new, mark_old}
use Rattle.history.proofs.InsertRows.{next_word, Finds, beside_finds, beside_site, room_beside, sound_beside, new_cut_parts, beside_writes, alone_finds, alone_site, room_alone, sound_alone, alone_writes}

-- ---- records

-- the records of a tree with one entry more
records_insert : (tree tree' : Option Tree) (new : Entry) (held : List Record) → Same (map record_of (entries_of tree)) held
    → ((e : Entry) → Holds tree' e ↔ (Holds tree e ⊎ (e ≡ new))) → Same (map record_of (entries_of tree')) (record_of new ∷ held)
records_insert tree tree' new held same holds r = (forth, back)
  where
    forth : Memᴰ r (map record_of (entries_of tree')) → Memᴰ r (record_of new ∷ held)
    forth m =
        let u = Memᴰ.of_map record_of (entries_of tree') m in
        elim ((holds u.0).0 ((entries_held tree' u.0).0 u.1)) [
          | inl n ↦ Memᴰ.tail ((same r).0 (subst (λ (x : Record). Memᴰ x (map record_of (entries_of tree))) u.2 (Memᴰ.map record_of ((entries_held tree u.0).1 n))))
          | inr e ↦ Memᴰ.head (sym u.2 ∙ ap record_of e)
        ]

    back : Memᴰ r (record_of new ∷ held) → Memᴰ r (map record_of (entries_of tree'))
    back m = elim (Memᴰ.cases_cons m) [
      | inl e ↦ subst (λ (x : Record). Memᴰ x (map record_of (entries_of tree'))) (sym e) (Memᴰ.map record_of ((entries_held tree' new).1 ((holds new).1 (inr refl))))
      | inr n ↦
          let u = Memᴰ.of_map record_of (entries_of tree) ((same r).1 n) in
          subst (λ (x : Record). Memᴰ x (map record_of (entries_of tree'))) u.2
          (Memᴰ.map record_of ((entries_held tree' u.0).1 ((holds u.0).1 (inl ((entries_held tree u.0).0 u.1)))))
    ]

-- ---- marks

-- what an insert makes of the marks: no cut loses one, and the new one has those of its two records
record Gains (words words' : List ℕ) (tree : Option Tree) (new : Entry) (place : Option Leaf) (k : Cut) (b : ℕ) : Type 0 where
  grown : Grows (marks_in words) (marks_in words') tree
  marked : InsertMarks (marks_in words) (marks_in words') tree new place k b

-- ---- the relation after an insert

-- the words after an insert by the station `own`, given what was read, what is written and what that makes of tree and queue
next_inserted : {words : List ℕ} {t : Table} {h' : Heap} {k : Cut} {a b : ℕ} {new : Entry} (own : ℕ) → own < stations → (place : Option Leaf) (site : Site) → Sound t → Settled t → (r : Related words t)
    → new.added ≡ more (counts_at words).changes → all_changes t < NONE → count_of r.tree < NONE
    → (leaf_of place ≡ NONE → cut_for place b ≡ NONE) → site.at ≡ leaf_of place → site.second ≡ cut_for place b
    → root_after site (counts_at words).root ≡ insert_root place a b (top_of r.tree) → head_after site ≡ insert_head r.heap place a b
    → Holding (cursors_moved site.at site.second stations (insert_counts words own site))
    (insert_rows (cursors_moved site.at site.second stations (insert_counts words own site)) site new.added new.point new.curve) t.places t.limit t.scale h'
    → Inserted t.places r.heap h' r.tree r.queue (all_changes t) (length t.removals) (least_since words) new place k a b
    → Gains words (insert_rows (cursors_moved site.at site.second stations (insert_counts words own site)) site new.added new.point new.curve) r.tree new place k b
    → Next r stations (insert_words words own site new.point new.curve) (added_table t own new.point new.curve)
unfolding insert_words
next_inserted {words} {t} {h'} {k} {a} {b} {new} own mine place site sound settled r number below few still at second root head v w gains =
    rw (← number) (record { related = inserted; beside = beside })
  where
    base : List ℕ
    base = cursors_moved site.at site.second stations (insert_counts words own site)

    written : List ℕ
    written = insert_rows base site new.added new.point new.curve

    counts : counts_at written ≡ record {
      changes = more (counts_at words).changes;
      held = more (counts_at words).held;
      root = root_after site (counts_at words).root;
      head = head_after site;
      tail = (counts_at words).tail;
      removals = (counts_at words).removals;
    }
    counts = v.written.counted ∙ (insert_written words t.places t.limit t.scale r.opened own mine site).counted

    seated : (s : ℕ) → s < stations → seat_at written s ≡ moved_cursor site.at site.second (seat_at words s)
    seated s l = v.written.seated s l ∙ (insert_written words t.places t.limit t.scale r.opened own mine site).seated s l

    least : least_since written ≡ least_since words
    least = least_same words written (ap (λ (c : Counts). c.removals) counts) (λ s l. ap (λ (x : Seat). x.track.since) (seated s l))

    inserted : Related written (added_table t own new.point new.curve)
    inserted = record {
      opened = v.opened;
      heap = h';
      tree = w.tree;
      queue = w.queue;
      reads = v.reads;
      store = rw (one_more t own mine, least) w.store;
      counted = rw counts (record {
        changes = ap more r.counted.changes ∙ more_is (all_changes t) below ∙ sym (one_more t own mine);
        held = ap more r.counted.held ∙ more_is (count_of r.tree) few ∙ sym w.count;
        root = root ∙ sym w.root;
        head = head ∙ sym w.head;
        tail = r.counted.tail ∙ sym w.tail;
        removals = r.counted.removals;
      });
      counters = λ s l. v.written.counters s ∙ (insert_written words t.places t.limit t.scale r.opened own mine site).counters s ∙ counters_more r sound own mine s l;
      records = records_insert r.tree w.tree new t.held r.records w.holds;
      number = w.count ∙ ap suc r.number;
      seats = λ s l.
          rw (seated s l, at, second)
          (says_insert t (added_table t own new.point new.curve) w (one_more t own mine) refl refl (seat_at words s) (t.stations s) (least_seat words s l) still (settled s l) (r.seats s l));
      covered = w.covers (marks_in words) (marks_in written) r.covered gains.grown gains.marked;
      marking = λ s l.
          let e : seat_at written s ≡ moved_cursor (leaf_of place) (cut_for place b) (seat_at words s) = seated s l ∙ (λ j. moved_cursor (at j) (second j) (seat_at words s)) in
          rw e (marking_insert t (added_table t own new.point new.curve) w (one_more t own mine) refl refl (seat_at words s) (marks_in words) (marks_in written) gains.grown (t.stations s) (r.marking s l));
    }

    -- a search has four moves more at most, which were spent with the record
    beside : Beside r inserted stations
    beside u k d i p x q =
        let same : seat_at written u ≡ moved_cursor (leaf_of place) (cut_for place b) (seat_at words u) = seated u k ∙ (λ j. moved_cursor (at j) (second j) (seat_at words u)) in
        let fewer = left_insert t (added_table t own new.point new.curve) w (one_more t own mine) refl refl (seat_at words u) r.store i p x (least_seat words u k) (related_busy r k q) in
        omega (
          arith,
          fewer,
          ap (λ (z : Seat). left_at w.tree w.queue z) same,
          ap (λ (z : Seat). z.track.since) same,
          ap (λ (c : Counts). c.held) counts,
          ap (λ (c : Counts). c.removals) counts,
          ap more r.counted.held ∙ more_is (count_of r.tree) few,
          r.counted.held,
        )

-- ---- the step

module _ {words : List ℕ} {t : Table} (r : Related words t) (sound : Sound t) where
  -- with a place free there is room in the queue
  related_room : ¬ (taken t ≡ t.places) → count_of r.tree + (length t.removals - least_since words) < t.places
  related_room n = omega (arith, n, sound.bounded, related_taken r sound, taken_is words, awaiting_is words, r.counted.held, r.counted.removals)

-- the leaf where the walk ended, if there is one, has another point
abbrev pub OtherPoint : Point → Option Leaf → Type 0
OtherPoint p none = Unit {0}
OtherPoint p (some l) = ¬ (p ≡ l.entry.point)

-- an add has marked its way down to that leaf
abbrev pub PassedTo : Marks → Option Tree → Point → Option Leaf → Type 0
PassedTo marks tree p none = Unit {0}
PassedTo marks tree p (some l) = Passed marks tree p l.row

module _ {words : List ℕ} {t : Table} {s i : ℕ} {p : Point} {c : ℕ} (sound : Sound t) (settled : Settled t) (l : s < stations) (q : t.stations s ≡ unfinished i (add p c) none) (r : Related words t) (free : curve_at p t.held ≡ none)
    (left : ¬ (t.counters s ≡ t.limit)) (place-left : ¬ (taken t ≡ t.places)) where
  busy : Busy t r.tree r.queue (seat_at words s) i (add p c) none
  busy = related_busy r l q

  -- the answer is written after the record
  next_after : {w w' : List ℕ} {t' : Table} (v : Next r stations w (added_table t s p c)) → Next v.related s w' t' → Next r s w' t'
  next_after v z = record {
    related = z.related;
    beside = λ u k d j y a e. omega (arith, v.beside u k (λ x. omega arith) j y a e, z.beside u k d j y a e);
  }

  -- once the record is inserted the answer waits
  inserted_outcome : {n : ℕ} (at : ℕ) (site : Site) → site_at words (2 * t.places) at ≡ site → site_sound site ≡ true → Next r stations (insert_words words s site p c) (added_table t s p c)
      → Outcome r s (add p c) none n (insert_of words (2 * t.places) s (call_at words s) at)
  unfolding insert_of seat_at
  inserted_outcome at site e ok v =
      rw (e, ok, busy.point, busy.curve)
      (ends refl (subst (λ (u : Table). Next r s (answered_words (insert_words words s site p c) s (given 1 p c 0)) u)
      (sym (finished_change t s (add p c) (answer 1 p c 0) (add_new t s p c free left place-left) (added_change p c)
      ∙ ap (λ (u : Table). with_stations u (put t.stations s (waiting (answer 1 p c 0)))) (changed_add t s p c)))
      (next_after v (next_answered s l v.related (given 1 p c 0) (omega (arith, removals_word r sound))
      (answer_of_lem t.scale.rule (given 1 p c 0) (record { code = refl; point = busy.ranged; curve = (curve_tells c busy.fits).1; square = omega arith }))))))

  abbrev entry : Entry
  entry = record { point = p; curve = c; added = more (counts_at words).changes }

  entry_number : more (counts_at words).changes ≡ suc (all_changes t)
  entry_number = ap more r.counted.changes ∙ more_is (all_changes t) (omega (arith, changes_word r sound))

  -- the slice with the counts and cursors of the insert has the same rows
  begun : (site : Site) → let base : List ℕ = cursors_moved site.at site.second stations (insert_counts words s site) in Holding base base t.places t.limit t.scale r.heap
  begun site =
      held_first (cursors_moved site.at site.second stations (insert_counts words s site)) t.places t.limit t.scale r.heap
      ((insert_written words t.places t.limit t.scale r.opened s l site).opened ∙ r.opened)
      (λ x lx. (insert_same_rows words t.places t.limit t.scale r.opened s l site).row x lx ∙ r.reads x lx)

  few : count_of r.tree < NONE
  few = omega (arith, related_room r sound place-left, (related_is_open r).places_most)

  -- into the empty tree; there is no cut, and any stands for it
  alone_outcome : {n : ℕ} → r.tree ≡ none → Outcome r s (add p c) none n (insert_of words (2 * t.places) s (call_at words s) NONE)
  unfolding root_after head_after
  alone_outcome e =
      let h : Heap = r.heap in
      let a : ℕ = head_of r.queue in
      let f = alone_finds (subst (λ (x : Option Tree). Store t.places h x r.queue (all_changes t) (length t.removals) (least_since words)) e r.store) (omega (arith, related_room r sound place-left)) in
      let w = alone_writes words t.places h a f.0 r.reads r.store.fits entry busy.ranged busy.fits (begun (alone_site (rule_at words) h a)) in
      let v : Inserted t.places h w.0 r.tree r.queue (all_changes t) (length t.removals) (least_since words) entry none (cut_of (rule_at words) p p) a (next_of (h a)) =
      insert w.0 (cut_of (rule_at words) p p) entry r.tree none r.store (related_room r sound place-left) e tt entry_number w.2 in
      inserted_outcome NONE (alone_site (rule_at words) h a) (room_alone words t.places h a f.0 r.reads r.store.fits r.counted.head)
      (sound_alone words t.places h a f.0 r.reads r.store.fits f.1)
      (next_inserted s l none (alone_site (rule_at words) h a) sound settled r refl (omega (arith, changes_word r sound)) few (λ d. refl) refl refl refl (next_word (h a)) w.1 v
      (record { grown = λ x m side q g. absurd (rw e at m); marked = tt }))

  -- beside a leaf
  beside_outcome : {n : ℕ} (leaf : Leaf) → OnRoute r.tree p leaf.row → r.heap leaf.row ≡ leaf_row leaf.parent leaf.entry → ¬ (p ≡ leaf.entry.point)
      → Passed (marks_in words) r.tree p leaf.row → Outcome r s (add p c) none n (insert_of words (2 * t.places) s (call_at words s) leaf.row)
  unfolding root_after head_after
  beside_outcome leaf on reads other passed =
      let h : Heap = r.heap in
      let a : ℕ = head_of r.queue in
      let b : ℕ = next_of (h a) in
      let k : Cut = cut_of (rule_at words) p leaf.entry.point in
      let f : Finds t.places h a b leaf = finds r.tree r.store (related_room r sound place-left) on in
      let site : Site = beside_site words (2 * t.places) h a b leaf in
      let there : ¬ (leaf.row ≡ NONE) = λ d. omega (arith, d, f.leaf_row_lem, r.store.fits) in
      let w = beside_writes words f r.reads r.store.fits entry (related_rule r) (rw (related_rule r) busy.ranged) busy.fits (begun site) in
      let v : Inserted t.places h w.0 r.tree r.queue (all_changes t) (length t.removals) (least_since words) entry (some leaf) k a b =
      insert w.0 k entry r.tree (some leaf) r.store (related_room r sound place-left) (on, reads) (new_cut_parts words f r.reads r.store.fits p (rw (related_rule r) busy.ranged) other) entry_number w.2 in
      inserted_outcome leaf.row site (room_beside words f r.reads r.store.fits r.counted.head) (sound_beside words f r.reads r.store.fits)
      (next_inserted s l (some leaf) site sound settled r refl (omega (arith, changes_word r sound)) few (λ d. absurd (there d)) refl refl
      (rw (ne_eqb leaf.row NONE there, r.counted.root)) (rw (ne_eqb leaf.row NONE there) (next_word (h b))) w.1 v (gains f))
    where
      gains : {a b : ℕ} (f : Finds t.places r.heap a b leaf)
          → Gains words
          (insert_rows (cursors_moved leaf.row b stations (insert_counts words s (beside_site words (2 * t.places) r.heap a b leaf))) (beside_site words (2 * t.places) r.heap a b leaf) entry.added p c)
          r.tree entry (some leaf) (cut_of (rule_at words) p leaf.entry.point) b
      gains {a} {b} f =
          let site : Site = beside_site words (2 * t.places) r.heap a b leaf in
          let base : List ℕ = cursors_moved leaf.row b stations (insert_counts words s site) in
          record {
            grown = λ x m side q g.
                let k = cut_reads r.tree r.store m in
                marks_inserted words f r.reads r.store.fits base entry x (r.store.inside x (cut_has r.tree x m)) (ap kind_at k.reads) side q
                ∙ (insert_same_rows words t.places t.limit t.scale r.opened s l site).marks x side q ∙ g;
            marked = (mark_new words f r.reads r.store.fits base entry (begun site).opened, mark_old words f r.reads r.store.fits base entry (begun site).opened, passed);
          }

      finds : (tree : Option Tree) → Store t.places r.heap tree r.queue (all_changes t) (length t.removals) (least_since words)
          → count_of tree + (length t.removals - least_since words) < t.places → OnRoute tree p leaf.row
          → Finds t.places r.heap (head_of r.queue) (next_of (r.heap (head_of r.queue))) leaf
      finds none store lt o = absurd o
      finds (some tree) store lt o = beside_finds leaf store lt (on_route_has (some tree) p leaf.row o) reads

  -- The record is inserted where the walk of its point ended.
  pub insert_outcome : {n : ℕ} (place : Option Leaf) → Ends r.heap r.tree p place → OtherPoint p place → PassedTo (marks_in words) r.tree p place
      → Outcome r s (add p c) none n (insert_of words (2 * t.places) s (call_at words s) (leaf_of place))
  insert_outcome none e o m = alone_outcome e
  insert_outcome (some leaf) e o m = beside_outcome leaf e.0 e.1 o m
