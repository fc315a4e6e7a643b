-- The moment of a nearest call changes nothing but what the table has set down for it (`related_settles`): the records held at its submission
-- are those held now.
use Prim.Native.Nat.{ℕ, ◌<◌}
use mathlib.Core.Path.{◌≡◌, refl, sym, ap, subst}
use mathlib.Core.Logic.{◌↔◌, inl, inr}
use mathlib.Core.Bool.{true, false≢true}
use mathlib.Core.List.Memᴰ
use mathlib.Core.List.{List, map, Memᴰ}
use mathlib.Core.Option.{none, some}
use Rattle.words.specs.Layout.{stations}
use Rattle.points.specs.declared.point.Point.{Point}
use Rattle.table.specs.Record.{Same}
use Rattle.table.specs.Call.{Call, add, remove, contains, nearest, is_search, nearest_answer}
use Rattle.table.specs.Table.{Station, unfinished, Table, put, with_stations, answer_of, changed_if}
use Rattle.table.specs.Event.{set_down}
use Rattle.table.proofs.Sound.{Sound}
use Rattle.table.proofs.Stations.{put_cases}
use Rattle.table.proofs.Nearest.{nearest_same}
use Rattle.table.proofs.Trim.{search_quiet}
use Rattle.trees.specs.Row.{Entry}
use Rattle.trees.specs.Tree.{Holds, entries_of}
use Rattle.trees.proofs.ShapeLaws.{entries_held}
use Rattle.history.specs.View.{seat_at}
use Rattle.history.specs.Related.{record_of, Busy, Says, Related}
use Rattle.history.proofs.BusyLaws.{busy_on}
use Rattle.history.proofs.RelatedLaws.{related_busy}
use Rattle.history.proofs.SaysLaws.{says_kept}

-- entries that are those of the tree have the table's records
entries_same : {words : List ℕ} {t : Table} (r : Related words t) (entries : List Entry) → ((e : Entry) → Memᴰ e entries ↔ Holds r.tree e)
    → Same (map record_of entries) t.held
entries_same r entries f q = (
  λ m. let w = Memᴰ.of_map record_of entries m in (r.records q).0 (rw (← w.2) (Memᴰ.map record_of ((entries_held r.tree w.0).1 ((f w.0).0 w.1)))),
  λ m. let w = Memᴰ.of_map record_of (entries_of r.tree) ((r.records q).1 m) in rw (← w.2) (Memᴰ.map record_of ((f w.0).1 ((entries_held r.tree w.0).0 w.1))),
)

-- the table's answer is set down
settled_busy : {words : List ℕ} {t : Table} (s : ℕ) {i : ℕ} {p : Point} → Sound t → (r : Related words t) → Busy t r.tree r.queue (seat_at words s) i (nearest p) none
    → Busy t r.tree r.queue (seat_at words s) i (nearest p) (some (answer_of t s (nearest p)))
unfolding answer_of
settled_busy {words} {t} s {p = p} h r b = busy_on b (seat_at words s).track refl b.asof b.phase (record {
  since = b.works.since;
  aimed = b.works.aimed;
  entries = b.works.entries;
  once = b.works.once;
  ranged = b.works.ranged;
  search = b.works.search;
  answer = ap (nearest_answer t.scale p) (sym (nearest_same t.scale p (map record_of b.works.entries) t.held (entries_same r b.works.entries b.works.answer) h.once));
})

-- what is set down changes nothing else of the table
set_stations : (t : Table) (s i : ℕ) (c : Call) → is_search c ≡ true → set_down t s i c (answer_of t s c) ≡ with_stations t (put t.stations s (unfinished i c (some (answer_of t s c))))
unfolding set_down changed_if
set_stations t s i c e = rw (search_quiet t s c e)

-- the relation with the answer set down
settled_related : {words : List ℕ} {t : Table} {s i : ℕ} {p : Point} → Sound t → s < stations → t.stations s ≡ unfinished i (nearest p) none → Related words t
    → Related words (with_stations t (put t.stations s (unfinished i (nearest p) (some (answer_of t s (nearest p))))))
settled_related {words} {t} {s} {i} {p} h l q r =
    let x : Station = unfinished i (nearest p) (some (answer_of t s (nearest p))) in
    let u : Table = with_stations t (put t.stations s x) in
    record {
      opened = r.opened;
      heap = r.heap;
      tree = r.tree;
      queue = r.queue;
      reads = r.reads;
      store = r.store;
      counted = record {
        changes = r.counted.changes;
        held = r.counted.held;
        root = r.counted.root;
        head = r.counted.head;
        tail = r.counted.tail;
        removals = r.counted.removals;
      };
      counters = r.counters;
      records = r.records;
      number = r.number;
      seats = λ v k. elim (put_cases t.stations s v x) [
        | inl w ↦
            subst (Says u r.tree r.queue (seat_at words v)) (sym w.1)
            (subst (λ z. Says u r.tree r.queue (seat_at words z) x) (sym w.0) (says_kept t u refl refl refl r.tree r.queue (seat_at words s) x (settled_busy s h r (related_busy r l q))))
        | inr w ↦ subst (Says u r.tree r.queue (seat_at words v)) (sym w.1) (says_kept t u refl refl refl r.tree r.queue (seat_at words v) (t.stations v) (r.seats v k))
      ];
      covered = r.covered;
      marking = λ v k. elim (put_cases t.stations s v x) [ inl w ↦ rw w.1 tt | inr w ↦ rw w.1 (r.marking v k) ];
    }

-- The moment of a nearest call keeps the relation; no word changes.
pub related_settles : {words : List ℕ} {t : Table} {s i : ℕ} {c : Call} → Sound t → s < stations → is_search c ≡ true → t.stations s ≡ unfinished i c none → Related words t
    → Related words (set_down t s i c (answer_of t s c))
unfolding is_search
related_settles {words} {t} {s} {i} {c} h l e q r = rw (set_stations t s i c e) (go c e q)
  where
    go : (c : Call) → is_search c ≡ true → t.stations s ≡ unfinished i c none → Related words (with_stations t (put t.stations s (unfinished i c (some (answer_of t s c)))))
    go (add p v) e q = absurd (false≢true e)
    go (remove p) e q = absurd (false≢true e)
    go (contains p) e q = absurd (false≢true e)
    go (nearest p) e q = settled_related h l q r
