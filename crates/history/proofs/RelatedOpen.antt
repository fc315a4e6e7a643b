-- Opening begins the relation (`related_open`): nothing is held or counted, every row is spare and every station idle.
use Prim.Native.Nat.{ℕ, zero, suc, ◌-◌, ◌*◌, ◌≤◌, ◌<◌}
use mathlib.Core.Path.{◌≡◌, refl, sym, ap, ◌∙◌}
use mathlib.Core.Bool.{true}
use mathlib.Core.List.{List}
use mathlib.Core.Option.{none}
use native.Mathlib.Omega.{arith}
use native.Mathlib.Numerals.{add-one}
use lib.ListN.{length}
use Rattle.points.specs.declared.scale.Scale.{Scale}
use Rattle.points.specs.Rule.{rule_in}
use Rattle.points.specs.Scale.{factors_in}
use Rattle.stations.specs.Track.{track_at}
use Rattle.stations.specs.declared.track.Track.{Track}
use Rattle.stations.specs.declared.counts.Counts.{Counts}
use Rattle.words.specs.Layout.{words_for, stations}
use Rattle.stations.specs.Common.{places_in, limit_in, least_since}
use Rattle.stations.proofs.OpeningLaws.{opened_tells}
use Rattle.stations.proofs.TakenLaws.{least_removals}
use Rattle.table.specs.Table.{opened}
use Rattle.table.proofs.Counters.{total_zero}
use Rattle.trees.specs.Row.{spare_row, Heap}
use Rattle.trees.specs.Queue.{head_of, tail_of, spare_rows}
use Rattle.trees.specs.Store.{Store}
use Rattle.trees.proofs.Open.{opened_next, open_head, open_tail, store_open}
use Rattle.calls.specs.Open.{opened_words}
use Rattle.history.specs.View.{seat_at}
use Rattle.history.specs.Related.{Quiet, Related}
use Rattle.history.proofs.Effects.{OpenedAs, open_written}

-- the rows of an opening
abbrev spare_heap : ℕ → Heap
spare_heap places i = spare_row (opened_next (2 * places) i) 0

-- the first and the last row of the queue of an opening
open_queue : (n : ℕ) → 1 ≤ n → (head_of (spare_rows 0 n) ≡ 0) × (tail_of (spare_rows 0 n) ≡ n - 1)
open_queue zero l = absurd (omega arith)
open_queue (suc k) l = (open_head k, omega (arith, open_tail k))

module _ {words : List ℕ} {places limit : ℕ} {scale : Scale} (w : OpenedAs words places limit scale) where
  -- no removal was made
  open_least : least_since words ≡ 0
  open_least = omega (arith, least_removals words, ap (λ (c : Counts). c.removals) w.counts)

  -- every row is spare
  open_store : Store places (spare_heap places) none (spare_rows 0 (2 * places)) 0 0 (least_since words)
  open_store = rw open_least (store_open places (spare_heap places) (omega (arith, (opened_tells words places limit scale w.opened).places_most)) (λ i l. refl))

  -- no call stands anywhere
  open_quiet : (s : ℕ) → s < stations → Quiet (track_at words s)
  open_quiet s l = record {
    cursor = ap (λ (p : Track). p.cursor) (w.seats s l);
    phase = ap (λ (p : Track). p.phase) (w.seats s l);
    since = ap (λ (p : Track). p.since) (w.seats s l);
    missed = ap (λ (p : Track). p.missed) (w.seats s l);
  }

  open_related : Related words (opened places limit scale)
  unfolding opened seat_at
  open_related =
      let q = open_queue (2 * places) (omega (arith, (opened_tells words places limit scale w.opened).places_least)) in
      record {
        opened = w.opened;
        heap = spare_heap places;
        tree = none;
        queue = spare_rows 0 (2 * places);
        reads = λ r l. w.rows r l ∙ rw (add-one r);
        store = rw total_zero open_store;
        counted = record {
          changes = ap (λ (c : Counts). c.changes) w.counts ∙ sym total_zero;
          held = ap (λ (c : Counts). c.held) w.counts;
          root = ap (λ (c : Counts). c.root) w.counts;
          head = ap (λ (c : Counts). c.head) w.counts ∙ sym q.0;
          tail = ap (λ (c : Counts). c.tail) w.counts ∙ sym q.1;
          removals = ap (λ (c : Counts). c.removals) w.counts;
        };
        counters = λ s l. w.counters s;
        records = λ r. (λ m. m, λ m. m);
        number = refl;
        seats = λ s l. record { state = w.states s l; quiet = open_quiet s l };
        covered = λ x side e b. absurd b;
        marking = λ s l. tt;
      }

-- The words that an accepted opening leaves are related to the table at first.
pub related_open : (words : List ℕ) (places limit : ℕ) (scale : Scale) → places_in places ≡ true → limit_in limit ≡ true → rule_in scale.rule ≡ true → factors_in scale ≡ true → words_for places ≤ length words
    → Related (opened_words words places limit scale) (opened places limit scale)
related_open words places limit scale p m k f l = open_related (open_written words places limit scale p m k f l)
