-- The fields of the two records are in range in a related slice (`related_sound`), so that no step meets question 11 there.
use Prim.Native.Nat.{ℕ, ◌*◌, ◌≤◌, ◌<◌}
use mathlib.Core.Path.{◌≡◌, refl}
use mathlib.Core.Logic.{inl}
use mathlib.Core.Bool.{Bool, true, false}
use mathlib.Core.List.{List, Memᴰ}
use mathlib.Core.Option.{Option, none, some}
use native.Mathlib.Omega.{arith}
use lib.Dec.{eqb}
use lib.ListN.{length}
use borrow.Author.Tests.{eqb-true}
use Rattle.words.specs.Layout.{stations}
use Rattle.stations.specs.declared.track.Track.{Track}
use Rattle.stations.specs.Track.{track_at}
use Rattle.points.specs.declared.point.Point.{Point}
use Rattle.points.specs.declared.scale.Scale.{Scale}
use Rattle.points.specs.Number.{in_range_by}
use Rattle.stations.specs.declared.call.Best.{Best as WordBest}
use Rattle.stations.specs.Common.{since_in, common_sound}
use Rattle.stations.specs.Call.{best_sound, curve_for, call_sound}
use Rattle.stations.proofs.CommonLaws.{since_none, since_some, common_of}
use Rattle.words.proofs.RangeLaws.{curve_tells}
use Rattle.stations.proofs.SoundLaws.{best_none, best_record, call_of_lem}
use Rattle.table.specs.Call.{Call, add, remove, contains, nearest, Answer}
use Rattle.table.specs.Table.{Station, idle, unfinished, waiting, Table, all_changes}
use Rattle.table.proofs.Sound.{Sound, removals_changes, held_places, changes_most}
use Rattle.table.proofs.Removals.{since_le}
use Rattle.trees.specs.Row.{Entry, Heap}
use Rattle.trees.specs.Tree.{Tree}
use Rattle.trees.specs.Queue.{Free}
use Rattle.trees.specs.Store.{Store}
use Rattle.trees.specs.Search.{Found}
use Rattle.trees.proofs.ChoiceOf.{choice_of}
use Rattle.calls.specs.Step.{records_sound}
use Rattle.history.specs.View.{Seat, seat_at, best_of}
use Rattle.history.specs.Related.{EntriesIn, kind_of, curve_of, Quiet, Walks, Busy, Says, Related}
use Rattle.history.proofs.RelatedLaws.{related_is_open, related_rule, related_rows, related_busy, word_places, word_limit, word_changes, word_held, word_root, word_head, word_tail, word_removals}
use Rattle.history.proofs.RelatedRows.{Link, link_in_lem, standing_link, walking_link, missed_link, head_inside, tail_inside, root_link}

-- ---- the common record

-- what a track has in range
pub record TrackIn (rows removals : ℕ) (track : Track) : Type 0 where
  pub cursor : Link rows track.cursor
  pub phase : track.phase ≤ 1
  pub since : since_in removals track.since ≡ true
  pub missed : Link rows track.missed

quiet_track : (rows removals : ℕ) (track : Track) → Quiet track → TrackIn rows removals track
quiet_track rows removals track q =
    record { cursor = inl q.cursor; phase = omega (arith, q.phase); since = since_none removals track.since q.since; missed = inl q.missed }

module _ {h : Heap} {tree : Option Tree} {q : List Free} {released : ℕ} (t : Table) (st : Store t.places h tree q (all_changes t) (length t.removals) released) where
  walk_track : (seat : Seat) (p : Point) (o : Option Answer) → seat.track.phase ≤ 1 → Walks tree seat p o → TrackIn (2 * t.places) (length t.removals) seat.track
  walk_track seat p o l w = record {
    cursor = walking_link st p seat.track.cursor w.walking;
    phase = l;
    since = since_none (length t.removals) seat.track.since w.since;
    missed = inl w.missed;
  }

  busy_track : (seat : Seat) (i : ℕ) (c : Call) (o : Option Answer) → Busy t tree q seat i c o → TrackIn (2 * t.places) (length t.removals) seat.track
  busy_track seat i (add p c) o b = walk_track seat p o b.phase b.works
  busy_track seat i (remove p) o b = walk_track seat p o b.phase b.works
  busy_track seat i (contains p) o b = walk_track seat p o b.phase b.works
  busy_track seat i (nearest p) o b = record {
    cursor = standing_link st seat.track.cursor b.works.search.stands;
    phase = b.phase;
    since = since_some (length t.removals) seat.track.since (omega (arith, b.works.since, since_le i t.removals));
    missed = missed_link st seat.track.since seat.track.missed b.works.search.rest b.works.search.missing;
  }

  -- whatever the station says, its track is in range
  pub says_track : (seat : Seat) (x : Station) → Says t tree q seat x → TrackIn (2 * t.places) (length t.removals) seat.track
  says_track seat idle b = quiet_track (2 * t.places) (length t.removals) seat.track b.quiet
  says_track seat (waiting a) b = quiet_track (2 * t.places) (length t.removals) seat.track b.quiet
  says_track seat (unfinished i c o) b = busy_track seat i c o b

-- the track of each station is in range
pub related_track : {words : List ℕ} {t : Table} (r : Related words t) (s : ℕ) → s < stations → TrackIn (2 * t.places) (length t.removals) (track_at words s)
unfolding seat_at
related_track {words} {t} r s l = says_track t r.store (seat_at words s) (t.stations s) (r.seats s l)

-- the common record is in range
pub related_common : {words : List ℕ} {t : Table} → Sound t → (r : Related words t) → common_sound words (2 * t.places) ≡ true
related_common {words} {t} h r =
    let o = related_is_open r in
    common_of words (2 * t.places) (record {
      there = omega (arith, o.long);
      counts = record {
        changes = omega (arith, word_changes r, word_limit r, changes_most t h);
        held = omega (arith, word_held r, word_places r, held_places t h);
        removals = omega (arith, word_removals r, word_changes r, removals_changes t h);
        root = rw (word_root r) (link_in_lem (2 * t.places) _ (root_link r.tree r.store));
        head = rw (word_head r) (head_inside r.store o.places_least);
        tail = rw (word_tail r) (tail_inside r.store o.places_least);
      };
      counters = λ s l. omega (arith, r.counters s l, word_limit r, h.spent s);
      tracks = λ s l. record {
        cursor = link_in_lem (2 * t.places) (track_at words s).cursor (related_track r s l).cursor;
        phase = (related_track r s l).phase;
        since = rw (word_removals r) (related_track r s l).since;
        missed = link_in_lem (2 * t.places) (track_at words s).missed (related_track r s l).missed;
      };
    })

-- ---- the station's call

-- a best that is one of the records held at submission is in range
found_best : (scale : Scale) (target : Point) (entries : List Entry) → EntriesIn scale.rule entries
    → (best : WordBest) → in_range_by scale.rule best.point ≡ true → Found (choice_of scale target) (λ e. Memᴰ e entries) (best_of best) → best_sound scale.rule best ≡ true
found_best scale target entries ranged best k f = go (eqb best.curve 0) refl f
  where
    go : (b : Bool) → eqb best.curve 0 ≡ b
        → Found (choice_of scale target) (λ e. Memᴰ e entries) (elim b [ true ↦ none | false ↦ some (record { point = best.point; curve = best.curve }) ])
        → best_sound scale.rule best ≡ true
    go true e f = best_none scale.rule best (eqb-true best.curve 0 e)
    go false e f = best_record scale.rule best (omega (arith, f.curve, (curve_tells f.entry.curve (ranged f.entry f.held).1).1)) k

kind_range : (c : Call) → (1 ≤ kind_of c) × (kind_of c ≤ 4)
kind_range (add p c) = omega arith
kind_range (remove p) = omega arith
kind_range (contains p) = omega arith
kind_range (nearest p) = omega arith

module _ {t : Table} {tree : Option Tree} {q : List Free} {seat : Seat} {i : ℕ} {o : Option Answer} where
  busy_best : (c : Call) → Busy t tree q seat i c o → best_sound t.scale.rule seat.call.best ≡ true
  busy_best (add p c) b = best_none t.scale.rule seat.call.best b.works.best
  busy_best (remove p) b = best_none t.scale.rule seat.call.best b.works.best
  busy_best (contains p) b = best_none t.scale.rule seat.call.best b.works.best
  busy_best (nearest p) b = found_best t.scale p b.works.entries b.works.ranged seat.call.best b.kept b.works.search.found

  busy_curve : (c : Call) → Busy t tree q seat i c o → curve_for (kind_of c) (curve_of c) ≡ true
  busy_curve (add p c) b = b.fits
  busy_curve (remove p) b = refl
  busy_curve (contains p) b = refl
  busy_curve (nearest p) b = refl

  -- the call of a seat is in range
  pub busy_sound : (c : Call) → Busy t tree q seat i c o → call_sound t.scale.rule seat.call (all_changes t) ≡ true
  busy_sound c b = call_of_lem t.scale.rule seat.call (all_changes t) (record {
    kind_least = omega (arith, kind_range c, b.kind);
    kind_most = omega (arith, kind_range c, b.kind);
    point = rw b.point b.ranged;
    curve = rw (b.kind, b.curve) (busy_curve c b);
    asof = b.asof;
    best = busy_best c b;
  })

-- Both records of a station with an unfinished call are in range.
pub related_sound : {words : List ℕ} {t : Table} {s i : ℕ} {c : Call} {o : Option Answer} → Sound t → (r : Related words t) → s < stations → t.stations s ≡ unfinished i c o
    → records_sound words s ≡ true
unfolding records_sound seat_at
related_sound {words} {t} {s} {i} {c} {o} h r l e =
    rw (related_rows r, related_common h r, word_changes r, related_rule r) (busy_sound c (related_busy r l e))
