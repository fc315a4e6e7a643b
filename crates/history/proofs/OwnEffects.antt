-- The writes that are a station's own: to its record, and of its track and its target. They leave the counts, the rows and the seats of the other stations.
use Prim.Native.Nat.{ℕ}
use mathlib.Core.Path.{◌≡◌, refl, ◌∙◌}
use mathlib.Core.Bool.{Bool, true, false, cond}
use mathlib.Core.List.{List}
use lib.Dec.{eqb}
use lib.ListN.{length}
use borrow.Author.Tests.{eqb-true, eqb-false}
use Rattle.points.specs.declared.point.Point.{Point}
use Rattle.points.specs.Point.{in_range}
use Rattle.words.specs.Agree.{in_common, in_station, in_row, AgreeIn, OnlyIn}
use Rattle.words.specs.Rule.{rule_at}
use Rattle.words.proofs.RuleLaws.{rule_agree}
use Rattle.words.proofs.AgreeLaws.{only_none, row_common, common_station, station_station, row_station, elsewhere}
use Rattle.stations.specs.declared.track.Track.{Track}
use Rattle.stations.specs.Common.{opened_in}
use Rattle.stations.specs.Counter.{counter_at}
use Rattle.stations.specs.Counts.{counts_at}
use Rattle.stations.specs.Station.{has_station}
use Rattle.stations.specs.Target.{target_at, put_target}
use Rattle.stations.specs.Track.{track_at, put_track}
use Rattle.stations.proofs.OpeningLaws.{opened_in_agree}
use Rattle.stations.proofs.CountLaws.{counts_agree}
use Rattle.stations.proofs.CounterLaws.{counter_agree}
use Rattle.stations.proofs.TrackLaws.{track_agree, track_other, put_track_only}
use Rattle.stations.proofs.TargetLaws.{target_at_agree, put_target_only, target_other, target_back}
use Rattle.stations.proofs.FieldLaws.{rule_put_track, rule_put_target, opened_put_track, counts_put_track, counter_put_track, target_put_track, opened_put_target, counts_put_target, track_put_target, counter_put_target}
use Rattle.rows.specs.Grades.{slot_of}
use Rattle.calls.specs.Submit.{aimed_words}
use Rattle.calls.proofs.UnseenLaws.{StationReads, RowReads, reads_unseen}
use Rattle.history.specs.View.{Seat, seat_at, seat_put, SameRows, Written}
use Rattle.history.proofs.Frame.{seat_same, slot_fits, common_stations}

-- ---- what is the station's own

-- v is w but for the record of station s, its track and its target
pub record Own (v w : List ℕ) (s : ℕ) : Type 0 where
  pub lengths : length v ≡ length w
  pub opened : opened_in v ≡ opened_in w
  pub counts : counts_at v ≡ counts_at w
  pub counters : (u : ℕ) → counter_at v u ≡ counter_at w u
  pub tracks : (u : ℕ) → ¬ (u ≡ s) → track_at v u ≡ track_at w u
  pub targets : (u : ℕ) → ¬ (u ≡ s) → target_at v u ≡ target_at w u
  pub stations : (u : ℕ) → ¬ (u ≡ s) → StationReads v w u
  pub rows : (r : ℕ) → RowReads v w r

pub own_trans : {u v w : List ℕ} {s : ℕ} → Own u v s → Own v w s → Own u w s
own_trans g h = record {
  lengths = g.lengths ∙ h.lengths;
  opened = g.opened ∙ h.opened;
  counts = g.counts ∙ h.counts;
  counters = λ u. g.counters u ∙ h.counters u;
  tracks = λ u n. g.tracks u n ∙ h.tracks u n;
  targets = λ u n. g.targets u n ∙ h.targets u n;
  stations = λ u n.
      let a = g.stations u n in
      let b = h.stations u n in
      record { state = a.state ∙ b.state; call = a.call ∙ b.call; answer = a.answer ∙ b.answer; waiting = a.waiting ∙ b.waiting };
  rows = λ r. record { row = λ rows. (g.rows r).row rows ∙ (h.rows r).row rows; grades = λ side k l. (g.rows r).grades side k l ∙ (h.rows r).grades side k l };
}

pub own_station : {v w : List ℕ} (s : ℕ) → OnlyIn v w (in_station s) → Own v w s
own_station {v} {w} s g =
    let common : AgreeIn v w in_common = elsewhere (in_station s) in_common g (common_station s) in
    record {
      lengths = g.lengths;
      opened = opened_in_agree common;
      counts = counts_agree common;
      counters = counter_agree common;
      tracks = λ u n. track_agree common u;
      targets = λ u n. target_at_agree common u;
      stations = λ u n. reads_unseen (in_station s) (in_station u) (rule_agree common) g (station_station u s n);
      rows = λ r. reads_unseen (in_station s) (in_row r) (rule_agree common) g (row_station r s);
    }

-- such a write leaves the rows, and of counts and seats what is not the station's
pub own_rows : {v w : List ℕ} {s : ℕ} → Own v w s → (rows : ℕ) → SameRows w v rows
own_rows g rows = record { row = λ r l. (g.rows r).row rows; marks = λ x side p. (g.rows x).grades side (slot_of p) (slot_fits p) }

pub own_written : (v w : List ℕ) (s : ℕ) (x : Seat) → Own v w s → seat_at v s ≡ x → Written w v (counts_at w) (counter_at w) (seat_put (λ u. seat_at w u) s x)
unfolding seat_put
own_written v w s x g e = record { opened = g.opened; counted = g.counts; counters = g.counters; seated = λ u m. go u (eqb u s) refl }
  where
    go : (u : ℕ) (b : Bool) → eqb u s ≡ b → seat_at v u ≡ elim b [ true ↦ x | false ↦ seat_at w u ]
    go u true f = rw (eqb-true u s f) e
    go u false f =
        let other : ¬ (u ≡ s) = eqb-false u s f in
        seat_same v w u (g.tracks u other) (g.targets u other) (g.stations u other)

-- ---- the writes

-- a track
pub own_track : (w : List ℕ) (s : ℕ) (track : Track) → Own (put_track w s track) w s
own_track w s track = record {
  lengths = (put_track_only w s track).lengths;
  opened = opened_put_track w s track;
  counts = counts_put_track w s track;
  counters = counter_put_track w s track;
  tracks = λ u n. track_other w s track u n;
  targets = λ u n. target_put_track w s track u;
  stations = λ u n. common_stations (rule_put_track w s track) (put_track_only w s track) u;
  rows = λ r. reads_unseen in_common (in_row r) (rule_put_track w s track) (put_track_only w s track) (row_common r);
}

-- the target of a nearest; another call leaves it
module _ (w : List ℕ) (s kind : ℕ) (p : Point) where
  pub aimed_only : OnlyIn (aimed_words w s kind p) w in_common
  unfolding aimed_words
  aimed_only = go (eqb kind 4)
    where
      go : (b : Bool) → OnlyIn (cond b (put_target w s p) w) w in_common
      go true = put_target_only w s p
      go false = only_none w in_common

  pub rule_aimed : rule_at (aimed_words w s kind p) ≡ rule_at w
  unfolding aimed_words
  rule_aimed = go (eqb kind 4)
    where
      go : (b : Bool) → rule_at (cond b (put_target w s p) w) ≡ rule_at w
      go true = rule_put_target w s p
      go false = refl

  pub own_aimed : Own (aimed_words w s kind p) w s
  unfolding aimed_words
  own_aimed = record {
    lengths = aimed_only.lengths;
    opened = opened (eqb kind 4);
    counts = counts (eqb kind 4);
    counters = λ u. counter (eqb kind 4) u;
    tracks = λ u n. track (eqb kind 4) u;
    targets = λ u n. targets (eqb kind 4) u n;
    stations = λ u n. common_stations rule_aimed aimed_only u;
    rows = λ r. reads_unseen in_common (in_row r) rule_aimed aimed_only (row_common r);
  }
    where
      opened : (b : Bool) → opened_in (cond b (put_target w s p) w) ≡ opened_in w
      opened true = opened_put_target w s p
      opened false = refl

      counts : (b : Bool) → counts_at (cond b (put_target w s p) w) ≡ counts_at w
      counts true = counts_put_target w s p
      counts false = refl

      counter : (b : Bool) (u : ℕ) → counter_at (cond b (put_target w s p) w) u ≡ counter_at w u
      counter true u = counter_put_target w s p u
      counter false u = refl

      track : (b : Bool) (u : ℕ) → track_at (cond b (put_target w s p) w) u ≡ track_at w u
      track true u = track_put_target w s p u
      track false u = refl

      targets : (b : Bool) (u : ℕ) → ¬ (u ≡ s) → target_at (cond b (put_target w s p) w) u ≡ target_at w u
      targets true u d = target_other w s p u d
      targets false u d = refl

  pub track_aimed : track_at (aimed_words w s kind p) s ≡ track_at w s
  unfolding aimed_words
  track_aimed = go (eqb kind 4)
    where
      go : (b : Bool) → track_at (cond b (put_target w s p) w) s ≡ track_at w s
      go true = track_put_target w s p s
      go false = refl

  pub target_aimed : has_station w s ≡ true → in_range p ≡ true → target_at (aimed_words w s kind p) s ≡ cond (eqb kind 4) p (target_at w s)
  unfolding aimed_words
  target_aimed here e = go (eqb kind 4)
    where
      go : (b : Bool) → target_at (cond b (put_target w s p) w) s ≡ cond b p (target_at w s)
      go true = target_back w s p here e
      go false = refl
