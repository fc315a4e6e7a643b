-- What opening writes: no change counted, no record held, every station idle and nowhere, every row spare and linked to the next; words beyond stay.
use Prim.Native.Nat.{ℕ, zero, suc, ◌+◌, ◌*◌, ◌-◌, ◌≤◌, ◌<◌}
use mathlib.Core.Path.{◌≡◌, ap, ◌∙◌}
use mathlib.Core.Bool.{true, cond}
use mathlib.Core.List.{List}
use native.Mathlib.Omega.{arith}
use lib.Dec.{eqb}
use lib.ListN.{length}
use Rattle.points.specs.declared.scale.Scale.{Scale}
use Rattle.points.specs.Rule.{rule_in}
use Rattle.points.specs.Scale.{factors_in}
use Rattle.points.specs.Word.{NONE}
use Rattle.words.specs.Layout.{stations, records, words_for, Fits}
use Rattle.words.specs.Agree.{in_common, in_station, OnlyIn, Beyond}
use Rattle.words.proofs.AgreeLaws.{station_common, elsewhere, agree_trans}
use Rattle.words.proofs.BeyondLaws.{rows_end, fits_of, beyond_trans, beyond_common}
use Rattle.stations.specs.Common.{Opened, opened_in, places_in, limit_in, records_cleared, put_opening}
use Rattle.stations.specs.Counts.{counts_at, put_counts}
use Rattle.stations.specs.Counter.{counter_at}
use Rattle.stations.specs.Track.{nowhere, track_at}
use Rattle.stations.proofs.OpeningLaws.{opened_in_agree, places_tells, length_put_opening}
use Rattle.stations.proofs.OpenLaws.{length_cleared, state_cleared, counter_cleared, cleared_beyond, opening_beyond, state_put_opening, opened_begun}
use Rattle.stations.proofs.CountLaws.{counts_agree, counts_back, put_counts_only}
use Rattle.stations.proofs.CounterLaws.{counter_agree}
use Rattle.stations.proofs.FieldLaws.{opened_put_counts, counter_put_counts, counter_put_opening}
use Rattle.stations.proofs.TrackLaws.{track_agree}
use Rattle.stations.proofs.RecordLaws.{state_at_agree}
use Rattle.stations.proofs.StationLaws.{there_of}
use Rattle.rows.specs.declared.row.Row.TheVariants.{Spare}
use Rattle.rows.specs.Row.{row_at}
use Rattle.calls.specs.Open.{tracks_cleared, rows_spare, new_counts, head_words, opened_words}
use Rattle.history.specs.View.{seat_at}
use Rattle.history.proofs.TrackEffects.{Moved, moved_at, moved_none, moved_next}
use Rattle.history.proofs.OpenRows.{Spares, rows_spare_lem}

-- a new history: opened, nothing counted, every station idle and nowhere, every row spare and linked to the next
pub record OpenedAs (words : List ℕ) (places limit : ℕ) (scale : Scale) : Type 0 where
  pub opened : opened_in words ≡ Opened places limit scale
  pub counts : counts_at words ≡ record { changes = 0; held = 0; root = NONE; head = 0; tail = 2 * places - 1; removals = 0 }
  pub counters : (s : ℕ) → counter_at words s ≡ 0
  pub states : (s : ℕ) → s < stations → (seat_at words s).state ≡ 0
  pub seats : (s : ℕ) → s < stations → track_at words s ≡ nowhere
  pub rows : (r : ℕ) → r < 2 * places → row_at words (2 * places) r ≡ Spare (cond (eqb (r + 1) (2 * places)) NONE (r + 1)) 0

-- no call at the first n stations
tracks_cleared_lem : (n : ℕ) (w : List ℕ) → n ≤ stations → records ≤ length w → Moved (λ target track. nowhere) (tracks_cleared n w) w n
unfolding tracks_cleared
tracks_cleared_lem zero w h long = moved_none (λ target track. nowhere) w
tracks_cleared_lem (suc n) w h long =
    let m = tracks_cleared_lem n w (omega arith) long in
    let here = there_of (tracks_cleared n w) n (record { station = omega arith; long = omega (arith, m.only.lengths) }) in
    moved_next (moved_at (λ target track. nowhere) (tracks_cleared n w) n here) m

module _ (words : List ℕ) (places limit : ℕ) (scale : Scale) (p : places_in places ≡ true) (m : limit_in limit ≡ true) (k : rule_in scale.rule ≡ true) (f : factors_in scale ≡ true) (l : words_for places ≤ length words) where
  -- the words after each of the parts of opening
  abbrev begun : List ℕ
  begun = put_opening (records_cleared words) places limit scale

  abbrev counted : List ℕ
  counted = put_counts begun (new_counts places)

  abbrev placed : List ℕ
  placed = tracks_cleared stations counted

  abbrev whole : List ℕ
  whole = rows_spare (2 * places) (2 * places) placed

  length_begun : length begun ≡ length words
  length_begun = length_put_opening (records_cleared words) places limit scale ∙ length_cleared words

  counted_only : OnlyIn counted begun in_common
  counted_only = put_counts_only begun (new_counts places)

  length_counted : length counted ≡ length words
  length_counted = counted_only.lengths ∙ length_begun

  tracks_written : Moved (λ target track. nowhere) placed counted stations
  tracks_written = tracks_cleared_lem stations counted (omega arith) (omega (arith, length_counted))

  length_placed : length placed ≡ length words
  length_placed = tracks_written.only.lengths ∙ length_counted

  fits : Fits placed (2 * places)
  fits = fits_of placed places (places_tells places p).1 (omega (arith, length_placed))

  rows_written : Spares (2 * places) whole placed (2 * places)
  rows_written = rows_spare_lem (2 * places) (2 * places) placed fits (omega arith)

  idle : (s : ℕ) → s < stations → (seat_at whole s).state ≡ 0
  unfolding seat_at
  idle s h =
      ap (λ t. t.word)
      (state_at_agree s (agree_trans (rows_written.station s)
      (agree_trans (elsewhere in_common (in_station s) tracks_written.only (station_common s)) (elsewhere in_common (in_station s) counted_only (station_common s)))))
      ∙ ap (λ t. t.word) (state_put_opening (records_cleared words) places limit scale s ∙ state_cleared words (omega arith) s h)

  pub open_written : OpenedAs (opened_words words places limit scale) places limit scale
  unfolding opened_words head_words new_counts
  open_written = record {
    opened = opened_in_agree rows_written.common ∙ tracks_written.opened ∙ opened_put_counts begun (new_counts places) ∙ opened_begun (records_cleared words) places limit scale p m k f (omega (arith, length_cleared words));
    counts = counts_agree rows_written.common ∙ tracks_written.counts ∙ counts_back begun (new_counts places) (omega (arith, length_begun));
    counters = λ s.
        counter_agree rows_written.common s ∙ tracks_written.counters s ∙ counter_put_counts begun (new_counts places) s ∙ counter_put_opening (records_cleared words) places limit scale s
        ∙ counter_cleared words (omega arith) s;
    states = idle;
    seats = λ s h. track_agree rows_written.common s ∙ tracks_written.moved s h;
    rows = rows_written.spare;
  }

  pub opened_beyond : Beyond (opened_words words places limit scale) words (words_for places)
  unfolding opened_words head_words
  opened_beyond =
      beyond_trans (rw (rows_end places) at rows_written.beyond)
      (beyond_trans (beyond_common tracks_written.only (omega arith))
      (beyond_trans (beyond_common counted_only (omega arith))
      (beyond_trans (opening_beyond (records_cleared words) places limit scale (omega arith)) (cleared_beyond words (omega arith)))))
