-- Rows, written and read through the view: a row in range is written over a heap, and no count and no seat changes.
use Prim.Native.Nat.{ℕ, ◌*◌, ◌<◌}
use mathlib.Core.Path.{◌≡◌, refl, ◌∙◌}
use mathlib.Core.Bool.{Bool, true, false}
use mathlib.Core.List.{List}
use lib.Dec.{eqb}
use borrow.Author.Tests.{eqb-true, eqb-false}
use Rattle.points.specs.declared.scale.Scale.{Scale}
use Rattle.stations.specs.Counter.{counter_at}
use Rattle.stations.specs.Counts.{counts_at}
use Rattle.points.specs.Word.{NONE}
use Rattle.rows.specs.declared.row.Row.{Row as WordRow}
use Rattle.words.specs.Agree.{in_common, in_station, in_row, OnlyIn}
use Rattle.words.specs.Layout.{Fits}
use Rattle.words.specs.Rule.{rule_at}
use Rattle.words.proofs.RuleLaws.{rule_agree}
use Rattle.rows.specs.Row.{row_at, put_row, is_row, in_rows}
use Rattle.stations.specs.Common.{opened_in, Opened}
use Rattle.words.proofs.AgreeLaws.{common_row, station_row, elsewhere}
use Rattle.rows.proofs.RowLaws.{row_sound, put_row_none, put_row_only, row_at_put_row_same, row_at_put_row_other}
use Rattle.stations.proofs.OpeningLaws.{opened_fits, opened_rule}
use Rattle.calls.proofs.UnseenLaws.{reads_unseen}
use Rattle.trees.specs.Row.{Row, spare_row, removed_row, leaf_row, cut_row, Heap}
use Rattle.stations.proofs.CountLaws.{counts_agree}
use Rattle.stations.proofs.CounterLaws.{counter_agree}
use Rattle.stations.proofs.TrackLaws.{track_agree}
use Rattle.stations.proofs.TargetLaws.{target_at_agree}
use Rattle.history.specs.View.{seat_at, word_row, Reads, heap_put, Written}
use Rattle.history.proofs.Frame.{seat_same}

-- a row in range is written over a heap
pub reads_put : (words : List ℕ) (places limit : ℕ) (scale : Scale) (h : Heap) (r : ℕ) (row : Row) → opened_in words ≡ Opened places limit scale → r < 2 * places → in_rows scale.rule (2 * places) (word_row row) ≡ true
    → Reads words (2 * places) h → Reads (put_row words r (word_row row)) (2 * places) (heap_put h r row)
unfolding heap_put
reads_put words places limit scale h r row o l e w q k = go (eqb q r) refl
  where
    fits : Fits words (2 * places)
    fits = opened_fits words places limit scale o

    go : (b : Bool) → eqb q r ≡ b → row_at (put_row words r (word_row row)) (2 * places) q ≡ word_row (elim b [ true ↦ row | false ↦ h q ])
    go true f = rw (eqb-true q r f) (row_at_put_row_same words r (word_row row) (2 * places) fits l (rw (opened_rule words places limit scale o) e))
    go false f = row_at_put_row_other words r (word_row row) (2 * places) q (eqb-false q r f) ∙ w q k

-- writing at none writes nothing
pub put_none : (words : List ℕ) (row : WordRow) → put_row words NONE row ≡ words
put_none words row = put_row_none words row

-- what is written in a row leaves the counts and the seats
pub region_written : {v w : List ℕ} (r : ℕ) → OnlyIn v w (in_row r) → Written w v (counts_at w) (counter_at w) (λ s. seat_at w s)
region_written {v} {w} r only =
    let common = elsewhere (in_row r) in_common only (common_row r) in
    record {
      opened = (reads_unseen (in_row r) in_common (rule_agree common) only (common_row r)).opened;
      counted = counts_agree common;
      counters = counter_agree common;
      seated = λ s l. seat_same v w s (track_agree common s) (target_at_agree common s) (reads_unseen (in_row r) (in_station s) (rule_agree common) only (station_row s r));
    }

pub row_written : (words : List ℕ) (r : ℕ) (row : WordRow) → Written words (put_row words r row) (counts_at words) (counter_at words) (λ s. seat_at words s)
row_written words r row = region_written r (put_row_only words r row)

-- a row of a heap is a row
is_row_lem : (row : Row) → is_row (word_row row) ≡ true
is_row_lem (spare_row next n) = refl
is_row_lem (removed_row next n e) = refl
is_row_lem (leaf_row parent e) = refl
is_row_lem (cut_row parent k l r) = refl

-- every row that the words read is in range
pub reads_in : (words : List ℕ) (rows : ℕ) (h : Heap) (r : ℕ) → r < rows → Reads words rows h → in_rows (rule_at words) rows (word_row (h r)) ≡ true
reads_in words rows h r l w = rw (w r l) at (row_sound words rows r (rw (w r l) (is_row_lem (h r))))
