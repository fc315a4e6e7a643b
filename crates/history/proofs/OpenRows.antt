-- The rows that opening writes: each is spare and linked to the next, the last to none.
use Prim.Native.Nat.{ℕ, zero, suc, ◌+◌, ◌≤◌, ◌<◌}
use mathlib.Core.Path.{◌≡◌, refl, ◌∙◌}
use mathlib.Core.Bool.{true, cond}
use mathlib.Core.List.{List}
use native.Mathlib.Omega.{arith}
use native.Mathlib.Decide.{ℕ_discrete}
use lib.Dec.{eqb, ltb}
use lib.ListN.{length}
use borrow.Author.Tests.{lt-ltb, le-ltb, eq-eqb, ne_eqb}
use Rattle.points.specs.Word.{NONE}
use Rattle.rows.specs.declared.row.Row.{Row}
use Rattle.rows.specs.declared.row.Row.TheVariants.{Spare}
use Rattle.words.specs.Layout.{at_row, Fits}
use Rattle.words.specs.Agree.{in_common, in_station, in_row, AgreeIn, Beyond}
use Rattle.words.specs.Rule.{rule_at}
use Rattle.words.specs.Range.{link_in}
use Rattle.rows.specs.Row.{row_at, put_row, in_rows}
use Rattle.words.proofs.AgreeLaws.{agree_none, agree_trans, elsewhere, common_row, station_row}
use Rattle.words.proofs.BeyondLaws.{fits_length, beyond_refl, beyond_trans, beyond_row}
use Rattle.words.proofs.RangeLaws.{link_none, link_row}
use Rattle.rows.proofs.RowLaws.{in_rows_spare, length_put_row, put_row_only, row_at_put_row_same, row_at_put_row_other}
use Rattle.calls.specs.Open.{rows_spare}

-- row r of so many, as opening leaves it
abbrev pub new_row : ℕ → ℕ → Row
new_row rows r = Spare (cond (eqb (r + 1) rows) NONE (r + 1)) 0

-- as opening writes it
row_same : (rows r : ℕ) → r < rows → Spare (cond (ltb (r + 1) rows) (r + 1) NONE) 0 ≡ new_row rows r
row_same rows r l = go (ℕ_discrete (r + 1) rows)
  where
    go : Dec (r + 1 ≡ rows) → Spare (cond (ltb (r + 1) rows) (r + 1) NONE) 0 ≡ new_row rows r
    go (yes e) = rw (le-ltb (r + 1) rows (omega arith), eq-eqb (r + 1) rows e)
    go (no d) = rw (lt-ltb (r + 1) rows (omega arith), ne_eqb (r + 1) rows d)

row_in : (rule rows r : ℕ) → r < rows → in_rows rule rows (new_row rows r) ≡ true
row_in rule rows r l = in_rows_spare rule rows (cond (eqb (r + 1) rows) NONE (r + 1)) 0 ∙ go (ℕ_discrete (r + 1) rows)
  where
    go : Dec (r + 1 ≡ rows) → link_in rows (cond (eqb (r + 1) rows) NONE (r + 1)) ≡ true
    go (yes e) = rw (eq-eqb (r + 1) rows e) (link_none rows)
    go (no d) = rw (ne_eqb (r + 1) rows d) (link_row rows (r + 1) (omega arith))

-- the first n rows are spare; the common record, the stations' records and what lies beyond all rows stay
pub record Spares (rows : ℕ) (v w : List ℕ) (n : ℕ) : Type 0 where
  pub lengths : length v ≡ length w
  pub common : AgreeIn v w in_common
  pub station : (s : ℕ) → AgreeIn v w (in_station s)
  pub beyond : Beyond v w (at_row rows)
  pub spare : (r : ℕ) → r < n → row_at v rows r ≡ new_row rows r

pub rows_spare_lem : (rows n : ℕ) (w : List ℕ) → Fits w rows → n ≤ rows → Spares rows (rows_spare rows n w) w n
unfolding rows_spare
rows_spare_lem rows zero w m h = record { lengths = refl; common = agree_none w in_common; station = λ s. agree_none w (in_station s); beyond = beyond_refl w (at_row rows); spare = λ r l. absurd (omega arith) }
rows_spare_lem rows (suc n) w m h = next (rows_spare_lem rows n w m (omega arith))
  where
    v : List ℕ
    v = rows_spare rows n w

    row : Row
    row = Spare (cond (ltb (n + 1) rows) (n + 1) NONE) 0

    next : Spares rows v w n → Spares rows (put_row v n row) w (suc n)
    next g = record {
      lengths = length_put_row v n row ∙ g.lengths;
      common = agree_trans (elsewhere (in_row n) in_common (put_row_only v n row) (common_row n)) g.common;
      station = λ s. agree_trans (elsewhere (in_row n) (in_station s) (put_row_only v n row) (station_row s n)) (g.station s);
      beyond = beyond_trans (beyond_row rows n (put_row_only v n row) (omega arith) (omega arith)) g.beyond;
      spare = λ r l. go r l (ℕ_discrete r n);
    }
      where
        fits : Fits v rows
        fits = fits_length v w rows g.lengths m

        go : (r : ℕ) → r < suc n → Dec (r ≡ n) → row_at (put_row v n row) rows r ≡ new_row rows r
        go r l (yes e) =
            rw (e, row_same rows n (omega arith)) (row_at_put_row_same v n (new_row rows n) rows fits (omega arith) (row_in (rule_at v) rows n (omega arith)))
        go r l (no d) = row_at_put_row_other v n row rows r d ∙ g.spare r (omega arith)
