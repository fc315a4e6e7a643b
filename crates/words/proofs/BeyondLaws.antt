-- The words beyond the records, and beyond so many rows: which writes leave them, and which slices have them.
-- Assumes nothing.
use mathlib.Core.Path.{◌≡◌, refl, ◌∙◌}
use mathlib.Core.Bool.{Bool, true, false, cond}
use mathlib.Core.List.{List}
use Prim.Native.Nat.{ℕ, ◌+◌, ◌*◌, ◌≤◌, ◌<◌}
use native.Mathlib.Omega.{arith}
use borrow.Author.Tests.{ltb-true}
use lib.Dec.{ltb}
use lib.ListN.{length}
use Rattle.words.specs.Layout.{stations, station_size, records, most_places, words_for, at_station, at_row, Fits}
use Rattle.words.specs.Agree.{in_common, in_station, in_row, start_of, size_of, OnlyIn, Beyond}

-- ---- slices that hold so many rows

-- two rows for each place end where the words of an index do
pub rows_end : (places : ℕ) → at_row (2 * places) ≡ words_for places
unfolding at_row
rows_end places = omega arith

pub fits_of : (w : List ℕ) (places : ℕ) → places ≤ most_places → words_for places ≤ length w → Fits w (2 * places)
fits_of w places h l = record { most = omega arith; long = omega (arith, rows_end places) }

-- the records come before the rows
pub fits_records : (w : List ℕ) (rows : ℕ) → Fits w rows → records ≤ length w
unfolding at_row
fits_records w rows m = omega (arith, m.long)

-- what a slice holds is a matter of its length
pub fits_length : (v w : List ℕ) (rows : ℕ) → length v ≡ length w → Fits w rows → Fits v rows
fits_length v w rows e m = record { most = m.most; long = omega (arith, m.long) }

-- ---- the words beyond

pub beyond_refl : (w : List ℕ) (n : ℕ) → Beyond w w n
beyond_refl w n = record { lengths = refl; words = λ k l. refl }

pub beyond_trans : {u v w : List ℕ} {n : ℕ} → Beyond u v n → Beyond v w n → Beyond u w n
beyond_trans g h = record { lengths = g.lengths ∙ h.lengths; words = λ k l. g.words k l ∙ h.words k l }

-- what is written in a record leaves the words beyond the records
pub beyond_common : {v w : List ℕ} {n : ℕ} → OnlyIn v w in_common → records ≤ n → Beyond v w n
unfolding start_of size_of
beyond_common g h = record { lengths = g.lengths; words = λ k l. g.others k (λ p q. omega arith) }

pub beyond_station : {v w : List ℕ} {n : ℕ} (s : ℕ) → OnlyIn v w (in_station s) → records ≤ n → Beyond v w n
unfolding start_of size_of at_station
beyond_station {v} {w} {n} s g h = record { lengths = g.lengths; words = λ k l. g.others k (λ p q. go (ltb s stations) refl k l p q) }
  where
    go : (b : Bool) → ltb s stations ≡ b → (k : ℕ) → n ≤ k → at_station s ≤ k → k < at_station s + cond b station_size 0 → ⊥
    go true e k l p q = omega (arith, ltb-true s stations e)
    go false e k l p q = omega arith

-- what is written in a row leaves the words beyond so many rows
pub beyond_row : {v w : List ℕ} {n : ℕ} (rows r : ℕ) → OnlyIn v w (in_row r) → r < rows → at_row rows ≤ n → Beyond v w n
unfolding start_of size_of at_row
beyond_row rows r g l h = record { lengths = g.lengths; words = λ k m. g.others k (λ p q. omega arith) }
