-- A report: "the number of places taken, as the common record counts them" (Rules 3.6).
use Rattle.std.specs.Prelude.{ℕ, cond, List, Result, Ok, Err}
use Rattle.words.specs.declared.refusal.Refusal.{Refusal}
use Rattle.words.specs.declared.refusal.Refusal.TheVariants.{NotOpened}
use Rattle.stations.specs.Common.{opened_in, taken_in, is_opened}

-- question 4; the number of places taken
unfoldable pub report_of : List ℕ → Result ℕ Refusal
report_of words = cond (is_opened (opened_in words)) (Ok (taken_in words)) (Err NotOpened)

-- the places that a report tells, 0 with a refusal
abbrev pub places_told : Result ℕ Refusal → ℕ
places_told (Ok taken) = taken
places_told (Err refusal) = 0
