-- What it means that two slices agree on some words, and that one differs from the other in some words alone.
-- `Region` names the records and rows; the laws of what a write leaves alone are about these.
use Rattle.std.specs.Prelude.{◌≡◌, List, cond, ℕ, ◌+◌, ◌≤◌, ◌<◌, ltb, length}
use Rattle.words.specs.Layout.{stations, common_size, station_size, row_size, at_station, at_row}
use Rattle.words.specs.Words.{get}

-- the word k is none of the n words from a on
abbrev pub Off : ℕ → ℕ → ℕ → Type 0
Off a n k = a ≤ k → k < a + n → ⊥

-- no word is among the n from a on and among the m from b on
abbrev pub Apart : ℕ → ℕ → ℕ → ℕ → Type 0
Apart a n b m = (k : ℕ) → a ≤ k → k < a + n → Off b m k

-- two slices have one length and agree on the n words from a on
pub record Agree (v w : List ℕ) (a n : ℕ) : Type 0 where
  pub lengths : length v ≡ length w
  pub words : (k : ℕ) → a ≤ k → k < a + n → get v k ≡ get w k

-- v is w but for the n words from a on
pub record Only (v w : List ℕ) (a n : ℕ) : Type 0 where
  pub lengths : length v ≡ length w
  pub others : (k : ℕ) → Off a n k → get v k ≡ get w k

-- the common record, a station's record, a row
pub data Region : Type 0 where
  in_common : Region
  in_station : ℕ → Region
  in_row : ℕ → Region

-- its first word
unfoldable pub start_of : Region → ℕ
start_of in_common = 0
start_of (in_station s) = at_station s
start_of (in_row r) = at_row r

-- the number of its words: none for a station that is not one of the eight
unfoldable pub size_of : Region → ℕ
size_of in_common = common_size
size_of (in_station s) = cond (ltb s stations) station_size 0
size_of (in_row r) = row_size

-- two slices have one length and agree there
abbrev pub AgreeIn : List ℕ → List ℕ → Region → Type 0
AgreeIn v w x = Agree v w (start_of x) (size_of x)

-- v is w but for words there
abbrev pub OnlyIn : List ℕ → List ℕ → Region → Type 0
OnlyIn v w x = Only v w (start_of x) (size_of x)

-- the words from n on are the same, and so is their number
pub record Beyond (v w : List ℕ) (n : ℕ) : Type 0 where
  pub lengths : length v ≡ length w
  pub words : (k : ℕ) → n ≤ k → get v k ≡ get w k
