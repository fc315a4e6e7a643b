-- Sizes, by name, and where each word of the slice stands: the common record in the first words, then the records of the eight stations, then the rows.
-- Every offset is shut: only the crates `words`, `stations` and `rows` look at its number.
use Rattle.std.specs.Prelude.{ℕ, ◌+◌, ◌*◌, ◌≤◌, List, length}

-- ---- sizes

-- the stations
abbrev pub stations : ℕ
stations = 8

-- the words of the common record, of a station's record, and of a row
abbrev pub common_size : ℕ
common_size = 96

abbrev pub station_size : ℕ
station_size = 64

abbrev pub row_size : ℕ
row_size = 16

-- the words of the common record and of the stations, before the rows
abbrev pub records : ℕ
records = common_size + station_size * stations

-- the places and the rows of the greatest index
abbrev pub most_places : ℕ
most_places = 4096

abbrev pub most_rows : ℕ
most_rows = 2 * most_places

-- the greatest change limit, which each station may use up
abbrev pub most_limit : ℕ
most_limit = 500000000

-- the greatest curve number
abbrev pub most_curve : ℕ
most_curve = 999999

-- the words of an index of so many places, which has two rows for each
abbrev pub words_for : ℕ → ℕ
words_for places = 2 * row_size * places + records

-- ---- the common record

-- the mark that opening writes
unfoldable pub at_mark : ℕ
at_mark = 0

-- the places of the opening
unfoldable pub at_places : ℕ
at_places = 1

-- its change limit
unfoldable pub at_limit : ℕ
at_limit = 2

-- six counts: the changes since opening, the records held, the root, head and tail, and the removals since opening
unfoldable pub at_counts : ℕ
at_counts = 3

-- the scale of the opening: the factors of weight, moisture, speed and draw, and then the rule
unfoldable pub at_scale : ℕ
at_scale = 48

unfoldable pub at_rule : ℕ
at_rule = 52

-- the row of the tree where the call of station s stands
unfoldable pub at_cursor : ℕ → ℕ
at_cursor s = 16 + s

-- the phase of its search: 0 down, 1 up
unfoldable pub at_phase : ℕ → ℕ
at_phase s = 24 + s

-- the number of removals at the submission of its unfinished nearest
unfoldable pub at_since : ℕ → ℕ
at_since s = 32 + s

-- the first row freed since that submission that its search has not looked at
unfoldable pub at_missed : ℕ → ℕ
at_missed s = 40 + s

-- its counter: the changes that it has made since opening
unfoldable pub at_counter : ℕ → ℕ
at_counter s = 56 + s

-- the four words of the target of its last search: weight, speed, draw, and grade and moisture in one
unfoldable pub at_target : ℕ → ℕ
at_target s = 64 + 4 * s

-- ---- a station's record

-- the record of station s, whose first word is the state
unfoldable pub at_station : ℕ → ℕ
at_station s = common_size + station_size * s

-- in it eight words of the call: kind, point, curve, as-of
unfoldable pub at_call : ℕ → ℕ
at_call s = at_station s + 1

-- six words of the best record so far: curve, point
unfoldable pub at_best : ℕ → ℕ
at_best s = at_station s + 11

-- and nine words of the answer: code, point, curve, low and high word of the square
unfoldable pub at_answer : ℕ → ℕ
at_answer s = at_station s + 20

-- ---- the rows

-- the row r
unfoldable pub at_row : ℕ → ℕ
at_row r = records + row_size * r

-- the slice holds the two records and so many rows, as an opened one does
pub record Fits (words : List ℕ) (rows : ℕ) : Type 0 where
  pub most : rows ≤ most_rows
  pub long : at_row rows ≤ length words
