-- Rows (Rules 6.4): sixteen words each, of which the first is the kind, read and written as values.
use Rattle.std.specs.Prelude.{ℕ, ◌+◌, List, [], ◌∷◌, Bool, true, false, cond, ◌&&◌, get_or, length, eqb, leb, ltb}
use Rattle.points.specs.declared.point.Point.{Point}
use Rattle.points.specs.declared.cut.Cut.{Cut as PointCut}
use Rattle.points.specs.Number.{in_range_by}
use Rattle.points.specs.Word.{cut_at, cut_in_range, axis_word_of, sum_word_of}
use Rattle.rows.specs.declared.row.Row.{Row}
use Rattle.rows.specs.declared.row.Row.TheVariants.{Bad, Spare, Removed, Leaf, Cut}
use Rattle.words.specs.Layout.{most_rows, row_size, at_row}
use Rattle.words.specs.Words.{part, splice}
use Rattle.words.specs.Rule.{rule_at}
use Rattle.words.specs.Part.{point_from, point_words}
use Rattle.words.specs.Range.{link_in, curve_in}

-- the kinds of a row
abbrev pub spare_kind : ℕ
spare_kind = 0

abbrev pub removed_kind : ℕ
removed_kind = 1

abbrev pub leaf_kind : ℕ
leaf_kind = 2

abbrev pub cut_kind : ℕ
cut_kind = 3

-- a row that is one
abbrev pub is_row : Row → Bool
is_row Bad = false
is_row (Spare next freed) = true
is_row (Removed next freed added point curve) = true
is_row (Leaf parent added point curve) = true
is_row (Cut parent cut left right) = true

-- a record has a link, a point and a curve in range under the rule
abbrev pub record_in : ℕ → ℕ → ℕ → Point → ℕ → Bool
record_in rule rows link point curve = (link_in rows link && in_range_by rule point) && curve_in curve

-- every field of a row is in range under a rule, for an index of so many rows (Rules 7.11)
unfoldable pub in_rows : ℕ → ℕ → Row → Bool
in_rows rule rows Bad = false
in_rows rule rows (Spare next freed) = link_in rows next
in_rows rule rows (Removed next freed added point curve) = record_in rule rows next point curve
in_rows rule rows (Leaf parent added point curve) = record_in rule rows parent point curve
in_rows rule rows (Cut parent cut left right) = ((link_in rows parent && cut_in_range rule cut) && ltb left rows) && ltb right rows

-- a row that is in range, else Bad
unfoldable pub checked_row : ℕ → ℕ → Row → Row
checked_row rule rows row = cond (in_rows rule rows row) row Bad

-- sixteen words as a spare row
unfoldable pub as_spare : List ℕ → Row
as_spare w = Spare (get_or w 1 0) (get_or w 2 0)

-- as a removed row
unfoldable pub as_removed : List ℕ → Row
as_removed w = Removed (get_or w 1 0) (get_or w 2 0) (get_or w 3 0) (point_from w 4) (get_or w 9 0)

-- as a leaf
unfoldable pub as_leaf : List ℕ → Row
as_leaf w = Leaf (get_or w 1 0) (get_or w 3 0) (point_from w 4) (get_or w 9 0)

-- as a cut
unfoldable pub as_cut : List ℕ → Row
as_cut w = Cut (get_or w 1 0) (cut_at (get_or w 4 0) (get_or w 5 0)) (get_or w 6 0) (get_or w 7 0)

-- the row of sixteen words, by their kind
unfoldable pub row_of : List ℕ → Row
row_of w =
    cond (eqb (get_or w 0 0) spare_kind) (as_spare w)
    (cond (eqb (get_or w 0 0) removed_kind) (as_removed w) (cond (eqb (get_or w 0 0) leaf_kind) (as_leaf w) (cond (eqb (get_or w 0 0) cut_kind) (as_cut w) Bad)))

-- the row r of an index of so many rows; Bad where there is none, where the slice is too short, and where a field is out of range under the rule of the
-- opening, which is read of the slice itself
unfoldable pub row_at : List ℕ → ℕ → ℕ → Row
row_at words rows r = cond (ltb r rows && leb (at_row r + row_size) (length words)) (checked_row (rule_at words) rows (row_of (part words (at_row r) row_size))) Bad

-- the sixteen words of a spare row: kind, next, number of its removal
unfoldable pub spare_words : ℕ → ℕ → List ℕ
spare_words next freed = spare_kind ∷ next ∷ freed ∷ 0 ∷ 0 ∷ 0 ∷ 0 ∷ 0 ∷ 0 ∷ 0 ∷ 0 ∷ 0 ∷ 0 ∷ 0 ∷ 0 ∷ 0 ∷ []

-- the sixteen words of a record, held or removed: kind, link, number of its removal, number of its addition, point, curve
unfoldable pub record_words : ℕ → ℕ → ℕ → ℕ → Point → ℕ → List ℕ
record_words kind link freed added point curve =
    kind ∷ link ∷ freed ∷ added ∷ point_words point (curve ∷ 0 ∷ 0 ∷ 0 ∷ 0 ∷ 0 ∷ 0 ∷ [])

-- the first eight words of a cut, which its grades follow
unfoldable pub cut_words : ℕ → PointCut → ℕ → ℕ → List ℕ
cut_words parent cut left right = cut_kind ∷ parent ∷ 0 ∷ 0 ∷ axis_word_of cut ∷ sum_word_of cut ∷ left ∷ right ∷ []

-- the words of a row that writing it writes: all sixteen, but for the grades of a cut, which stay; none for Bad
unfoldable pub encode_row : Row → List ℕ
encode_row Bad = []
encode_row (Spare next freed) = spare_words next freed
encode_row (Removed next freed added point curve) = record_words removed_kind next freed added point curve
encode_row (Leaf parent added point curve) = record_words leaf_kind parent 0 added point curve
encode_row (Cut parent cut left right) = cut_words parent cut left right

-- the words with those of a row from one offset on
unfoldable pub filled_row : List ℕ → ℕ → Row → List ℕ
filled_row words at row = splice words (encode_row row) at (length (encode_row row))

-- the words with the row r written; as they were where there is no such row, where the slice is too short, and for Bad
unfoldable pub put_row : List ℕ → ℕ → Row → List ℕ
put_row words r row = cond ((is_row row && ltb r most_rows) && leb (at_row r + row_size) (length words)) (filled_row words (at_row r) row) words
