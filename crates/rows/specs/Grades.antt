-- The grades that may lie on each side of a cut: 127 slots a side, the bits of four words. Words 8 to 11 of the cut's row are those of the
-- left side, 12 to 15 those of the right. A grade that shares its slot with one that lies there may lie there as well.
use Rattle.std.specs.Prelude.{ℕ, ◌+◌, ◌/◌, ◌%◌, ◌^◌, Bool, true, cond, not, ◌&&◌, List, [], ◌∷◌, eqb, leb, ltb, length}
use Rattle.std.specs.Int.Bits.{bit_or}
use Rattle.points.specs.declared.point.Point.{Point}
use Rattle.points.specs.Word.{word_of}
use Rattle.words.specs.Layout.{most_rows, row_size, at_row}
use Rattle.words.specs.Words.{get, put, splice}
use Rattle.rows.specs.Tree.{child_at}

-- the slot of a point: its grade less one, modulo 127
unfoldable pub slot_of : Point → ℕ
slot_of p = word_of p 1 % 127

-- the word of slot k on a side, left or not, of row r
unfoldable pub at_slot : ℕ → Bool → ℕ → ℕ
at_slot r left k = at_row r + k / 32 + cond left 8 12

-- bit k mod 32 of a word is set
unfoldable pub has_bit : ℕ → ℕ → Bool
has_bit w k = eqb (w / 2 ^ (k % 32) % 2) 1

-- the word with that bit set
unfoldable pub with_bit : ℕ → ℕ → ℕ
with_bit w k = bit_or w (2 ^ (k % 32))

-- slot k may lie on a side of the cut in row r
unfoldable pub admits : List ℕ → ℕ → Bool → ℕ → Bool
admits words r left k = has_bit (get words (at_slot r left k)) k

-- the words with slot k among those of a side of row r
unfoldable pub mark_side : List ℕ → ℕ → Bool → ℕ → List ℕ
mark_side words r left k = put words (at_slot r left k) (with_bit (get words (at_slot r left k)) k)

-- the words with slot k on the side of the cut in row r where the child `to` hangs; as they were where a walk stays, at a leaf
unfoldable pub mark_toward : List ℕ → ℕ → ℕ → ℕ → List ℕ
mark_toward words r to k = cond (eqb r to) words (mark_side words r (eqb (child_at words r true) to) k)

-- no slot on either side
unfoldable pub no_grades : List ℕ
no_grades = 0 ∷ 0 ∷ 0 ∷ 0 ∷ 0 ∷ 0 ∷ 0 ∷ 0 ∷ []

-- the grades of a new cut in row r: one slot on the side that is told, one on the other, and no more; as they were where there is no such row, and
-- where the slice is too short
unfoldable pub begin_grades : List ℕ → ℕ → Bool → ℕ → ℕ → List ℕ
begin_grades words r left here there =
    cond (ltb r most_rows && leb (at_row r + row_size) (length words)) (mark_side (mark_side (splice words no_grades (at_row r + 8) 8) r left here) r (not left) there) words
