-- Parts of a slice: the five words of a point, and words that are written from one offset on.
use Rattle.std.specs.Prelude.{ℕ, ◌+◌, cond, List, ◌∷◌, leb, get_or, length}
use Rattle.points.specs.declared.point.Point.{Point}
use Rattle.points.specs.Word.{point_at, word_of}
use Rattle.words.specs.Words.{splice}

-- the point of five words from word k on
unfoldable pub point_from : List ℕ → ℕ → Point
point_from w k = point_at (get_or w k 0) (get_or w (k + 1) 0) (get_or w (k + 2) 0) (get_or w (k + 3) 0) (get_or w (k + 4) 0)

-- the five words of a point, and what follows them
unfoldable pub point_words : Point → List ℕ → List ℕ
point_words p rest = word_of p 1 ∷ word_of p 2 ∷ word_of p 3 ∷ word_of p 4 ∷ word_of p 5 ∷ rest

-- the words with others from a on; as they were where these do not all fit
unfoldable pub put_part : List ℕ → List ℕ → ℕ → List ℕ
put_part words others a = cond (leb (a + length others) (length words)) (splice words others a (length others)) words
