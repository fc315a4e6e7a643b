-- Single words of a slice, and parts of it. Reading outside gives 0, and writing outside changes nothing.
use Rattle.std.specs.Prelude.{ℕ, ◌+◌, cond, List, ◌++◌, ltb, get_or, set, take, drop}
use Rattle.points.specs.Word.{NONE}

-- the word i
unfoldable pub get : List ℕ → ℕ → ℕ
get words i = get_or words i 0

-- the words with v for word i
unfoldable pub put : List ℕ → ℕ → ℕ → List ℕ
put words i v = set words i v

-- the n words from a on
abbrev pub part : List ℕ → ℕ → ℕ → List ℕ
part words a n = take n (drop a words)

-- the words with others for the n words from a on; what a slice holds after `&mut words[a..a + n]` was lent
abbrev pub splice : List ℕ → List ℕ → ℕ → ℕ → List ℕ
splice words others a n = take a words ++ (others ++ drop n (drop a words))

-- one more, which stops at the greatest word
unfoldable pub more : ℕ → ℕ
more x = cond (ltb x NONE) (x + 1) x
