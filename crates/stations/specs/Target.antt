-- The target of a station's last search. It stands in the common record, where a step that takes a leaf from the tree may read it: weight, speed, draw,
-- and grade and moisture in one word. Every content of the four words is a target.
use Rattle.std.specs.Prelude.{ℕ, ◌+◌, ◌*◌, ◌/◌, ◌%◌, cond, ◌&&◌, List, [], ◌∷◌, get_or}
use Rattle.points.specs.declared.point.Point.{Point}
use Rattle.points.specs.Point.{on_axis}
use Rattle.points.specs.Word.{NONE, word_of, point_at}
use Rattle.words.specs.Layout.{at_target}
use Rattle.words.specs.Words.{part, splice}
use Rattle.stations.specs.Station.{has_station}

-- how many moistures there are
abbrev pub moistures : ℕ
moistures = 10001

-- the word of a grade and a moisture; that for none where one of them is out of range
unfoldable pub pair_of : Point → ℕ
pair_of p = cond (on_axis p 1 && on_axis p 3) (word_of p 1 * moistures + word_of p 3) NONE

-- the target of four words
unfoldable pub target_of : List ℕ → Point
target_of w = point_at (get_or w 3 0 / moistures) (get_or w 0 0) (get_or w 3 0 % moistures) (get_or w 1 0) (get_or w 2 0)

-- its four words
unfoldable pub target_words : Point → List ℕ
target_words p = word_of p 2 ∷ word_of p 4 ∷ word_of p 5 ∷ pair_of p ∷ []

-- the target of no station
abbrev pub no_target : Point
no_target = point_at 0 0 0 0 0

-- the target of the last search of station s
unfoldable pub target_at : List ℕ → ℕ → Point
target_at words s = cond (has_station words s) (target_of (part words (at_target s) 4)) no_target

-- the words with that target written
unfoldable pub put_target : List ℕ → ℕ → Point → List ℕ
put_target words s p = cond (has_station words s) (splice words (target_words p) (at_target s) 4) words
