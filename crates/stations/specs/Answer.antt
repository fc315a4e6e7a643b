-- The answer of a station, and the answer that waits there.
use Rattle.std.specs.Prelude.{ℕ, ◌+◌, ◌*◌, ◌/◌, ◌%◌, List, [], ◌∷◌, Bool, cond, ◌&&◌, ◌||◌, get_or, eqb, leb, Option, Some, None}
use Rattle.points.specs.Number.{in_range_by}
use Rattle.points.specs.Square.{most_square}
use Rattle.points.specs.Word.{point_at}
use Rattle.stations.specs.declared.answer.Answer.{Answer}
use Rattle.words.specs.Layout.{most_curve, at_answer}
use Rattle.words.specs.Words.{part, splice}
use Rattle.words.specs.Rule.{rule_at}
use Rattle.words.specs.Part.{point_from, point_words}
use Rattle.stations.specs.Station.{has_station, is_waiting, state_at}

-- ---- the codes of an answer (Rules 2.4)

-- a record was added
abbrev pub code_added : ℕ
code_added = 1

-- the point is held already
abbrev pub code_held : ℕ
code_held = 2

-- no place is left
abbrev pub code_full : ℕ
code_full = 3

-- no change is left
abbrev pub code_spent : ℕ
code_spent = 4

-- the record was removed
abbrev pub code_removed : ℕ
code_removed = 5

-- the point is not held
abbrev pub code_missing : ℕ
code_missing = 6

-- the point is held
abbrev pub code_contained : ℕ
code_contained = 7

-- the nearest record
abbrev pub code_nearest : ℕ
code_nearest = 8

-- no record has the grade
abbrev pub code_none : ℕ
code_none = 9

-- the call was withdrawn
abbrev pub code_withdrawn : ℕ
code_withdrawn = 11

-- there is such a code
abbrev pub code_in : ℕ → Bool
code_in code = leb code_added code && (leb code code_none || eqb code code_withdrawn)

-- ---- answers

-- the answer of nine words: code, point, curve, low and high word of the square
unfoldable pub answer_of : List ℕ → Answer
answer_of w = record { code = get_or w 0 0; point = point_from w 1; curve = get_or w 6 0; square = get_or w 7 0 + 4294967296 * get_or w 8 0 }

-- its nine words
unfoldable pub answer_words : Answer → List ℕ
answer_words answer =
    answer.code ∷ point_words answer.point (answer.curve ∷ answer.square % 4294967296 ∷ answer.square / 4294967296 ∷ [])

-- an answer of no code
abbrev pub no_answer : Answer
no_answer = record { code = 0; point = point_at 0 0 0 0 0; curve = 0; square = 0 }

-- every field of an answer is in range under the rule
unfoldable pub answer_sound : ℕ → Answer → Bool
answer_sound rule answer =
    ((code_in answer.code && in_range_by rule answer.point) && leb answer.curve most_curve) && leb answer.square (most_square rule)

-- the answer of station s; of no code where there is no such station
unfoldable pub answer_at : List ℕ → ℕ → Answer
answer_at words s = cond (has_station words s) (answer_of (part words (at_answer s) 9)) no_answer

-- the words with the answer of station s written
unfoldable pub put_answer : List ℕ → ℕ → Answer → List ℕ
put_answer words s answer = cond (has_station words s) (splice words (answer_words answer) (at_answer s) 9) words

-- the answer that waits in station s (Rules 7.17): there is one if the state says so and every field is in range
unfoldable pub waiting_at : List ℕ → ℕ → Option Answer
waiting_at words s = cond (is_waiting (state_at words s) && answer_sound (rule_at words) (answer_at words s)) (Some (answer_at words s)) None
