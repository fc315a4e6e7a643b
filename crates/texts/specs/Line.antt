-- The bytes of the header and of a line (Rules 10.3).
use Rattle.std.specs.Prelude.{ℕ, List, [], ◌∷◌, ◌++◌, Some, None, Ok, Err}
use Rattle.points.specs.declared.point.Point.{Point}
use Rattle.stations.specs.declared.answer.Answer.{Answer}
use Rattle.lines.specs.Line.{Line}
use Rattle.texts.specs.Ascii.{ascii}
use Rattle.texts.specs.Decimal.{decimal_of, signed_decimal}

-- what ends a line, stands between two fields, and stands for a field of no answer
abbrev pub newline : ℕ
newline = 10

abbrev pub space : ℕ
space = 32

abbrev pub hyphen : List ℕ
hyphen = ascii "-"

-- a field with a space behind it
abbrev pub spaced : List ℕ → List ℕ
spaced field = field ++ (space ∷ [])

-- the five coordinates of a point, each with a space behind it
unfoldable pub point_bytes : Point → List ℕ
point_bytes point =
    spaced (signed_decimal point.grade)
    ++ (spaced (signed_decimal point.weight)
    ++ (spaced (signed_decimal point.moisture) ++ (spaced (signed_decimal point.speed) ++ spaced (signed_decimal point.draw))))

-- fields with one space between, and a newline at the end
abbrev pub joined : List (List ℕ) → List ℕ
joined [] = newline ∷ []
joined (field ∷ []) = field ++ (newline ∷ [])
joined (field ∷ next ∷ fields) = field ++ (space ∷ joined (next ∷ fields))

-- the names of the fields
unfoldable pub header_bytes : List ℕ
header_bytes = ascii "frame result code grade weight moisture speed draw curve square\n"

-- a line that has no answer
unfoldable pub plain_bytes : ℕ → ℕ → List ℕ
plain_bytes ordinal number =
    joined (decimal_of ordinal ∷ decimal_of number ∷ hyphen ∷ hyphen ∷ hyphen ∷ hyphen ∷ hyphen ∷ hyphen ∷ hyphen ∷ hyphen ∷ [])

-- a line with the answer taken
unfoldable pub answer_bytes : ℕ → Answer → List ℕ
answer_bytes ordinal answer =
    joined (
    decimal_of ordinal
    ∷ decimal_of 0
    ∷ decimal_of answer.code
    ∷ signed_decimal answer.point.grade
    ∷ signed_decimal answer.point.weight
    ∷ signed_decimal answer.point.moisture
    ∷ signed_decimal answer.point.speed
    ∷ signed_decimal answer.point.draw
    ∷ decimal_of answer.curve
    ∷ decimal_of answer.square
    ∷ []
    )

-- a line with its ordinal; nothing where no byte is left
unfoldable pub line_bytes : ℕ → Line → List ℕ
line_bytes ordinal None = []
line_bytes ordinal (Some (Err number)) = plain_bytes ordinal number
line_bytes ordinal (Some (Ok (Err number, next))) = plain_bytes ordinal number
line_bytes ordinal (Some (Ok (Ok None, next))) = plain_bytes ordinal 0
line_bytes ordinal (Some (Ok (Ok (Some answer), next))) = answer_bytes ordinal answer
