-- The bytes that the frame runner prints for its input, and the way in which they are asked for text by text.
use Rattle.std.specs.Prelude.{ℕ, zero, suc, ◌+◌, ◌-◌, min, List, [], ◌∷◌, ◌++◌, length, Option, Some, None, Ok, Err}
use Rattle.frames.specs.Read.{read_of}
use Rattle.lines.specs.Line.{Line, line_of, line_words, lines_of}
use Rattle.texts.specs.declared.output.Output.{Output}
use Rattle.texts.specs.Text.{text_of, text_with}
use Rattle.texts.specs.Line.{header_bytes, line_bytes}

-- lines one after the other, with ordinals from the given one on
unfoldable pub lines_bytes : ℕ → List Line → List ℕ
lines_bytes ordinal [] = []
lines_bytes ordinal (line ∷ lines) = line_bytes ordinal line ++ lines_bytes (suc ordinal) lines

-- all that is printed: the header, then a line for each frame, their ordinals from 1 on
unfoldable pub output_of : List ℕ → List ℕ → List ℕ
output_of words bytes = header_bytes ++ lines_bytes 1 (lines_of words bytes)

-- at first the header
unfoldable pub begun : Output
begun = record { text = text_with header_bytes; ordinal = 0; at = Some 0 }

-- the position to go on from after a line; none where no byte is left and after the refusal of a reading (Rules 10.4)
abbrev pub next_at : Line → Option ℕ
next_at None = None
next_at (Some (Err number)) = None
next_at (Some (Ok (outcome, next))) = Some next

-- one more; the greatest number of 64 bits stays
abbrev pub counted : ℕ → ℕ
counted ordinal = min (ordinal + 1) 18446744073709551615

-- a line with its ordinal
unfoldable pub after_line : ℕ → Line → Output
after_line ordinal line = record { text = text_with (line_bytes ordinal line); ordinal = ordinal; at = next_at line }

-- nothing is left to print
unfoldable pub silent : Output → Output
silent output = record { text = text_with []; ordinal = output.ordinal; at = None }

-- the line of the frame at a position, after this output
abbrev pub next_from : List ℕ → List ℕ → Output → Option ℕ → Output
next_from words bytes output None = silent output
next_from words bytes output (Some at) = after_line (counted output.ordinal) (line_of words (read_of bytes at))

-- and the words after it
abbrev pub words_from : List ℕ → List ℕ → Option ℕ → List ℕ
words_from words bytes None = words
words_from words bytes (Some at) = line_words words (read_of bytes at)

-- the next: the line of the frame at the position, where there is one, and the words after it
unfoldable pub next_of : List ℕ → List ℕ → Output → Output
next_of words bytes output = next_from words bytes output output.at

unfoldable pub next_words : List ℕ → List ℕ → Output → List ℕ
next_words words bytes output = words_from words bytes output.at

-- how often the next can be asked for at most: once for each byte that is left, and once to see that there is none
abbrev pub asked_from : List ℕ → Option ℕ → ℕ
asked_from bytes None = 0
asked_from bytes (Some at) = suc (length bytes - at)

abbrev pub asked_at_most : List ℕ → Output → ℕ
asked_at_most bytes output = asked_from bytes output.at

-- the first where there may be more, else the second
abbrev pub where_more : {A : Type 0} → Option ℕ → A → A → A
where_more None more last = last
where_more (Some at) more last = more

-- what is printed from here on where the next is asked for as long as there may be more, at most n times
unfoldable pub printed : ℕ → List ℕ → List ℕ → Output → List ℕ
printed zero words bytes output = text_of output.text
printed (suc n) words bytes output =
    text_of output.text ++ where_more output.at (printed n (next_words words bytes output) bytes (next_of words bytes output)) []

-- and the output after which nothing is asked for
unfoldable pub last_output : ℕ → List ℕ → List ℕ → Output → Output
last_output zero words bytes output = output
last_output (suc n) words bytes output = where_more output.at (last_output n (next_words words bytes output) bytes (next_of words bytes output)) output
