-- The lines that the frame runner prints: a line for each frame (Rules 10.3); it "stops after the line of a 13, 14 or 15, and ends without a line when no
-- byte is left" (Rules 10.4).
use Rattle.std.specs.Prelude.{ℕ, zero, suc, ◌+◌, ◌≤◌, ◌<◌, List, [], ◌∷◌, ◌++◌, length, Option, Some, None, Result, Ok, Err}
use Rattle.words.specs.declared.refusal.Refusal.{Refusal}
use Rattle.stations.specs.declared.answer.Answer.{Answer}
use Rattle.frames.specs.declared.frame.Frame.{Frame}
use Rattle.frames.specs.declared.refusal.FrameRefusal.{FrameRefusal}
use Rattle.frames.specs.Refusal.{number_of}
use Rattle.frames.specs.Read.{read_of}
use Rattle.frames.specs.Write.{frame_bytes}
use Rattle.lines.specs.Apply.{Outcome, numbered, applied_number, apply_of, apply_words}

-- a line: none where no byte is left; the number of a reading's refusal, after which the runner stops; or what a frame gave, with the position to go on
-- from. Every number is a line's, also one that no refusal has
abbrev pub Line : Type 0
Line = Option (Result (Outcome × ℕ) ℕ)

-- the line of a reading and a call, with the number in place of a refusal; different refusals have different numbers, so that this says which it is
abbrev pub told : Option (Result (Result (Option Answer) Refusal × ℕ) FrameRefusal) → Line
told None = None
told (Some (Err refusal)) = Some (Err (number_of refusal))
told (Some (Ok (outcome, next))) = Some (Ok (numbered outcome, next))

-- the line of a frame that gave this, with the position to go on from
abbrev pub line_after : Outcome → ℕ → Line
line_after outcome next = Some (Ok (outcome, next))

-- the number that a line has: "its refusal or 0" (Rules 10.3)
abbrev pub line_number : Line → ℕ
line_number None = 0
line_number (Some (Err number)) = number
line_number (Some (Ok (outcome, next))) = applied_number outcome

-- the line of a reading: a frame that was read is applied to the words
unfoldable pub line_of : List ℕ → Option (Result (Frame × ℕ) FrameRefusal) → Line
line_of words None = None
line_of words (Some (Err refusal)) = Some (Err (number_of refusal))
line_of words (Some (Ok (frame, next))) = line_after (apply_of words frame) next

-- the words after it; only a frame that was read changes them
unfoldable pub line_words : List ℕ → Option (Result (Frame × ℕ) FrameRefusal) → List ℕ
line_words words None = words
line_words words (Some (Err refusal)) = words
line_words words (Some (Ok (frame, next))) = apply_words words frame

-- after a line: no line and no more where it is over, this one alone where it stops, else this one and those from the next position on
abbrev pub followed : (ℕ → List Line) → Line → List Line
followed rest None = []
followed rest (Some (Err number)) = Some (Err number) ∷ []
followed rest (Some (Ok (outcome, next))) = Some (Ok (outcome, next)) ∷ rest next

-- at most n lines, from a position on
unfoldable pub lines_for : ℕ → List ℕ → List ℕ → ℕ → List Line
lines_for zero words bytes at = []
lines_for (suc n) words bytes at = followed (λ next. lines_for n (line_words words (read_of bytes at)) bytes next) (line_of words (read_of bytes at))

-- the lines of the whole input; each line takes a byte at least
unfoldable pub lines_of : List ℕ → List ℕ → List Line
lines_of words bytes = lines_for (length bytes) words bytes 0

-- a line is that of bytes that are there; one from which the runner goes on passes some of them
abbrev pub Passes : List ℕ → ℕ → Line → Type 0
Passes bytes at None = Unit {0}
Passes bytes at (Some (Err number)) = at < length bytes
Passes bytes at (Some (Ok (outcome, next))) = (at < next) × (next ≤ length bytes)

-- the bytes of calls that are written one after the other
unfoldable pub call_bytes : List Frame → List ℕ
call_bytes [] = []
call_bytes (f ∷ fs) = frame_bytes f ++ call_bytes fs

-- the lines of calls that are made one after the other, the first of them written at a position
unfoldable pub call_lines : List ℕ → List Frame → ℕ → List Line
call_lines words [] at = []
call_lines words (f ∷ fs) at =
    line_after (apply_of words f) (at + length (frame_bytes f)) ∷ call_lines (apply_words words f) fs (at + length (frame_bytes f))
