-- The lines of the whole input: each frame takes a byte at least, so that more lines than bytes are never asked for (`lines_enough`), and calls that
-- are written one after the other are made one after the other (`lines_of_calls`).
-- Assumes nothing.
use mathlib.Core.Path.{◌≡◌, refl, sym, ap, ◌∙◌}
use mathlib.Core.List.{List, [], ◌∷◌, ◌++◌, append_assoc}
use Prim.Native.Nat.{ℕ, zero, suc, ◌+◌, ◌-◌, ◌<◌, ◌≤◌}
use native.Mathlib.Omega.{arith}
use native.Mathlib.Decide.{dec_le}
use lib.ListN.{length, length-append}
use Rattle.std.specs.Prelude.{Option, Some, None, Result, Ok, Err}
use Rattle.words.specs.declared.refusal.Refusal.{Refusal}
use Rattle.words.specs.Refusal.{number_told}
use Rattle.stations.specs.declared.answer.Answer.{Answer}
use Rattle.frames.specs.declared.frame.Frame.{Frame}
use Rattle.frames.specs.declared.refusal.FrameRefusal.{FrameRefusal}
use Rattle.frames.specs.Width.{AllInWidth}
use Rattle.frames.specs.Refusal.{number_of}
use Rattle.frames.specs.Read.{read_of}
use Rattle.frames.specs.Write.{frame_bytes}
use Rattle.lines.specs.Apply.{Outcome, no_answer, applied_of, applied_number, apply_of, apply_words}
use Rattle.lines.specs.Line.{Line, line_number, line_after, line_of, line_words, followed, lines_for, lines_of, Passes, call_bytes, call_lines}
use Rattle.frames.proofs.OutcomeLaws.{ends, read_moves}
use Rattle.frames.proofs.WrittenLaws.{frame_length, frame_among}

-- the number of a frame's line is that of what its call gave
pub line_number_lem : (outcome : Outcome) (next : ℕ) → line_number (line_after outcome next) ≡ applied_number outcome
line_number_lem outcome next = refl

-- and of a taking, the taking's
pub taking_number : (taking : Result Answer Refusal) → applied_number (applied_of taking) ≡ number_told taking
taking_number (Ok answer) = refl
taking_number (Err refusal) = refl

-- and of a call that takes no answer, the call's
pub no_answer_number : (n : ℕ) → applied_number (no_answer n) ≡ n
no_answer_number zero = refl
no_answer_number (suc n) = refl

-- after a reading, the same lines follow where they do past its frame
same_after : (m n : ℕ) (words bytes : List ℕ) (at : ℕ) (reading : Option (Result (Frame × ℕ) FrameRefusal)) → read_of bytes at ≡ reading
    → ((after : List ℕ) (next : ℕ) → at < next → lines_for m after bytes next ≡ lines_for n after bytes next)
    → followed (λ next. lines_for m (line_words words reading) bytes next) (line_of words reading)
    ≡ followed (λ next. lines_for n (line_words words reading) bytes next) (line_of words reading)
unfolding line_of line_words
same_after m n words bytes at None e same = refl
same_after m n words bytes at (Some (Err refusal)) e same = refl
same_after m n words bytes at (Some (Ok (frame, next))) e same =
    ap (λ (rest : List Line). line_after (apply_of words frame) next ∷ rest) (same (apply_words words frame) next (read_moves bytes at e).0)

-- as many lines as there are bytes are all of them
pub lines_enough : (m n : ℕ) (words bytes : List ℕ) (at : ℕ) → length bytes - at ≤ m → length bytes - at ≤ n → lines_for m words bytes at ≡ lines_for n words bytes at
unfolding lines_for line_of
lines_enough zero zero words bytes at h k = refl
lines_enough zero (suc n) words bytes at h k = rw (ends bytes at (omega arith))
lines_enough (suc m) zero words bytes at h k = rw (ends bytes at (omega arith))
lines_enough (suc m) (suc n) words bytes at h k =
    same_after m n words bytes at (read_of bytes at) refl (λ after next past. lines_enough m n after bytes next (omega arith) (omega arith))

-- all lines, where no fewer than bytes are asked for
pub lines_all : (n : ℕ) (words bytes : List ℕ) → length bytes ≤ n → lines_for n words bytes 0 ≡ lines_of words bytes
unfolding lines_of
lines_all n words bytes h = lines_enough n (length bytes) words bytes 0 (omega arith) (omega arith)

-- one by one: none, or the line at a position and those that follow it
pub lines_none : (words bytes : List ℕ) (at : ℕ) → lines_for zero words bytes at ≡ []
unfolding lines_for
lines_none words bytes at = refl

pub lines_next : (n : ℕ) (words bytes : List ℕ) (at : ℕ)
    → lines_for (suc n) words bytes at ≡ followed (λ next. lines_for n (line_words words (read_of bytes at)) bytes next) (line_of words (read_of bytes at))
unfolding lines_for
lines_next n words bytes at = refl

-- each is that of bytes that are there
pub line_passes : (words bytes : List ℕ) (at : ℕ) → Passes bytes at (line_of words (read_of bytes at))
unfolding line_of
line_passes words bytes at = go (read_of bytes at) refl (dec_le (length bytes) at)
  where
    go : (reading : Option (Result (Frame × ℕ) FrameRefusal)) → read_of bytes at ≡ reading → Dec (length bytes ≤ at) → Passes bytes at (line_of words reading)
    go None e there = tt
    go (Some (Err refusal)) e (yes h) = cc (ends bytes at h)
    go (Some (Err refusal)) e (no h) = omega arith
    go (Some (Ok (frame, next))) e there = read_moves bytes at e

-- a first frame that is refused has the only line, whatever stands behind it
pub lines_refused : (words bytes : List ℕ) {refusal : FrameRefusal} → read_of bytes 0 ≡ Some (Err refusal) → lines_of words bytes ≡ Some (Err (number_of refusal)) ∷ []
unfolding lines_for line_of
lines_refused words bytes e = sym (lines_all (suc (length bytes)) words bytes (omega arith)) ∙ rw e

-- calls written after other bytes
calls_among : (n : ℕ) (words pre : List ℕ) (fs : List Frame) → AllInWidth fs → length fs ≤ n → lines_for n words (pre ++ call_bytes fs) (length pre) ≡ call_lines words fs (length pre)
unfolding lines_for line_of line_words call_bytes call_lines
calls_among zero words pre [] w h = refl
calls_among zero words pre (f ∷ fs) w h = absurd (omega arith)
calls_among (suc n) words pre [] w h = rw (ends (pre ++ []) (length pre) (omega (arith, length-append pre [])))
calls_among (suc n) words pre (f ∷ fs) w h =
    let bytes = pre ++ (frame_bytes f ++ call_bytes fs) in
    let next = length pre + length (frame_bytes f) in
    let rest : lines_for n (apply_words words f) bytes next ≡ call_lines (apply_words words f) fs next =
    rw (← append_assoc pre (frame_bytes f) (call_bytes fs), ← length-append pre (frame_bytes f))
    (calls_among n (apply_words words f) (pre ++ frame_bytes f) fs w.1 (omega arith)) in
    rw (frame_among f w.0 pre (call_bytes fs), rest)

-- there are bytes for each call
calls_length : (fs : List Frame) → length fs ≤ length (call_bytes fs)
unfolding call_bytes
calls_length [] = omega arith
calls_length (f ∷ fs) = omega (arith, length-append (frame_bytes f) (call_bytes fs), frame_length f, calls_length fs)

-- the runner makes the calls that are written one after the other, in their order
pub lines_of_calls : (words : List ℕ) (fs : List Frame) → AllInWidth fs → lines_of words (call_bytes fs) ≡ call_lines words fs 0
unfolding lines_of
lines_of_calls words fs w = calls_among (length (call_bytes fs)) words [] fs w (calls_length fs)
