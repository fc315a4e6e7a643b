-- What is printed text by text is the output: `output_is_lines`, and `output_ends` says after how many texts there is no more.
-- Assumes nothing.
use Prim.Native.Nat.{ℕ, zero, suc, ◌+◌, ◌-◌, ◌≤◌, ◌<◌}
use mathlib.Core.Path.{◌≡◌, refl, sym, ap, ◌∙◌}
use mathlib.Core.Bool.{true}
use mathlib.Core.List.{List, [], ◌∷◌, ◌++◌, append-nil}
use native.Mathlib.Omega.{arith}
use lib.ListN.{length}
use Rattle.frames.specs.Read.{read_of}
use Rattle.std.specs.Prelude.{Option, Some, None, Ok, Err, is_some}
use Rattle.lines.specs.Line.{Line, line_of, line_words, followed, lines_for, lines_of, Passes}
use Rattle.lines.proofs.LineLaws.{lines_all, lines_none, lines_next, line_passes}
use Rattle.texts.specs.Line.{header_bytes, line_bytes}
use Rattle.texts.specs.declared.output.Output.{Output}
use Rattle.texts.specs.Text.{text_of}
use Rattle.texts.specs.Output.{begun, counted, after_line, silent, next_of, next_words, asked_at_most, where_more, printed, last_output, lines_bytes, output_of}
use Rattle.texts.proofs.TextLaws.{text_with_lem}

-- ---- the next text

-- where there is a position it is the line there
pub next_more : (words bytes : List ℕ) (output : Output) {at : ℕ} → output.at ≡ Some at
    → (next_of words bytes output ≡ after_line (counted output.ordinal) (line_of words (read_of bytes at))) × (next_words words bytes output ≡ line_words words (read_of bytes at))
unfolding next_of next_words
next_more words bytes output e = (rw e, rw e)

-- else there is nothing
pub next_silent : (words bytes : List ℕ) (output : Output) → output.at ≡ None → (next_of words bytes output ≡ silent output) × (next_words words bytes output ≡ words)
unfolding next_of next_words
next_silent words bytes output e = (rw e, rw e)

-- each time fewer are left to ask for
line_falls : (bytes : List ℕ) (at ordinal : ℕ) (line : Line) → Passes bytes at line → asked_at_most bytes (after_line ordinal line) < suc (length bytes - at)
unfolding after_line
line_falls bytes at ordinal None passes = omega arith
line_falls bytes at ordinal (Some (Err number)) passes = omega arith
line_falls bytes at ordinal (Some (Ok (outcome, next))) passes = omega arith

pub next_falls : (words bytes : List ℕ) (output : Output) → is_some output.at ≡ true → asked_at_most bytes (next_of words bytes output) < asked_at_most bytes output
next_falls words bytes output more = go output.at refl
  where
    go : (at : Option ℕ) → output.at ≡ at → asked_at_most bytes (next_of words bytes output) < asked_at_most bytes output
    go None e = cc
    go (Some at) e =
        rw ((next_more words bytes output e).0, e) (line_falls bytes at (counted output.ordinal) (line_of words (read_of bytes at)) (line_passes words bytes at))

-- ---- what is printed

-- the greatest ordinal
abbrev most : ℕ
most = 18446744073709551615

counted_is : (ordinal : ℕ) → ordinal + 1 ≤ most → counted ordinal ≡ suc ordinal
counted_is ordinal h = omega arith

-- where there is no more it is the text alone
printed_last : (n : ℕ) (words bytes : List ℕ) (output : Output) → output.at ≡ None → printed n words bytes output ≡ text_of output.text
unfolding printed
printed_last zero words bytes output e = refl
printed_last (suc n) words bytes output e = rw e (append-nil (text_of output.text))

-- after a line: its bytes, and those of the lines that follow it
module _ (n : ℕ) (words bytes : List ℕ) (at ordinal : ℕ) (room : ordinal + (length bytes - at) ≤ most)
    (rest : (output : Output) (next : ℕ) → output.at ≡ Some next → output.ordinal + (length bytes - next) ≤ most
    → printed n words bytes output ≡ text_of output.text ++ lines_bytes (suc output.ordinal) (lines_for n words bytes next)) where
  line_printed : (line : Line) → Passes bytes at line
      → printed n words bytes (after_line (counted ordinal) line) ≡ lines_bytes (suc ordinal) (followed (λ next. lines_for n words bytes next) line)
  unfolding after_line lines_bytes line_bytes
  line_printed None passes = printed_last n words bytes (after_line (counted ordinal) None) refl ∙ text_with_lem []
  line_printed (Some (Err number)) passes =
      let line : Line = Some (Err number) in
      printed_last n words bytes (after_line (counted ordinal) line) refl
      ∙ text_with_lem (line_bytes (counted ordinal) line)
      ∙ ap (λ (k : ℕ). line_bytes k line) (counted_is ordinal (omega arith))
      ∙ sym (append-nil (line_bytes (suc ordinal) line))
  line_printed (Some (Ok (outcome, next))) passes =
      let line : Line = Some (Ok (outcome, next)) in
      let one = counted_is ordinal (omega arith) in
      rest (after_line (counted ordinal) line) next refl (omega (arith, one))
      ∙ ap (λ (xs : List ℕ). xs ++ lines_bytes (suc (counted ordinal)) (lines_for n words bytes next)) (text_with_lem (line_bytes (counted ordinal) line))
      ∙ ap (λ (k : ℕ). line_bytes k line ++ lines_bytes (suc k) (lines_for n words bytes next)) one

-- a text after which there may be more, and what is printed after it
printed_more : (n : ℕ) (words bytes : List ℕ) (output : Output) {at : ℕ} → output.at ≡ Some at
    → printed (suc n) words bytes output
    ≡ text_of output.text ++ printed n (line_words words (read_of bytes at)) bytes (after_line (counted output.ordinal) (line_of words (read_of bytes at)))
unfolding printed
printed_more n words bytes output e =
    let next = next_more words bytes output e in
    ap (λ (o : Option ℕ). text_of output.text ++ where_more o (printed n (next_words words bytes output) bytes (next_of words bytes output)) []) e
    ∙ (λ i. text_of output.text ++ printed n (next.1 i) bytes (next.0 i))

-- from any text on after which there may be more
printed_lines : (n : ℕ) (words bytes : List ℕ) (output : Output) (at : ℕ) → output.at ≡ Some at → output.ordinal + (length bytes - at) ≤ most
    → printed n words bytes output ≡ text_of output.text ++ lines_bytes (suc output.ordinal) (lines_for n words bytes at)
unfolding printed lines_bytes
printed_lines zero words bytes output at e room = rw (lines_none words bytes at) (sym (append-nil (text_of output.text)))
printed_lines (suc n) words bytes output at e room =
    let after = line_words words (read_of bytes at) in
    printed_more n words bytes output e
    ∙ ap (λ (xs : List ℕ). text_of output.text ++ xs)
    (line_printed n after bytes at output.ordinal room (printed_lines n after bytes) (line_of words (read_of bytes at)) (line_passes words bytes at))
    ∙ sym (ap (λ (lines : List Line). text_of output.text ++ lines_bytes (suc output.ordinal) lines) (lines_next n words bytes at))

-- the texts of `begin`, `next`, `next` and so on until there is no more, one behind the other, are the header and the lines
pub output_is_lines : (words bytes : List ℕ) (n : ℕ) → length bytes ≤ 18446744073709551615 → length bytes ≤ n → printed n words bytes begun ≡ output_of words bytes
unfolding begun output_of
output_is_lines words bytes n fits enough =
    printed_lines n words bytes begun 0 refl (omega arith)
    ∙ ap (λ (lines : List Line). text_of begun.text ++ lines_bytes 1 lines) (lines_all n words bytes enough)
    ∙ ap (λ (xs : List ℕ). xs ++ lines_bytes 1 (lines_of words bytes)) (text_with_lem header_bytes)

-- ---- the end

-- where there is no more it stays so
last_stays : (n : ℕ) (words bytes : List ℕ) (output : Output) → output.at ≡ None → (last_output n words bytes output).at ≡ None
unfolding last_output
last_stays zero words bytes output e = e
last_stays (suc n) words bytes output e =
    ap (λ (o : Option ℕ). (where_more o (last_output n (next_words words bytes output) bytes (next_of words bytes output)) output).at) e ∙ e

last_more : (n : ℕ) (words bytes : List ℕ) (output : Output) {at : ℕ} → output.at ≡ Some at
    → last_output (suc n) words bytes output ≡ last_output n (line_words words (read_of bytes at)) bytes (after_line (counted output.ordinal) (line_of words (read_of bytes at)))
unfolding last_output
last_more n words bytes output e =
    let next = next_more words bytes output e in
    ap (λ (o : Option ℕ). where_more o (last_output n (next_words words bytes output) bytes (next_of words bytes output)) output) e ∙ (λ i. last_output n (next.1 i) bytes (next.0 i))

-- after a line fewer bytes are left
line_last : (n : ℕ) (words bytes : List ℕ) (at ordinal : ℕ) → length bytes - at < suc n
    → ((output : Output) (next : ℕ) → output.at ≡ Some next → length bytes - next < n → (last_output n words bytes output).at ≡ None)
    → (line : Line) → Passes bytes at line → (last_output n words bytes (after_line ordinal line)).at ≡ None
unfolding after_line
line_last n words bytes at ordinal h rest None passes = last_stays n words bytes (after_line ordinal None) refl
line_last n words bytes at ordinal h rest (Some (Err number)) passes = last_stays n words bytes (after_line ordinal (Some (Err number))) refl
line_last n words bytes at ordinal h rest (Some (Ok (outcome, next))) passes = rest (after_line ordinal (Some (Ok (outcome, next)))) next refl (omega arith)

last_silent : (n : ℕ) (words bytes : List ℕ) (output : Output) (at : ℕ) → output.at ≡ Some at → length bytes - at < n → (last_output n words bytes output).at ≡ None
last_silent zero words bytes output at e h = absurd (omega arith)
last_silent (suc n) words bytes output at e h =
    let after = line_words words (read_of bytes at) in
    ap (λ (last : Output). last.at) (last_more n words bytes output e)
    ∙ line_last n after bytes at (counted output.ordinal) h (last_silent n after bytes) (line_of words (read_of bytes at)) (line_passes words bytes at)

-- the next is asked for once more than there are bytes at most: then there is no more
pub output_ends : (words bytes : List ℕ) (n : ℕ) → length bytes < n → (last_output n words bytes begun).at ≡ None
unfolding begun
output_ends words bytes n h = last_silent n words bytes begun 0 refl (omega arith)
