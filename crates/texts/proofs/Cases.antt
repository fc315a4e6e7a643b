-- Lines and outputs by computation: the last line of Rules 10.5, a line without an answer, slack as a negative draw, and P8 as an input.
-- Assumes nothing.
use mathlib.Core.Path.{◌≡◌, refl, ap, ◌∙◌}
use mathlib.Core.List.{List, [], ◌∷◌, ◌++◌, append-nil}
use Prim.Native.Nat.{ℕ}
use lib.Dec.{lit≤}
use lib.IntN.{pos, negsuc}
use Rattle.std.specs.Prelude.{Some, None, Ok, Err}
use Rattle.frames.specs.declared.refusal.FrameRefusal.{FrameRefusal}
use Rattle.frames.specs.Refusal.{number_of}
use Rattle.frames.specs.Read.{read_of}
use Rattle.frames.proofs.Cases.{p8}
use Rattle.lines.specs.Line.{Line}
use Rattle.lines.proofs.LineLaws.{lines_none, lines_all, lines_refused}
use Rattle.texts.specs.Ascii.{ascii}
use Rattle.texts.specs.Decimal.{decimal_for, decimal_of, signed_decimal}
use Rattle.texts.specs.Line.{header_bytes, plain_bytes, answer_bytes, line_bytes}
use Rattle.texts.specs.Output.{lines_bytes, output_of}

pub example_line : (next : ℕ)
    → line_bytes 7 (Some (Ok (Ok (Some (record { code = 8; point = record { grade = pos 12; weight = pos 8000; moisture = pos 550; speed = pos 9000; draw = pos 0 }; curve = 41; square = 16000000 })), next)))
    ≡ ascii "7 0 8 12 8000 550 9000 0 41 16000000\n"
unfolding line_bytes answer_bytes signed_decimal decimal_of decimal_for
example_line next = refl

pub slack_line : (next : ℕ)
    → line_bytes 101 (Some (Ok (Ok (Some (record { code = 7; point = record { grade = pos 12; weight = pos 100000; moisture = pos 0; speed = pos 30000; draw = negsuc 1999 }; curve = 999999; square = 0 })), next)))
    ≡ ascii "101 0 7 12 100000 0 30000 -2000 999999 0\n"
unfolding line_bytes answer_bytes signed_decimal decimal_of decimal_for
slack_line next = refl

pub refused_line : (next : ℕ) → line_bytes 10 (Some (Ok (Err 12, next))) ≡ ascii "10 12 - - - - - - - -\n"
unfolding line_bytes plain_bytes decimal_of decimal_for
refused_line next = refl

-- no byte: the header alone
pub empty_output : (words : List ℕ) → output_of words [] ≡ header_bytes
unfolding output_of lines_bytes header_bytes
empty_output words = rw (← lines_all 0 words [] (lit≤ tt), lines_none words [] 0)

-- a first frame that is refused: its line and no other, whatever stands behind it
pub refused_output : (words bytes : List ℕ) {refusal : FrameRefusal} → read_of bytes 0 ≡ Some (Err refusal)
    → output_of words bytes ≡ header_bytes ++ plain_bytes 1 (number_of refusal)
unfolding output_of lines_bytes line_bytes
refused_output words bytes {refusal} e =
    ap (λ (lines : List Line). header_bytes ++ lines_bytes 1 lines) (lines_refused words bytes e) ∙ ap (λ (xs : List ℕ). header_bytes ++ xs) (append-nil (plain_bytes 1 (number_of refusal)))

-- P8: length 1, its byte there: 14
pub p8_output : (words : List ℕ) (byte : ℕ)
    → output_of words (1 ∷ 0 ∷ byte ∷ []) ≡ ascii "frame result code grade weight moisture speed draw curve square\n1 14 - - - - - - - -\n"
unfolding header_bytes plain_bytes decimal_of decimal_for
p8_output words byte = refused_output words (1 ∷ 0 ∷ byte ∷ []) (p8 byte).0
