-- The text of a line: fields put one behind the other are its bytes, and there is room for them (`plain_text`, `answer_text`).
-- Assumes nothing.
use Prim.Native.Nat.{ℕ, ◌≤◌, ◌<◌}
use mathlib.Core.Path.{◌≡◌, subst}
use mathlib.Core.List.{List, [], ◌∷◌, ◌++◌, append_assoc}
use native.Mathlib.Omega.{arith}
use lib.ListN.{length, length-append}
use lib.IntN.{ℤ}
use lib.Signed.{mag}
use mir.Syntax.{w32}
use mir.Val.{to_z, of_z}
use mir.Facts.{to_z-of_z}
use Rattle.stations.specs.declared.answer.Answer.{Answer}
use Rattle.texts.specs.declared.text.Text.{Text}
use Rattle.texts.specs.Decimal.{decimal_of, signed_decimal}
use Rattle.texts.specs.Text.{longest, text_with, Puts}
use Rattle.texts.specs.Line.{newline, spaced, point_bytes, plain_bytes, answer_bytes}
use Rattle.texts.proofs.DecimalLaws.{long_length, word_length, signed_length}
use Rattle.texts.proofs.TextLaws.{puts_all}

-- ---- a signed field

-- the number that is put is the one that is read back from its bits
pub signed_put : {a b : Text} (z : ℤ) → mag z < 2147483648 → Puts a (spaced (signed_decimal (to_z w32 (of_z w32 z)))) b → Puts a (spaced (signed_decimal z)) b
signed_put z h p = rw (to_z-of_z {w = w32} (record { sfits = h })) at p

-- ---- a line that has no answer

-- eight hyphens, as they end it
abbrev pub hyphens : List ℕ
hyphens = 45 ∷ 32 ∷ 45 ∷ 32 ∷ 45 ∷ 32 ∷ 45 ∷ 32 ∷ 45 ∷ 32 ∷ 45 ∷ 32 ∷ 45 ∷ 32 ∷ 45 ∷ 10 ∷ []

plain_is : (ordinal number : ℕ) → spaced (decimal_of ordinal) ++ (spaced (decimal_of number) ++ hyphens) ≡ plain_bytes ordinal number
unfolding plain_bytes
plain_is ordinal number = simp append_assoc

plain_fits : (ordinal number : ℕ) → ordinal < 18446744073709551616 → number < 4294967296 → length (plain_bytes ordinal number) ≤ longest
unfolding plain_bytes
plain_fits ordinal number h k = simp length-append (omega (arith, long_length ordinal h, word_length number k))

pub plain_text : {a b : Text} (ordinal number : ℕ) → ordinal < 18446744073709551616 → number < 4294967296 → a ≡ text_with []
    → Puts a (spaced (decimal_of ordinal) ++ (spaced (decimal_of number) ++ hyphens)) b → b ≡ text_with (plain_bytes ordinal number)
plain_text {a} {b} ordinal number h k e p = puts_all e (subst (λ (xs : List ℕ). Puts a xs b) (plain_is ordinal number) p) (plain_fits ordinal number h k)

-- ---- a line with the answer taken

-- its numbers are of their widths
pub record Narrow (answer : Answer) : Type 0 where
  pub code : answer.code < 4294967296
  pub grade : mag answer.point.grade < 2147483648
  pub weight : mag answer.point.weight < 2147483648
  pub moisture : mag answer.point.moisture < 2147483648
  pub speed : mag answer.point.speed < 2147483648
  pub draw : mag answer.point.draw < 2147483648
  pub curve : answer.curve < 4294967296
  pub square : answer.square < 18446744073709551616

-- its fields, one behind the other
abbrev fields_of : ℕ → Answer → List ℕ
fields_of ordinal answer =
    spaced (decimal_of ordinal)
    ++ (spaced (decimal_of 0)
    ++ (spaced (decimal_of answer.code) ++ (point_bytes answer.point ++ (spaced (decimal_of answer.curve) ++ (decimal_of answer.square ++ (newline ∷ []))))))

answer_is : (ordinal : ℕ) (answer : Answer) → fields_of ordinal answer ≡ answer_bytes ordinal answer
unfolding answer_bytes point_bytes
answer_is ordinal answer = simp append_assoc

answer_fits : (ordinal : ℕ) (answer : Answer) → ordinal < 18446744073709551616 → Narrow answer → length (answer_bytes ordinal answer) ≤ longest
unfolding answer_bytes
answer_fits ordinal answer h k =
    let p = answer.point in
    simp length-append
    (omega (
      arith,
      long_length ordinal h,
      word_length 0 (omega arith),
      word_length answer.code k.code,
      signed_length p.grade k.grade,
      signed_length p.weight k.weight,
      signed_length p.moisture k.moisture,
      signed_length p.speed k.speed,
      signed_length p.draw k.draw,
      word_length answer.curve k.curve,
      long_length answer.square k.square,
    ))

pub answer_text : {a b : Text} (ordinal : ℕ) (answer : Answer) → ordinal < 18446744073709551616 → Narrow answer → a ≡ text_with []
    → Puts a (fields_of ordinal answer) b → b ≡ text_with (answer_bytes ordinal answer)
answer_text {a} {b} ordinal answer h k e p = puts_all e (subst (λ (xs : List ℕ). Puts a xs b) (answer_is ordinal answer) p) (answer_fits ordinal answer h k)
