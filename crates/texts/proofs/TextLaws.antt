-- A text with bytes put behind it: one byte (`byte_more`, `byte_full`), others behind these (`puts_both`), and all of them behind none (`puts_all`).
-- Assumes nothing.
use Prim.Native.Nat.{ℕ, suc, ◌+◌, ◌-◌, ◌≤◌, ◌<◌}
use mathlib.Core.Path.{◌≡◌, sym, ap, subst, ◌∙◌}
use mathlib.Core.List.{List, [], ◌∷◌, ◌++◌, append_assoc, append-nil}
use native.Mathlib.Omega.{arith}
use native.Mathlib.Decide.{dec_le}
use native.Mathlib.Numerals.{add-one}
use Rattle.std.specs.Prelude.{min}
use lib.ListN.{length, take, set, get_or, replicate, length-append, length-replicate}
use lib.Seq.{take_all, take-suc, take-append-le, take-append_seam, set-append_seam, length-take-le}
use Rattle.texts.specs.declared.text.Text.{Text}
use Rattle.texts.specs.Text.{longest, text_of, text_with, capped, Puts}

-- the bytes of the text with some bytes are these
pub text_with_lem : (bytes : List ℕ) → text_of (text_with bytes) ≡ bytes
unfolding text_of text_with
text_with_lem bytes = take-append_seam bytes (replicate (longest - length bytes) 0)

-- a text in an array of 160 bytes is at most these
pub text_within : (text : Text) → length text.bytes ≡ longest → take (min text.len longest) text.bytes ≡ text_of text
unfolding text_of
text_within text size = go (dec_le text.len longest)
  where
    go : Dec (text.len ≤ longest) → take (min text.len longest) text.bytes ≡ take text.len text.bytes
    go (yes h) = let same : min text.len longest ≡ text.len = omega arith in rw same
    go (no h) =
        let all : min text.len longest ≡ longest = omega arith in
        rw all (take_all longest text.bytes (omega arith) ∙ sym (take_all text.len text.bytes (omega arith)))

-- ---- what is cut off

-- what fits is not cut off
capped_fits : (xs : List ℕ) → length xs ≤ longest → capped xs ≡ xs
unfolding capped
capped_fits xs h = take_all longest xs h

-- put behind what was cut off, bytes are cut off too
capped_more : (xs ys : List ℕ) → capped (capped xs ++ ys) ≡ capped (xs ++ ys)
unfolding capped
capped_more xs ys = go (dec_le (length xs) longest)
  where
    go : Dec (length xs ≤ longest) → take longest (take longest xs ++ ys) ≡ take longest (xs ++ ys)
    go (yes h) = ap (λ (zs : List ℕ). take longest (zs ++ ys)) (take_all longest xs h)
    go (no h) =
        let full : length (take longest xs) ≡ longest = length-take-le longest xs (omega arith) in
        take-append-le longest (take longest xs) ys (omega arith) ∙ take_all longest (take longest xs) (omega arith) ∙ sym (take-append-le longest xs ys (omega arith))

-- ---- one byte more

-- a text in an array of 160 bytes has no more
with_fits : (text : Text) (xs : List ℕ) → length text.bytes ≡ longest → text ≡ text_with xs → length xs ≤ longest
unfolding text_with
with_fits text xs size e =
    omega (arith, size, ap (λ (t : Text). length t.bytes) e, length-append xs (replicate (longest - length xs) 0), length-replicate {A = ℕ} (longest - length xs) 0)

-- where there is no room the text stays
pub byte_full : (text : Text) (b : ℕ) → length text.bytes ≡ longest → longest ≤ text.len → Puts text (b ∷ []) text
unfolding text_with capped
byte_full text b size full = record { puts = λ xs e. e ∙ ap text_with (sym (cut xs (with_fits text xs size e) (has xs e))) }
  where
    has : (xs : List ℕ) → text ≡ text_with xs → longest ≤ length xs
    has xs e = omega (arith, ap (λ (t : Text). t.len) e)

    cut : (xs : List ℕ) → length xs ≤ longest → longest ≤ length xs → capped (xs ++ (b ∷ [])) ≡ xs
    cut xs h l = take-append-le longest xs (b ∷ []) l ∙ take_all longest xs h

-- else the byte stands behind the others
pub byte_more : (text : Text) (b : ℕ) → length text.bytes ≡ longest → text.len < longest → Puts text (b ∷ []) (record { bytes = set text.bytes text.len b; len = text.len + 1 })
unfolding text_with
byte_more text b size room = record { puts = λ xs e. put xs e (omega (arith, ap (λ (t : Text). t.len) e)) }
  where
    put : (xs : List ℕ) → text ≡ text_with xs → length xs < longest → record { bytes = set text.bytes text.len b; len = text.len + 1 } ≡ text_with (capped (xs ++ (b ∷ [])))
    put xs e l =
        let one = length-append xs (b ∷ []) in
        let rest = (longest - length xs) - 1 in
        let some : longest - length xs ≡ suc rest = omega arith in
        let left : longest - length (xs ++ (b ∷ [])) ≡ rest = omega arith in
        let bytes : set text.bytes text.len b ≡ (xs ++ (b ∷ [])) ++ replicate (longest - length (xs ++ (b ∷ []))) 0 =
        (λ i. set (e i).bytes (e i).len b)
        ∙ ap (λ (k : ℕ). set (xs ++ replicate k 0) (length xs) b) some
        ∙ set-append_seam xs 0 (replicate rest 0) b
        ∙ sym (append_assoc xs (b ∷ []) (replicate rest 0))
        ∙ ap (λ (k : ℕ). (xs ++ (b ∷ [])) ++ replicate k 0) (sym left) in
        let len : text.len + 1 ≡ length (xs ++ (b ∷ [])) = omega (arith, ap (λ (t : Text). t.len) e) in
        (λ i. record { bytes = bytes i; len = len i }) ∙ ap text_with (sym (capped_fits (xs ++ (b ∷ [])) (omega arith)))

-- ---- bytes one behind the other

pub puts_none : (text : Text) → length text.bytes ≡ longest → Puts text [] text
puts_none text size = record { puts = λ xs e. e ∙ ap text_with (sym (ap capped (append-nil xs) ∙ capped_fits xs (with_fits text xs size e))) }

pub puts_both : {a b c : Text} {xs ys : List ℕ} → Puts a xs b → Puts b ys c → Puts a (xs ++ ys) c
puts_both {xs = xs} {ys = ys} p q =
    record { puts = λ zs e. q.puts (capped (zs ++ xs)) (p.puts zs e) ∙ ap text_with (capped_more (zs ++ xs) ys ∙ ap capped (append_assoc zs xs ys)) }

-- behind no text
pub puts_all : {a b : Text} {xs : List ℕ} → a ≡ text_with [] → Puts a xs b → length xs ≤ longest → b ≡ text_with xs
puts_all {xs = xs} e p h = p.puts [] e ∙ ap text_with (capped_fits xs h)

-- one more of the bytes that are put
pub puts_next : {a b c : Text} (from : List ℕ) (i : ℕ) → i < length from → Puts a (take i from) b → Puts b (get_or from i 0 ∷ []) c → Puts a (take (i + 1) from) c
puts_next {a} {b} {c} from i h p q =
    let one : take i from ++ (get_or from i 0 ∷ []) ≡ take (i + 1) from = rw (add-one i) (sym (take-suc from i 0 h)) in
    subst (λ (xs : List ℕ). Puts a xs c) one (puts_both p q)
