-- A part of a list of words that is written over: the part reads as what was written, and every word outside is as it was.
-- Assumes nothing.
use mathlib.Core.Path.{◌≡◌, sym, ap, ◌∙◌}
use mathlib.Core.List.{List, [], ◌++◌}
use Prim.Native.Nat.{ℕ, ◌+◌, ◌-◌, ◌≤◌, ◌<◌}
use native.Mathlib.Omega.{arith}
use lib.ListN.{length, get_or, take, drop, take-append-drop, length-append, length-take, length-drop, get_or-append}
use lib.Seq.{take_at, drop_at, length-take-le, get_or-append-add, get_or-take, get_or-drop, ext_get_or}
use Rattle.words.specs.Words.{part, splice}

-- two lists that agree from a to a + n have the same part there
pub part_same : (v w : List ℕ) (a n : ℕ) → length v ≡ length w → ((k : ℕ) → a ≤ k → k < a + n → get_or v k 0 ≡ get_or w k 0) → part v a n ≡ part w a n
part_same v w a n e h = ext_get_or 0 (part v a n) (part w a n) (simp (length-take, length-drop) (omega arith)) at_each
  where
    at_each : (i : ℕ) → i < length (part v a n) → get_or (part v a n) i 0 ≡ get_or (part w a n) i 0
    at_each i l =
        let l' : i < n = omega (arith, length-take n (drop a v)) in
        get_or-take n (drop a v) i 0 l'
        ∙ get_or-drop a v i 0
        ∙ h (a + i) (omega arith) (omega arith)
        ∙ sym (get_or-take n (drop a w) i 0 l' ∙ get_or-drop a w i 0)

-- writing no word writes nothing
pub splice_none : (w : List ℕ) (a : ℕ) → splice w [] a 0 ≡ w
splice_none w a = take-append-drop a w

module _ (w e : List ℕ) (a n : ℕ) (room : a + n ≤ length w) (size : length e ≡ n) where
  length_head : length (take a w) ≡ a
  length_head = length-take-le a w (omega arith)

  pub length_splice : length (splice w e a n) ≡ length w
  length_splice = simp (length-append, length-take, length-drop) (omega arith)

  pub splice_part : part (splice w e a n) a n ≡ e
  splice_part =
      ap (take n) (drop_at (take a w) (e ++ drop n (drop a w)) a length_head) ∙ take_at e (drop n (drop a w)) n size

  pub splice_before : (k : ℕ) → k < a → get_or (splice w e a n) k 0 ≡ get_or w k 0
  splice_before k h =
      get_or-append (take a w) (e ++ drop n (drop a w)) 0 k (omega (arith, length_head)) ∙ get_or-take a w k 0 h

  pub splice_inside : (j : ℕ) → j < n → get_or (splice w e a n) (a + j) 0 ≡ get_or e j 0
  splice_inside j h =
      let here : a + j ≡ length (take a w) + j = omega (arith, length_head) in
      ap (λ i. get_or (splice w e a n) i 0) here
      ∙ get_or-append-add (take a w) (e ++ drop n (drop a w)) j 0
      ∙ get_or-append e (drop n (drop a w)) 0 j (omega arith)

  pub splice_after : (k : ℕ) → a + n ≤ k → get_or (splice w e a n) k 0 ≡ get_or w k 0
  splice_after k h =
      let j : ℕ = k - (a + n) in
      let here : k ≡ length (take a w) + (length e + j) = omega (arith, length_head) in
      let there : a + (n + j) ≡ k = omega arith in
      ap (λ i. get_or (splice w e a n) i 0) here
      ∙ get_or-append-add (take a w) (e ++ drop n (drop a w)) (length e + j) 0
      ∙ get_or-append-add e (drop n (drop a w)) j 0
      ∙ get_or-drop n (drop a w) j 0
      ∙ get_or-drop a w (n + j) 0
      ∙ ap (λ i. get_or w i 0) there
