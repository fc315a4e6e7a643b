-- The tail of a list: in words (`tail_exact`), and with one reading more (`tail_more`, `tail_tail`).
use Prim.Native.Nat.{ℕ, ◌+◌, ◌-◌, ◌≤◌, min}
use mathlib.Core.Path.{◌≡◌, sym, ap, ◌∙◌}
use mathlib.Core.List.{List, [], ◌∷◌, ◌++◌}
use native.Mathlib.Omega.{arith}
use lib.ListN.{length, take, drop, length-append, length-drop, take-append-drop}
use lib.Seq.{drop-append-le, drop-drop}
use Rattle.window.specs.Tail.{tail_of, IsTail}

pub tail_exact : (n : ℕ) (xs : List ℕ) → IsTail n xs (tail_of n xs)
unfolding tail_of
tail_exact n xs =
    let k : ℕ = length xs - n in
    record { before = take k xs; ends = take-append-drop k xs; many = omega (arith, length-drop k xs) }

pub tail_length : (n : ℕ) (xs : List ℕ) → length (tail_of n xs) ≡ min n (length xs)
tail_length n xs = (tail_exact n xs).many

-- a list that is no longer is its own tail
pub tail_short : (n : ℕ) (xs : List ℕ) → length xs ≤ n → tail_of n xs ≡ xs
unfolding tail_of
tail_short n xs l = let e : length xs - n ≡ 0 = omega arith in ap (λ (k : ℕ). drop k xs) e

-- the tail of n at most, and one more: the first leave
pub tail_more : (n : ℕ) (ys : List ℕ) (x : ℕ) → length ys ≤ n → 1 ≤ n → tail_of n (ys ++ (x ∷ [])) ≡ drop ((length ys + 1) - n) ys ++ (x ∷ [])
unfolding tail_of
tail_more n ys x l m =
    ap (λ (k : ℕ). drop (k - n) (ys ++ (x ∷ []))) (length-append ys (x ∷ [])) ∙ drop-append-le ((length ys + 1) - n) ys (x ∷ []) (omega arith)

-- of the tail and one more the tail: nothing before the tail is needed
pub tail_tail : (n : ℕ) (zs : List ℕ) (x : ℕ) → 1 ≤ n → tail_of n (tail_of n zs ++ (x ∷ [])) ≡ tail_of n (zs ++ (x ∷ []))
unfolding tail_of
tail_tail n zs x p =
    let d : List ℕ = drop (length zs - n) zs in
    let e : length d ≡ length zs - (length zs - n) = length-drop (length zs - n) zs in
    let k : (length zs - n) + ((length d + 1) - n) ≡ (length zs + 1) - n = omega arith in
    tail_more n d x (omega arith) p
    ∙ ap (λ (ys : List ℕ). ys ++ (x ∷ [])) (drop-drop ((length d + 1) - n) (length zs - n) zs ∙ ap (λ (m : ℕ). drop m zs) k)
    ∙ sym (drop-append-le ((length zs + 1) - n) zs (x ∷ []) (omega arith))
    ∙ ap (λ (m : ℕ). drop (m - n) (zs ++ (x ∷ []))) (sym (length-append zs (x ∷ [])))
