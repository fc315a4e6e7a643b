-- Readings slid to the front of an array, zeros behind (`slid_all`), and the array that a copied part makes so (`slid_front`).
use Prim.Native.Nat.{ℕ, ◌+◌, ◌-◌, ◌≤◌, ◌<◌}
use mathlib.Core.Path.{◌≡◌, sym, ap, ◌∙◌}
use mathlib.Core.List.{List, ◌++◌}
use native.Mathlib.Omega.{arith}
use native.Mathlib.Decide.{dec_lt}
use lib.ListN.{length, take, drop, get_or, replicate, length-append, length-drop, length-replicate, get_or-replicate, get_or-append}
use lib.Seq.{take-length, get_or-drop, get_or-append-add, ext_get_or}
use Rattle.std.proofs.lemmas.List.{drop-replicate}
use Rattle.window.specs.Window.{longest}

pub slid_all : (xs out : List ℕ) (from : ℕ) → from ≤ longest → length xs ≡ longest → length out ≡ longest → ((k : ℕ) → k < longest - from → get_or out k 0 ≡ get_or xs (from + k) 0)
    → ((k : ℕ) → longest - from ≤ k → get_or out k 0 ≡ 0) → out ≡ drop from xs ++ replicate from 0
slid_all xs out from b n m f g = ext_get_or 0 out (drop from xs ++ replicate from 0) (omega (arith, length-append (drop from xs) (replicate from 0), length-drop from xs, length-replicate {A = ℕ} from 0)) at
  where
    part : length (drop from xs) ≡ longest - from
    part = omega (arith, length-drop from xs)

    at : (k : ℕ) → k < length out → get_or out k 0 ≡ get_or (drop from xs ++ replicate from 0) k 0
    at k l = go (dec_lt k (longest - from))
      where
        go : Dec (k < longest - from) → get_or out k 0 ≡ get_or (drop from xs ++ replicate from 0) k 0
        go (yes h) = f k h ∙ sym (get_or-drop from xs k 0) ∙ sym (get_or-append (drop from xs) (replicate from 0) 0 k (omega (arith, part)))
        go (no h) =
            let e : length (drop from xs) + (k - (longest - from)) ≡ k = omega (arith, part) in
            g k (omega arith)
            ∙ sym (get_or-replicate from (k - (longest - from)) 0 0 (omega arith))
            ∙ sym (get_or-append-add (drop from xs) (replicate from 0) (k - (longest - from)) 0)
            ∙ ap (λ (j : ℕ). get_or (drop from xs ++ replicate from 0) j 0) e

pub slid_front : (xs front : List ℕ) (from : ℕ) → from ≤ longest → length xs ≡ longest → front ≡ take (longest - from) (drop from xs)
    → front ++ drop (longest - from) (replicate longest 0) ≡ drop from xs ++ replicate from 0
slid_front xs front from l size e =
    let whole : take (longest - from) (drop from xs) ≡ drop from xs =
    let k : longest - from ≡ length (drop from xs) = omega (arith, length-drop from xs) in ap (λ (j : ℕ). take j (drop from xs)) k ∙ take-length (drop from xs) in
    let n : longest - (longest - from) ≡ from = omega arith in
    ap (λ (ys : List ℕ). ys ++ drop (longest - from) (replicate longest 0)) (e ∙ whole)
    ∙ ap (λ (zs : List ℕ). drop from xs ++ zs) (drop-replicate (longest - from) longest 0 ∙ ap (λ (k : ℕ). replicate k 0) n)
