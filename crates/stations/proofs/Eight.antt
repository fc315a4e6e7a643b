-- Eight tests at once, one for each station.
-- Assumes nothing.
use mathlib.Core.Path.{◌≡◌}
use mathlib.Core.Bool.{Bool, true, ◌&&◌}
use Prim.Native.Nat.{ℕ, zero, suc, ◌<◌}
use native.Mathlib.Omega.{arith}
use Rattle.points.proofs.Tests.{and_l, and_r, and_i}
use Rattle.words.specs.Layout.{stations}
use Rattle.stations.specs.Common.{eight}

-- a fact for each of the numbers below 8
pub below_eight : (P : ℕ → Type 0) → P 0 → P 1 → P 2 → P 3 → P 4 → P 5 → P 6 → P 7 → (s : ℕ) → s < stations → P s
below_eight P a b c d e f g h zero l = a
below_eight P a b c d e f g h (suc zero) l = b
below_eight P a b c d e f g h (suc (suc zero)) l = c
below_eight P a b c d e f g h (suc (suc (suc zero))) l = d
below_eight P a b c d e f g h (suc (suc (suc (suc zero)))) l = e
below_eight P a b c d e f g h (suc (suc (suc (suc (suc zero))))) l = f
below_eight P a b c d e f g h (suc (suc (suc (suc (suc (suc zero)))))) l = g
below_eight P a b c d e f g h (suc (suc (suc (suc (suc (suc (suc zero))))))) l = h
below_eight P a b c d e f g h (suc (suc (suc (suc (suc (suc (suc (suc s)))))))) l = absurd (omega arith)

-- eight tests pass exactly if each does
pub eight_tells : (t : ℕ → Bool) → eight t ≡ true → (s : ℕ) → s < stations → t s ≡ true
eight_tells t e =
    let t6 = and_l (((((((t 0 && t 1) && t 2) && t 3) && t 4) && t 5) && t 6)) (t 7) e in
    let t5 = and_l ((((((t 0 && t 1) && t 2) && t 3) && t 4) && t 5)) (t 6) t6 in
    let t4 = and_l (((((t 0 && t 1) && t 2) && t 3) && t 4)) (t 5) t5 in
    let t3 = and_l ((((t 0 && t 1) && t 2) && t 3)) (t 4) t4 in
    let t2 = and_l (((t 0 && t 1) && t 2)) (t 3) t3 in
    let t1 = and_l ((t 0 && t 1)) (t 2) t2 in
    below_eight (λ s. t s ≡ true) (and_l (t 0) (t 1) t1) (and_r (t 0) (t 1) t1) (and_r (t 0 && t 1) (t 2) t2)
    (and_r ((t 0 && t 1) && t 2) (t 3) t3) (and_r (((t 0 && t 1) && t 2) && t 3) (t 4) t4)
    (and_r ((((t 0 && t 1) && t 2) && t 3) && t 4) (t 5) t5)
    (and_r (((((t 0 && t 1) && t 2) && t 3) && t 4) && t 5) (t 6) t6)
    (and_r ((((((t 0 && t 1) && t 2) && t 3) && t 4) && t 5) && t 6) (t 7) e)

pub eight_of : (t : ℕ → Bool) → ((s : ℕ) → s < stations → t s ≡ true) → eight t ≡ true
eight_of t f =
    and_i (and_i (and_i (and_i (and_i (and_i (and_i (f 0 (omega arith)) (f 1 (omega arith))) (f 2 (omega arith))) (f 3 (omega arith))) (f 4 (omega arith))) (f 5 (omega arith))) (f 6 (omega arith)))
    (f 7 (omega arith))

-- tests that pass one after the other, so far
abbrev pub passed : (ℕ → Bool) → ℕ → Bool
passed t zero = true
passed t (suc n) = passed t n && t n

-- tests that are equal one by one
pub eight_same : (t u : ℕ → Bool) → ((s : ℕ) → s < stations → t s ≡ u s) → eight t ≡ eight u
eight_same t u f =
    let a = f 0 (omega arith) in
    let b = f 1 (omega arith) in
    let c = f 2 (omega arith) in
    let d = f 3 (omega arith) in
    let e = f 4 (omega arith) in
    let g = f 5 (omega arith) in
    let h = f 6 (omega arith) in
    let j = f 7 (omega arith) in
    λ i. ((((((a i && b i) && c i) && d i) && e i) && g i) && h i) && j i
