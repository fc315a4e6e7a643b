-- The number of a beginning (`begin_number`), and that a refused one leaves the window (`begin_refused`).
use Prim.Native.Nat.{ℕ}
use mathlib.Core.Path.{◌≡◌, refl}
use mathlib.Core.Bool.{Bool, true, false, cond}
use native.Mathlib.Omega.{arith}
use Rattle.window.specs.declared.window.Window.{Window}
use Rattle.window.specs.Window.{length_in}
use Rattle.window.specs.Begin.{Begun, begun_of, begin_of}

-- a beginning by its test
abbrev settled : Window → Window → Bool → Begun
settled w begun fits = cond fits (record { number = 0; window = begun }) (record { number = 18; window = w })

pub begin_number : (w : Window) (n : ℕ) → (begin_of w n).number ≡ cond (length_in n) 0 18
unfolding begin_of
begin_number w n = by_test (begun_of n) (length_in n)
  where
    by_test : (begun : Window) (fits : Bool) → (settled w begun fits).number ≡ cond fits 0 18
    by_test begun true = refl
    by_test begun false = refl

pub begin_refused : (w : Window) (n : ℕ) → ¬ ((begin_of w n).number ≡ 0) → (begin_of w n).window ≡ w
unfolding begin_of
begin_refused w n = by_test (begun_of n) (length_in n)
  where
    by_test : (begun : Window) (fits : Bool) → ¬ ((settled w begun fits).number ≡ 0) → (settled w begun fits).window ≡ w
    by_test begun true e = absurd (e refl)
    by_test begun false e = refl

-- an accepted one had a length in range, and leaves the window begun, whatever state it was in
pub record Accepted (w : Window) (n : ℕ) : Type 0 where
  pub fits : length_in n ≡ true
  pub leaves : (begin_of w n).window ≡ begun_of n

pub begin_accepted : (w : Window) (n : ℕ) → (begin_of w n).number ≡ 0 → Accepted w n
unfolding begin_of
begin_accepted w n = by_test (length_in n) refl
  where
    by_test : (fits : Bool) → length_in n ≡ fits → (settled w (begun_of n) fits).number ≡ 0 → Accepted w n
    by_test true e z = record { fits = e; leaves = rw e refl }
    by_test false e z = absurd (omega arith)
