-- What is counted for each of the eight stations, added up.
use mathlib.Core.Path.{◌≡◌, refl}
use Prim.Native.Nat.{ℕ, zero, suc, ◌+◌, ◌*◌, ◌≤◌, ◌<◌}
use native.Mathlib.Omega.{arith}
use Rattle.table.specs.Table.{eight, put, total}

pub total_zero : total eight (λ s. 0) ≡ 0
unfolding total
total_zero = refl

-- one more for a station is one more in all
pub total_put : (f : ℕ → ℕ) (s : ℕ) → s < 8 → total eight (put f s (f s + 1)) ≡ total eight f + 1
unfolding total put
total_put f zero l = omega arith
total_put f (suc zero) l = omega arith
total_put f (suc (suc zero)) l = omega arith
total_put f (suc (suc (suc zero))) l = omega arith
total_put f (suc (suc (suc (suc zero)))) l = omega arith
total_put f (suc (suc (suc (suc (suc zero))))) l = omega arith
total_put f (suc (suc (suc (suc (suc (suc zero)))))) l = omega arith
total_put f (suc (suc (suc (suc (suc (suc (suc zero))))))) l = omega arith
total_put f (suc (suc (suc (suc (suc (suc (suc (suc n)))))))) l = absurd (omega arith)

-- what is the same for each is the same in all
pub total_same : (f g : ℕ → ℕ) → ((s : ℕ) → s < 8 → f s ≡ g s) → total eight f ≡ total eight g
unfolding total
total_same f g h = omega (arith, h 0 (omega arith), h 1 (omega arith), h 2 (omega arith), h 3 (omega arith), h 4 (omega arith), h 5 (omega arith), h 6 (omega arith), h 7 (omega arith))

-- where none is above n, all together are at most eight times that
pub total_most : (f : ℕ → ℕ) (n : ℕ) → ((s : ℕ) → f s ≤ n) → total eight f ≤ 8 * n
unfolding total
total_most f n h = omega (arith, h 0, h 1, h 2, h 3, h 4, h 5, h 6, h 7)
