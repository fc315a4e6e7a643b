-- Whether the moisture is steady (Rules 11.8): the window is full, and its readings lie within a spread.
use Rattle.std.specs.Prelude.{ℕ, ◌+◌, ◌-◌, ◌≤◌, Bool, ◌&&◌, length, leb, eqb}
use mathlib.Core.List.{Memᴰ}
use Rattle.window.specs.declared.window.Window.{Window}
use Rattle.window.specs.Tail.{tail_of}
use Rattle.window.specs.Figures.{least_of, greatest_of}
use Rattle.window.specs.Window.{present_in, is_sound}
use Rattle.window.specs.Log.{Log}

unfoldable pub is_full : Window → Bool
is_full w = is_sound w && eqb w.present w.length

unfoldable pub within_spread : Window → ℕ → Bool
within_spread w spread = leb (greatest_of (present_in w) - least_of (present_in w)) spread

unfoldable pub is_steady : Window → ℕ → Bool
is_steady w spread = is_full w && within_spread w spread

-- the same in words, of a log: there are as many readings as the window is long, and no two of the last so many differ by more than the spread
pub record Steady (l : Log) (spread : ℕ) : Type 0 where
  pub enough : l.length ≤ length l.accepted
  pub close : (x y : ℕ) → Memᴰ x (tail_of l.length l.accepted) → Memᴰ y (tail_of l.length l.accepted) → x ≤ y + spread
