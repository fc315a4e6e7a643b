-- A window is begun (Rules 11.3); 18 for a length out of range.
use Rattle.std.specs.Prelude.{ℕ, cond, [], Result, Ok, Err}
use Rattle.window.specs.declared.window.Window.{Window}
use Rattle.window.specs.declared.refusal.WindowRefusal.{WindowRefusal}
use Rattle.window.specs.Refusal.{number_of}
use Rattle.window.specs.Window.{length_in, window_of}

-- a number, 0 or that of a refusal, and the window after the call
pub record Begun : Type 0 where
  pub number : ℕ
  pub window : Window

-- no reading is present
unfoldable pub begun_of : ℕ → Window
begun_of n = window_of n []

unfoldable pub begin_of : Window → ℕ → Begun
begin_of w n = cond (length_in n) (record { number = 0; window = begun_of n }) (record { number = 18; window = w })

-- what a call on a window gives, so written: a refusal leaves the window
abbrev pub begun_told : Window → Result Window WindowRefusal → Begun
begun_told w (Ok begun) = record { number = 0; window = begun }
begun_told w (Err refusal) = record { number = number_of refusal; window = w }
