-- All that happens to a window, "where nobody else writes its state" (Rules 11.6), and beside it a log of every accepted reading.
use Rattle.std.specs.Prelude.{ℕ, ◌≡◌, true, cond, List, [], ◌∷◌, ◌++◌, map}
use Rattle.window.specs.declared.window.Window.{Window}
use Rattle.window.specs.Window.{length_in, reading_in}
use Rattle.window.specs.Begin.{begun_of, begin_of}
use Rattle.window.specs.Update.{update_of}

-- a window is begun at some length, or brought up to date with some reading; refused or not
pub data WindowEvent : Type 0 where
  beginning : ℕ → WindowEvent
  reading : ℕ → WindowEvent

-- the state after some events
unfoldable pub state_after : Window → List WindowEvent → Window
state_after w [] = w
state_after w (beginning n ∷ evs) = state_after (begin_of w n).window evs
state_after w (reading x ∷ evs) = state_after (update_of w x).window evs

-- the length at which the window was last begun, and "all the readings accepted since the window was begun, however many" (Rules 11.6)
pub record Log : Type 0 where
  pub length : ℕ
  pub accepted : List ℕ

-- the log of a window just begun
abbrev pub new_log : ℕ → Log
new_log n = record { length = n; accepted = [] }

-- the log with a reading more
abbrev pub with_reading : Log → ℕ → Log
with_reading l x = record { length = l.length; accepted = l.accepted ++ (x ∷ []) }

-- the log after some events: what is out of range does not come into it
unfoldable pub log_after : Log → List WindowEvent → Log
log_after l [] = l
log_after l (beginning n ∷ evs) = log_after (cond (length_in n) (new_log n) l) evs
log_after l (reading x ∷ evs) = log_after (cond (reading_in x) (with_reading l x) l) evs

-- the states that readings leave: begun at a length in range, then some readings
pub record LeftByReadings (w : Window) : Type 0 where
  pub size : ℕ
  pub fits : length_in size ≡ true
  pub run : List ℕ
  pub leaves : state_after (begun_of size) (map reading run) ≡ w
