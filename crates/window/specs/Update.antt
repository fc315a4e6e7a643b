-- A window is brought up to date with a reading (Rules 11.4); 18 for a state that no readings could leave, then 19 for a reading out of range.
use Rattle.std.specs.Prelude.{ℕ, cond, [], ◌∷◌, ◌++◌, Result, Ok, Err}
use Rattle.window.specs.declared.window.Window.{Window}
use Rattle.window.specs.declared.figures.Summary.{Summary}
use Rattle.window.specs.declared.figures.Figures.{Figures}
use Rattle.window.specs.declared.refusal.WindowRefusal.{WindowRefusal}
use Rattle.window.specs.Refusal.{number_of}
use Rattle.window.specs.Tail.{tail_of}
use Rattle.window.specs.Figures.{figures_of, figures_told, refused_with}
use Rattle.window.specs.Window.{reading_in, window_of, present_in, is_sound}

-- the figures that a call tells, and the window after it
pub record Updated : Type 0 where
  pub figures : Figures
  pub window : Window

-- the window with a reading more: of those present and this one, the last, no more than its length
unfoldable pub next_of : Window → ℕ → Window
next_of w x = window_of w.length (tail_of w.length (present_in w ++ (x ∷ [])))

-- a refusal leaves the window (Rules 11.7), and gives its number and four zeros (Rules 11.5)
abbrev pub refused_of : ℕ → Window → Updated
refused_of number w = record { figures = refused_with number; window = w }

unfoldable pub update_of : Window → ℕ → Updated
update_of w x =
    cond (is_sound w) (cond (reading_in x) (record { figures = figures_of (present_in (next_of w x)); window = next_of w x }) (refused_of 19 w)) (refused_of 18 w)

-- what a call on a window gives, so written
abbrev pub updated_told : Window → Result (Window × Summary) WindowRefusal → Updated
updated_told w (Ok (next, summary)) = record { figures = figures_told summary; window = next }
updated_told w (Err refusal) = refused_of (number_of refusal) w
