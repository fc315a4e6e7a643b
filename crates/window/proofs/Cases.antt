-- Readings one after another, by computation: the mean of 1 and 2 is 2, the oldest reading leaves a full window, and a refused one is as if it had not been.
use mathlib.Core.Path.{◌≡◌, refl}
use mathlib.Core.List.{[], ◌∷◌}
use Rattle.window.specs.declared.window.Window.{Window}
use Rattle.window.specs.Tail.{tail_of}
use Rattle.window.specs.Figures.{sum_of, least_from, least_of, greatest_from, greatest_of, mean_of, figures_of, refused_with}
use Rattle.window.specs.Window.{padded, window_of, present_in, most_at, sound_below, is_sound}
use Rattle.window.specs.Begin.{begun_of, begin_of}
use Rattle.window.specs.Update.{next_of, update_of}
use Rattle.window.specs.Log.{reading, state_after}

-- a window of two, in whatever state it was before, begun and given 1 and 2
pub half_up : (w : Window) → (update_of (state_after (begin_of w 2).window (reading 1 ∷ [])) 2).figures ≡ record { number = 0; sum = 3; least = 1; greatest = 2; mean = 2 }
unfolding tail_of sum_of least_from least_of greatest_from greatest_of mean_of figures_of padded window_of present_in most_at sound_below is_sound begun_of begin_of next_of update_of state_after
half_up w = refl

-- and then 10,001 and 10,000
pub oldest_leaves : (w : Window) → (update_of (state_after (begin_of w 2).window (reading 1 ∷ reading 2 ∷ reading 10001 ∷ [])) 10000).figures ≡ record { number = 0; sum = 10002; least = 2; greatest = 10000; mean = 5001 }
unfolding tail_of sum_of least_from least_of greatest_from greatest_of mean_of figures_of padded window_of present_in most_at sound_below is_sound begun_of begin_of next_of update_of state_after
oldest_leaves w = refl

pub refused_reading : (w : Window) → (update_of (state_after (begin_of w 2).window (reading 1 ∷ reading 2 ∷ [])) 10001).figures ≡ refused_with 19
unfolding tail_of sum_of least_from least_of greatest_from greatest_of mean_of figures_of padded window_of present_in most_at sound_below is_sound begun_of begin_of next_of update_of state_after
refused_reading w = refl
