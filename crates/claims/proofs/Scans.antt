-- Moisture over the last scans (Rules 11): a window of the last 1 to 64 readings, which gives after every reading "the sum, the least, the greatest and the mean
-- rounded half up, all over the readings present".
-- `window_begin` and `window_update` of `window` are lent the state by `&mut`; `begin` and `update` take it by value. They have no `requires`; their contracts are equations
-- of result and state with `begin_of` and `update_of`, for every state and every number.
use Prim.Native.Nat.{ℕ, ◌*◌, ◌≤◌, ◌<◌, ◌+◌}
use mathlib.Core.Path.{◌≡◌, refl, ◌∙◌}
use mathlib.Core.Logic.{◌↔◌}
use mathlib.Core.Bool.{Bool, true, false, cond}
use mathlib.Core.List.{List, [], ◌∷◌, ◌++◌}
use lib.ListN.{length}
use Rattle.claims.specs.Definitions.{asked, first_no, Window, longest, wettest, length_in, reading_in, is_sound, tail_of, mean_of, figures_of, refused_with, IsMean, Told}
use Rattle.claims.specs.Definitions.{begin_of, refused_of, update_of, WindowEvent, reading, state_after, Log, new_log, log_after, LeftByReadings, is_steady, Steady}
use Rattle.window.proofs.BeginLaws
use Rattle.window.proofs.UpdateLaws
use Rattle.window.proofs.MeanLaws
use Rattle.window.proofs.LogLaws
use Rattle.window.proofs.RefusedLaws
use Rattle.window.proofs.SteadyLaws
use Rattle.window.proofs.Cases

-- ---- questions 18 and 19 (Rules 11.3, 11.4)

pub begin_number : (w : Window) (n : ℕ) → (begin_of w n).number ≡ first_no (asked (length_in n) 18 ∷ [])
unfolding first_no
begin_number w n = BeginLaws.begin_number w n ∙ by_test (length_in n)
  where
    by_test : (fits : Bool) → cond fits 0 18 ≡ first_no (asked fits 18 ∷ [])
    by_test true = refl
    by_test false = refl

pub update_number : (w : Window) (x : ℕ) → (update_of w x).figures.number ≡ first_no (asked (is_sound w) 18 ∷ asked (reading_in x) 19 ∷ [])
unfolding first_no
update_number w x = UpdateLaws.update_number w x ∙ by_tests (is_sound w) (reading_in x)
  where
    by_tests : (sound fits : Bool) → cond sound (cond fits 0 19) 18 ≡ first_no (asked sound 18 ∷ asked fits 19 ∷ [])
    by_tests true true = refl
    by_tests true false = refl
    by_tests false fits = refl

-- a beginning gets 18 exactly for a length out of range
pub begin_18 : (w : Window) (n : ℕ) → ((begin_of w n).number ≡ 18) ↔ ¬ ((1 ≤ n) × (n ≤ longest))
begin_18 = RefusedLaws.begin_18

-- a reading gets 18 exactly in a state that no readings leave, after a beginning at a length in range; the state's array has 64 places, as its type says
pub update_18 : (w : Window) → length w.readings ≡ longest → (x : ℕ) → ((update_of w x).figures.number ≡ 18) ↔ ¬ LeftByReadings w
update_18 = RefusedLaws.update_18

-- and 19 exactly if it is out of range and the state is one that readings leave
pub update_19 : (w : Window) → length w.readings ≡ longest → (x : ℕ) → ((update_of w x).figures.number ≡ 19) ↔ (LeftByReadings w × (wettest < x))
update_19 = RefusedLaws.update_19

-- so the test of a state is exact
pub sound_exact : (w : Window) → length w.readings ≡ longest → (is_sound w ≡ true) ↔ LeftByReadings w
sound_exact = LogLaws.sound_exact

-- a refused call leaves the state as it was, and gives its number alone
pub begin_refused : (w : Window) (n : ℕ) → ¬ ((begin_of w n).number ≡ 0) → (begin_of w n).window ≡ w
begin_refused = BeginLaws.begin_refused

pub update_refused : (w : Window) (x : ℕ) → ¬ ((update_of w x).figures.number ≡ 0) → update_of w x ≡ refused_of (update_of w x).figures.number w
update_refused = UpdateLaws.update_refused

-- ---- the four numbers, "worked out afresh from the tail of all the readings accepted since the window was begun" (Rules 11.6)

-- A window, in whatever state, is begun at length n. Then come any events: readings in range and out of it, and further beginnings, refused or not. Then a reading x.
module _ (w : Window) (n : ℕ) (begun : (begin_of w n).number ≡ 0) (evs : List WindowEvent) (x : ℕ) where
  -- the length at which the window was last begun, and all accepted readings since
  abbrev pub log : Log
  log = log_after (new_log n) evs

  -- what it gives, by the definition of the four numbers
  pub window_run : (update_of (state_after (begin_of w n).window evs) x).figures ≡ cond (reading_in x) (figures_of (tail_of log.length (log.accepted ++ (x ∷ [])))) (refused_with 19)
  window_run = LogLaws.window_run w n begun evs x

  -- so a reading gets 0 or 19 there, and never 18
  pub never_18 : (update_of (state_after (begin_of w n).window evs) x).figures.number ≡ cond (reading_in x) 0 19
  never_18 = LogLaws.run_number w n begun evs x

  -- what it gives, in words
  pub window_told : reading_in x ≡ true → Told log.length (log.accepted ++ (x ∷ [])) (update_of (state_after (begin_of w n).window evs) x).figures
  window_told = LogLaws.window_told w n begun evs x

-- ---- the mean

-- rounded half up: m − 1/2 ≤ sum / n < m + 1/2
pub mean_exact : (sum n : ℕ) → 1 ≤ n → (2 * n * mean_of sum n ≤ 2 * sum + n) × (2 * sum + n < 2 * n * (mean_of sum n + 1))
mean_exact sum n l = let m = MeanLaws.mean_exact sum n l in (m.not_less, m.not_more)

-- no other number is the mean rounded half up
pub mean_only : (sum n m m' : ℕ) → IsMean sum n m → IsMean sum n m' → m ≡ m'
mean_only = MeanLaws.mean_only

-- the mean of an accepted reading is a moisture that a record may have: at most 10,000
pub mean_moisture : (w : Window) → length w.readings ≡ longest → (x : ℕ) → (update_of w x).figures.number ≡ 0 → (update_of w x).figures.mean ≤ wettest
mean_moisture = UpdateLaws.mean_moisture

-- the mean rounded half up (Rules 11.5): of 1 and 2 it is 2, in a window of two that was in whatever state
pub mean_of_1_and_2 : (w : Window) → (update_of (state_after (begin_of w 2).window (reading 1 ∷ [])) 2).figures ≡ record { number = 0; sum = 3; least = 1; greatest = 2; mean = 2 }
mean_of_1_and_2 = Cases.half_up

-- ---- steady (Rules 11.8)

-- After the same events the window is steady exactly if as many readings were accepted since it was begun as it is long, and no two of the last so many differ by more than the spread.
pub steady_exact : (w : Window) (n : ℕ) → (begin_of w n).number ≡ 0 → (evs : List WindowEvent) (spread : ℕ)
    → (is_steady (state_after (begin_of w n).window evs) spread ≡ true) ↔ Steady (log_after (new_log n) evs) spread
steady_exact = SteadyLaws.steady_exact
