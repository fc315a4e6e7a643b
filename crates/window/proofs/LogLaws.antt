-- What a window tells is worked out from the tail of the log (`window_run`, in words `window_told`), and the states that are not refused are exactly those that
-- readings leave (`sound_exact`).
use Prim.Native.Nat.{ℕ, ◌≤◌}
use mathlib.Core.Path.{◌≡◌, refl, sym, ap, ◌∙◌, subst}
use mathlib.Core.Logic.{◌↔◌}
use mathlib.Core.Bool.{Bool, true, false, cond}
use mathlib.Core.List.{List, [], ◌∷◌, ◌++◌, map, append_assoc, append-nil}
use native.Mathlib.Omega.{arith}
use lib.ListN.{length, length-append}
use borrow.Author.Tests.{leb-true, le-leb}
use Rattle.window.specs.declared.window.Window.{Window}
use Rattle.window.specs.declared.figures.Figures.{Figures}
use Rattle.window.specs.Tail.{tail_of}
use Rattle.window.specs.Figures.{figures_of, refused_with}
use Rattle.window.specs.Told.{Told}
use Rattle.window.specs.Window.{longest, wettest, length_in, reading_in, window_of, present_in, is_sound}
use Rattle.window.specs.Begin.{begun_of, begin_of}
use Rattle.window.specs.Update.{Updated, next_of, refused_of, update_of}
use Rattle.window.specs.Log.{WindowEvent, beginning, reading, state_after, Log, new_log, with_reading, log_after, LeftByReadings}
use Rattle.window.proofs.TailLaws.{tail_length, tail_short, tail_tail}
use Rattle.window.proofs.WindowLaws.{AllIn, in_tail, in_snoc, length_tells, length_of, SoundState, sound_tells, sound_window, present_length, present_in_lem, window_sound, window_present}
use Rattle.window.proofs.ToldLaws.{told_exact}
use Rattle.window.proofs.BeginLaws.{begin_accepted}

-- ---- a window in which the tail of a log is present

-- the length and the readings of a log are in range
pub record LogIn (l : Log) : Type 0 where
  pub length_in_lem : length_in l.length ≡ true
  pub readings_in : AllIn l.accepted

-- the window of a log
abbrev pub shown : Log → Window
shown l = window_of l.length (tail_of l.length l.accepted)

pub shown_sound : (l : Log) → LogIn l → is_sound (shown l) ≡ true
shown_sound l h =
    window_sound l.length (tail_of l.length l.accepted) h.length_in_lem (omega (arith, tail_length l.length l.accepted))
    (in_tail l.length l.accepted h.readings_in)

new_in : (n : ℕ) → length_in n ≡ true → LogIn (new_log n)
new_in n e = record { length_in_lem = e; readings_in = tt }

with_in : (l : Log) (x : ℕ) → LogIn l → reading_in x ≡ true → LogIn (with_reading l x)
with_in l x h e = record { length_in_lem = h.length_in_lem; readings_in = in_snoc l.accepted x h.readings_in (leb-true x wettest e) }

-- of a window just begun nothing is in the log
begun_shown : (n : ℕ) → begun_of n ≡ shown (new_log n)
unfolding begun_of
begun_shown n = ap (λ (ys : List ℕ). window_of n ys) (sym (tail_short n [] (omega arith)))

-- a reading there
module _ (l : Log) (h : LogIn l) (x : ℕ) where
  next_shown : next_of (shown l) x ≡ shown (with_reading l x)
  unfolding next_of window_of
  next_shown =
      let n = l.length in
      ap (λ (ys : List ℕ). window_of n (tail_of n (ys ++ (x ∷ [])))) (window_present n (tail_of n l.accepted))
      ∙ ap (λ (ys : List ℕ). window_of n ys) (tail_tail n l.accepted x (length_tells n h.length_in_lem).0)

  -- what it tells and leaves, by the test of the reading: the figures of the tail with it, or a refusal
  abbrev given : Bool → Updated
  given fits = cond fits (record { figures = figures_of (tail_of l.length (l.accepted ++ (x ∷ []))); window = shown (with_reading l x) }) (refused_of 19 (shown l))

  pub update_shown : update_of (shown l) x ≡ given (reading_in x)
  unfolding update_of
  update_shown = rw (shown_sound l h) (by_test (reading_in x))
    where
      told : figures_of (present_in (next_of (shown l) x)) ≡ figures_of (tail_of l.length (l.accepted ++ (x ∷ [])))
      told = ap (λ (w : Window). figures_of (present_in w)) next_shown ∙ ap figures_of (window_present l.length (tail_of l.length (l.accepted ++ (x ∷ []))))

      by_test : (fits : Bool) → cond fits (record { figures = figures_of (present_in (next_of (shown l) x)); window = next_of (shown l) x }) (refused_of 19 (shown l)) ≡ given fits
      by_test true = λ i. record { figures = told i; window = next_shown i }
      by_test false = refl

-- ---- along the events

-- what is logged stays in range
pub log_in : (evs : List WindowEvent) (l : Log) → LogIn l → LogIn (log_after l evs)
unfolding log_after
log_in [] l h = h
log_in (beginning n ∷ evs) l h = go (λ k u. log_in evs k u) (length_in n) refl
  where
    go : ((k : Log) → LogIn k → LogIn (log_after k evs)) → (b : Bool) → length_in n ≡ b → LogIn (log_after (cond b (new_log n) l) evs)
    go ih true e = ih (new_log n) (new_in n e)
    go ih false e = ih l h
log_in (reading x ∷ evs) l h = go (λ k u. log_in evs k u) (reading_in x) refl
  where
    go : ((k : Log) → LogIn k → LogIn (log_after k evs)) → (b : Bool) → reading_in x ≡ b → LogIn (log_after (cond b (with_reading l x) l) evs)
    go ih true e = ih (with_reading l x) (with_in l x h e)
    go ih false e = ih l h

-- the state is always the window of the log
pub state_shown : (evs : List WindowEvent) (l : Log) → LogIn l → state_after (shown l) evs ≡ shown (log_after l evs)
unfolding state_after log_after begin_of
state_shown [] l h = refl
state_shown (beginning n ∷ evs) l h = go (λ k u. state_shown evs k u) (length_in n) refl
  where
    go : ((k : Log) → LogIn k → state_after (shown k) evs ≡ shown (log_after k evs)) → (b : Bool) → length_in n ≡ b
        → state_after (begin_of (shown l) n).window evs ≡ shown (log_after (cond b (new_log n) l) evs)
    go ih true e = rw e (ap (λ (w : Window). state_after w evs) (begun_shown n) ∙ ih (new_log n) (new_in n e))
    go ih false e = rw e (ih l h)
state_shown (reading x ∷ evs) l h = go (λ k u. state_shown evs k u) (reading_in x) refl
  where
    go : ((k : Log) → LogIn k → state_after (shown k) evs ≡ shown (log_after k evs)) → (b : Bool) → reading_in x ≡ b
        → state_after (update_of (shown l) x).window evs ≡ shown (log_after (cond b (with_reading l x) l) evs)
    go ih true e = ap (λ (u : Updated). state_after u.window evs) (update_shown l h x ∙ ap (given l h x) e) ∙ ih (with_reading l x) (with_in l x h e)
    go ih false e = ap (λ (u : Updated). state_after u.window evs) (update_shown l h x ∙ ap (given l h x) e) ∙ ih l h

-- ---- since a window was begun, in whatever state it was

module _ (w : Window) (n : ℕ) (begun : (begin_of w n).number ≡ 0) (evs : List WindowEvent) where
  -- the log of it
  abbrev pub logged : Log
  logged = log_after (new_log n) evs

  pub logged_in : LogIn logged
  logged_in = log_in evs (new_log n) (new_in n (begin_accepted w n begun).fits)

  pub state_run : state_after (begin_of w n).window evs ≡ shown logged
  state_run =
      let a = begin_accepted w n begun in
      ap (λ (v : Window). state_after v evs) (a.leaves ∙ begun_shown n) ∙ state_shown evs (new_log n) (new_in n a.fits)

  -- Rules 11.6: the four numbers are those worked out afresh from the tail of all the readings accepted since the window was begun. The events are any, refused
  -- ones and further beginnings among them.
  pub window_run : (x : ℕ) → (update_of (state_after (begin_of w n).window evs) x).figures ≡ cond (reading_in x) (figures_of (tail_of logged.length (logged.accepted ++ (x ∷ [])))) (refused_with 19)
  window_run x = ap (λ (v : Window). (update_of v x).figures) state_run ∙ ap (λ (u : Updated). u.figures) (update_shown logged logged_in x) ∙ by_test (reading_in x)
    where
      by_test : (fits : Bool) → (given logged logged_in x fits).figures ≡ cond fits (figures_of (tail_of logged.length (logged.accepted ++ (x ∷ [])))) (refused_with 19)
      by_test true = refl
      by_test false = refl

  -- so 18 is never met: a reading gets 0 or 19
  pub run_number : (x : ℕ) → (update_of (state_after (begin_of w n).window evs) x).figures.number ≡ cond (reading_in x) 0 19
  unfolding figures_of
  run_number x = ap (λ (f : Figures). f.number) (window_run x) ∙ by_test (reading_in x)
    where
      by_test : (fits : Bool) → (cond fits (figures_of (tail_of logged.length (logged.accepted ++ (x ∷ [])))) (refused_with 19)).number ≡ cond fits 0 19
      by_test true = refl
      by_test false = refl

  -- and what an accepted reading tells, in words
  pub window_told : (x : ℕ) → reading_in x ≡ true → Told logged.length (logged.accepted ++ (x ∷ [])) (update_of (state_after (begin_of w n).window evs) x).figures
  window_told x fits =
      let run : List ℕ = logged.accepted ++ (x ∷ []) in
      let some : 1 ≤ length run = omega (arith, length-append logged.accepted (x ∷ [])) in
      subst (λ (f : Figures). Told logged.length run f) (sym (window_run x ∙ rw fits refl)) (told_exact logged.length run (length_tells logged.length logged_in.length_in_lem).0 some)

-- ---- the states that readings leave

-- a log of readings in range is these readings
log_readings : (xs : List ℕ) (l : Log) → AllIn xs → log_after l (map reading xs) ≡ record { length = l.length; accepted = l.accepted ++ xs }
unfolding log_after
log_readings [] l a = λ i. record { length = l.length; accepted = sym (append-nil l.accepted) i }
log_readings (x ∷ xs) l a =
    ap (λ (fits : Bool). log_after (cond fits (with_reading l x) l) (map reading xs)) (le-leb x wettest a.0)
    ∙ log_readings xs (with_reading l x) a.1
    ∙ (λ i. record { length = l.length; accepted = append_assoc l.accepted (x ∷ []) xs i })

-- a sound state is left by its own readings
own_readings : (w : Window) → length w.readings ≡ longest → SoundState w → state_after (begun_of w.length) (map reading (present_in w)) ≡ w
own_readings w size h =
    let n : ℕ = w.length in
    let evs : List WindowEvent = map reading (present_in w) in
    ap (λ (v : Window). state_after v evs) (begun_shown n)
    ∙ state_shown evs (new_log n) (new_in n (length_of n h.least h.most))
    ∙ ap (λ (l : Log). shown l) (log_readings (present_in w) (new_log n) (present_in_lem w size h))
    ∙ ap (λ (ys : List ℕ). window_of n ys) (tail_short n (present_in w) (omega (arith, present_length w size h, h.present)))
    ∙ sound_window w size h

-- Rules 11.4, question 18: a state is sound exactly if some readings leave it. Its array has 64 positions, as its type says.
pub sound_exact : (w : Window) → length w.readings ≡ longest → (is_sound w ≡ true) ↔ LeftByReadings w
sound_exact w size = (left, back)
  where
    left : is_sound w ≡ true → LeftByReadings w
    left e =
        let h = sound_tells w e in
        record { size = w.length; fits = length_of w.length h.least h.most; run = present_in w; leaves = own_readings w size h }

    back : LeftByReadings w → is_sound w ≡ true
    back v =
        let evs : List WindowEvent = map reading v.run in
        let start = new_in v.size v.fits in
        ap is_sound (sym v.leaves ∙ ap (λ (u : Window). state_after u evs) (begun_shown v.size) ∙ state_shown evs (new_log v.size) start)
        ∙ shown_sound (log_after (new_log v.size) evs) (log_in evs (new_log v.size) start)
