-- A reading more: what the code writes is the window of the tail (`next_readings`, `next_present`), which is sound (`next_sound`); the number of an update
-- (`update_number`), and that a refused one leaves the window and gives its number alone (`update_refused`).
use Prim.Native.Nat.{ℕ, suc, ◌+◌, ◌-◌, ◌≤◌}
use mathlib.Core.Path.{◌≡◌, refl, sym, ap, ◌∙◌}
use mathlib.Core.Bool.{Bool, true, false, cond}
use mathlib.Core.List.{List, [], ◌∷◌, ◌++◌, append_assoc}
use native.Mathlib.Omega.{arith}
use lib.ListN.{length, drop, set, replicate, length-append, length-drop, replicate-append-replicate}
use lib.Seq.{drop-append-le, set_at}
use borrow.Author.Tests.{leb-true}
use Rattle.window.specs.declared.window.Window.{Window}
use Rattle.window.specs.Tail.{tail_of}
use Rattle.window.specs.declared.figures.Figures.{Figures}
use Rattle.window.specs.Figures.{sum_of, greatest_of, mean_of, figures_of}
use Rattle.window.specs.Window.{longest, wettest, reading_in, padded, window_of, present_in, is_sound}
use Rattle.window.specs.Update.{Updated, next_of, refused_of, update_of}
use Rattle.window.proofs.TailLaws.{tail_more, tail_length}
use Rattle.window.proofs.WindowLaws.{SoundState, sound_tells, sound_padded, present_length, present_in_lem, AllIn, in_snoc, in_tail, in_mem, length_of, window_sound, window_present}
use Rattle.window.proofs.LeastLaws.{greatest_exact}
use Rattle.window.proofs.MeanLaws.{mean_between}

-- ---- what is written

module _ (w : Window) (size : length w.readings ≡ longest) (h : SoundState w) (x : ℕ) where
  -- how many readings leave, and those that stay
  abbrev pub gone : ℕ
  gone = (w.present + 1) - w.length

  kept : List ℕ
  kept = drop gone (present_in w)

  tail_is : tail_of w.length (present_in w ++ (x ∷ [])) ≡ drop gone (present_in w) ++ (x ∷ [])
  tail_is =
      let some = present_length w size h in
      tail_more w.length (present_in w) x (omega (arith, some, h.present)) h.least ∙ ap (λ (k : ℕ). drop ((k + 1) - w.length) (present_in w) ++ (x ∷ [])) some

  kept_length : length (drop gone (present_in w)) ≡ w.present - gone
  kept_length = omega (arith, length-drop gone (present_in w), present_length w size h)

  -- the readings that stay slid to the front, this one behind them, then zeros
  pub next_readings : set (drop gone w.readings ++ replicate gone 0) (w.present - gone) x ≡ padded (tail_of w.length (present_in w ++ (x ∷ [])))
  unfolding padded
  next_readings = left ∙ sym right
    where
      ps : List ℕ
      ps = present_in w

      some : length ps ≡ w.present
      some = present_length w size h

      behind : ℕ
      behind = ((longest - w.present) + gone) - 1

      whole : drop gone w.readings ++ replicate gone 0 ≡ drop gone ps ++ (0 ∷ replicate behind 0)
      whole =
          let e : w.readings ≡ ps ++ replicate (longest - w.present) 0 = sound_padded w size h ∙ ap (λ (k : ℕ). ps ++ replicate (longest - k) 0) some in
          let n : (longest - w.present) + gone ≡ suc behind = omega (arith, h.least, h.present, h.most) in
          ap (λ (ys : List ℕ). drop gone ys ++ replicate gone 0) e
          ∙ ap (λ (ys : List ℕ). ys ++ replicate gone 0) (drop-append-le gone ps (replicate (longest - w.present) 0) (omega (arith, some, h.least)))
          ∙ append_assoc (drop gone ps) (replicate (longest - w.present) 0) (replicate gone 0)
          ∙ ap (λ (ys : List ℕ). drop gone ps ++ ys) (replicate-append-replicate (longest - w.present) gone 0 ∙ ap (λ (k : ℕ). replicate k 0) n)

      left : set (drop gone w.readings ++ replicate gone 0) (w.present - gone) x ≡ drop gone ps ++ (x ∷ replicate behind 0)
      left = ap (λ (ys : List ℕ). set ys (w.present - gone) x) whole ∙ set_at (drop gone ps) 0 (replicate behind 0) x (w.present - gone) kept_length

      right : padded (tail_of w.length (ps ++ (x ∷ []))) ≡ drop gone ps ++ (x ∷ replicate behind 0)
      right =
          let n : longest - length (drop gone ps ++ (x ∷ [])) ≡ behind = omega (arith, length-append (drop gone ps) (x ∷ []), kept_length, h.least, h.present, h.most) in
          ap padded tail_is ∙ ap (λ (k : ℕ). (drop gone ps ++ (x ∷ [])) ++ replicate k 0) n ∙ append_assoc (drop gone ps) (x ∷ []) (replicate behind 0)

  -- and how many they are
  pub next_present : (w.present - gone) + 1 ≡ length (tail_of w.length (present_in w ++ (x ∷ [])))
  next_present = omega (arith, ap length tail_is, length-append (drop gone (present_in w)) (x ∷ []), kept_length)

  -- one at least
  pub next_some : 1 ≤ (next_of w x).present
  unfolding next_of window_of
  next_some = omega (arith, next_present)

  -- the window is one that readings could leave, where the reading is in range
  pub next_sound : x ≤ wettest → is_sound (next_of w x) ≡ true
  unfolding next_of
  next_sound l =
      let xs : List ℕ = present_in w ++ (x ∷ []) in
      window_sound w.length (tail_of w.length xs) (length_of w.length h.least h.most) (omega (arith, tail_length w.length xs))
      (in_tail w.length xs (in_snoc (present_in w) x (present_in_lem w size h) l))

  -- and the window that the code writes: so many readings gone, the others slid to the front, and this one behind them
  abbrev made : ℕ → List ℕ → Window
  made n slid = record { length = w.length; present = (w.present - n) + 1; readings = set slid (w.present - n) x }

  pub made_is : (n : ℕ) (slid : List ℕ) → n ≡ gone → slid ≡ drop n w.readings ++ replicate n 0 → made n slid ≡ next_of w x
  unfolding next_of window_of
  made_is n slid e f =
      let present = ap (λ (k : ℕ). (w.present - k) + 1) e ∙ next_present in
      let readings =
      ap (λ (k : ℕ). set slid (w.present - k) x) e
      ∙ ap (λ (ys : List ℕ). set ys (w.present - gone) x) (f ∙ ap (λ (k : ℕ). drop k w.readings ++ replicate k 0) e)
      ∙ next_readings in
      λ i. record { length = w.length; present = present i; readings = readings i }

  pub made_sound : (n : ℕ) (slid : List ℕ) → n ≡ gone → slid ≡ drop n w.readings ++ replicate n 0 → x ≤ wettest → is_sound (made n slid) ≡ true
  made_sound n slid e f l = ap is_sound (made_is n slid e f) ∙ next_sound l

-- ---- the number of an update

-- an update by its two tests, of which a law goes through the cases
abbrev settled : Window → Window → Bool → Bool → Updated
settled w next sound fits = cond sound (cond fits (record { figures = figures_of (present_in next); window = next }) (refused_of 19 w)) (refused_of 18 w)

pub update_number : (w : Window) (x : ℕ) → (update_of w x).figures.number ≡ cond (is_sound w) (cond (reading_in x) 0 19) 18
unfolding update_of figures_of
update_number w x = by_tests (next_of w x) (is_sound w) (reading_in x)
  where
    by_tests : (next : Window) (sound fits : Bool) → (settled w next sound fits).figures.number ≡ cond sound (cond fits 0 19) 18
    by_tests next true true = refl
    by_tests next true false = refl
    by_tests next false fits = refl

pub update_refused : (w : Window) (x : ℕ) → ¬ ((update_of w x).figures.number ≡ 0) → update_of w x ≡ refused_of (update_of w x).figures.number w
unfolding update_of figures_of
update_refused w x = by_tests (next_of w x) (is_sound w) (reading_in x)
  where
    by_tests : (next : Window) (sound fits : Bool) → ¬ ((settled w next sound fits).figures.number ≡ 0) → settled w next sound fits ≡ refused_of (settled w next sound fits).figures.number w
    by_tests next true true n = absurd (n refl)
    by_tests next true false n = refl
    by_tests next false fits n = refl

-- ---- an accepted reading

-- what it found, and what it gives
pub record Accepted (w : Window) (x : ℕ) : Type 0 where
  pub sound : is_sound w ≡ true
  pub fits : reading_in x ≡ true
  pub gives : (update_of w x).figures ≡ figures_of (present_in (next_of w x))

pub update_accepted : (w : Window) (x : ℕ) → (update_of w x).figures.number ≡ 0 → Accepted w x
unfolding update_of
update_accepted w x = by_tests (is_sound w) refl (reading_in x) refl
  where
    by_tests : (sound : Bool) → is_sound w ≡ sound → (fits : Bool) → reading_in x ≡ fits → (settled w (next_of w x) sound fits).figures.number ≡ 0 → Accepted w x
    by_tests true e true f z = record { sound = e; fits = f; gives = rw (e, f) refl }
    by_tests true e false f z = absurd (omega arith)
    by_tests false e fits f z = absurd (omega arith)

-- the readings present after it
next_is : (w : Window) (x : ℕ) → present_in (next_of w x) ≡ tail_of w.length (present_in w ++ (x ∷ []))
unfolding next_of
next_is w x = window_present w.length (tail_of w.length (present_in w ++ (x ∷ [])))

-- the mean is a moisture: none of the figures but the sum is above 100 %
pub mean_moisture : (w : Window) → length w.readings ≡ longest → (x : ℕ) → (update_of w x).figures.number ≡ 0 → (update_of w x).figures.mean ≤ wettest
unfolding figures_of
mean_moisture w size x z =
    let a = update_accepted w x z in
    let h = sound_tells w a.sound in
    let ys : List ℕ = tail_of w.length (present_in w ++ (x ∷ [])) in
    let some : 1 ≤ length ys = omega (arith, next_present w size h x) in
    let all : AllIn ys = in_tail w.length (present_in w ++ (x ∷ [])) (in_snoc (present_in w) x (present_in_lem w size h) (leb-true x wettest a.fits)) in
    let told : (update_of w x).figures.mean ≡ mean_of (sum_of ys) (length ys) = ap (λ (f : Figures). f.mean) (a.gives ∙ ap figures_of (next_is w x)) in
    omega (arith, told, (mean_between ys some).to, in_mem ys all (greatest_of ys) (greatest_exact ys some).among)
