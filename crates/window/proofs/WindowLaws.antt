-- The states that pass the test of question 18: what they hold (`sound_tells`), that they are the readings present with zeros behind (`sound_padded`), and that
-- every window in which readings in range are present is one of them (`window_sound`).
use Prim.Native.Nat.{ℕ, zero, suc, ◌+◌, ◌-◌, ◌≤◌, ◌<◌, max}
use mathlib.Core.Path.{◌≡◌, refl, sym, ap, ◌∙◌}
use mathlib.Core.Logic.{◌⊎◌, inl, inr}
use mathlib.Core.Bool.{Bool, true, false, cond, ◌&&◌}
use mathlib.Core.List.Memᴰ
use mathlib.Core.List.{List, [], ◌∷◌, ◌++◌, Memᴰ}
use native.Mathlib.Omega.{arith}
use native.Mathlib.Decide.{ℕ_discrete, dec_lt}
use lib.Dec.{leb, ltb, eqb}
use lib.ListN.{length, take, drop, get_or, replicate, length-drop, length-replicate, get_or-replicate, take-append-drop, get_or-append}
use lib.Seq.{length-take-le, get_or-drop, get_or-take, get_or-append-add, ext_get_or, take-append_seam}
use borrow.Author.Tests.{leb-true, le-leb, lt-ltb, le-ltb, eqb-true, eq-eqb}
use Rattle.std.specs.List.{list_all}
use Rattle.std.proofs.lemmas.List.Recursion.{and_at, and_from_places}
use Rattle.window.specs.declared.window.Window.{Window}
use Rattle.window.specs.Tail.{tail_of}
use Rattle.window.specs.Figures.{greatest_from, greatest_of}
use Rattle.window.specs.Window.{longest, wettest, length_in, padded, window_of, present_in, most_at, sound_below, is_sound}

pub and_left : (a b : Bool) → (a && b) ≡ true → a ≡ true
and_left true b e = refl
and_left false b e = e

pub and_right : (a b : Bool) → (a && b) ≡ true → b ≡ true
and_right true b e = e
and_right false true e = refl
and_right false false e = e

-- ---- readings in range

abbrev pub AllIn : List ℕ → Type 0
AllIn [] = Unit {0}
AllIn (x ∷ xs) = (x ≤ wettest) × AllIn xs

in_drop : (n : ℕ) (xs : List ℕ) → AllIn xs → AllIn (drop n xs)
in_drop zero xs a = a
in_drop (suc n) [] a = tt
in_drop (suc n) (x ∷ xs) a = in_drop n xs a.1

pub in_tail : (n : ℕ) (xs : List ℕ) → AllIn xs → AllIn (tail_of n xs)
unfolding tail_of
in_tail n xs a = in_drop (length xs - n) xs a

pub in_snoc : (xs : List ℕ) (x : ℕ) → AllIn xs → x ≤ wettest → AllIn (xs ++ (x ∷ []))
in_snoc [] x a l = (l, tt)
in_snoc (y ∷ xs) x a l = (a.0, in_snoc xs x a.1 l)

pub in_mem : (xs : List ℕ) → AllIn xs → (x : ℕ) → Memᴰ x xs → x ≤ wettest
in_mem [] a x u = absurd (Memᴰ.not-nil u)
in_mem (y ∷ xs) a x u = go (λ v. in_mem xs a.1 x v) (Memᴰ.cases_cons u)
  where
    go : (Memᴰ x xs → x ≤ wettest) → (x ≡ y) ⊎ Memᴰ x xs → x ≤ wettest
    go f (inl e) = omega (arith, a.0)
    go f (inr v) = f v

pub in_at : (xs : List ℕ) → AllIn xs → (k : ℕ) → get_or xs k 0 ≤ wettest
in_at [] a k = omega arith
in_at (x ∷ xs) a zero = a.0
in_at (x ∷ xs) a (suc k) = in_at xs a.1 k

at_in : (xs : List ℕ) → ((k : ℕ) → k < length xs → get_or xs k 0 ≤ wettest) → AllIn xs
at_in [] f = tt
at_in (x ∷ xs) f = (f zero (omega arith), at_in xs (λ k l. f (suc k) (omega arith)))

-- ---- what a sound state tells

below_tells : (xs : List ℕ) (c n : ℕ) → sound_below xs c n ≡ true → (k : ℕ) → k < n → get_or xs k 0 ≤ most_at c k
unfolding sound_below
below_tells xs c zero e k l = absurd (omega arith)
below_tells xs c (suc n) e k l = go (λ m. below_tells xs c n (and_left (sound_below xs c n) (leb (get_or xs n 0) (most_at c n)) e) k m) (ℕ_discrete k n)
  where
    go : (k < n → get_or xs k 0 ≤ most_at c k) → Dec (k ≡ n) → get_or xs k 0 ≤ most_at c k
    go f (yes q) = rw q (leb-true (get_or xs n 0) (most_at c n) (and_right (sound_below xs c n) (leb (get_or xs n 0) (most_at c n)) e))
    go f (no d) = f (omega arith)

pub record SoundState (w : Window) : Type 0 where
  pub least : 1 ≤ w.length
  pub most : w.length ≤ longest
  pub present : w.present ≤ w.length
  pub positions : (k : ℕ) → k < longest → get_or w.readings k 0 ≤ most_at w.present k

pub length_tells : (n : ℕ) → length_in n ≡ true → (1 ≤ n) × (n ≤ longest)
length_tells n e = (leb-true 1 n (and_left (leb 1 n) (leb n longest) e), leb-true n longest (and_right (leb 1 n) (leb n longest) e))

pub length_of : (n : ℕ) → 1 ≤ n → n ≤ longest → length_in n ≡ true
length_of n l m = rw (le-leb 1 n l, le-leb n longest m) refl

pub sound_tells : (w : Window) → is_sound w ≡ true → SoundState w
unfolding is_sound
sound_tells w e =
    let a = and_left (length_in w.length && leb w.present w.length) (sound_below w.readings w.present longest) e in
    let n = length_tells w.length (and_left (length_in w.length) (leb w.present w.length) a) in
    record {
      least = n.0;
      most = n.1;
      present = leb-true w.present w.length (and_right (length_in w.length) (leb w.present w.length) a);
      positions = below_tells w.readings w.present longest (and_right (length_in w.length && leb w.present w.length) (sound_below w.readings w.present longest) e);
    }

pub present_fits : (w : Window) → is_sound w ≡ true → w.present ≤ longest
present_fits w e = let h = sound_tells w e in omega (arith, h.present, h.most)

-- a reading that is present is in range
pub sound_reading : (w : Window) → SoundState w → (k : ℕ) → k < w.present → get_or w.readings k 0 ≤ wettest
unfolding most_at
sound_reading w h k l = rw (lt-ltb k w.present l) at (h.positions k (omega (arith, h.present, h.most)))

pub present_length : (w : Window) → length w.readings ≡ longest → SoundState w → length (present_in w) ≡ w.present
unfolding present_in
present_length w size h = length-take-le w.present w.readings (omega (arith, h.present, h.most))

pub present_in_lem : (w : Window) → length w.readings ≡ longest → SoundState w → AllIn (present_in w)
unfolding present_in
present_in_lem w size h =
    at_in (take w.present w.readings)
    (λ k l. let m : k < w.present = omega (arith, length-take-le w.present w.readings (omega (arith, h.present, h.most))) in omega (arith, get_or-take w.present w.readings k 0 m, sound_reading w h k m))

-- behind those present are zeros
zeros_after : (xs : List ℕ) (c : ℕ) → length xs ≡ longest → c ≤ longest → ((k : ℕ) → k < longest → get_or xs k 0 ≤ most_at c k) → drop c xs ≡ replicate (longest - c) 0
unfolding most_at
zeros_after xs c n l f =
    ext_get_or 0 (drop c xs) (replicate (longest - c) 0) (omega (arith, length-drop c xs, length-replicate {A = ℕ} (longest - c) 0)) (λ i m. at i (omega (arith, length-drop c xs)))
  where
    at : (i : ℕ) → i < longest - c → get_or (drop c xs) i 0 ≡ get_or (replicate (longest - c) 0) i 0
    at i m =
        let z : get_or xs (c + i) 0 ≤ 0 = rw (le-ltb (c + i) c (omega arith)) at (f (c + i) (omega arith)) in
        let e : get_or xs (c + i) 0 ≡ 0 = omega arith in
        get_or-drop c xs i 0 ∙ e ∙ sym (get_or-replicate (longest - c) i 0 0 m)

-- so the array is the readings present, padded
pub sound_padded : (w : Window) → length w.readings ≡ longest → SoundState w → w.readings ≡ padded (present_in w)
unfolding padded present_in
sound_padded w size h =
    let c : ℕ = w.present in
    let xs : List ℕ = w.readings in
    let m : c ≤ longest = omega (arith, h.present, h.most) in
    let e : length (take c xs) ≡ c = length-take-le c xs (omega arith) in
    sym (take-append-drop c xs) ∙ ap (λ (ys : List ℕ). take c xs ++ ys) (zeros_after xs c size m h.positions ∙ ap (λ (k : ℕ). replicate (longest - k) 0) (sym e))

-- and the state is that of a window in which they are present
pub sound_window : (w : Window) → length w.readings ≡ longest → SoundState w → window_of w.length (present_in w) ≡ w
unfolding window_of
sound_window w size h = λ i. record { length = w.length; present = present_length w size h i; readings = sym (sound_padded w size h) i }

-- ---- a window in which some readings are present

below_of : (xs : List ℕ) (c n : ℕ) → ((k : ℕ) → k < n → get_or xs k 0 ≤ most_at c k) → sound_below xs c n ≡ true
unfolding sound_below
below_of xs c zero f = refl
below_of xs c (suc n) f = rw (below_of xs c n (λ k l. f k (omega arith)), le-leb (get_or xs n 0) (most_at c n) (f n (omega arith))) refl

padded_most : (ys : List ℕ) → length ys ≤ longest → AllIn ys → (k : ℕ) → k < longest → get_or (padded ys) k 0 ≤ most_at (length ys) k
unfolding padded most_at
padded_most ys l a k m = go (dec_lt k (length ys))
  where
    go : Dec (k < length ys) → get_or (ys ++ replicate (longest - length ys) 0) k 0 ≤ cond (ltb k (length ys)) wettest 0
    go (yes h) = rw (lt-ltb k (length ys) h, get_or-append ys (replicate (longest - length ys) 0) 0 k h) (in_at ys a k)
    go (no h) =
        let i : ℕ = k - length ys in
        let e : length ys + i ≡ k = omega arith in
        let z : get_or (ys ++ replicate (longest - length ys) 0) k 0 ≡ 0 =
        ap (λ (j : ℕ). get_or (ys ++ replicate (longest - length ys) 0) j 0) (sym e) ∙ get_or-append-add ys (replicate (longest - length ys) 0) i 0 ∙ get_or-replicate (longest - length ys) i 0 0 (omega arith) in
        rw (z, le-ltb k (length ys) (omega arith)) (omega arith)

pub window_sound : (n : ℕ) (ys : List ℕ) → length_in n ≡ true → length ys ≤ n → AllIn ys → is_sound (window_of n ys) ≡ true
unfolding is_sound window_of
window_sound n ys e l a =
    let m = length_tells n e in
    rw (e, le-leb (length ys) n l, below_of (padded ys) (length ys) longest (padded_most ys (omega (arith, m.1)) a)) refl

pub window_present : (n : ℕ) (ys : List ℕ) → present_in (window_of n ys) ≡ ys
unfolding present_in window_of padded
window_present n ys = take-append_seam ys (replicate (longest - length ys) 0)

-- ---- the test of the positions by its two parts: the readings present, and what stands behind them

same_tests : (a b : Bool) → (a ≡ true → b ≡ true) → (b ≡ true → a ≡ true) → a ≡ b
same_tests true b f g = sym (f refl)
same_tests false true f g = g refl
same_tests false false f g = refl

-- a number that is at most m: the greatest passes such a test where all do
module _ (m : ℕ) (test : ℕ → Bool) (tells : (n : ℕ) → test n ≡ true → n ≤ m) (gives : (n : ℕ) → n ≤ m → test n ≡ true) where
  greatest_from_tells : (g : ℕ) (xs : List ℕ) → greatest_from g xs ≤ m → (g ≤ m) × ((k : ℕ) → k < length xs → get_or xs k 0 ≤ m)
  unfolding greatest_from
  greatest_from_tells g [] l = (l, λ k h. absurd (omega arith))
  greatest_from_tells g (x ∷ xs) l = more (greatest_from_tells (max g x) xs l)
    where
      more : (max g x ≤ m) × ((k : ℕ) → k < length xs → get_or xs k 0 ≤ m) → (g ≤ m) × ((k : ℕ) → k < length (x ∷ xs) → get_or (x ∷ xs) k 0 ≤ m)
      more below = (omega (arith, below.0), at)
        where
          at : (k : ℕ) → k < length (x ∷ xs) → get_or (x ∷ xs) k 0 ≤ m
          at zero h = omega (arith, below.0)
          at (suc k) h = below.1 k (omega arith)

  greatest_from_of : (g : ℕ) (xs : List ℕ) → g ≤ m → ((k : ℕ) → k < length xs → get_or xs k 0 ≤ m) → greatest_from g xs ≤ m
  unfolding greatest_from
  greatest_from_of g [] l f = l
  greatest_from_of g (x ∷ xs) l f = let first : x ≤ m = f zero (omega arith) in greatest_from_of (max g x) xs (omega (arith, first)) (λ k h. f (suc k) (omega arith))

  pub greatest_tested : (xs : List ℕ) → test (greatest_of xs) ≡ list_all test xs
  unfolding greatest_of
  greatest_tested [] = gives 0 (omega arith)
  greatest_tested (x ∷ xs) =
      same_tests _ _
      (λ e. let f = greatest_from_tells x xs (tells _ e) in rw (gives x f.0, and_from_places (list_all test) test refl (λ _ _. refl) xs 0 (λ i h. gives _ (f.1 i h))) refl)
      (λ e. gives _ (greatest_from_of x xs (tells x (and_left (test x) (list_all test xs) e)) (λ k h. tells _ (and_at (list_all test) test refl (λ _ _. refl) xs k 0 h (and_right (test x) (list_all test xs) e)))))

module _ (xs : List ℕ) (c : ℕ) (size : length xs ≡ longest) (l : c ≤ longest) where
  abbrev fits : ℕ → Bool
  fits x = leb x wettest

  abbrev none : ℕ → Bool
  none x = eqb x 0

  here_length : length (take c xs) ≡ c
  here_length = length-take-le c xs (omega arith)

  parts_tell : sound_below xs c longest ≡ true → (list_all fits (take c xs) && list_all none (drop c xs)) ≡ true
  unfolding most_at
  parts_tell e =
      rw (and_from_places (list_all fits) fits refl (λ _ _. refl) (take c xs) 0 here, and_from_places (list_all none) none refl (λ _ _. refl) (drop c xs) 0 behind) refl
    where
      here : (i : ℕ) → i < length (take c xs) → fits (get_or (take c xs) i 0) ≡ true
      here i m =
          let k : i < c = omega (arith, here_length) in
          le-leb (get_or (take c xs) i 0) wettest (omega (arith, get_or-take c xs i 0 k, rw (lt-ltb i c k) at (below_tells xs c longest e i (omega arith))))

      behind : (i : ℕ) → i < length (drop c xs) → none (get_or (drop c xs) i 0) ≡ true
      behind i m =
          eq-eqb (get_or (drop c xs) i 0) 0
          (omega (arith, get_or-drop c xs i 0, rw (le-ltb (c + i) c (omega arith)) at (below_tells xs c longest e (c + i) (omega (arith, length-drop c xs)))))

  parts_give : (list_all fits (take c xs) && list_all none (drop c xs)) ≡ true → sound_below xs c longest ≡ true
  unfolding most_at
  parts_give e = below_of xs c longest (λ k m. at k m (dec_lt k c))
    where
      at : (k : ℕ) → k < longest → Dec (k < c) → get_or xs k 0 ≤ cond (ltb k c) wettest 0
      at k m (yes h) =
          let all = and_left (list_all fits (take c xs)) (list_all none (drop c xs)) e in
          let t = and_at (list_all fits) fits refl (λ _ _. refl) (take c xs) k 0 (omega (arith, here_length)) all in
          rw (lt-ltb k c h) (omega (arith, leb-true (get_or (take c xs) k 0) wettest t, get_or-take c xs k 0 h))
      at k m (no h) =
          let i : ℕ = k - c in
          let s : c + i ≡ k = omega arith in
          let all = and_right (list_all fits (take c xs)) (list_all none (drop c xs)) e in
          let t = and_at (list_all none) none refl (λ _ _. refl) (drop c xs) i 0 (omega (arith, length-drop c xs)) all in
          rw (le-ltb k c (omega arith)) (omega (arith, eqb-true (get_or (drop c xs) i 0) 0 t, get_or-drop c xs i 0, ap (λ (j : ℕ). get_or xs j 0) s))

  pub below_parts : (list_all fits (take c xs) && list_all none (drop c xs)) ≡ sound_below xs c longest
  below_parts = same_tests _ _ parts_give parts_tell

  -- the same by the greatest of each part
  pub below_greatest : (leb (greatest_of (take c xs)) wettest && eqb (greatest_of (drop c xs)) 0) ≡ sound_below xs c longest
  below_greatest =
      let here : leb (greatest_of (take c xs)) wettest ≡ list_all fits (take c xs) = greatest_tested wettest fits (λ n e. leb-true n wettest e) (λ n h. le-leb n wettest h) (take c xs) in
      let behind : eqb (greatest_of (drop c xs)) 0 ≡ list_all none (drop c xs) = greatest_tested 0 none (λ n e. omega (arith, eqb-true n 0 e)) (λ n h. eq-eqb n 0 (omega arith)) (drop c xs) in
      ap (λ (b : Bool). b && eqb (greatest_of (drop c xs)) 0) here ∙ ap (λ (b : Bool). list_all fits (take c xs) && b) behind ∙ below_parts
