-- Steady in words (`steady_exact`): since the window was begun there were as many readings as it is long, and no two of the last so many differ by more than the spread.
use Prim.Native.Nat.{ℕ, ◌-◌, ◌≤◌}
use mathlib.Core.Path.{◌≡◌, refl, sym, ap, ◌∙◌}
use mathlib.Core.Logic.{◌↔◌}
use mathlib.Core.Bool.{Bool, true, ◌&&◌}
use mathlib.Core.List.{List}
use native.Mathlib.Omega.{arith}
use lib.Dec.{leb, eqb}
use lib.ListN.{length}
use borrow.Author.Tests.{leb-true, le-leb, eqb-true, eq-eqb}
use Rattle.window.specs.declared.window.Window.{Window}
use Rattle.window.specs.Tail.{tail_of}
use Rattle.window.specs.Figures.{least_of, greatest_of}
use Rattle.window.specs.Window.{window_of, is_sound}
use Rattle.window.specs.Begin.{begin_of}
use Rattle.window.specs.Log.{WindowEvent, state_after, Log, new_log, log_after}
use Rattle.window.specs.Steady.{is_full, within_spread, is_steady, Steady}
use Rattle.window.proofs.TailLaws.{tail_length}
use Rattle.window.proofs.LeastLaws.{least_exact, greatest_exact}
use Rattle.window.proofs.WindowLaws.{and_left, and_right, length_tells, sound_tells, window_present}
use Rattle.window.proofs.LogLaws.{LogIn, shown, shown_sound, logged_in, state_run}

-- a full window has a reading
pub full_tells : (w : Window) → is_full w ≡ true → (is_sound w ≡ true) × (1 ≤ w.present)
unfolding is_full
full_tells w e =
    let sound = and_left (is_sound w) (eqb w.present w.length) e in
    (sound, omega (arith, eqb-true w.present w.length (and_right (is_sound w) (eqb w.present w.length) e), (sound_tells w sound).least))

module _ (l : Log) (h : LogIn l) (spread : ℕ) where
  -- the readings present
  abbrev last : List ℕ
  last = tail_of l.length l.accepted

  -- the test, of the window of a log
  tested : is_steady (shown l) spread ≡ (eqb (length last) l.length && leb (greatest_of last - least_of last) spread)
  unfolding is_steady is_full within_spread
  tested =
      ap (λ (ys : List ℕ). (is_sound (shown l) && eqb (shown l).present (shown l).length) && leb (greatest_of ys - least_of ys) spread) (window_present l.length last)
      ∙ rw (shown_sound l h) (unfold window_of in refl)

  some : l.length ≤ length l.accepted → 1 ≤ length last
  some e = omega (arith, tail_length l.length l.accepted, (length_tells l.length h.length_in_lem).0)

  pub steady_shown : (is_steady (shown l) spread ≡ true) ↔ Steady l spread
  steady_shown = (tells, of)
    where
      full : Bool
      full = eqb (length last) l.length

      near : Bool
      near = leb (greatest_of last - least_of last) spread

      tells : is_steady (shown l) spread ≡ true → Steady l spread
      tells e =
          let t : (full && near) ≡ true = sym tested ∙ e in
          let enough : l.length ≤ length l.accepted = omega (arith, eqb-true (length last) l.length (and_left full near t), tail_length l.length l.accepted) in
          let apart : greatest_of last - least_of last ≤ spread = leb-true (greatest_of last - least_of last) spread (and_right full near t) in
          record { enough = enough; close = λ x y u v. omega (arith, apart, (greatest_exact last (some enough)).none_greater x u, (least_exact last (some enough)).none_less y v) }

      of : Steady l spread → is_steady (shown l) spread ≡ true
      of s =
          let l₁ = some s.enough in
          let apart = s.close (greatest_of last) (least_of last) (greatest_exact last l₁).among (least_exact last l₁).among in
          tested
          ∙ rw (eq-eqb (length last) l.length (omega (arith, tail_length l.length l.accepted, s.enough)), le-leb (greatest_of last - least_of last) spread (omega (arith, apart))) refl

-- since a window was begun, in whatever state it was
pub steady_exact : (w : Window) (n : ℕ) → (begin_of w n).number ≡ 0 → (evs : List WindowEvent) (spread : ℕ)
    → (is_steady (state_after (begin_of w n).window evs) spread ≡ true) ↔ Steady (log_after (new_log n) evs) spread
steady_exact w n begun evs spread =
    let e = ap (λ (v : Window). is_steady v spread) (state_run w n begun evs) in
    let s = steady_shown (log_after (new_log n) evs) (logged_in w n begun evs) spread in
    (λ u. s.0 (sym e ∙ u), λ u. e ∙ s.1 u)
