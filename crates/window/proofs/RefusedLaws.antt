-- Which calls are refused, in words: 18 exactly for a length out of range (`begin_18`) or a state that no readings leave (`update_18`), 19 exactly for a reading out of
-- range in any other state (`update_19`).
use Prim.Native.Nat.{ℕ, ◌≤◌, ◌<◌}
use mathlib.Core.Path.{◌≡◌, refl, sym, ap, ◌∙◌}
use mathlib.Core.Logic.{◌↔◌}
use mathlib.Core.Bool.{Bool, true, false, cond, false≢true}
use native.Mathlib.Omega.{arith}
use lib.ListN.{length}
use borrow.Author.Tests.{leb-true, leb-false}
use Rattle.window.specs.declared.window.Window.{Window}
use Rattle.window.specs.Window.{longest, wettest, length_in, reading_in, is_sound}
use Rattle.window.specs.Begin.{begin_of}
use Rattle.window.specs.Update.{update_of}
use Rattle.window.specs.Log.{LeftByReadings}
use Rattle.window.proofs.WindowLaws.{length_tells, length_of}
use Rattle.window.proofs.BeginLaws.{begin_number}
use Rattle.window.proofs.UpdateLaws.{update_number}
use Rattle.window.proofs.LogLaws.{sound_exact}

pub begin_18 : (w : Window) (n : ℕ) → ((begin_of w n).number ≡ 18) ↔ ¬ ((1 ≤ n) × (n ≤ longest))
begin_18 w n = by_test (length_in n) refl
  where
    by_test : (fits : Bool) → length_in n ≡ fits → ((begin_of w n).number ≡ 18) ↔ ¬ ((1 ≤ n) × (n ≤ longest))
    by_test true e = (λ u. absurd (omega (arith, u, begin_number w n ∙ ap (λ (b : Bool). cond b 0 18) e)), λ u. absurd (u (length_tells n e)))
    by_test false e = (λ u v. false≢true (sym e ∙ length_of n v.0 v.1), λ u. begin_number w n ∙ ap (λ (b : Bool). cond b 0 18) e)

module _ (w : Window) (size : length w.readings ≡ longest) (x : ℕ) where
  -- the number by its two tests
  number_is : (sound fits : Bool) → is_sound w ≡ sound → reading_in x ≡ fits → (update_of w x).figures.number ≡ cond sound (cond fits 0 19) 18
  number_is sound fits e f = update_number w x ∙ ap (λ (b : Bool). cond b (cond (reading_in x) 0 19) 18) e ∙ ap (λ (b : Bool). cond sound (cond b 0 19) 18) f

  pub update_18 : ((update_of w x).figures.number ≡ 18) ↔ ¬ LeftByReadings w
  update_18 = by_tests (is_sound w) refl (reading_in x) refl
    where
      by_tests : (sound : Bool) → is_sound w ≡ sound → (fits : Bool) → reading_in x ≡ fits → ((update_of w x).figures.number ≡ 18) ↔ ¬ LeftByReadings w
      by_tests true e true f = (λ u. absurd (omega (arith, u, number_is true true e f)), λ u. absurd (u ((sound_exact w size).0 e)))
      by_tests true e false f = (λ u. absurd (omega (arith, u, number_is true false e f)), λ u. absurd (u ((sound_exact w size).0 e)))
      by_tests false e fits f = (λ u v. false≢true (sym e ∙ (sound_exact w size).1 v), λ u. number_is false fits e f)

  pub update_19 : ((update_of w x).figures.number ≡ 19) ↔ (LeftByReadings w × (wettest < x))
  update_19 = by_tests (is_sound w) refl (reading_in x) refl
    where
      by_tests : (sound : Bool) → is_sound w ≡ sound → (fits : Bool) → reading_in x ≡ fits → ((update_of w x).figures.number ≡ 19) ↔ (LeftByReadings w × (wettest < x))
      by_tests true e true f = (λ u. absurd (omega (arith, u, number_is true true e f)), λ v. absurd (omega (arith, v.1, leb-true x wettest f)))
      by_tests true e false f = (λ u. ((sound_exact w size).0 e, leb-false x wettest f), λ v. number_is true false e f)
      by_tests false e fits f = (λ u. absurd (omega (arith, u, number_is false fits e f)), λ v. absurd (false≢true (sym e ∙ (sound_exact w size).1 v.0)))
