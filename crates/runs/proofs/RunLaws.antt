-- A run, step by step: how each step ends it or goes on. Assumes nothing.
use Prim.Native.Nat.{ℕ, zero, suc, ◌+◌, ◌-◌, ◌≤◌, ◌<◌}
use mathlib.Core.Path.{◌≡◌, refl, sym, ap, ◌∙◌}
use mathlib.Core.Bool.{true, false, ◌&&◌, not}
use mathlib.Core.List.{List}
use native.Mathlib.Omega.{arith}
use Rattle.words.specs.Refusal.{number_of}
use Rattle.words.specs.declared.refusal.Refusal.{Refusal}
use Rattle.words.proofs.RefusalLaws.{number_not_0}
use Rattle.stations.specs.Answer.{waiting_at}
use Rattle.calls.specs.Reply.{Reply, replied, done}
use Rattle.calls.specs.Step.{step_of}
use Rattle.calls.specs.Run.{is_given, goes_on, run_for}

-- a step after which the run goes on
turn : (n : ℕ) (words : List ℕ) (s : ℕ) → 0 < n → goes_on s (step_of words s) ≡ true → run_for n words s ≡ run_for (n - 1) (step_of words s).words s
unfolding run_for
turn zero words s h e = absurd (omega arith)
turn (suc m) words s h e =
    let p : m ≡ suc m - 1 = omega arith in
    rw (run_for, e) (ap (λ (k : ℕ). run_for k (step_of words s).words s) p)

-- a step that ends it
last : (n : ℕ) (words : List ℕ) (s : ℕ) → 0 < n → goes_on s (step_of words s) ≡ false → run_for n words s ≡ step_of words s
unfolding run_for
last zero words s h e = absurd (omega arith)
last (suc m) words s h e = rw (run_for, e)

-- no step is left
pub run_ended : (n : ℕ) (words : List ℕ) (s : ℕ) → n ≤ 0 → done words ≡ run_for n words s
unfolding run_for
run_ended zero words s h = refl
run_ended (suc m) words s h = absurd (omega arith)

-- a refused step ends it
pub run_refused : (n : ℕ) (words after : List ℕ) (s : ℕ) (refusal : Refusal) → 0 < n → replied (number_of refusal) after ≡ step_of words s → replied (number_of refusal) after ≡ run_for n words s
run_refused n words after s refusal h e =
    e ∙ sym (last n words s h (ap (goes_on s) (sym e) ∙ ap (λ b. b && not (is_given (waiting_at after s))) (number_not_0 refusal)))

-- so does one that answers
pub run_answered : (n : ℕ) (words after : List ℕ) (s : ℕ) → 0 < n → done after ≡ step_of words s → is_given (waiting_at after s) ≡ true → done after ≡ run_for n words s
run_answered n words after s h e g = e ∙ sym (last n words s h (ap (goes_on s) (sym e) ∙ ap not g))

-- after any other it goes on
pub run_goes_on : (n : ℕ) (words after : List ℕ) (s : ℕ) → 0 < n → done after ≡ step_of words s → is_given (waiting_at after s) ≡ false → run_for n words s ≡ run_for (n - 1) after s
run_goes_on n words after s h e g = turn n words s h (ap (goes_on s) (sym e) ∙ ap not g) ∙ ap (λ (r : Reply). run_for (n - 1) r.words s) (sym e)

-- so of a run of `end` steps, of which `at` were made before, there is as much left as after one more
pub run_left : (end at : ℕ) (words after : List ℕ) (s : ℕ) (whole : Reply) → run_for (end - at) words s ≡ whole → done after ≡ step_of words s
    → is_given (waiting_at after s) ≡ false → at < end → run_for (end - (at + 1)) after s ≡ whole
run_left end at words after s whole left e g h =
    let fewer : end - (at + 1) ≡ end - at - 1 = omega arith in
    ap (λ (k : ℕ). run_for k after s) fewer ∙ sym (run_goes_on (end - at) words after s (omega arith) e g) ∙ left
