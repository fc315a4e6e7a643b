-- A station stepped while the others stand still, each step by its number: those that do not answer (`steps_accepted`, `steps_unanswered`) and the one that does
-- (`steps_answered`). A run is steps (`run_steps`), after a history just these (`run_alone`).
use Prim.Native.Nat.{ℕ, zero, suc, ◌+◌, ◌*◌, ◌≤◌, ◌<◌}
use mathlib.Core.Path.{◌≡◌, refl, sym, ap, subst, ◌∙◌}
use mathlib.Core.Logic.{◌⊎◌, inl, inr}
use mathlib.Core.Bool.{Bool, true, false, cond, not, true≢false}
use mathlib.Core.List.{List, [], ◌∷◌}
use native.Mathlib.Omega.{arith}
use lib.Dec.{eqb}
use borrow.Author.Tests.{eqb-true, eqb-false, not-true}
use Rattle.stations.specs.Common.{places_at}
use Rattle.points.proofs.Tests.{and_l, and_r}
use Rattle.history.specs.After.{Answered}
use Rattle.history.specs.Alone.{stepped, AnsweredAfter}
use Rattle.history.proofs.Demand3.{accepted}
use Rattle.history.proofs.Reached.{Stands, history_stands, history_related}
use Rattle.history.proofs.Run.{run_related}
use Rattle.claims.specs.Definitions.{Scale, Point, opened_in, waiting_at, Event, submission, WordReply, done, is_opened, open_of, submit_of, step_of, is_given, goes_on, run_for, most_steps, run_of}
use Rattle.table.specs.History.{reply}
use Rattle.history.specs.After.{after}

pub steps_accepted : (n : ℕ) (words : List ℕ) (s : ℕ) → AnsweredAfter n words s → (k : ℕ) → k ≤ n → (step_of (stepped k words s) s).number ≡ 0
unfolding stepped
steps_accepted zero words s a zero l = a.0
steps_accepted zero words s a (suc k) l = absurd (omega arith)
steps_accepted (suc n) words s a zero l = a.0
steps_accepted (suc n) words s a (suc k) l = steps_accepted n (step_of words s).words s a.2 k (omega arith)

pub steps_unanswered : (n : ℕ) (words : List ℕ) (s : ℕ) → AnsweredAfter n words s → (k : ℕ) → k < n → ¬ Answered (stepped (suc k) words s) s
unfolding stepped
steps_unanswered zero words s a k l = absurd (omega arith)
steps_unanswered (suc n) words s a zero l = a.1
steps_unanswered (suc n) words s a (suc k) l = steps_unanswered n (step_of words s).words s a.2 k (omega arith)

pub steps_answered : (n : ℕ) (words : List ℕ) (s : ℕ) → AnsweredAfter n words s → Answered (stepped (suc n) words s) s
unfolding stepped
steps_answered zero words s a = a.1
steps_answered (suc n) words s a = steps_answered n (step_of words s).words s a.2

-- the run of a call that was submitted after a history
pub run_alone : (words : List ℕ) (places limit : ℕ) (scale : Scale) → (open_of words places limit scale).number ≡ 0 → (evs : List Event) (s kind : ℕ) (p : Point) (c n : ℕ) → n < 16 * places + 64
    → AnsweredAfter n (submit_of (after evs (open_of words places limit scale).words) s kind p c).words s
    → run_of (submit_of (after evs (open_of words places limit scale).words) s kind p c).words s
    ≡ done (stepped (suc n) (submit_of (after evs (open_of words places limit scale).words) s kind p c).words s)
unfolding after reply
run_alone words places limit scale e evs s kind p c n l w =
    let a = accepted words places limit scale e in
    let v : Stands (after evs (open_of words places limit scale).words) places limit scale = rw a.opens (history_related words places limit scale a evs) in
    let x : Stands (submit_of (after evs (open_of words places limit scale).words) s kind p c).words places limit scale = history_stands (submission s kind p c ∷ []) v in
    run_related {t = x.table} s n x.related (omega (arith, x.places_same)) w

-- ---- every run

-- a step after which a run goes on was accepted, and did not answer
goes_accepted : (s : ℕ) (r : WordReply) → goes_on s r ≡ true → r.number ≡ 0
goes_accepted s r e = eqb-true r.number 0 (and_l (eqb r.number 0) (not (is_given (waiting_at r.words s))) e)

goes_unanswered : (s : ℕ) (r : WordReply) → goes_on s r ≡ true → is_given (waiting_at r.words s) ≡ false
goes_unanswered s r e = not-true (is_given (waiting_at r.words s)) (and_r (eqb r.number 0) (not (is_given (waiting_at r.words s))) e)

-- n steps after each of which the run goes on, and the reply is that of the step after them, with which it ends
record StepsTo (most : ℕ) (words : List ℕ) (s : ℕ) (r : WordReply) : Type 0 where
  n : ℕ
  few : n < most
  on : (k : ℕ) → k < n → goes_on s (step_of (stepped k words s) s) ≡ true
  last : r ≡ step_of (stepped n words s) s
  ends : (goes_on s (step_of (stepped n words s) s) ≡ false) ⊎ (suc n ≡ most)

-- one step before the others
one_more : (most : ℕ) (words : List ℕ) (s : ℕ) (r : WordReply) → goes_on s (step_of words s) ≡ true → StepsTo most (step_of words s).words s r → StepsTo (suc most) words s r
unfolding stepped
one_more most words s r e x = record { n = suc x.n; few = omega (arith, x.few); on = first; last = x.last; ends = elim x.ends [ inl f ↦ inl f | inr f ↦ inr (ap suc f) ] }
  where
    first : (k : ℕ) → k < suc x.n → goes_on s (step_of (stepped k words s) s) ≡ true
    first zero l = e
    first (suc k) l = x.on k (omega arith)

module _ (most : ℕ) (words : List ℕ) (s : ℕ) where
  run_goes : goes_on s (step_of words s) ≡ true → run_for (suc most) words s ≡ run_for most (step_of words s).words s
  unfolding run_for
  run_goes e = rw (e, run_for)

  -- the first step ends the run
  run_ends : goes_on s (step_of words s) ≡ false → StepsTo (suc most) words s (run_for (suc most) words s)
  unfolding run_for stepped
  run_ends e = record { n = 0; few = omega arith; on = λ k l. absurd (omega arith); last = rw (e, run_for); ends = inl e }

  -- it is followed by others
  run_later : StepsTo most (step_of words s).words s (run_for most (step_of words s).words s) → StepsTo (suc most) words s (run_for (suc most) words s)
  run_later x = go (goes_on s (step_of words s)) refl
    where
      go : (b : Bool) → goes_on s (step_of words s) ≡ b → StepsTo (suc most) words s (run_for (suc most) words s)
      go true e = rw (run_goes e) (one_more most words s (run_for most (step_of words s).words s) e x)
      go false e = run_ends e

-- it is the last
run_last : (words : List ℕ) (s : ℕ) → StepsTo 1 words s (run_for 1 words s)
run_last words s = go (goes_on s (step_of words s)) refl
  where
    go : (b : Bool) → goes_on s (step_of words s) ≡ b → StepsTo 1 words s (run_for 1 words s)
    go true e = record {
      n = 0;
      few = omega arith;
      on = λ k l. absurd (omega arith);
      last = unfold stepped run_for in (run_goes 0 words s e ∙ (λ i. record { number = sym (goes_accepted s (step_of words s) e) i; words = (step_of words s).words }));
      ends = inr refl;
    }
    go false e = run_ends 0 words s e

run_for_lem : (most : ℕ) (words : List ℕ) (s : ℕ) → StepsTo (suc most) words s (run_for (suc most) words s)
run_for_lem zero words s = run_last words s
run_for_lem (suc most) words s = run_later (suc most) words s (run_for_lem most (step_of words s).words s)

-- a run has a step
most_some : (words : List ℕ) → (m : ℕ) × (most_steps words ≡ suc m)
unfolding most_steps
most_some words = go (is_opened (opened_in words)) (places_at words)
  where
    go : (b : Bool) (x : ℕ) → (m : ℕ) × (cond b (16 * x + 64) 1 ≡ suc m)
    go true x = (16 * x + 63, omega arith)
    go false x = (0, refl)

-- the words after one step more
step_last : (k : ℕ) (words : List ℕ) (s : ℕ) → (step_of (stepped k words s) s).words ≡ stepped (suc k) words s
unfolding stepped
step_last zero words s = refl
step_last (suc k) words s = step_last k (step_of words s).words s

-- what a run comes to: n steps are accepted and do not answer, and number and words are those of the step after them, which is refused, answers, or is the last that a run may make
pub record IsSteps (words : List ℕ) (s n : ℕ) : Type 0 where
  pub few : n < most_steps words
  pub accepted : (k : ℕ) → k < n → (step_of (stepped k words s) s).number ≡ 0
  pub unanswered : (k : ℕ) → k < n → is_given (waiting_at (stepped (suc k) words s) s) ≡ false
  pub last : run_of words s ≡ step_of (stepped n words s) s
  pub ends : (¬ ((run_of words s).number ≡ 0)) ⊎ ((is_given (waiting_at (run_of words s).words s) ≡ true) ⊎ (suc n ≡ most_steps words))

pub run_steps : (words : List ℕ) (s : ℕ) → (n : ℕ) × IsSteps words s n
run_steps words s =
    let m = most_some words in
    let x : StepsTo (most_steps words) words s (run_of words s) = unfold run_of in (subst (λ (b : ℕ). StepsTo b words s (run_for b words s)) (sym m.1) (run_for_lem m.0 words s)) in (
      x.n,
      record {
        few = x.few;
        accepted = λ k l. goes_accepted s (step_of (stepped k words s) s) (x.on k l);
        unanswered = λ k l. ap (λ (w : List ℕ). is_given (waiting_at w s)) (sym (step_last k words s)) ∙ goes_unanswered s (step_of (stepped k words s) s) (x.on k l);
        last = x.last;
        ends = elim x.ends [ inl e ↦ rw x.last (ended (step_of (stepped x.n words s) s) e) | inr e ↦ inr (inr e) ];
      },
    )
  where
    ended : {B : Type 0} (r : WordReply) → goes_on s r ≡ false → (¬ (r.number ≡ 0)) ⊎ ((is_given (waiting_at r.words s) ≡ true) ⊎ B)
    ended r e = go (eqb r.number 0) refl (is_given (waiting_at r.words s)) refl
      where
        go : {B : Type 0} (a : Bool) → eqb r.number 0 ≡ a → (b : Bool) → is_given (waiting_at r.words s) ≡ b → (¬ (r.number ≡ 0)) ⊎ ((is_given (waiting_at r.words s) ≡ true) ⊎ B)
        go false f b g = inl (eqb-false r.number 0 f)
        go true f true g = inr (inl g)
        go true f false g = absurd (true≢false (sym (rw (f, g) refl) ∙ e))
