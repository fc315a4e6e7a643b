-- A search that nobody can hold up (Rules 8.6): after any history a nearest is accepted at a station; whatever the others do, it is answered within
-- 9 × places / 5 + 1 of its own steps (`wait_free`), and so within 3 × places + 1 (`wait_free_three`).
-- For a dispatcher: whatever else is dealt out, a station that was given 9 × places / 5 + 1 steps since its nearest was accepted has been answered, unless the
-- call was withdrawn. The figure of Somebody.antt is for all calls, and does not say whose is answered; this one is for a nearest, and asks nothing of the other
-- stations. An add, a remove and a contains have none like it: the changes of others may delay them, and each delay is another call's answer.
use Prim.Native.Nat.{ℕ, ◌*◌, ◌≤◌, ◌<◌}
use mathlib.Core.Path.{◌≡◌, refl, sym, ap, subst}
use mathlib.Core.Logic.{inl, inr}
use mathlib.Core.List.{List, [], ◌∷◌, ◌++◌}
use native.Mathlib.Omega.{arith}
use native.Mathlib.Decide.{dec_lt}
use lib.Dec.{eqb}
use borrow.Author.Tests.{eqb-true}
use Rattle.points.proofs.Tests.{and_l, and_r}
use Rattle.claims.specs.Definitions.{Scale, Point, Event, submission, single_step, taking, withdrawal, reply, answered, open_of, submit_of, step_of, take_of, word_index, after, number_told}
use Rattle.claims.specs.Definitions.{own_steps, CallKept, KeepsCall}
use Rattle.history.specs.WaitFree.{OwnAnswered}
use Rattle.history.proofs.WaitFree as Holds

-- ---- what is said

-- it is answered: a step of station s in the run is accepted, and a taking by the station would be accepted next
pub record OwnAnswers (s : ℕ) (words : List ℕ) (run : List Event) : Type 0 where
  pub before : List Event
  pub rest : List Event
  pub splits : before ++ (single_step s ∷ rest) ≡ run
  pub accepted : (step_of (after before words) s).number ≡ 0
  pub answers : number_told (take_of (step_of (after before words) s).words s) ≡ 0

-- the event before the others does not answer it
later : {s : ℕ} {words : List ℕ} {run : List Event} (ev : Event) → OwnAnswers s (reply word_index words ev).next run → OwnAnswers s words (ev ∷ run)
unfolding after
later ev x = record { before = ev ∷ x.before; rest = x.rest; splits = ap (λ (l : List Event). ev ∷ l) x.splits; accepted = x.accepted; answers = x.answers }

own_answers : (s : ℕ) (words : List ℕ) (run : List Event) → OwnAnswered s words run → OwnAnswers s words run
unfolding reply answered after
own_answers s words [] x = absurd x
own_answers s words (submission u kind p c ∷ run) (inl x) = absurd x
own_answers s words (submission u kind p c ∷ run) (inr x) = later (submission u kind p c) (own_answers s (reply word_index words (submission u kind p c)).next run x)
own_answers s words (taking u ∷ run) (inl x) = absurd x
own_answers s words (taking u ∷ run) (inr x) = later (taking u) (own_answers s (reply word_index words (taking u)).next run x)
own_answers s words (withdrawal u ∷ run) (inl x) = absurd x
own_answers s words (withdrawal u ∷ run) (inr x) = later (withdrawal u) (own_answers s (reply word_index words (withdrawal u)).next run x)
own_answers s words (single_step u ∷ run) (inr x) = later (single_step u) (own_answers s (step_of words u).words run x)
own_answers s words (single_step u ∷ run) (inl x) =
    let a = eqb (step_of words u).number 0 in
    let b = eqb (number_told (take_of (step_of words u).words u)) 0 in
    let accepted : (step_of words u).number ≡ 0 = eqb-true (step_of words u).number 0 (and_l a b x.1) in
    let answers : number_told (take_of (step_of words u).words u) ≡ 0 = eqb-true (number_told (take_of (step_of words u).words u)) 0 (and_r a b x.1) in
    subst (λ (v : ℕ). OwnAnswers v words (single_step u ∷ run)) x.0 (record { before = []; rest = run; splits = refl; accepted = accepted; answers = answers })

-- ---- the claims

-- After any history a nearest is accepted at a station: the words then.
module _ (words : List ℕ) (places limit : ℕ) (scale : Scale) (e : (open_of words places limit scale).number ≡ 0) (evs : List Event) (s : ℕ) (p : Point) (c : ℕ)
    (f : (submit_of (after evs (open_of words places limit scale).words) s 4 p c).number ≡ 0) where
  abbrev pub begun : List ℕ
  begun = (submit_of (after evs (open_of words places limit scale).words) s 4 p c).words

  -- whatever the others do: of any events in which the call is not withdrawn, one answers it where more than 9 × places / 5 are steps of its own
  pub wait_free : (run : List Event) → KeepsCall s begun run → 9 * places < 5 * own_steps s run → OwnAnswers s begun run
  wait_free run k l = own_answers s begun run (Holds.wait_free words places limit scale e evs s p c f run k l)

  -- where more than 3 × places are
  pub wait_free_three : (run : List Event) → KeepsCall s begun run → 3 * places < own_steps s run → OwnAnswers s begun run
  wait_free_three run k l = wait_free run k (omega arith)

  -- as long as it is not answered, no more than 9 × places / 5 were steps of its own
  pub unanswered_few : (run : List Event) → KeepsCall s begun run → ¬ OwnAnswers s begun run → 5 * own_steps s run ≤ 9 * places
  unanswered_few run k n = elim (dec_lt (9 * places) (5 * own_steps s run)) [ yes l ↦ absurd (n (wait_free run k l)) | no l ↦ omega arith ]

-- ---- the premise

-- where the station withdraws nothing in the run, its call is kept; a withdrawal that is refused is no withdrawal
pub no_withdrawal : (s : ℕ) (words : List ℕ) (run : List Event) → ((before rest : List Event) → ¬ (before ++ (withdrawal s ∷ rest) ≡ run)) → KeepsCall s words run
no_withdrawal s words [] n = tt
no_withdrawal s words (ev ∷ run) n = (
  none ev (λ q. n [] run (ap (λ (x : Event). x ∷ run) (sym q))),
  no_withdrawal s (reply word_index words ev).next run (λ b r q. n (ev ∷ b) r (ap (λ (es : List Event). ev ∷ es) q)),
)
  where
    none : (ev : Event) → ¬ (ev ≡ withdrawal s) → CallKept s words ev
    none (submission u kind q d) h = tt
    none (single_step u) h = tt
    none (taking u) h = tt
    none (withdrawal u) h = λ q z. h (ap withdrawal q)
