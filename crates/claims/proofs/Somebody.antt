-- Somebody always finishes: a figure for the busy case (Rules 8.4, 8.5).
-- For a dispatcher: deal out steps to any stations in any order, submit, take, and name stations that have nothing to do. From any moment on, while nobody takes back
-- a call, count the steps that are not refused: one of the first 8 × places + 1 answers a call (`somebody`). The greater figure of Rules 8.4 is more than 512 times that
-- (`somebody_finishes`). Whose call it is, is not said: `solo` of Demand3.antt is about one station, and asks that the others stand still; `wait_free` of
-- WaitFree.antt is about a nearest, and asks nothing of them. Where nobody submits anew,
-- all eight are answered or withdrawn within eight times as many (`everybody`).
use Prim.Native.Nat.{ℕ, ◌+◌, ◌*◌, ◌≤◌, ◌<◌}
use mathlib.Core.Path.{◌≡◌, refl, sym, ap}
use mathlib.Core.Logic.{◌↔◌, inl, inr}
use mathlib.Core.Bool.{true, false≢true}
use mathlib.Core.List.{List, [], ◌∷◌, ◌++◌, map}
use native.Mathlib.Omega.{arith}
use lib.Dec.{eqb}
use lib.ListN.{length}
use borrow.Author.Tests.{eqb-true}
use Rattle.points.proofs.Tests.{and_l, and_r}
use Rattle.claims.specs.Definitions.{Scale, is_unfinished, state_at, Event, submission, single_step, taking, withdrawal, reply, answered, open_of, step_of, take_of, word_index, after, number_told}
use Rattle.claims.specs.Definitions.{dealt_steps, NotWithdrawn, Undisturbed, NobodySubmits}
use Rattle.history.specs.Somebody.{SomeAnswered}
use Rattle.history.proofs.Somebody as Finishes
use Rattle.history.proofs.Everybody
use Rattle.history.proofs.StepNumbers.{step_accepted}

-- ---- what is said

-- at least one call is answered: a step of the run is accepted, and a taking by its station would be accepted next
pub record OneAnswers (words : List ℕ) (run : List Event) : Type 0 where
  pub before : List Event
  pub station : ℕ
  pub rest : List Event
  pub splits : before ++ (single_step station ∷ rest) ≡ run
  pub accepted : (step_of (after before words) station).number ≡ 0
  pub answers : number_told (take_of (step_of (after before words) station).words station) ≡ 0

-- the event before the others answers nobody, or is no step
later : {words : List ℕ} {run : List Event} (ev : Event) → OneAnswers (reply word_index words ev).next run → OneAnswers words (ev ∷ run)
unfolding after
later ev x = record { before = ev ∷ x.before; station = x.station; rest = x.rest; splits = ap (λ (l : List Event). ev ∷ l) x.splits; accepted = x.accepted; answers = x.answers }

one_answers : (words : List ℕ) (run : List Event) → SomeAnswered words run → OneAnswers words run
unfolding reply answered after
one_answers words [] x = absurd x
one_answers words (submission s kind p c ∷ run) (inl e) = absurd (false≢true e)
one_answers words (submission s kind p c ∷ run) (inr x) = later (submission s kind p c) (one_answers (reply word_index words (submission s kind p c)).next run x)
one_answers words (taking s ∷ run) (inl e) = absurd (false≢true e)
one_answers words (taking s ∷ run) (inr x) = later (taking s) (one_answers (reply word_index words (taking s)).next run x)
one_answers words (withdrawal s ∷ run) (inl e) = absurd (false≢true e)
one_answers words (withdrawal s ∷ run) (inr x) = later (withdrawal s) (one_answers (reply word_index words (withdrawal s)).next run x)
one_answers words (single_step s ∷ run) (inr x) = later (single_step s) (one_answers (step_of words s).words run x)
one_answers words (single_step s ∷ run) (inl e) =
    let a = eqb (step_of words s).number 0 in
    let b = eqb (number_told (take_of (step_of words s).words s)) 0 in
    let accepted = eqb-true (step_of words s).number 0 (and_l a b e) in
    let answers = eqb-true (number_told (take_of (step_of words s).words s)) 0 (and_r a b e) in
    record { before = []; station = s; rest = run; splits = refl; accepted = accepted; answers = answers }

-- ---- the claims

-- A history from an accepted opening, and the words after it.
module _ (words : List ℕ) (places limit : ℕ) (scale : Scale) (e : (open_of words places limit scale).number ≡ 0) (evs : List Event) where
  abbrev pub reached : List ℕ
  reached = after evs (open_of words places limit scale).words

  -- `dealt_steps` counts the steps given to stations that have an unfinished call: they are the steps that are not refused (Rules 8.4)
  pub dealt_accepted : (s : ℕ) → ((step_of reached s).number ≡ 0) ↔ (is_unfinished (state_at reached s) ≡ true)
  dealt_accepted s = step_accepted words places limit scale e evs s

  -- among more than 8 × places such steps, whatever submissions, takings and refused events fall between them, one answers
  pub somebody : (run : List Event) → Undisturbed reached run → 8 * places < dealt_steps reached run → OneAnswers reached run
  somebody run d l = one_answers reached run (Finishes.somebody words places limit scale e evs run d l)

  -- the same by the greater figure of Rules 8.4
  pub somebody_finishes : (run : List Event) → Undisturbed reached run → 8 * 32 * (16 * places + 64) ≤ dealt_steps reached run → OneAnswers reached run
  somebody_finishes run d l = one_answers reached run (Finishes.somebody_finishes words places limit scale e evs run d l)

  -- where no submission is accepted, at most 8 × (8 × places + 1) steps find a call unfinished: then every call is answered or withdrawn
  pub everybody : (run : List Event) → NobodySubmits reached run → dealt_steps reached run ≤ 8 * (8 * places + 1)
  everybody run f = Everybody.everybody words places limit scale e evs run f

-- ---- steps alone

-- a run of nothing but steps, each for the next of some stations, which has an unfinished call then
abbrev pub EachDealt : List ℕ → List ℕ → Type 0
EachDealt words stations = (before : List ℕ) (s : ℕ) (rest : List ℕ) → before ++ (s ∷ rest) ≡ stations → is_unfinished (state_at (after (map single_step before) words) s) ≡ true

-- all its steps count
each_counts : (words : List ℕ) (stations : List ℕ) → EachDealt words stations → dealt_steps words (map single_step stations) ≡ length stations
unfolding dealt_steps reply after
each_counts words [] f = refl
each_counts words (s ∷ stations) f =
    let rest : EachDealt (step_of words s).words stations = λ before u later q. f (s ∷ before) u later (ap (λ (l : List ℕ). s ∷ l) q) in
    rw (f [] s stations refl) (omega (arith, each_counts (step_of words s).words stations rest))

-- a step disturbs nobody
steps_undisturbed : (words : List ℕ) (stations : List ℕ) → Undisturbed words (map single_step stations)
unfolding reply
steps_undisturbed words [] = tt
steps_undisturbed words (s ∷ stations) = (tt, steps_undisturbed (step_of words s).words stations)

-- Among more than 8 × places steps, each given to a station that has an unfinished call, one answers. By `everybody` no run of steps alone is as long as the greater figure of Rules 8.4.
pub somebody_steps : (words : List ℕ) (places limit : ℕ) (scale : Scale) (e : (open_of words places limit scale).number ≡ 0) (evs : List Event) (stations : List ℕ)
    → EachDealt (reached words places limit scale e evs) stations → 8 * places < length stations → OneAnswers (reached words places limit scale e evs) (map single_step stations)
somebody_steps words places limit scale e evs stations f l =
    let v = reached words places limit scale e evs in
    somebody words places limit scale e evs (map single_step stations) (steps_undisturbed v stations) (omega (arith, each_counts v stations f, l))

-- ---- the premise

-- where no withdrawal falls inside it the run is undisturbed, which asks only that no withdrawal is accepted
pub no_withdrawal : (words : List ℕ) (run : List Event) → ((before : List Event) (s : ℕ) (rest : List Event) → ¬ (before ++ (withdrawal s ∷ rest) ≡ run)) → Undisturbed words run
no_withdrawal words [] n = tt
no_withdrawal words (ev ∷ run) n = (
  none ev (λ s e. n [] s run (ap (λ (x : Event). x ∷ run) (sym e))),
  no_withdrawal (reply word_index words ev).next run (λ b s r q. n (ev ∷ b) s r (ap (λ (es : List Event). ev ∷ es) q)),
)
  where
    none : (ev : Event) → ((s : ℕ) → ¬ (ev ≡ withdrawal s)) → NotWithdrawn words ev
    none (submission s kind p c) f = tt
    none (single_step s) f = tt
    none (taking s) f = tt
    none (withdrawal s) f = absurd (f s refl)
