-- A run after a history (`run_answers`): it is accepted, and the station's answer waits.
use Rattle.std.specs.Prelude.{Option, None, Some}
use Prim.Native.Nat.{ℕ, zero, suc, ◌+◌, ◌*◌, ◌<◌}
use mathlib.Core.Path.{◌≡◌, refl, ◌∙◌, ap}
use mathlib.Core.Bool.{Bool, true, false}
use mathlib.Core.List.{List}
use native.Mathlib.Omega.{arith}
use lib.Dec.{ltb}
use Rattle.points.specs.declared.scale.Scale.{Scale}
use Rattle.words.specs.Layout.{stations}
use Rattle.stations.specs.Common.{opened_in, is_opened}
use Rattle.stations.specs.Station.{is_unfinished, state_at}
use Rattle.stations.specs.Answer.{waiting_at}
use Rattle.table.specs.Table.{Table}
use Rattle.table.specs.Event.{Event}
use Rattle.calls.specs.Reply.{Reply, done}
use Rattle.calls.specs.Open.{open_of}
use Rattle.calls.specs.Step.{step_of}
use Rattle.calls.specs.Take.{take_of}
use Rattle.calls.specs.Run.{is_given, goes_on, run_for, most_steps, run_of}
use Rattle.history.specs.Related.{Related}
use Rattle.history.specs.After.{after, Answered}
use Rattle.history.specs.Alone.{stepped, AnsweredAfter}
use Rattle.history.proofs.RelatedLaws.{related_passes, word_places}
use Rattle.history.proofs.Demand3.{accepted}
use Rattle.history.proofs.Reached.{Stands, history_related}
use Rattle.history.proofs.Solo.{solo_steps}
use Rattle.stations.specs.declared.answer.Answer.{Answer}

-- ---- whether an answer waits

-- questions 4 and 5 pass
pub record Passes (words : List ℕ) (s : ℕ) : Type 0 where
  pub opened : is_opened (opened_in words) ≡ true
  pub station : ltb s stations ≡ true

step_passes : (words : List ℕ) (s : ℕ) → (step_of words s).number ≡ 0 → Passes words s
unfolding step_of
step_passes words s e = go (is_opened (opened_in words)) refl (ltb s stations) refl
  where
    go : (a : Bool) → is_opened (opened_in words) ≡ a → (b : Bool) → ltb s stations ≡ b → Passes words s
    go true p true q = record { opened = p; station = q }
    go false p b q = let z : ◌≡◌ {A = ℕ} 4 0 = rw p at e in absurd (omega arith)
    go true p false q = let z : ◌≡◌ {A = ℕ} 5 0 = rw (p, q) at e in absurd (omega arith)

-- a taking is accepted exactly if an answer waits
answered_given : (words : List ℕ) (s : ℕ) → Answered words s → is_given (waiting_at words s) ≡ true
unfolding take_of
answered_given words s e = go (is_opened (opened_in words)) refl (ltb s stations) refl (waiting_at words s) refl
  where
    go : (a : Bool) → is_opened (opened_in words) ≡ a → (b : Bool) → ltb s stations ≡ b → (x : Option Answer) → waiting_at words s ≡ x → is_given x ≡ true
    go true p true q (Some a) f = refl
    go true p true q None f = let z : ◌≡◌ {A = ℕ} 12 0 = rw (p, q, f) at e in absurd (omega arith)
    go true p false q x f = let z : ◌≡◌ {A = ℕ} 5 0 = rw (p, q) at e in absurd (omega arith)
    go false p b q x f = let z : ◌≡◌ {A = ℕ} 4 0 = rw p at e in absurd (omega arith)

not_given : (words : List ℕ) (s : ℕ) → Passes words s → ¬ Answered words s → is_given (waiting_at words s) ≡ false
unfolding take_of
not_given words s w n = go (waiting_at words s) refl
  where
    go : (x : Option Answer) → waiting_at words s ≡ x → is_given x ≡ false
    go None f = refl
    go (Some a) f = absurd (n (rw (w.opened, w.station, f)))

-- ---- the steps of a run

after_passes : (n : ℕ) (words : List ℕ) (s : ℕ) → AnsweredAfter n words s → Passes words s
after_passes zero words s w = step_passes words s w.0
after_passes (suc n) words s w = step_passes words s w.0

-- an accepted reply
accepted_reply : (r : Reply) → r.number ≡ 0 → r ≡ done r.words
accepted_reply r e = λ i. record { number = e i; words = r.words }

-- a step after which the run goes on, and one that ends it
module _ (most : ℕ) (words : List ℕ) (s : ℕ) where
  run_goes : goes_on s (step_of words s) ≡ true → run_for (suc most) words s ≡ run_for most (step_of words s).words s
  unfolding run_for
  run_goes e = rw (e, run_for)

  run_ends : goes_on s (step_of words s) ≡ false → run_for (suc most) words s ≡ step_of words s
  unfolding run_for
  run_ends e = rw (e, run_for)

run_for_lem : (most n : ℕ) → n < most → (words : List ℕ) (s : ℕ) → AnsweredAfter n words s → run_for most words s ≡ done (stepped (suc n) words s)
unfolding stepped
run_for_lem zero n l words s w = absurd (omega arith)
run_for_lem (suc most) zero l words s w = run_ends most words s (rw (w.0, answered_given (step_of words s).words s w.1)) ∙ accepted_reply (step_of words s) w.0
run_for_lem (suc most) (suc n) l words s w =
    let next : List ℕ = (step_of words s).words in
    run_goes most words s (rw (w.0, not_given next s (after_passes n next s w.2) w.1)) ∙ run_for_lem most n (omega arith) next s w.2

-- the answer waits after them
after_answered : (n : ℕ) (words : List ℕ) (s : ℕ) → AnsweredAfter n words s → Answered (stepped (suc n) words s) s
unfolding stepped
after_answered zero words s w = w.1
after_answered (suc n) words s w = after_answered n (step_of words s).words s w.2

-- ---- the theorem

-- a run that has steps enough
pub run_related : {words : List ℕ} {t : Table} (s n : ℕ) → Related words t → n < 16 * t.places + 64 → AnsweredAfter n words s → run_of words s ≡ done (stepped (suc n) words s)
unfolding run_of most_steps
run_related {words} {t} s n r l w = rw (related_passes r, word_places r) (run_for_lem (16 * t.places + 64) n l words s w)

-- a run that ends with the answer waiting
pub record RunAnswers (words : List ℕ) (s : ℕ) : Type 0 where
  pub number : (run_of words s).number ≡ 0
  pub answered : Answered (run_of words s).words s

-- After every history a run of a station with an unfinished call is accepted and leaves it answered.
pub run_answers : (words : List ℕ) (places limit : ℕ) (scale : Scale) → (open_of words places limit scale).number ≡ 0 → (evs : List Event) (s : ℕ)
    → is_unfinished (state_at (after evs (open_of words places limit scale).words) s) ≡ true → RunAnswers (after evs (open_of words places limit scale).words) s
run_answers words places limit scale e evs s u =
    let a = accepted words places limit scale e in
    let v = after evs (open_of words places limit scale).words in
    let st : Stands v places limit scale = rw a.opens (history_related words places limit scale a evs) in
    let w = solo_steps words places limit scale e evs s u in
    let r : run_of v s ≡ done (stepped (suc w.0) v s) = run_related s w.0 st.related (omega (arith, w.1, st.places_same)) w.2 in
    record { number = ap (λ (x : Reply). x.number) r; answered = rw r (after_answered w.0 v s w.2) }
