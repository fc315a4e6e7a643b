-- The numbers of steps after a history (`step_numbers`): 0, 5 or 10. Question 11 is never met (`step_never_11`), and a step is accepted exactly if its
-- station has an unfinished call (`step_accepted`).
use Prim.Native.Nat.{ℕ, zero, suc}
use mathlib.Core.Path.{◌≡◌, refl}
use mathlib.Core.Logic.{◌≢◌, ◌↔◌, ◌⊎◌, inl, inr}
use mathlib.Core.Bool.{Bool, true, false}
use mathlib.Core.List.{List}
use native.Mathlib.Omega.{arith}
use lib.Dec.{ltb}
use Rattle.points.specs.declared.scale.Scale.{Scale}
use Rattle.words.specs.Layout.{stations}
use Rattle.stations.specs.Station.{is_unfinished, state_at}
use Rattle.table.specs.Table.{Station, idle, unfinished, waiting, Table}
use Rattle.table.specs.Event.{Event, single_step}
use Rattle.table.specs.History.{answered}
use Rattle.table.proofs.Eager.{Settled}
use Rattle.table.proofs.Reached.{ask_all}
use Rattle.table.proofs.Simulation.{still_at, still}
use Rattle.calls.specs.Open.{open_of}
use Rattle.calls.specs.Step.{step_of}
use Rattle.history.specs.Index.{word_index}
use Rattle.history.specs.After.{after}
use Rattle.history.specs.Alone.{AnsweredAfter}
use Rattle.history.specs.Related.{Related}
use Rattle.history.proofs.RelatedLaws.{related_passes}
use Rattle.history.proofs.Demand3.{accepted, stills, answers}
use Rattle.history.proofs.Reached.{Stands, settled_stands, history_related}
use Rattle.history.proofs.Solo.{solo_steps}

-- accepted, or refused by question 5 or 10
abbrev pub StepNumber : ℕ → Type 0
StepNumber n = (n ≡ 0) ⊎ ((n ≡ 5) ⊎ (n ≡ 10))

pub not_11 : {n : ℕ} → StepNumber n → ¬ (n ≡ 11)
not_11 (inl q) e = omega arith
not_11 (inr (inl q)) e = omega arith
not_11 (inr (inr q)) e = omega arith

still_number : (t : Table) (s : ℕ) → StepNumber (still t s).number
unfolding still still_at
still_number t s = ask_all (λ r. StepNumber r.number) (ltb s stations) 5 t _ (inr (inl refl)) (λ l. go (t.stations s))
  where
    go : (x : Station) → StepNumber (still_at t x).number
    go idle = inr (inr refl)
    go (waiting a) = inr (inr refl)
    go (unfinished i c o) = inl refl

stands_number : {words : List ℕ} {places limit : ℕ} {scale : Scale} (w : Stands words places limit scale) → Settled w.table → (s : ℕ) → StepNumber (step_of words s).number
stands_number {words} w k s = go (answered word_index words (single_step s)) refl
  where
    go : (b : Bool) → answered word_index words (single_step s) ≡ b → StepNumber (step_of words s).number
    go true e = inl (answers s w.sound k w.related e).matches.number
    go false e = rw (stills s w.sound k w.related e).number (still_number w.table s)

-- After every history a step of any station gets 0, 5 or 10.
pub step_numbers : (words : List ℕ) (places limit : ℕ) (scale : Scale) → (open_of words places limit scale).number ≡ 0 → (evs : List Event) (s : ℕ)
    → StepNumber (step_of (after evs (open_of words places limit scale).words) s).number
step_numbers words places limit scale e evs s =
    let a = accepted words places limit scale e in
    let v = settled_stands (history_related words places limit scale a evs) in
    rw a.opens (stands_number v.0 v.1 s)

-- Rules 7.16: 11 is never met.
pub step_never_11 : (words : List ℕ) (places limit : ℕ) (scale : Scale) → (open_of words places limit scale).number ≡ 0 → (evs : List Event) (s : ℕ)
    → ¬ ((step_of (after evs (open_of words places limit scale).words) s).number ≡ 11)
step_never_11 words places limit scale e evs s = not_11 (step_numbers words places limit scale e evs s)

-- a step of a station without an unfinished call is refused
pub quiet_refused : {words : List ℕ} {t : Table} (s : ℕ) → Related words t → is_unfinished (state_at words s) ≡ false → (step_of words s).number ≢ 0
unfolding step_of
quiet_refused {words} s r u z = go (ltb s stations) refl
  where
    go : (b : Bool) → ltb s stations ≡ b → ⊥
    go true e = let y : ◌≡◌ {A = ℕ} 10 0 = rw (related_passes r, e, u) at z in omega arith
    go false e = let y : ◌≡◌ {A = ℕ} 5 0 = rw (related_passes r, e) at z in omega arith

-- After every history a step is accepted exactly if its station has an unfinished call.
pub step_accepted : (words : List ℕ) (places limit : ℕ) (scale : Scale) → (open_of words places limit scale).number ≡ 0 → (evs : List Event) (s : ℕ)
    → ((step_of (after evs (open_of words places limit scale).words) s).number ≡ 0) ↔ (is_unfinished (state_at (after evs (open_of words places limit scale).words) s) ≡ true)
step_accepted words places limit scale e evs s = (λ z. told (is_unfinished (state_at v s)) refl z, λ u. let w = solo_steps words places limit scale e evs s u in first w.0 w.2)
  where
    v : List ℕ
    v = after evs (open_of words places limit scale).words

    stands : Stands v places limit scale
    stands = let a = accepted words places limit scale e in rw a.opens (history_related words places limit scale a evs)

    told : (b : Bool) → is_unfinished (state_at v s) ≡ b → (step_of v s).number ≡ 0 → b ≡ true
    told true u z = refl
    told false u z = absurd (quiet_refused s stands.related u z)

    first : (n : ℕ) → AnsweredAfter n v s → (step_of v s).number ≡ 0
    first zero a = a.0
    first (suc n) a = a.0
