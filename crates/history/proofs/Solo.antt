-- Solo (`solo`, Rules 8.3): after every history a station with an unfinished call, stepped while the others stand still, is answered within 16 × places + 64 steps.
use Prim.Native.Nat.{ℕ, zero, suc, ◌+◌, ◌*◌, ◌≤◌, ◌<◌}
use mathlib.Core.Path.{◌≡◌, refl, sym, ◌∙◌}
use mathlib.Core.Logic.{inl, inr}
use mathlib.Core.Bool.{Bool, true, false, true≢false}
use mathlib.Core.List.{List}
use native.Mathlib.Omega.{arith}
use native.Mathlib.Decide.{dec_lt}
use Rattle.points.specs.declared.scale.Scale.{Scale}
use Rattle.words.specs.Layout.{stations}
use Rattle.stations.specs.Station.{has_station, is_unfinished, state_at}
use Rattle.stations.proofs.StationLaws.{there_tells}
use Rattle.stations.proofs.AbsentLaws.{state_at_absent}
use Rattle.table.specs.Table.{Station, idle, unfinished, waiting, Table}
use Rattle.table.specs.Event.{Event}
use Rattle.calls.specs.Open.{open_of}
use Rattle.calls.specs.Step.{step_of}
use Rattle.history.specs.After.{after, AnsweredWithin}
use Rattle.history.specs.Alone.{AnsweredAfter}
use Rattle.history.proofs.StepOutcome.{most_left}
use Rattle.history.proofs.Stepped.{stepped_ends}
use Rattle.history.proofs.Demand3.{accepted, quiet_state}
use Rattle.history.proofs.Reached.{Stands, settled_stands, history_related}
use Rattle.trees.specs.Measure.{step_moves}

-- more steps are enough too
pub within_more : (n m : ℕ) (words : List ℕ) (s : ℕ) → n ≤ m → AnsweredWithin n words s → AnsweredWithin m words s
within_more zero m words s l w = absurd w
within_more (suc n) zero words s l w = absurd (omega arith)
within_more (suc n) (suc m) words s l w =
    (w.0, elim w.1 [ inl a ↦ inl a | inr v ↦ inr (within_more n m (step_of words s).words s (omega arith) v) ])

-- n steps that do not answer and one that does
after_within : (n : ℕ) (words : List ℕ) (s : ℕ) → AnsweredAfter n words s → AnsweredWithin (suc n) words s
after_within zero words s w = (w.0, inl w.1)
after_within (suc n) words s w = (w.0, inr (after_within n (step_of words s).words s w.2))

-- a station that is not one of the eight has no state
pub outside_state : (words : List ℕ) (s : ℕ) → stations ≤ s → is_unfinished (state_at words s) ≡ false
outside_state words s g = rw (state_at_absent words s (go (has_station words s) refl))
  where
    go : (b : Bool) → has_station words s ≡ b → has_station words s ≡ false
    go true e = absurd (omega (arith, (there_tells words s e).station))
    go false e = e

-- the number of steps that do not answer
abbrev pub AnsweredBelow : ℕ → List ℕ → ℕ → Type 0
AnsweredBelow most words s = (n : ℕ) × (n < most) × AnsweredAfter n words s

-- a station with an unfinished call, after a history
solo_stands : {words : List ℕ} {places limit : ℕ} {scale : Scale} (w : Stands words places limit scale) (s : ℕ) → is_unfinished (state_at words s) ≡ true → AnsweredBelow (16 * places + 64) words s
solo_stands {words} {places} {limit} {scale} w s u = go (dec_lt s stations)
  where
    v : Stands words places limit scale
    v = (settled_stands w).0

    t : Table
    t = v.table

    by_station : s < stations → (x : Station) → t.stations s ≡ x → AnsweredBelow (16 * places + 64) words s
    by_station l idle q = absurd (true≢false (sym u ∙ quiet_state s l idle q tt v.related))
    by_station l (waiting a) q = absurd (true≢false (sym u ∙ quiet_state s l (waiting a) q tt v.related))
    by_station l (unfinished i c o) q =
        let w = stepped_ends t s i c o v.sound (settled_stands w).1 l q words (step_moves * t.places) (most_left s i c o v.sound l q v.related) in
        (w.before, omega (arith, w.few, v.places_same), w.answered)

    go : Dec (s < stations) → AnsweredBelow (16 * places + 64) words s
    go (yes l) = by_station l (t.stations s) refl
    go (no g) = absurd (true≢false (sym u ∙ outside_state words s (omega arith)))

-- the number of steps, and that none of them is refused
pub solo_steps : (words : List ℕ) (places limit : ℕ) (scale : Scale) → (open_of words places limit scale).number ≡ 0 → (evs : List Event) (s : ℕ)
    → is_unfinished (state_at (after evs (open_of words places limit scale).words) s) ≡ true → AnsweredBelow (16 * places + 64) (after evs (open_of words places limit scale).words) s
solo_steps words places limit scale e evs s =
    let a = accepted words places limit scale e in
    rw a.opens (solo_stands (history_related words places limit scale a evs) s)

-- After every history.
pub solo : (words : List ℕ) (places limit : ℕ) (scale : Scale) → (open_of words places limit scale).number ≡ 0 → (evs : List Event) (s : ℕ)
    → is_unfinished (state_at (after evs (open_of words places limit scale).words) s) ≡ true → AnsweredWithin (16 * places + 64) (after evs (open_of words places limit scale).words) s
solo words places limit scale e evs s u =
    let w = solo_steps words places limit scale e evs s u in
    let v = after evs (open_of words places limit scale).words in
    within_more (suc w.0) (16 * places + 64) v s w.1 (after_within w.0 v s w.2)
