-- A search that nobody can hold up (`wait_free`): after an accepted nearest of station s, whatever the events that follow, one of its own steps answers
-- before five times their number is more than 9 × places.
use Prim.Native.Nat.{ℕ, ◌+◌, ◌*◌, ◌<◌}
use mathlib.Core.Path.{◌≡◌, refl, sym, subst}
use mathlib.Core.Logic.{inl, inr}
use mathlib.Core.Bool.{Bool, true, false}
use mathlib.Core.List.{List, [], ◌∷◌}
use mathlib.Core.Option.{none}
use native.Mathlib.Omega.{arith}
use native.Mathlib.Decide.{ℕ_discrete}
use borrow.Author.Tests.{ne_eqb, eq-eqb}
use Rattle.words.specs.Layout.{stations}
use Rattle.points.specs.declared.point.Point.{Point}
use Rattle.points.specs.declared.scale.Scale.{Scale}
use Rattle.table.specs.Call.{nearest, call_of}
use Rattle.table.specs.Table.{unfinished}
use Rattle.table.specs.Event.{Event, submission, single_step, taking, withdrawal, enter}
use Rattle.table.specs.History.{reply, answered}
use Rattle.table.proofs.Stations.{put_same}
use Rattle.table.proofs.Taken.{since_enter}
use Rattle.trees.specs.Measure.{step_moves}
use Rattle.trees.proofs.OthersLaws.{left_counted}
use Rattle.calls.specs.Open.{open_of}
use Rattle.calls.specs.Step.{step_of}
use Rattle.calls.specs.Submit.{submit_of}
use Rattle.calls.specs.Withdraw.{withdraw_of}
use Rattle.history.specs.Index.{word_index}
use Rattle.history.specs.After.{after}
use Rattle.history.specs.WaitFree.{most_own_moves, own_steps, OwnAnswered, KeepsCall}
use Rattle.history.proofs.Refused.{withdraw_refused}
use Rattle.history.proofs.RelatedLaws.{related_busy}
use Rattle.history.proofs.Demand2.{eighth, begun_related}
use Rattle.history.proofs.Demand3.{accepted}
use Rattle.history.proofs.Reached.{Stands, event_stands, history_related}
use Rattle.history.proofs.Reseated.{submit_reseats, take_reseats}
use Rattle.history.proofs.Allows.{spent_here, Allows, same_allows, settled_allows, own_allows, other_allows, reseats_allows, withdraw_allows}
use Rattle.history.proofs.MovesLeft.{left_here}

-- ---- the run

-- where five times the steps of station s are more than is allowed, one of them answers
run_answers : (run : List Event) {words : List ℕ} {places limit : ℕ} {scale : Scale} {s n : ℕ} → s < stations → Allows words places limit scale s n → KeepsCall s words run → n < step_moves * own_steps s run
    → OwnAnswered s words run
unfolding own_steps reply
run_answers [] l w d g = absurd (omega arith)
run_answers (submission u kind p c ∷ run) {words} l w d g =
    let a = w.stands in
    let same = submit_reseats words a.table.places a.table.limit a.table.scale a.related.opened u kind p c in
    inr (run_answers run l (reseats_allows l w (event_stands (submission u kind p c) a) u same) d.1 (omega arith))
run_answers (taking u ∷ run) {words} l w d g =
    let a = w.stands in
    let same = take_reseats words a.table.places a.table.limit a.table.scale a.related.opened u in
    inr (run_answers run l (reseats_allows l w (event_stands (taking u) a) u same) d.1 (omega arith))
run_answers (withdrawal u ∷ run) {words} {places} {limit} {scale} {s} {n} l w d g = inr (run_answers run l (go (ℕ_discrete (withdraw_of words u).number 0)) d.1 (omega arith))
  where
    go : Dec ((withdraw_of words u).number ≡ 0) → Allows (withdraw_of words u).words places limit scale s n
    go (no z) = same_allows (withdraw_refused words u z) w
    go (yes z) = let v = settled_allows w in withdraw_allows u l (λ e. d.0 (sym e) z) v.0 v.1 z
run_answers (single_step u ∷ run) {words} {places} {limit} {scale} {s} {n} l w d g = go (λ k v h. run_answers run l v d.1 h) (ℕ_discrete u s) (answered word_index words (single_step u)) refl
  where
    go : ((k : ℕ) → Allows (step_of words u).words places limit scale s k → k < step_moves * own_steps s run → OwnAnswered s (step_of words u).words run)
        → Dec (u ≡ s) → (b : Bool) → answered word_index words (single_step u) ≡ b → OwnAnswered s words (single_step u ∷ run)
    go rest (no e) b a =
        let v = settled_allows w in
        let more : n < step_moves * (0 + own_steps s run) = rw (ne_eqb u s e) at g in
        inr (rest n (other_allows u l (λ z. e (sym z)) v.0 v.1) (omega arith))
    go rest (yes e) true a = inl (e, a)
    go rest (yes e) false a =
        let v = settled_allows w in
        let x = own_allows l v.0 v.1 (subst (λ (y : ℕ). answered word_index words (single_step y) ≡ false) e a) in
        let more : n < step_moves * (1 + own_steps s run) = rw (eq-eqb u s e) at g in
        inr (rest x.0 (subst (λ (z : ℕ). Allows (step_of words z).words places limit scale s x.0) (sym e) x.2) (omega (arith, x.1)))

-- ---- from the submission on

-- at its submission nothing was removed since, and the tour takes four for each record held
begin_allows : {words : List ℕ} {places limit : ℕ} {scale : Scale} {s : ℕ} (p : Point) (c : ℕ) → Stands words places limit scale → (submit_of words s 4 p c).number ≡ 0
    → (s < stations) × Allows (submit_of words s 4 p c).words places limit scale s (most_own_moves places)
unfolding enter call_of
begin_allows {words} {places} {limit} {scale} {s} p c a e =
    let t = a.table in
    let l = eighth words t a.sound a.related s 4 p c e in
    let x = begun_related words t a.sound a.related s 4 p c e in
    let q : (enter t s (nearest p)).stations s ≡ unfinished t.calls (nearest p) none = put_same t.stations s (unfinished t.calls (nearest p) none) in
    let b = related_busy x.1 l q in (
      l,
      record {
        stands = record { table = enter t s (nearest p); sound = x.0; related = x.1; places_same = a.places_same; limit_same = a.limit_same; scale_same = a.scale_same };
        one = b.state;
        four = b.kind;
        few = omega (
          arith,
          left_here x.1 s l b b.works,
          left_counted b.works.search,
          b.works.since,
          since_enter t s (nearest p) a.sound,
          spent_here x.1 s l q,
          x.1.number,
        );
      },
    )

-- After every history a nearest is accepted at a station. Whatever events follow, as long as its call is not withdrawn, one of its own steps answers where
-- five times their number is more than 9 × places.
pub wait_free : (words : List ℕ) (places limit : ℕ) (scale : Scale) → (open_of words places limit scale).number ≡ 0 → (evs : List Event) (s : ℕ) (p : Point) (c : ℕ)
    → (submit_of (after evs (open_of words places limit scale).words) s 4 p c).number ≡ 0 → (run : List Event)
    → KeepsCall s (submit_of (after evs (open_of words places limit scale).words) s 4 p c).words run → most_own_moves places < step_moves * own_steps s run
    → OwnAnswered s (submit_of (after evs (open_of words places limit scale).words) s 4 p c).words run
wait_free words places limit scale e evs s p c f run d g =
    let a = accepted words places limit scale e in
    let v : Stands (after evs (open_of words places limit scale).words) places limit scale = rw a.opens (history_related words places limit scale a evs) in
    let w = begin_allows p c v f in
    run_answers run w.0 w.1 d g
