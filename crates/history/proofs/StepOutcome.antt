-- A step of an unfinished call after a history (`step_outcome`): it is never refused, and it goes on with less left or ends as the table says.
use Prim.Native.Nat.{ℕ, ◌*◌, ◌<◌}
use mathlib.Core.Path.{◌≡◌, refl, sym, ap, ◌∙◌}
use mathlib.Core.Bool.{true, false, true≢false}
use mathlib.Core.List.{List}
use mathlib.Core.Option.{Option, none, some}
use native.Mathlib.Omega.{arith}
use borrow.Author.Tests.{eq-eqb, ne_eqb}
use Rattle.words.specs.Layout.{stations}
use Rattle.stations.specs.Call.{call_at}
use Rattle.table.specs.Call.{Call, add, remove, contains, nearest, is_search, Answer}
use Rattle.table.specs.Table.{unfinished, Table}
use Rattle.table.proofs.Sound.{Sound}
use Rattle.table.proofs.Eager.{Settled, unsettled}
use Rattle.table.proofs.Taken.{search_places}
use Rattle.calls.specs.Step.{work_of, step_of}
use Rattle.calls.specs.Walk.{walk_of}
use Rattle.calls.specs.Search.{search_of}
use Rattle.history.specs.View.{seat_at}
use Rattle.history.specs.Related.{Related, Busy}
use Rattle.trees.specs.Route.{stands_at}
use Rattle.trees.proofs.MeasureLaws.{walk_bound}
use Rattle.trees.specs.Measure.{step_moves}
use Rattle.trees.proofs.OthersLaws.{left_counted}
use Rattle.history.proofs.Outcome.{LeftSays, Left, Outcome}
use Rattle.history.proofs.StepReply.{step_work}
use Rattle.history.proofs.StepSearch.{search_outcome}
use Rattle.history.proofs.StepWalk.{walk_outcome}
use Rattle.history.proofs.Readings.{nearest_search}

-- a settled table has an answer set down for an unfinished nearest
settled_set : (t : Table) (s i : ℕ) (c : Call) → Settled t → s < stations → t.stations s ≡ unfinished i c none → is_search c ≡ true → ⊥
unfolding unsettled
settled_set t s i c k l q e = true≢false (sym e ∙ sym (ap unsettled q) ∙ k s l)

-- the seat of a station with an unfinished call
pub busy : {words : List ℕ} {t : Table} (s i : ℕ) (c : Call) (o : Option Answer) → s < stations → t.stations s ≡ unfinished i c o → (r : Related words t)
    → Busy t r.tree r.queue (seat_at words s) i c o
busy s i c o l q r = rw q at (r.seats s l)

-- the work of a nearest is a search, that of any other call a walk
module _ (words : List ℕ) (rows s : ℕ) where
  work_search : (call_at words s).kind ≡ 4 → work_of words rows s (call_at words s) ≡ search_of words rows s (call_at words s)
  work_search e = rw (eq-eqb (call_at words s).kind 4 e)

  work_walk : ¬ ((call_at words s).kind ≡ 4) → work_of words rows s (call_at words s) ≡ walk_of words rows s (call_at words s)
  work_walk n = rw (ne_eqb (call_at words s).kind 4 n)

-- an add, a remove or a contains
walks : {words : List ℕ} {t : Table} (s i m : ℕ) (c : Call) (o : Option Answer) → Sound t → Settled t → s < stations → t.stations s ≡ unfinished i c o → is_search c ≡ false → o ≡ none
    → ¬ ((call_at words s).kind ≡ 4) → (r : Left words t s m) → Outcome r.related s c o m (step_of words s)
walks {words} {t} s i m c o h k l q e u n r =
    let p : t.stations s ≡ unfinished i c none = q ∙ ap (unfinished i c) u in
    rw (u, step_work h l q r.related, work_walk words (2 * t.places) s n) (walk_outcome h k l p e r)

-- a step of an unfinished call goes on with less left, or ends; it is never refused
pub step_outcome : {words : List ℕ} {t : Table} (s i m : ℕ) (c : Call) (o : Option Answer) → Sound t → Settled t → s < stations → t.stations s ≡ unfinished i c o → (r : Left words t s m)
    → Outcome r.related s c o m (step_of words s)
unfolding is_search seat_at
step_outcome {words} {t} s i m (add p d) o h k l q r =
    let b = busy s i (add p d) o l q r.related in
    walks s i m (add p d) o h k l q refl b.works.unset (λ e. let z = b.kind in omega arith) r
step_outcome {words} {t} s i m (remove p) o h k l q r =
    let b = busy s i (remove p) o l q r.related in
    walks s i m (remove p) o h k l q refl b.works.unset (λ e. let z = b.kind in omega arith) r
step_outcome {words} {t} s i m (contains p) o h k l q r =
    let b = busy s i (contains p) o l q r.related in
    walks s i m (contains p) o h k l q refl b.works.unset (λ e. let z = b.kind in omega arith) r
step_outcome {words} {t} s i m (nearest p) none h k l q r = absurd (settled_set t s i (nearest p) k l q refl)
step_outcome {words} {t} s i m (nearest p) (some a) h k l q r =
    let b = busy s i (nearest p) (some a) l q r.related in
    rw (step_work h l q r.related, work_search words (2 * t.places) s b.kind) (search_outcome h l q r)

-- never more is left than one step takes for each place
pub left_most : {words : List ℕ} {t : Table} (s i : ℕ) (c : Call) (o : Option Answer) → Sound t → s < stations → t.stations s ≡ unfinished i c o → (r : Related words t)
    → LeftSays t r.tree r.queue (seat_at words s) (unfinished i c o) (step_moves * t.places)
left_most {words} s i (add p d) o h l q r = omega (arith, walk_bound r.tree (stands_at r.tree (seat_at words s).track.cursor) r.store)
left_most {words} s i (remove p) o h l q r = omega (arith, walk_bound r.tree (stands_at r.tree (seat_at words s).track.cursor) r.store)
left_most {words} s i (contains p) o h l q r = omega (arith, walk_bound r.tree (stands_at r.tree (seat_at words s).track.cursor) r.store)
left_most {words} {t} s i (nearest p) o h l q r =
    let b = busy s i (nearest p) o l q r in
    (b.works, omega (arith, left_counted b.works.search, b.works.since, r.number, search_places t h s i (nearest p) o l q (nearest_search p)))

pub most_left : {words : List ℕ} {t : Table} (s i : ℕ) (c : Call) (o : Option Answer) → Sound t → s < stations → t.stations s ≡ unfinished i c o → Related words t
    → Left words t s (step_moves * t.places)
most_left s i c o h l q r = record { related = r; left = rw q (left_most s i c o h l q r) }
