-- The factors of an opening hold until the next opening: neither a moment nor an event changes the scale of the table (`feed_scale`), so every table
-- that a history reaches has that of its opening (`reached_scale`, `ends_scale`).
use mathlib.Core.Path.{◌≡◌, refl, sym, ◌∙◌, ap}
use mathlib.Core.Bool.{Bool, true, false}
use mathlib.Core.Option.{some}
use mathlib.Core.List.{List, [], ◌∷◌}
use Prim.Native.Nat.{ℕ}
use Rattle.points.specs.declared.scale.Scale.{Scale}
use Rattle.table.specs.Call.{Call, add, remove, contains, nearest, is_change}
use Rattle.table.specs.Table.{Table, opened, answer_of, changed, changed_if}
use Rattle.table.specs.Event.{Event, Reply, enter, set_down, perform, moments, feed}
use Rattle.table.specs.History.{Index, reply, answered, Ends}
use Rattle.table.proofs.Moments.{Moment, moments_keep, feed_inv}
use Rattle.table.proofs.Reached.{perform_keeps, Reached, first, later}

-- ## Moments

changed_scale : (b : Bool) (t : Table) (s : ℕ) (c : Call) → (changed_if b t s c).scale ≡ t.scale
unfolding changed_if changed
changed_scale false t s c = refl
changed_scale true t s (add p v) = refl
changed_scale true t s (remove p) = refl
changed_scale true t s (contains p) = refl
changed_scale true t s (nearest p) = refl

pub moment_scale : (ev : Event) (t u : Table) (s : ℕ) → Moment ev t s u → u.scale ≡ t.scale
unfolding set_down
moment_scale ev t u s m = ap (λ (x : Table). x.scale) (sym m.is) ∙ changed_scale (is_change (answer_of t s m.call)) t s m.call

pub moments_scale : (ev : Event) (ms : List ℕ) (t u : Table) → moments ev t ms ≡ some u → u.scale ≡ t.scale
moments_scale ev ms t u e = moments_keep ev (λ x. x.scale ≡ t.scale) (λ x y s h m. moment_scale ev x y s m ∙ h) ms t u e refl

-- ## Events

pub perform_scale : (t : Table) (ev : Event) (answers : Bool) (r : Reply Table) → perform t ev answers ≡ some r → r.next.scale ≡ t.scale
unfolding enter
perform_scale t = perform_keeps (λ x. x.scale) t (λ f. refl) (λ s c. refl)

pub feed_scale : (t : Table) (ms : List ℕ) (ev : Event) (answers : Bool) (r : Reply Table) → feed t ms ev answers ≡ some r → r.next.scale ≡ t.scale
feed_scale t ms ev answers r e =
    let w = feed_inv t ms ev answers r e in
    perform_scale w.0 ev answers r w.2 ∙ moments_scale ev ms t w.0 w.1

-- ## Histories

pub opened_scale : (places limit : ℕ) (scale : Scale) → (opened places limit scale).scale ≡ scale
unfolding opened
opened_scale places limit scale = refl

-- Every table that a history reaches has the factors of the opening.
pub reached_scale : {places limit : ℕ} {scale : Scale} {t : Table} → Reached places limit scale t → t.scale ≡ scale
reached_scale {places} {limit} {scale} first = opened_scale places limit scale
reached_scale (later {t = t} h ms ev answers r e q) = ap (λ (x : Table). x.scale) (sym q) ∙ feed_scale t ms ev answers r e ∙ reached_scale h

-- The table at the end of a history has the factors of the one at its beginning.
pub ends_scale : (I : Index) (evs : List Event) (mss : List (List ℕ)) (st : I.State) (t u : Table) → Ends I st t evs mss u → u.scale ≡ t.scale
ends_scale I [] [] st t u h = ap (λ (x : Table). x.scale) (sym h)
ends_scale I [] (ms ∷ mss) st t u h = absurd h
ends_scale I (ev ∷ evs) [] st t u h = absurd h
ends_scale I (ev ∷ evs) (ms ∷ mss) st t u h =
    ends_scale I evs mss (reply I st ev).next h.0.next u h.2 ∙ feed_scale t ms ev (answered I st ev) h.0 h.1
