-- What the eager moments leave: the first moments settle the table (`settled`), keep what one of them keeps (`settle_keeps`), and neither they nor
-- the events make a call unfinished but a submission (`submit_busy`, `take_busy`, `still_next`, `answer_busy`).
use mathlib.Core.Path.{◌≡◌, refl, sym, ◌∙◌, ap}
use mathlib.Core.Logic.{◌⊎◌, inl, inr}
use mathlib.Core.Bool.{Bool, true, false, false≢true}
use mathlib.Core.Option.{Option, none, some, none-ne-some, some-injective}
use mathlib.Core.List.{List, [], ◌∷◌}
use Prim.Native.Nat.{ℕ, ◌<◌}
use native.Mathlib.Omega.{arith}
use native.Mathlib.Decide.{ℕ_discrete}
use lib.Dec.{ltb}
use Rattle.points.specs.declared.point.Point.{Point}
use Rattle.points.specs.Number.{in_range_by}
use Rattle.table.specs.Call.{Call, call_of, kind_in_range, is_search, Answer, withdrawn_answer}
use Rattle.table.specs.Table.{Station, idle, unfinished, waiting, Table, busy, eight, put, with_stations, answer_of}
use Rattle.table.specs.Event.{Event, single_step, Reply, accept, is_idle, curve_fits, enter, submit, set_down, step_at, step, take_at, take, perform, moments, feed}
use Rattle.table.proofs.Stations.{put_cases, put_same, Each, each_mem, each_eight, eight_mem}
use Rattle.table.proofs.Moments.{set_same, set_cases, Moment, moments_keep, moment_own, moment_other, feed_inv}
use Rattle.table.proofs.Reached.{ask_all}
use Rattle.table.proofs.Trim.{forget, not_refused}
use Rattle.table.proofs.Retract.{retract, retract_all}
use Rattle.table.proofs.Eager.{unsettled, Settled, settle_one, settle, Unsettled, unsettled_cases}

-- ## The first moments

-- station u after a first moment of station s: as it was, or its own call with its answer set down
abbrev AfterFirst : Table → ℕ → ℕ → Type 0
AfterFirst t s u = ((settle_one t s).stations u ≡ t.stations u)
    ⊎ ((i : ℕ) × (c : Call) × (a : Answer) × ((settle_one t s).stations u ≡ unfinished i c (some a)) × (t.stations u ≡ unfinished i c none))

after_first : (t : Table) (s u : ℕ) → AfterFirst t s u
after_first t s u = elim (unsettled_cases t s) [ inl v ↦ inl (ap (λ (x : Table). x.stations u) v.1) | inr w ↦ go w ]
  where
    go : Unsettled t s → AfterFirst t s u
    go w =
        let a : Answer = answer_of t s w.call in
        let e : (settle_one t s).stations u ≡ (set_down t s w.identity w.call a).stations u = ap (λ (y : Table). y.stations u) w.settles in
        elim (set_cases t s w.identity u w.call a) [
          | inl x ↦ inr (w.identity, w.call, a, e ∙ x.1, ap t.stations x.0 ∙ w.is)
          | inr x ↦ inl (e ∙ x.1)
        ]

one_busy : (t : Table) (s u : ℕ) → busy ((settle_one t s).stations u) ≡ busy (t.stations u)
unfolding busy
one_busy t s u = elim (after_first t s u) [ inl e ↦ ap busy e | inr w ↦ rw (w.3, w.4, busy) ]

pub settle_busy : (ss : List ℕ) (t : Table) (u : ℕ) → busy ((settle ss t).stations u) ≡ busy (t.stations u)
unfolding settle
settle_busy [] t u = refl
settle_busy (s ∷ ss) t u = settle_busy ss (settle_one t s) u ∙ one_busy t s u

stays_settled : (t : Table) (s u : ℕ) → unsettled (t.stations u) ≡ false → unsettled ((settle_one t s).stations u) ≡ false
unfolding unsettled
stays_settled t s u e = elim (after_first t s u) [ inl q ↦ ap unsettled q ∙ e | inr w ↦ rw (w.3, unsettled) ]

all_settled : (ss : List ℕ) (t : Table) (u : ℕ) → unsettled (t.stations u) ≡ false → unsettled ((settle ss t).stations u) ≡ false
unfolding settle
all_settled [] t u e = e
all_settled (s ∷ ss) t u e = all_settled ss (settle_one t s) u (stays_settled t s u e)

one_settled : (t : Table) (s : ℕ) → unsettled ((settle_one t s).stations s) ≡ false
unfolding unsettled
one_settled t s = elim (unsettled_cases t s) [
  | inl v ↦ rw v.1 v.0
  | inr w ↦ ap unsettled (ap (λ (x : Table). x.stations s) w.settles ∙ set_same t s w.identity w.call (answer_of t s w.call))
]

settled_each : (ss : List ℕ) (t : Table) → Each (λ s. unsettled ((settle ss t).stations s) ≡ false) ss
unfolding settle
settled_each [] t = tt
settled_each (s ∷ ss) t = (all_settled ss (settle_one t s) s (one_settled t s), settled_each ss (settle_one t s))

-- the first moments settle the table
pub settled : (t : Table) → Settled (settle eight t)
settled t u l = each_mem (λ s. unsettled ((settle eight t).stations s) ≡ false) eight (settled_each eight t) u (eight_mem u l)

keeps : (P : Table → Type 0)
    → ((t : Table) (s i : ℕ) (c : Call) → s < 8 → is_search c ≡ true → t.stations s ≡ unfinished i c none → P t → P (set_down t s i c (answer_of t s c)))
    → (ss : List ℕ) → Each (λ s. s < 8) ss → (t : Table) → P t → P (settle ss t)
unfolding settle
keeps P g [] l t h = h
keeps P g (s ∷ ss) l t h = keeps P g ss l.1 (settle_one t s) (elim (unsettled_cases t s) [
  | inl v ↦ rw v.1 h
  | inr w ↦ rw w.settles (g t s w.identity w.call l.0 w.search w.is h)
])

-- what holds of a table holds of the settled one, if a first moment keeps it
pub settle_keeps : (P : Table → Type 0)
    → ((t : Table) (s i : ℕ) (c : Call) → s < 8 → is_search c ≡ true → t.stations s ≡ unfinished i c none → P t → P (set_down t s i c (answer_of t s c)))
    → (t : Table) → P t → P (settle eight t)
settle_keeps P g = keeps P g eight each_eight

-- a station with no unsettled search stays as it is
pub settle_stays : (t : Table) (u : ℕ) → unsettled (t.stations u) ≡ false → (settle eight t).stations u ≡ t.stations u
unfolding unsettled
settle_stays t u f = settle_keeps (λ v. v.stations u ≡ t.stations u) stays t refl
  where
    stays : (v : Table) (s i : ℕ) (c : Call) → s < 8 → is_search c ≡ true → v.stations s ≡ unfinished i c none → v.stations u ≡ t.stations u
        → (set_down v s i c (answer_of v s c)).stations u ≡ t.stations u
    stays v s i c l g e h = elim (set_cases v s i u c (answer_of v s c)) [
      | inl w ↦ absurd (false≢true (sym f ∙ ap unsettled (sym h ∙ ap v.stations w.0 ∙ e) ∙ g))
      | inr w ↦ w.1 ∙ h
    ]

-- ## What an event leaves of the unfinished calls

pub forget_end : (x : Station) (i : ℕ) (c : Call) (o : Option Answer) → forget x ≡ unfinished i c o → (o ≡ none) × (busy x ≡ true)
unfolding forget busy
forget_end idle i c o e = absurd (false≢true (ap busy e))
forget_end (waiting a) i c o e = absurd (false≢true (ap busy e))
forget_end (unfinished j d q) i c o e = (cc, refl)

pub submit_busy : (t : Table) (s kind : ℕ) (p : Point) (c u : ℕ)
    → (busy ((submit t s kind p c).next.stations u) ≡ busy (t.stations u)) ⊎ ((u ≡ s) × ((submit t s kind p c).number ≡ 0))
unfolding submit enter
submit_busy t s kind p c u =
    ask_all P (ltb s 8) 5 t _ (inl refl) (λ l. ask_all P (is_idle (t.stations s)) 6 t _ (inl refl) (λ l. ask_all P (kind_in_range kind) 7 t _ (inl refl)
    (λ l. ask_all P (in_range_by t.scale.rule p) 8 t _ (inl refl) (λ l. ask_all P (curve_fits kind c) 9 t _ (inl refl) (λ l. last)))))
  where
    P : Reply Table → Type 0
    P r = (busy (r.next.stations u) ≡ busy (t.stations u)) ⊎ ((u ≡ s) × (r.number ≡ 0))

    last : P (accept (enter t s (call_of kind p c)))
    last = elim (put_cases t.stations s u (unfinished t.calls (call_of kind p c) none)) [ inl w ↦ inr (w.0, refl) | inr w ↦ inl (ap busy w.1) ]

pub take_busy : (t : Table) (s u : ℕ) → busy ((take t s).next.stations u) ≡ true → busy (t.stations u) ≡ true
unfolding take take_at busy
take_busy t s u = ask_all (λ r. busy (r.next.stations u) ≡ true → busy (t.stations u) ≡ true) (ltb s 8) 5 t _ (λ e. e) (λ l. go (t.stations s))
  where
    go : (x : Station) → busy ((take_at t s x).next.stations u) ≡ true → busy (t.stations u) ≡ true
    go idle e = e
    go (unfinished i c o) e = e
    go (waiting a) e = elim (put_cases t.stations s u idle) [ inl w ↦ absurd (false≢true (sym (ap busy w.1) ∙ e)) | inr w ↦ sym (ap busy w.1) ∙ e ]

pub retract_busy : (t : Table) (s u : ℕ) → busy ((retract t s).next.stations u) ≡ true → busy (t.stations u) ≡ true
unfolding busy
retract_busy t s u = retract_all (λ r. busy (r.next.stations u) ≡ true → busy (t.stations u) ≡ true) t s (λ e. e) (λ e. e) (λ l i c o q e.
    elim (put_cases t.stations s u (waiting (withdrawn_answer c))) [ inl w ↦ absurd (false≢true (sym (ap busy w.1) ∙ e)) | inr w ↦ sym (ap busy w.1) ∙ e ])

-- a call that is withdrawn was unfinished, and no longer is
pub retract_ends : (t : Table) (s : ℕ) → (retract t s).number ≡ 0 → (s < 8) × (busy (t.stations s) ≡ true) × (busy ((retract t s).next.stations s) ≡ false)
unfolding busy
retract_ends t s = retract_all (λ r. r.number ≡ 0 → (s < 8) × (busy (t.stations s) ≡ true) × (busy (r.next.stations s) ≡ false)) t s
    (λ z. absurd (omega arith)) (λ z. absurd (omega arith)) (λ l i c o e z. (l, ap busy e, ap busy (put_same t.stations s (waiting (withdrawn_answer c)))))

pub still_next : (t : Table) (s : ℕ) (r : Reply Table) → step t s false ≡ some r → r.next ≡ t
unfolding step step_at
still_next t s r = go (ltb s 8) (t.stations s)
  where
    go : (b : Bool) (x : Station) → step_at t s b false x ≡ some r → r.next ≡ t
    go false x e = ap (λ (x : Reply Table). x.next) (sym (some-injective _ _ e))
    go true idle e = ap (λ (x : Reply Table). x.next) (sym (some-injective _ _ e))
    go true (waiting a) e = ap (λ (x : Reply Table). x.next) (sym (some-injective _ _ e))
    go true (unfinished i c o) e = ap (λ (x : Reply Table). x.next) (sym (some-injective _ _ e))

-- a step that answers: the answer was set down and waits
pub answer_next : (t : Table) (s : ℕ) (r : Reply Table) → step t s true ≡ some r → r.number ≡ 0
    → (i : ℕ) × (c : Call) × (a : Answer) × (t.stations s ≡ unfinished i c (some a)) × (r.next ≡ with_stations t (put t.stations s (waiting a)))
unfolding step step_at
answer_next t s r = go (ltb s 8) (t.stations s) refl
  where
    go : (b : Bool) (x : Station) → t.stations s ≡ x → step_at t s b true x ≡ some r → r.number ≡ 0
        → (i : ℕ) × (c : Call) × (a : Answer) × (t.stations s ≡ unfinished i c (some a)) × (r.next ≡ with_stations t (put t.stations s (waiting a)))
    go false x q e z = absurd (not_refused 4 t r e z)
    go true idle q e z = absurd (not_refused 9 t r e z)
    go true (waiting a) q e z = absurd (not_refused 9 t r e z)
    go true (unfinished i c none) q e z = absurd (none-ne-some r e)
    go true (unfinished i c (some a)) q e z = (i, c, a, q, ap (λ (x : Reply Table). x.next) (sym (some-injective _ _ e)))

-- a moment leaves every call as it was, finished or not
pub moment_busy : (ev : Event) (t u : Table) (s v : ℕ) → Moment ev t s u → busy (u.stations v) ≡ busy (t.stations v)
unfolding busy
moment_busy ev t u s v m = elim (ℕ_discrete v s) [
  | yes e ↦ ap busy (ap u.stations e ∙ moment_own ev t u s m) ∙ sym (ap busy (ap t.stations e ∙ m.pending))
  | no n ↦ ap busy (moment_other ev t u s v m n)
]

pub moments_busy : (ev : Event) (ms : List ℕ) (t u : Table) (v : ℕ) → moments ev t ms ≡ some u → busy (u.stations v) ≡ busy (t.stations v)
moments_busy ev ms t u v e = moments_keep ev (λ x. busy (x.stations v) ≡ busy (t.stations v)) (λ x y s h m. moment_busy ev x y s v m ∙ h) ms t u e refl

-- a step that answers ends its station's call, and makes no other unfinished
pub answer_busy : (t : Table) (ms : List ℕ) (s : ℕ) (r : Reply Table) → feed t ms (single_step s) true ≡ some r → r.number ≡ 0
    → (u : ℕ) → busy (r.next.stations u) ≡ true → (busy (t.stations u) ≡ true) × (¬ (u ≡ s))
unfolding perform busy
answer_busy t ms s r e z u b =
    let v = feed_inv t ms (single_step s) true r e in
    let w = answer_next v.0 s r v.2 z in
    let d : busy (put v.0.stations s (waiting w.2) u) ≡ true = ap (λ (x : Table). busy (x.stations u)) (sym w.4) ∙ b in
    elim (put_cases v.0.stations s u (waiting w.2)) [
      | inl x ↦ absurd (false≢true (sym (ap busy x.1) ∙ d))
      | inr x ↦ (sym (moments_busy (single_step s) ms t v.0 u v.1) ∙ sym (ap busy x.1) ∙ d, x.0)
    ]
