-- The eager moments: an unfinished nearest call gets its moment first thing at the next event, every other call at the step that answers
-- it. `feed_trim`: with the moments dropped that the rest of a history does not answer, the trimmed table gives the same replies.
use mathlib.Core.Path.{◌≡◌, refl, sym, ◌∙◌, ap}
use mathlib.Core.Logic.{◌⊎◌, inl, inr}
use mathlib.Core.Bool.{Bool, true, false, not, ◌&&◌, ◌||◌, false≢true}
use mathlib.Core.Option.{Option, none, some, map, none-ne-some, some-injective}
use mathlib.Core.List.{List, [], ◌∷◌, ◌++◌}
use Prim.Native.Nat.{ℕ, ◌≤◌, ◌<◌}
use lib.Dec.{ltb}
use borrow.Author.Tests.{eq-eqb, ne_eqb}
use Rattle.table.specs.Call.{Call, is_search}
use Rattle.table.specs.Table.{Station, idle, unfinished, waiting, Table, eight, answer_of}
use Rattle.table.specs.Event.{Event, submission, single_step, taking, withdrawal, Reply, is_idle, set_down, own_step, own_withdrawal, may_fall, only_if, moment_at, moment, step, withdraw, perform, moments, feed}
use Rattle.table.proofs.Moments.{feed_some, moments_keep, moment_other}
use Rattle.table.proofs.Trim.{trim, trim_reply, trim_cong, kept_same, search_quiet, moment_kept, moment_dropped, submit_trim, take_trim, still_trim, answering_trim}
use Rattle.table.proofs.Retract.{retract, withdraw_trim}

-- ## What is answered in the rest of a history

-- the rest of a history: events, and whether they answer
abbrev pub Rest : Type 0
Rest = List (Event × Bool)

-- the station's call is answered in the rest: the next event that ends it answers it
unfoldable pub answered_in : Rest → ℕ → Bool
answered_in [] u = false
answered_in (e ∷ es) u = (e.1 && own_step e.0 u) || (not (own_withdrawal e.0 u) && answered_in es u)

quiet : (b c : Bool) → (b && false || c) ≡ c
quiet true c = refl
quiet false c = refl

-- what an event does to a table whose answers set down may be those of calls that are withdrawn later: a withdrawal forgets them
unfoldable pub performed : Table → Event → Bool → Option (Reply Table)
performed t (submission s kind p c) answers = perform t (submission s kind p c) answers
performed t (single_step s) answers = perform t (single_step s) answers
performed t (taking s) answers = perform t (taking s) answers
performed t (withdrawal s) answers = some (retract t s)

-- from station 8 on all are idle
abbrev pub Eight : Table → Type 0
Eight t = (s : ℕ) → 8 ≤ s → t.stations s ≡ idle

withdrawal_trim : (h : Rest) (t : Table) (s : ℕ) (answers : Bool) → Eight t
    → withdraw (trim (answered_in ((withdrawal s, answers) ∷ h)) t) s ≡ some (trim_reply (answered_in h) (retract t s))
unfolding answered_in own_step own_withdrawal
withdrawal_trim h t s true o = withdraw_trim (answered_in h) (answered_in ((withdrawal s, true) ∷ h)) t s (λ u n. rw (ne_eqb s u (λ e. n (sym e)))) (rw (eq-eqb s s refl)) (o s)
withdrawal_trim h t s false o = withdraw_trim (answered_in h) (answered_in ((withdrawal s, false) ∷ h)) t s (λ u n. rw (ne_eqb s u (λ e. n (sym e)))) (rw (eq-eqb s s refl)) (o s)

perform_trim : (h : Rest) (t : Table) (ev : Event) (answers : Bool) (r : Reply Table) → Eight t → performed t ev answers ≡ some r → (answers ≡ true → r.number ≡ 0)
    → perform (trim (answered_in ((ev, answers) ∷ h)) t) ev answers ≡ some (trim_reply (answered_in h) r)
unfolding performed perform answered_in own_step own_withdrawal step
perform_trim h t (submission s n p c) f r o q z =
    rw (trim_cong (answered_in ((submission s n p c, f) ∷ h)) (answered_in h) t (λ u. quiet f (answered_in h u)))
    (ap {B = Option (Reply Table)} some (submit_trim (answered_in h) t s n p c) ∙ ap (map (trim_reply (answered_in h))) q)
perform_trim h t (taking s) f r o q z =
    rw (trim_cong (answered_in ((taking s, f) ∷ h)) (answered_in h) t (λ u. quiet f (answered_in h u)))
    (ap {B = Option (Reply Table)} some (take_trim (answered_in h) t s) ∙ ap (map (trim_reply (answered_in h))) q)
perform_trim h t (withdrawal s) f r o q z = withdrawal_trim h t s f o ∙ ap (map (trim_reply (answered_in h))) q
perform_trim h t (single_step s) false r o q z = still_trim (answered_in h) t s ∙ ap (map (trim_reply (answered_in h))) q
perform_trim h t (single_step s) true r o q z =
    rw (kept_same (answered_in ((single_step s, true) ∷ h)) t s (rw (eq-eqb s s refl)), step)
    (answering_trim (answered_in h) (answered_in ((single_step s, true) ∷ h)) t s (ltb s 8) (t.stations s) r (λ u n. rw (ne_eqb s u (λ e. n (sym e)))) q (z refl))

-- ## The first moments

-- an unfinished nearest call with nothing set down
unfoldable pub unsettled : Station → Bool
unsettled idle = false
unsettled (waiting a) = false
unsettled (unfinished i c (some a)) = false
unsettled (unfinished i c none) = is_search c

-- no station has one
abbrev pub Settled : Table → Type 0
Settled t = (s : ℕ) → s < 8 → unsettled (t.stations s) ≡ false

-- an unsettled nearest call of the station gets its moment
unfoldable settle_at : Table → ℕ → Station → Table
settle_at t s idle = t
settle_at t s (waiting a) = t
settle_at t s (unfinished i c (some a)) = t
settle_at t s (unfinished i c none) = elim (is_search c) [ true ↦ set_down t s i c (answer_of t s c) | false ↦ t ]

unfoldable pub settle_one : Table → ℕ → Table
unfolding settle_at
settle_one t s = settle_at t s (t.stations s)

unfoldable pub settle : List ℕ → Table → Table
settle [] t = t
settle (s ∷ ss) t = settle ss (settle_one t s)

unfoldable pub cons_if : Bool → ℕ → List ℕ → List ℕ
cons_if true s ss = s ∷ ss
cons_if false s ss = ss

-- the stations with an unsettled nearest call whose answer is seen
unfoldable pub firsts : (ℕ → Bool) → List ℕ → Table → List ℕ
firsts seen [] t = []
firsts seen (s ∷ ss) t = cons_if (unsettled (t.stations s) && seen s) s (firsts seen ss (settle_one t s))

-- the station has an unsettled nearest call
pub record Unsettled (t : Table) (s : ℕ) : Type 0 where
  pub identity : ℕ
  pub call : Call
  pub search : is_search call ≡ true
  pub is : t.stations s ≡ unfinished identity call none
  pub settles : settle_one t s ≡ set_down t s identity call (answer_of t s call)

pub unsettled_cases : (t : Table) (s : ℕ) → ((unsettled (t.stations s) ≡ false) × (settle_one t s ≡ t)) ⊎ Unsettled t s
unfolding unsettled settle_at settle_one
unsettled_cases t s = go (t.stations s) refl
  where
    go : (x : Station) → t.stations s ≡ x → ((unsettled (t.stations s) ≡ false) × (settle_one t s ≡ t)) ⊎ Unsettled t s
    go idle e = inl (rw (e, unsettled), rw (e, settle_at))
    go (waiting a) e = inl (rw (e, unsettled), rw (e, settle_at))
    go (unfinished i c (some a)) e = inl (rw (e, unsettled), rw (e, settle_at))
    go (unfinished i c none) e = by (is_search c) refl
      where
        by : (b : Bool) → is_search c ≡ b → ((unsettled (t.stations s) ≡ false) × (settle_one t s ≡ t)) ⊎ Unsettled t s
        by true q = inr (record { identity = i; call = c; search = q; is = e; settles = rw (e, settle_at, q) })
        by false q = inl (rw (e, unsettled) q, rw (e, settle_at, q))

-- an unsettled nearest call can have its moment at any event
first_moment : (ev : Event) (t : Table) (s : ℕ) → Unsettled t s → moment ev t s ≡ some (settle_one t s)
unfolding moment moment_at only_if may_fall
first_moment ev t s w = rw (w.settles, w.is, moment_at, search_quiet t s w.call w.search)

firsts_trim : (ev : Event) (seen : ℕ → Bool) (ss : List ℕ) (t : Table) → moments ev (trim seen t) (firsts seen ss t) ≡ some (trim seen (settle ss t))
unfolding firsts moments settle cons_if unsettled
firsts_trim ev seen [] t = refl
firsts_trim ev seen (s ∷ ss) t = go (firsts_trim ev seen ss) (unsettled_cases t s)
  where
    go : ((u : Table) → moments ev (trim seen u) (firsts seen ss u) ≡ some (trim seen (settle ss u)))
        → ((unsettled (t.stations s) ≡ false) × (settle_one t s ≡ t)) ⊎ Unsettled t s
        → moments ev (trim seen t) (firsts seen (s ∷ ss) t) ≡ some (trim seen (settle (s ∷ ss) t))
    go ih (inl v) = rw (v.0, v.1) (ih t)
    go ih (inr w) = by (seen s) refl
      where
        f : unsettled (t.stations s) ≡ true
        f = rw (w.is, unsettled) w.search

        by : (b : Bool) → seen s ≡ b → moments ev (trim seen t) (firsts seen (s ∷ ss) t) ≡ some (trim seen (settle (s ∷ ss) t))
        by true q = rw (f, q, moment_kept ev seen t s q ∙ ap (map (trim seen)) (first_moment ev t s w), moments) (ih (settle_one t s))
        by false q =
            let d : trim seen t ≡ trim seen (settle_one t s) = rw w.settles (sym (moment_dropped seen t s w.identity w.call q w.search w.is)) in
            rw (f, q, d) (ih (settle_one t s))

-- ## The own moment, and the whole event

-- a call with nothing set down gets its moment at the step that answers it
unfoldable pub own_at : ℕ → Station → List ℕ
own_at s idle = []
own_at s (waiting a) = []
own_at s (unfinished i c (some a)) = []
own_at s (unfinished i c none) = s ∷ []

unfoldable pub own : Table → Event → Bool → List ℕ
unfolding own_at
own t (submission s kind p c) answers = []
own t (single_step s) false = []
own t (single_step s) true = own_at s (t.stations s)
own t (taking s) answers = []
own t (withdrawal s) answers = []

one_map : (g : Table → Table) (m : Option Table)
    → elim (map g m) as (λ x. Option Table) [ none ↦ none | some u ↦ some u ] ≡ map g (elim m as (λ x. Option Table) [ none ↦ none | some u ↦ some u ])
one_map g none = refl
one_map g (some t) = refl

one_trim : (ev : Event) (seen : ℕ → Bool) (t : Table) (s : ℕ) → seen s ≡ true
    → moments ev (trim seen t) (s ∷ []) ≡ map (trim seen) (moments ev t (s ∷ []))
unfolding moments
one_trim ev seen t s q = rw (moment_kept ev seen t s q, moments) (one_map (trim seen) (moment ev t s))

own_at_trim : (ev : Event) (seen : ℕ → Bool) (t : Table) (s : ℕ) (x : Station) → seen s ≡ true
    → moments ev (trim seen t) (own_at s x) ≡ map (trim seen) (moments ev t (own_at s x))
unfolding own_at moments
own_at_trim ev seen t s idle q = refl
own_at_trim ev seen t s (waiting a) q = refl
own_at_trim ev seen t s (unfinished i c (some a)) q = refl
own_at_trim ev seen t s (unfinished i c none) q = one_trim ev seen t s q

own_trim : (h : Rest) (t : Table) (ev : Event) (answers : Bool)
    → moments ev (trim (answered_in ((ev, answers) ∷ h)) t) (own t ev answers) ≡ map (trim (answered_in ((ev, answers) ∷ h))) (moments ev t (own t ev answers))
unfolding own moments answered_in own_step own_withdrawal
own_trim h t (submission s kind p c) answers = refl
own_trim h t (taking s) answers = refl
own_trim h t (withdrawal s) answers = refl
own_trim h t (single_step s) false = refl
own_trim h t (single_step s) true = own_at_trim (single_step s) (answered_in ((single_step s, true) ∷ h)) t s (t.stations s) (rw (eq-eqb s s refl))

moments_append : (ev : Event) (xs ys : List ℕ) (t u : Table) → moments ev t xs ≡ some u → moments ev t (xs ++ ys) ≡ moments ev u ys
unfolding moments
moments_append ev [] ys t u e = rw (some-injective _ _ e)
moments_append ev (s ∷ xs) ys t u e = go (λ v. moments_append ev xs ys v u) (moment ev t s) refl
  where
    go : ((v : Table) → moments ev v xs ≡ some u → moments ev v (xs ++ ys) ≡ moments ev u ys) → (m : Option Table) → moment ev t s ≡ m
        → moments ev t (s ∷ (xs ++ ys)) ≡ moments ev u ys
    go ih none q = absurd (none-ne-some u (rw (q, moments) at e))
    go ih (some v) q = rw (q, moments) (ih v (rw (q, moments) at e))

-- the moments of an event: the first ones that are seen, then the event's own
unfoldable pub eager : (ℕ → Bool) → Table → Event → Bool → List ℕ
eager seen t ev answers = firsts seen eight t ++ own (settle eight t) ev answers

-- a settled table fed an event with its own moment
unfoldable pub fed : Table → Event → Bool → Option (Reply Table)
fed t ev answers = elim (moments ev t (own t ev answers)) [ none ↦ none | some u ↦ performed u ev answers ]

pub fed_inv : (t : Table) (ev : Event) (answers : Bool) (r : Reply Table) → fed t ev answers ≡ some r
    → (u : Table) × (moments ev t (own t ev answers) ≡ some u) × (performed u ev answers ≡ some r)
unfolding fed
fed_inv t ev answers r e = go (moments ev t (own t ev answers)) refl
  where
    go : (m : Option Table) → moments ev t (own t ev answers) ≡ m → (u : Table) × (moments ev t (own t ev answers) ≡ some u) × (performed u ev answers ≡ some r)
    go none q = absurd (none-ne-some r (rw (q, fed) at e))
    go (some u) q = (u, q, rw (q, fed) at e)

-- moments leave those stations idle
own_eight : (t : Table) (ev : Event) (answers : Bool) (u : Table) → Eight t → moments ev t (own t ev answers) ≡ some u → Eight u
unfolding is_idle
own_eight t ev answers u o e s l = moments_keep ev (λ x. x.stations s ≡ idle)
    (λ x y v h m. moment_other ev x y v s m (λ q. idle_busy s v x l q h m.pending) ∙ h) (own t ev answers) t u e (o s l)
  where
    idle_busy : (s v : ℕ) (x : Table) → 8 ≤ s → s ≡ v → x.stations s ≡ idle → {i : ℕ} {c : Call} → x.stations v ≡ unfinished i c none → ⊥
    idle_busy s v x l q h f = let z : ◌≡◌ {A = Bool} true false = ap is_idle (sym h ∙ ap x.stations q ∙ f) in false≢true (sym z)

-- With the moments dropped that the rest of the history does not answer, the trimmed table gives the same replies.
pub feed_trim : (h : Rest) (t : Table) (ev : Event) (answers : Bool) (r : Reply Table) → Eight (settle eight t)
    → fed (settle eight t) ev answers ≡ some r → (answers ≡ true → r.number ≡ 0)
    → feed (trim (answered_in ((ev, answers) ∷ h)) t) (eager (answered_in ((ev, answers) ∷ h)) t ev answers) ev answers ≡ some (trim_reply (answered_in h) r)
unfolding eager
feed_trim h t ev answers r o e z =
    let seen : ℕ → Bool = answered_in ((ev, answers) ∷ h) in
    let T : Table = settle eight t in
    let v = fed_inv T ev answers r e in
    feed_some (trim seen t) (firsts seen eight t ++ own T ev answers) ev answers (trim seen v.0)
    (moments_append ev (firsts seen eight t) (own T ev answers) (trim seen t) (trim seen T) (firsts_trim ev seen eight t) ∙ own_trim h T ev answers ∙ ap (map (trim seen)) v.1)
    ∙ perform_trim h v.0 ev answers r (own_eight T ev answers v.0 o v.1) v.2 z
