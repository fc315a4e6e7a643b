-- What an event can do to the held records and to an unfinished call. Only a step's own call changes the held records, so an answer set down at an
-- event is the table's for the records held before the event or after it (`between`); the event itself changes no record (`perform_held`) and leaves
-- every call as it is that it does not answer (`perform_stays`).
use mathlib.Core.Path.{◌≡◌, refl, sym, ◌∙◌, ap}
use mathlib.Core.Logic.{◌⊎◌, inl, inr}
use mathlib.Core.Bool.{Bool, true, false, false≢true, true≢false}
use mathlib.Core.Option.{Option, none, some, none-ne-some, some-injective}
use mathlib.Core.List.{List, [], ◌∷◌}
use Prim.Native.Nat.{ℕ}
use native.Mathlib.Decide.{ℕ_discrete}
use lib.Dec.{eqb, ltb}
use borrow.Author.Tests.{eqb-true, eq-eqb}
use Rattle.points.specs.declared.point.Point.{Point}
use Rattle.points.specs.Number.{in_range_by}
use Rattle.table.specs.Call.{Call, call_of, kind_in_range, Answer, is_change}
use Rattle.table.specs.Table.{Station, idle, unfinished, waiting, Table, put, with_stations, answer_of, changed_if}
use Rattle.table.specs.Event.{Event, submission, single_step, taking, withdrawal, Reply, accept, refuse, is_idle, curve_fits, enter}
use Rattle.table.specs.Event.{submit, set_down, own_step, may_fall, moment, step_at, step, take_at, take, own_withdrawal, perform, moments}
use Rattle.table.proofs.Stations.{put_other}
use Rattle.table.proofs.Moments.{Moment, moment_is, moments_keep, moment_own, moment_other}
use Rattle.table.proofs.Reached.{ask_all, withdraw_all, perform_keeps}
use Rattle.table.proofs.Scale.{moment_scale}

-- the answer set down at a station
unfoldable set_at : Station → Option Answer
set_at idle = none
set_at (waiting a) = none
set_at (unfinished i c o) = o

-- an answer set down stays
set_stays : (ev : Event) (t u : Table) (v s i : ℕ) (c : Call) (a : Answer) → Moment ev t v u → t.stations s ≡ unfinished i c (some a)
    → u.stations s ≡ unfinished i c (some a)
unfolding set_at
set_stays ev t u v s i c a m e = moment_other ev t u v s m (λ q. none-ne-some a (ap set_at (sym m.pending ∙ ap t.stations (sym q) ∙ e))) ∙ e

pub sets_stay : (ev : Event) (ms : List ℕ) (t u : Table) (s i : ℕ) (c : Call) (a : Answer) → moments ev t ms ≡ some u → t.stations s ≡ unfinished i c (some a)
    → u.stations s ≡ unfinished i c (some a)
sets_stay ev ms t u s i c a e q = moments_keep ev (λ x. x.stations s ≡ unfinished i c (some a)) (λ x y v h m. set_stays ev x y v s i c a m h) ms t u e q

-- ## The held records

change_own : (ev : Event) (t u : Table) (s : ℕ) → Moment ev t s u → (u.held ≡ t.held) ⊎ (own_step ev s ≡ true)
unfolding may_fall set_down changed_if
change_own ev t u s m = go (is_change (answer_of t s m.call)) refl
  where
    go : (b : Bool) → is_change (answer_of t s m.call) ≡ b → (u.held ≡ t.held) ⊎ (own_step ev s ≡ true)
    go true q = inr (rw q at m.may)
    go false q = inl (ap (λ (x : Table). x.held) (sym m.is) ∙ rw (q, changed_if))

own_one : (ev : Event) (s u : ℕ) → own_step ev s ≡ true → own_step ev u ≡ true → s ≡ u
unfolding own_step
own_one (submission v kind p c) s u e f = absurd (false≢true e)
own_one (single_step v) s u e f = sym (eqb-true v s e) ∙ eqb-true v u f
own_one (taking v) s u e f = absurd (false≢true e)
own_one (withdrawal v) s u e f = absurd (false≢true e)

-- once the own call of a step has its answer set down, the held records stay
done_held : (ev : Event) (ms : List ℕ) (t u : Table) (s i : ℕ) (c : Call) (a : Answer) → own_step ev s ≡ true → t.stations s ≡ unfinished i c (some a)
    → moments ev t ms ≡ some u → u.held ≡ t.held
unfolding set_at
done_held ev ms t u s i c a o e q = (moments_keep ev P keep ms t u q (refl, e)).0
  where
    P : Table → Type 0
    P x = (x.held ≡ t.held) × (x.stations s ≡ unfinished i c (some a))

    keep : (x y : Table) (v : ℕ) → P x → Moment ev x v y → P y
    keep x y v h m = elim (change_own ev x y v m) [
      | inl d ↦ (d ∙ h.0, set_stays ev x y v s i c a m h.1)
      | inr d ↦ absurd (none-ne-some a (ap set_at (sym m.pending ∙ ap x.stations (own_one ev v s d o) ∙ h.1)))
    ]

-- the call c of station s has got its answer at the moments from t to u, and the answer is the table's for the records held before or after, by the
-- same factors
pub record SetBetween (t u : Table) (s i : ℕ) (c : Call) : Type 0 where
  pub at_moment : Table
  pub is : u.stations s ≡ unfinished i c (some (answer_of at_moment s c))
  pub scale : at_moment.scale ≡ t.scale
  pub held : (at_moment.held ≡ t.held) ⊎ (at_moment.held ≡ u.held)

-- An answer set down at an event is the table's for the records held before the event or after it.
pub between : (ev : Event) (ms : List ℕ) (t u : Table) (s i : ℕ) (c : Call) → t.stations s ≡ unfinished i c none → moments ev t ms ≡ some u
    → (u.stations s ≡ unfinished i c none) ⊎ SetBetween t u s i c
unfolding moments set_at
between ev [] t u s i c e q = inl (rw (some-injective _ _ q) at e)
between ev (v ∷ ms) t u s i c e q = go (λ x. between ev ms x u s i c) (moment ev t v) refl
  where
    first : (x : Table) → Moment ev t v x → moments ev x ms ≡ some u → v ≡ s → SetBetween t u s i c
    first x m r d =
        let f : unfinished m.identity m.call none ≡ unfinished i c none = sym m.pending ∙ ap t.stations d ∙ e in
        let ci : m.identity ≡ i = cc in
        let cd : m.call ≡ c = cc in
        let k : x.stations v ≡ unfinished m.identity m.call (some (answer_of t v m.call)) = moment_own ev t x v m in
        let l : x.stations s ≡ unfinished i c (some (answer_of t s c)) = ap x.stations (sym d) ∙ k ∙ (λ j. unfinished (ci j) (cd j) (some (answer_of t (d j) (cd j)))) in
        record { at_moment = t; is = sets_stay ev ms x u s i c (answer_of t s c) r l; scale = refl; held = inl refl }

    later : (x : Table) → Moment ev t v x → moments ev x ms ≡ some u → SetBetween x u s i c → SetBetween t u s i c
    later x m r w = record {
      at_moment = w.at_moment;
      is = w.is;
      scale = w.scale ∙ moment_scale ev t x v m;
      held = elim w.held [
        | inr h ↦ inr h
        | inl h ↦ elim (change_own ev t x v m) [
          | inl d ↦ inl (h ∙ d)
          | inr d ↦ inr (h ∙ sym (done_held ev ms x u v m.identity m.call (answer_of t v m.call) d (moment_own ev t x v m) r))
        ]
      ];
    }

    go : ((x : Table) → x.stations s ≡ unfinished i c none → moments ev x ms ≡ some u → (u.stations s ≡ unfinished i c none) ⊎ SetBetween x u s i c)
        → (o : Option Table) → moment ev t v ≡ o
        → (u.stations s ≡ unfinished i c none) ⊎ SetBetween t u s i c
    go ih none d = absurd (none-ne-some u (rw (d, moments) at q))
    go ih (some x) d =
        let m : Moment ev t v x = moment_is ev t v x d in
        let r : moments ev x ms ≡ some u = rw (d, moments) at q in
        elim (ℕ_discrete v s) [
          | yes y ↦ inr (first x m r y)
          | no n ↦ elim (ih x (moment_other ev t x v s m (λ z. n (sym z)) ∙ e) r) [ inl z ↦ inl z | inr w ↦ inr (later x m r w) ]
        ]

-- ## The event itself

-- no event changes the held records: only moments do
pub perform_held : (t : Table) (ev : Event) (answers : Bool) (r : Reply Table) → perform t ev answers ≡ some r → r.next.held ≡ t.held
unfolding enter
perform_held t = perform_keeps (λ x. x.held) t (λ f. refl) (λ s c. refl)

-- an unfinished call stays as it is but by a step of its own that answers
module _ (t : Table) (s i : ℕ) (c : Call) (o : Option Answer) (e : t.stations s ≡ unfinished i c o) where
  abbrev Stays : Reply Table → Type 0
  Stays r = r.next.stations s ≡ unfinished i c o

  -- what another station's event puts
  other : (v : ℕ) (x : Station) → ¬ (s ≡ v) → put t.stations v x s ≡ unfinished i c o
  other v x n = put_other t.stations v s x n ∙ e

  submit_stays : (v kind : ℕ) (p : Point) (d : ℕ) → Stays (submit t v kind p d)
  unfolding submit enter is_idle
  submit_stays v kind p d =
      ask_all Stays (ltb v 8) 5 t _ e (λ l. ask_all Stays (is_idle (t.stations v)) 6 t _ e (λ free. ask_all Stays (kind_in_range kind) 7 t _ e
      (λ l. ask_all Stays (in_range_by t.scale.rule p) 8 t _ e (λ l. ask_all Stays (curve_fits kind d) 9 t _ e
      (λ l. other v (unfinished t.calls (call_of kind p d) none) (λ q. false≢true (sym (ap is_idle (ap t.stations (sym q) ∙ e)) ∙ free)))))))

  take_stays : (v : ℕ) → Stays (take t v)
  unfolding take take_at is_idle set_at
  take_stays v = ask_all Stays (ltb v 8) 5 t _ e (λ l. go (t.stations v) refl)
    where
      waits : Station → Bool
      waits idle = false
      waits (unfinished j d u) = false
      waits (waiting a) = true

      go : (x : Station) → t.stations v ≡ x → Stays (take_at t v x)
      go idle q = e
      go (unfinished j d u) q = e
      go (waiting a) q = other v idle (λ z. false≢true (ap waits (sym e ∙ ap t.stations z ∙ q)))

  step_stays : (v : ℕ) (answers : Bool) (r : Reply Table) → (own_step (single_step v) s ≡ true → answers ≡ false) → step t v answers ≡ some r → Stays r
  unfolding step step_at own_step
  step_stays v answers r n = go (ltb v 8) answers n (t.stations v)
    where
      is : (q : Reply Table) → Stays q → ◌≡◌ {A = Option (Reply Table)} (some q) (some r) → Stays r
      is q g d = rw (some-injective _ _ d) at g

      go : (b answers : Bool) → (eqb v s ≡ true → answers ≡ false) → (x : Station) → step_at t v b answers x ≡ some r → Stays r
      go false answers n x d = is (refuse 5 t) e d
      go true answers n idle d = is (refuse 10 t) e d
      go true answers n (waiting a) d = is (refuse 10 t) e d
      go true false n (unfinished j k u) d = is (accept t) e d
      go true true n (unfinished j k none) d = absurd (none-ne-some r d)
      go true true n (unfinished j k (some a)) d =
          is (accept (with_stations t (put t.stations v (waiting a)))) (other v (waiting a) (λ z. false≢true (sym (n (eq-eqb v s (sym z)))))) d

  pub perform_stays : (ev : Event) (answers : Bool) (r : Reply Table) → (own_step ev s ≡ true → answers ≡ false) → own_withdrawal ev s ≡ false → perform t ev answers ≡ some r → Stays r
  unfolding perform own_withdrawal
  perform_stays (submission v kind p d) answers r n m q = rw (some-injective _ _ q) at (submit_stays v kind p d)
  perform_stays (single_step v) answers r n m q = step_stays v answers r n q
  perform_stays (taking v) answers r n m q = rw (some-injective _ _ q) at (take_stays v)
  perform_stays (withdrawal v) answers r n m q = withdraw_all Stays t v r e e (λ l j d u b w. other v (waiting b) (λ z. true≢false (sym (eq-eqb v s (sym z)) ∙ m))) q
