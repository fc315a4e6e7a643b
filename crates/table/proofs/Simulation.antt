-- A simulation gives demand 3. `Simulation` is what is to be shown of an index, event by event: a relation R between its states and tables that
-- every event keeps under the eager moments. `simulation_linear` concludes `Linear`; the moments of nearest calls that are never answered are dropped.
-- `simulation_leads` tells the table at the end of the history too.
use mathlib.Core.Path.{◌≡◌, refl, sym, ◌∙◌, ap, subst}
use mathlib.Core.Logic.{◌⊎◌, inl, inr}
use mathlib.Core.Bool.{Bool, true, false, not, ◌||◌, false≢true}
use mathlib.Core.Option.{Option, none, some, some-injective}
use mathlib.Core.List.{List, [], ◌∷◌}
use Prim.Native.Nat.{ℕ, ◌<◌}
use lib.Dec.{eqb, ltb}
use borrow.Author.Tests.{eqb-true, eq-eqb, lt-ltb}
use Rattle.points.specs.declared.point.Point.{Point}
use Rattle.points.specs.declared.scale.Scale.{Scale}
use Rattle.table.specs.Record.{Same}
use Rattle.table.specs.Call.{Call, is_search, Answer, is_change}
use Rattle.table.specs.Table.{Station, idle, unfinished, waiting, Table, busy, eight, opened, put, with_stations, answer_of, changed_if}
use Rattle.table.specs.Event.{Event, submission, single_step, taking, withdrawal, Reply, accept, refuse, ask, submit, set_down, own_step, may_fall, only_if, moment_at, moment, step_at, step, take, perform, moments, feed}
use Rattle.table.specs.History.{Index, reply, after, answered, Agree, Effects, AtEnd, Follows, Ends, Linear}
use Rattle.table.proofs.Tests.{and_left}
use Rattle.table.proofs.Stations.{put_put}
use Rattle.table.proofs.Moments.{set_same, feed_some, moments_keep}
use Rattle.table.proofs.Sound.{Sound, sound_opened, sound_set}
use Rattle.table.proofs.Reached.{sound_perform, sound_moment}
use Rattle.table.proofs.Trim.{keep_if, trim, trim_reply, station_trim, trim_opened}
use Rattle.table.proofs.Retract.{retract, sound_retract}
use Rattle.table.proofs.Alike.{alike_trim, alike_agree}
use Rattle.table.proofs.Eager.{Rest, answered_in, Settled, settle, performed, own_at, own, fed, fed_inv, eager, feed_trim}
use Rattle.table.proofs.Settled.{settle_busy, settled, settle_keeps, forget_end, submit_busy, take_busy, retract_busy, still_next, answer_busy}

-- ## What is to be shown

unfoldable pub still_at : Table → Station → Reply Table
still_at t idle = refuse 10 t
still_at t (waiting a) = refuse 10 t
still_at t (unfinished i c o) = accept t

-- the table's reply to a step that does not answer
unfoldable pub still : Table → ℕ → Reply Table
still t s = ask (ltb s 8) 5 t (still_at t (t.stations s))

-- what a step that answers leaves of the table; a call with nothing set down has its moment there
unfoldable pub finished : Table → ℕ → Call → Option Answer → Table
finished t s c (some a) = with_stations t (put t.stations s (waiting a))
finished t s c none = with_stations (changed_if (is_change (answer_of t s c)) t s c) (put t.stations s (waiting (answer_of t s c)))

module _ (I : Index) (R : I.State → Table → Type 0) where
  open I use {State}

  -- the same reply, and related afterwards
  pub record Matches (r : Reply State) (q : Reply Table) : Type 0 where
    pub number : r.number ≡ q.number
    pub given : r.given ≡ q.given
    pub next : R r.next q.next

  -- the step that answers the station's unfinished call
  pub record Finishes (st : State) (t : Table) (s : ℕ) : Type 0 where
    pub station : s < 8
    pub identity : ℕ
    pub call : Call
    pub set : Option Answer
    pub is : t.stations s ≡ unfinished identity call set
    pub matches : Matches (I.step st s) (accept (finished t s call set))

  -- what is to be shown of R; every table met is sound, and settled where an event comes
  pub record Simulation (start : State) (places limit : ℕ) (scale : Scale) : Type 0 where
    pub begins : R start (opened places limit scale)
    pub agrees : {st : State} {t : Table} → Sound t → R st t → Agree I st t
    -- the moment of an unfinished nearest call, first thing at the event after its submission
    pub settles : {st : State} {t : Table} {s i : ℕ} {c : Call} → Sound t → s < 8 → is_search c ≡ true → t.stations s ≡ unfinished i c none → R st t
        → R st (set_down t s i c (answer_of t s c))
    pub submits : {st : State} {t : Table} (s kind : ℕ) (p : Point) (c : ℕ) → Sound t → Settled t → R st t
        → Matches (I.submit st s kind p c) (submit t s kind p c)
    pub takes : {st : State} {t : Table} (s : ℕ) → Sound t → Settled t → R st t → Matches (I.take st s) (take t s)
    -- a withdrawal ends the call of its station with 11, whatever is set down for it
    pub withdraws : {st : State} {t : Table} (s : ℕ) → Sound t → Settled t → R st t → Matches (I.withdraw st s) (retract t s)
    pub stills : {st : State} {t : Table} (s : ℕ) → Sound t → Settled t → R st t → answered I st (single_step s) ≡ false → Matches (I.step st s) (still t s)
    pub answers : {st : State} {t : Table} (s : ℕ) → Sound t → Settled t → R st t → answered I st (single_step s) ≡ true → Finishes st t s

-- ## Steps with their own moment, worked out

pub still_step : (t : Table) (s : ℕ) → step t s false ≡ some (still t s)
unfolding step step_at still still_at
still_step t s = go (ltb s 8) (t.stations s)
  where
    go : (b : Bool) (x : Station) → step_at t s b false x ≡ some (ask b 5 t (still_at t x))
    go false x = refl
    go true idle = refl
    go true (waiting a) = refl
    go true (unfinished i c o) = refl

-- a moment at a step of its own station is always allowed
own_moment : (t : Table) (s i : ℕ) (c : Call) → t.stations s ≡ unfinished i c none → moment (single_step s) t s ≡ some (set_down t s i c (answer_of t s c))
unfolding moment moment_at only_if may_fall own_step
own_moment t s i c e = rw (e, moment_at, eq-eqb s s refl) (go (is_change (answer_of t s c)))
  where
    go : (b : Bool) → only_if (not b || true) (set_down t s i c (answer_of t s c)) ≡ some (set_down t s i c (answer_of t s c))
    go true = refl
    go false = refl

own_list : (t : Table) (s i : ℕ) (c : Call) → t.stations s ≡ unfinished i c none
    → moments (single_step s) t (own t (single_step s) true) ≡ some (set_down t s i c (answer_of t s c))
unfolding own own_at moments
own_list t s i c e = rw (e, own_at) (rw (own_moment t s i c e, moments))

own_none : (t : Table) (s i : ℕ) (c : Call) (a : Answer) → t.stations s ≡ unfinished i c (some a)
    → moments (single_step s) t (own t (single_step s) true) ≡ some t
unfolding own own_at moments
own_none t s i c a e = rw (e, own_at)

step_some : (t : Table) (s i : ℕ) (c : Call) (a : Answer) → s < 8 → t.stations s ≡ unfinished i c (some a)
    → step t s true ≡ some (accept (with_stations t (put t.stations s (waiting a))))
unfolding step step_at
step_some t s i c a l e = rw (lt-ltb s 8 l, e, step_at)

set_finished : (t : Table) (s i : ℕ) (c : Call) (a : Answer)
    → with_stations (set_down t s i c a) (put (set_down t s i c a).stations s (waiting a)) ≡ with_stations (changed_if (is_change a) t s c) (put t.stations s (waiting a))
unfolding set_down
set_finished t s i c a = rw (put_put t.stations s (unfinished i c (some a)) (waiting a))

pub answer_step : (t : Table) (s i : ℕ) (c : Call) (o : Option Answer) → s < 8 → t.stations s ≡ unfinished i c o
    → feed t (own t (single_step s) true) (single_step s) true ≡ some (accept (finished t s c o))
unfolding perform finished
answer_step t s i c (some a) l e = feed_some t (own t (single_step s) true) (single_step s) true t (own_none t s i c a e) ∙ step_some t s i c a l e
answer_step t s i c none l e =
    let a : Answer = answer_of t s c in
    feed_some t (own t (single_step s) true) (single_step s) true (set_down t s i c a) (own_list t s i c e) ∙ step_some (set_down t s i c a) s i c a l (set_same t s i c a)
    ∙ ap (λ (u : Table). some (accept u)) (set_finished t s i c a)

-- ## What is fed keeps a table sound

sound_performed : (t : Table) (ev : Event) (answers : Bool) (r : Reply Table) → Sound t → performed t ev answers ≡ some r → Sound r.next
unfolding performed
sound_performed t (submission s kind p c) answers r h e = sound_perform t (submission s kind p c) answers r h e
sound_performed t (single_step s) answers r h e = sound_perform t (single_step s) answers r h e
sound_performed t (taking s) answers r h e = sound_perform t (taking s) answers r h e
sound_performed t (withdrawal s) answers r h e = subst (λ (q : Reply Table). Sound q.next) (some-injective _ _ e) (sound_retract t s h)

sound_fed : (t : Table) (ev : Event) (answers : Bool) (r : Reply Table) → Sound t → fed t ev answers ≡ some r → Sound r.next
sound_fed t ev answers r h e =
    let w = fed_inv t ev answers r e in
    sound_performed w.0 ev answers r (moments_keep ev Sound (sound_moment ev) (own t ev answers) t w.0 w.1 h) w.2

-- ## From a simulation to demand 3

module _ (I : Index) (R : I.State → Table → Type 0) (start : I.State) (places limit : ℕ) (scale : Scale) (sim : Simulation I R start places limit scale) where
  open I use {State}

  -- an event with its own moment on a settled table
  abbrev Moves : State → Table → Event → Bool → Type 0
  Moves st t ev answers = (r : Reply Table) × (fed t ev answers ≡ some r) × Matches I R (reply I st ev) r

  stepped : (st : State) (t : Table) (s : ℕ) → Sound t → Settled t → R st t → (answers : Bool) → answered I st (single_step s) ≡ answers
      → Moves st t (single_step s) answers
  unfolding fed performed own feed moments perform reply
  stepped st t s k d h false q = (still t s, still_step t s, sim.stills s k d h q)
  stepped st t s k d h true q =
      let w = sim.answers s k d h q in
      (accept (finished t s w.call w.set), answer_step t s w.identity w.call w.set w.station w.is, w.matches)

  moves : (st : State) (t : Table) (ev : Event) → Sound t → Settled t → R st t → Moves st t ev (answered I st ev)
  unfolding fed performed own feed moments perform reply
  moves st t (submission s kind p c) k d h = (submit t s kind p c, refl, sim.submits s kind p c k d h)
  moves st t (single_step s) k d h = stepped st t s k d h (answered I st (single_step s)) refl
  moves st t (taking s) k d h = (take t s, refl, sim.takes s k d h)
  moves st t (withdrawal s) k d h = (retract t s, refl, sim.withdraws s k d h)

  -- a history with its answering steps
  rest : State → List Event → Rest
  rest st [] = []
  rest st (ev ∷ evs) = (ev, answered I st ev) ∷ rest (reply I st ev).next evs

  -- what is compared does not see what is set down
  agree_trim : (seen : ℕ → Bool) (st : State) (t : Table) → Agree I st t → Agree I st (trim seen t)
  agree_trim seen st t = alike_agree I st (alike_trim seen t)

  -- no unfinished call has changed the held records
  abbrev Quiet : (ℕ → Type 0) → Table → Type 0
  Quiet did t = (u : ℕ) → busy (t.stations u) ≡ true → did u → ⊥

  at_end : (did : ℕ → Type 0) (t : Table) → Quiet did t → AtEnd I did (trim (answered_in []) t)
  unfolding answered_in keep_if
  at_end did t q s i c o e =
      let w = forget_end (t.stations s) i c o (sym (station_trim (answered_in []) t s) ∙ e) in
      rw w.0 (λ h. absurd h, λ h. absurd (q s w.1 h.1))

  -- a step that answers is not refused
  not_refused : (st : State) (ev : Event) (r : Reply Table) → (reply I st ev).number ≡ r.number → answered I st ev ≡ true → r.number ≡ 0
  unfolding reply answered
  not_refused st (submission s kind p c) r e a = absurd (false≢true a)
  not_refused st (taking s) r e a = absurd (false≢true a)
  not_refused st (withdrawal s) r e a = absurd (false≢true a)
  not_refused st (single_step s) r e a =
      sym e ∙ eqb-true (I.step st s).number 0 (and_left (eqb (I.step st s).number 0) (eqb (I.take (I.step st s).next s).number 0) a)

  quiet_next : (did : ℕ → Type 0) (st : State) (t : Table) (ev : Event) (r : Reply Table) → Quiet did t
      → fed t ev (answered I st ev) ≡ some r
      → (reply I st ev).number ≡ r.number → Same (I.held st) t.held → Same (I.held (reply I st ev).next) r.next.held
      → Quiet (Effects I did st ev) r.next
  unfolding reply fed performed own perform feed moments
  quiet_next did st t (submission s kind p c) r q e z a b u busy-u d =
      let g : submit t s kind p c ≡ r = some-injective _ _ e in
      elim (submit_busy t s kind p c u) [
        | inl w ↦ q u (sym w ∙ ap (λ (x : Reply Table). busy (x.next.stations u)) g ∙ busy-u) d.0
        | inr w ↦ d.1 (z ∙ sym (ap (λ (x : Reply Table). x.number) g) ∙ w.1) w.0
      ]
  quiet_next did st t (taking s) r q e z a b u busy-u d =
      q u (take_busy t s u (ap (λ (x : Reply Table). busy (x.next.stations u)) (some-injective _ _ e) ∙ busy-u)) d
  quiet_next did st t (withdrawal s) r q e z a b u busy-u d =
      q u (retract_busy t s u (ap (λ (x : Reply Table). busy (x.next.stations u)) (some-injective _ _ e) ∙ busy-u)) d
  quiet_next did st t (single_step s) r q e z a b u busy-u d = go (answered I st (single_step s)) e (not_refused st (single_step s) r z) d
    where
      go : (answers : Bool) → feed t (own t (single_step s) answers) (single_step s) answers ≡ some r → (answers ≡ true → r.number ≡ 0)
          → did u ⊎ ((u ≡ s) × ¬ Same (I.held st) (I.held (I.step st s).next)) → ⊥
      go true g n (inl x) = q u (answer_busy t (own t (single_step s) true) s r g (n refl) u busy-u).0 x
      go true g n (inr x) = (answer_busy t (own t (single_step s) true) s r g (n refl) u busy-u).1 x.0
      go false g n (inl x) = q u (ap (λ (y : Table). busy (y.stations u)) (sym (still_next t s r g)) ∙ busy-u) x
      go false g n (inr x) =
          let h : Same (I.held (I.step st s).next) t.held = rw (still_next t s r g) at b in
          x.1 (λ v. (λ w. (h v).1 ((a v).0 w), λ w. (a v).1 ((h v).0 w)))

  -- a history that follows, and what is related at its end: the table is that one with nothing set down
  pub record Leads (did : ℕ → Type 0) (st : State) (t : Table) (evs : List Event) : Type 0 where
    pub moments : List (List ℕ)
    pub follows : Follows I did st t evs moments
    pub last : Table
    pub sound : Sound last
    pub related : R (after I st evs) last
    pub ends : Ends I st t evs moments (trim (λ s. false) last)

  leads : (did : ℕ → Type 0) (st : State) (t : Table) → Sound t → R st t → Quiet did t → (evs : List Event)
      → Leads did st (trim (answered_in (rest st evs)) t) evs
  unfolding rest trim_reply after answered_in
  leads did st t k h q [] = record {
    moments = [];
    follows = (agree_trim (answered_in []) st t (sim.agrees k h), at_end did t q);
    last = t;
    sound = k;
    related = h;
    ends = refl;
  }
  leads did st t k h q (ev ∷ evs) =
      let T : Table = settle eight t in
      let w : Sound T × R st T = settle_keeps (λ t. Sound t × R st t) (λ t s i c l g e x. (sound_set t s i c l e x.0, sim.settles x.0 l g e x.1)) t (k, h) in
      let m = moves st T ev w.0 (settled t) w.1 in
      let r : Reply Table = m.0 in
      let answers : Bool = answered I st ev in
      let next : State = (reply I st ev).next in
      let kr : Sound r.next = sound_fed T ev answers r w.0 m.1 in
      let q_t : Quiet did T = λ u b. q u (sym (settle_busy eight t u) ∙ b) in
      let qr : Quiet (Effects I did st ev) r.next =
      quiet_next did st T ev r q_t m.1 m.2.number (sim.agrees w.0 w.1).records (sim.agrees kr m.2.next).records in
      let later = leads (Effects I did st ev) next r.next kr m.2.next qr evs in
      let seen : ℕ → Bool = answered_in (rest st (ev ∷ evs)) in
      let reply_seen : Reply Table = trim_reply (answered_in (rest next evs)) r in
      let fed : feed (trim seen t) (eager seen t ev answers) ev answers ≡ some reply_seen = feed_trim (rest next evs) t ev answers r w.0.outside m.1 (not_refused st ev r m.2.number) in
      record {
        moments = eager seen t ev answers ∷ later.moments;
        follows = (agree_trim seen st t (sim.agrees k h), (reply_seen, record { defined = fed; number = m.2.number; given = m.2.given }, later.follows));
        last = later.last;
        sound = later.sound;
        related = later.related;
        ends = (reply_seen, fed, later.ends);
      }

  -- Demand 3 from a simulation, with the table at the end of the history.
  pub simulation_leads : (evs : List Event) → Leads (λ s. ⊥) start (opened places limit scale) evs
  simulation_leads evs =
      subst (λ (t : Table). Leads (λ s. ⊥) start t evs) (trim_opened (answered_in (rest start evs)) places limit scale)
      (leads (λ s. ⊥) start (opened places limit scale) (sound_opened places limit scale) sim.begins (λ u b d. d) evs)

  -- Demand 3 from a simulation.
  pub simulation_linear : Linear I start places limit scale
  simulation_linear evs = let w = simulation_leads evs in (w.moments, w.follows)
