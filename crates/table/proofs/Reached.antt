-- Every table that a history reaches is sound: `reached_sound`.
use mathlib.Core.Path.{◌≡◌, refl, sym, ◌∙◌, ap, subst}
use mathlib.Core.Logic.{◌⊎◌, inl, inr}
use mathlib.Core.Bool.{Bool, true, false}
use mathlib.Core.Option.{Option, none, some, none-ne-some, some-injective}
use mathlib.Core.List.Memᴰ
use mathlib.Core.List.{List, Memᴰ}
use Prim.Native.Nat.{ℕ, ◌+◌, ◌≤◌, ◌<◌}
use native.Mathlib.Omega.{arith}
use native.Mathlib.Decide.{dec_lt}
use lib.ListN.{length}
use lib.Dec.{ltb}
use borrow.Author.Tests.{ltb-true}
use Rattle.points.specs.declared.point.Point.{Point}
use Rattle.points.specs.declared.scale.Scale.{Scale}
use Rattle.points.specs.Number.{in_range_by}
use Rattle.table.specs.Call.{Call, call_of, kind_in_range, Answer, withdrawn_answer}
use Rattle.table.specs.Table.{Station, idle, unfinished, waiting, Table, eight, opened, put, with_stations, searching, searches, holding, taken}
use Rattle.table.specs.Event.{Event, submission, single_step, taking, withdrawal, Reply, accept, refuse, ask, is_idle, curve_fits}
use Rattle.table.specs.Event.{enter, submit, step_at, step, take_at, take, reply_if, withdraw_at, withdraw, perform, feed}
use Rattle.table.proofs.Stations.{put_cases, put_each, identity_of, searches_in, searches_out}
use Rattle.table.proofs.Removals.{since_new, numbered_new, holding_le}
use Rattle.table.proofs.Moments.{Moment, moments_keep, feed_inv}
use Rattle.table.proofs.Sound.{Known, Sound, sound_opened, sound_put, sound_set}

-- ## A submission

known_later : (n : ℕ) (removals : List (List ℕ)) (x : Station) → Known n removals x → Known (n + 1) removals x
known_later n removals idle k = tt
known_later n removals (waiting a) k = tt
known_later n removals (unfinished i c o) k = (omega (arith, k.0), k.1)

known_identity : (n : ℕ) (removals : List (List ℕ)) (x : Station) (i : ℕ) → Known n removals x → identity_of x ≡ some i → i < n
unfolding identity_of
known_identity n removals idle i k e = absurd (none-ne-some i e)
known_identity n removals (waiting a) i k e = absurd (none-ne-some i e)
known_identity n removals (unfinished j c o) i k e = omega (arith, k.0, some-injective _ _ e)

module _ (t : Table) (s : ℕ) (c : Call) (h : Sound t) (l : s < 8) where
  abbrev new : Station
  new = unfinished t.calls c none

  new_own : (u v i : ℕ) → identity_of (put t.stations s new u) ≡ some i → identity_of (put t.stations s new v) ≡ some i → u ≡ v
  unfolding identity_of
  new_own u v i d e = go (put_cases t.stations s u new) (put_cases t.stations s v new)
    where
      clash : (w : ℕ) → identity_of new ≡ some i → identity_of (t.stations w) ≡ some i → ⊥
      clash w x y =
          let k = known_identity t.calls t.removals (t.stations w) i (h.known w) y in
          let z : t.calls ≡ i = some-injective _ _ x in
          omega arith

      go : ((u ≡ s) × (put t.stations s new u ≡ new)) ⊎ ((¬ (u ≡ s)) × (put t.stations s new u ≡ t.stations u))
          → ((v ≡ s) × (put t.stations s new v ≡ new)) ⊎ ((¬ (v ≡ s)) × (put t.stations s new v ≡ t.stations v)) → u ≡ v
      go (inl x) (inl y) = x.0 ∙ sym y.0
      go (inl x) (inr y) = absurd (clash v (sym (ap identity_of x.1) ∙ d) (sym (ap identity_of y.1) ∙ e))
      go (inr x) (inl y) = absurd (clash u (sym (ap identity_of y.1) ∙ e) (sym (ap identity_of x.1) ∙ d))
      go (inr x) (inr y) = h.own u v i (sym (ap identity_of x.1) ∙ d) (sym (ap identity_of y.1) ∙ e)

  new_known : Known (t.calls + 1) t.removals new
  new_known = (
    omega arith,
    λ g. rw (since_new t.calls t.removals h.given_out) (numbered_new t.calls (length t.removals) t.removals (omega arith) h.given_out),
  )

  -- the new call is in no removal
  new_old : (i : ℕ) → i < t.calls → Memᴰ i (searches eight (put t.stations s new)) → Memᴰ i (searches eight t.stations)
  new_old i k m =
      let w = searches_out eight (put t.stations s new) i m in
      elim (put_cases t.stations s w.0 new) [
        | inl x ↦ let z : t.calls ≡ i = some-injective _ _ (unfold identity_of in ap identity_of (sym x.1 ∙ w.2.is)) in absurd (omega arith)
        | inr x ↦ searches_in eight t.stations w.0 i w.1 (record { call = w.2.call; set = w.2.set; is = sym x.1 ∙ w.2.is; search = w.2.search })
      ]

  new_holding : holding t.removals (searches eight (put t.stations s new)) ≤ holding t.removals (searches eight t.stations)
  new_holding = holding_le t.removals (searches eight t.stations) (searches eight (put t.stations s new)) (λ r m i q. new_old i (h.given_out r m i q))

  pub sound_enter : Sound (enter t s c)
  unfolding enter taken
  sound_enter =
      let n = new_holding in
      let r = h.bounded in
      record {
        once = h.once;
        outside = λ u g. elim (put_cases t.stations s u new) [ inl w ↦ absurd (omega (arith, w.0)) | inr w ↦ w.1 ∙ h.outside u g ];
        known = put_each (Known (t.calls + 1) t.removals) t.stations s new new_known (λ u. known_later t.calls t.removals (t.stations u) (h.known u));
        own = new_own;
        given_out = λ r m i q. let k = h.given_out r m i q in omega arith;
        counted = h.counted;
        spent = h.spent;
        bounded = omega arith;
      }

-- ## The events

-- what holds of a refusal and of the reply otherwise holds of a question's reply
pub ask_all : (P : Reply Table → Type 0) (b : Bool) (n : ℕ) (t : Table) (r : Reply Table) → P (refuse n t) → (b ≡ true → P r) → P (ask b n t r)
ask_all P true n t r x y = y refl
ask_all P false n t r x y = x

pub sound_submit : (t : Table) (s kind : ℕ) (p : Point) (c : ℕ) → Sound t → Sound (submit t s kind p c).next
unfolding submit
sound_submit t s kind p c h =
    ask_all P (ltb s 8) 5 t _ h (λ l. ask_all P (is_idle (t.stations s)) 6 t _ h (λ e. ask_all P (kind_in_range kind) 7 t _ h (λ e. ask_all P (in_range_by t.scale.rule p) 8 t _ h (λ e.
    ask_all P (curve_fits kind c) 9 t _ h (λ e. sound_enter t s (call_of kind p c) h (ltb-true s 8 l))))))
  where
    P : Reply Table → Type 0
    P r = Sound r.next

pub sound_take : (t : Table) (s : ℕ) → Sound t → Sound (take t s).next
unfolding take take_at identity_of searching
sound_take t s h = ask_all (λ r. Sound r.next) (ltb s 8) 5 t _ h (λ l. go (ltb-true s 8 l) (t.stations s))
  where
    go : s < 8 → (x : Station) → Sound (take_at t s x).next
    go l idle = h
    go l (unfinished i c o) = h
    go l (waiting a) = sound_put t s idle h l tt (λ i e. absurd (none-ne-some i e)) (λ i m. absurd (Memᴰ.not-nil m))

-- a station's answer waits
pub sound_wait : (t : Table) (s : ℕ) (a : Answer) → s < 8 → Sound t → Sound (with_stations t (put t.stations s (waiting a)))
unfolding identity_of searching
sound_wait t s a l h = sound_put t s (waiting a) h l tt (λ i e. absurd (none-ne-some i e)) (λ i m. absurd (Memᴰ.not-nil m))

pub sound_step : (t : Table) (s : ℕ) (answers : Bool) (r : Reply Table) → Sound t → step t s answers ≡ some r → Sound r.next
unfolding step step_at
sound_step t s answers r h = go (ltb s 8) refl answers (t.stations s)
  where
    is : (q : Reply Table) → Sound q.next → ◌≡◌ {A = Option (Reply Table)} (some q) (some r) → Sound r.next
    is q g e = rw (some-injective _ _ e) at g

    go : (b : Bool) → ltb s 8 ≡ b → (answers : Bool) (x : Station) → step_at t s b answers x ≡ some r → Sound r.next
    go false l answers x e = is (refuse 5 t) h e
    go true l answers idle e = is (refuse 10 t) h e
    go true l answers (waiting a) e = is (refuse 10 t) h e
    go true l false (unfinished i c o) e = is (accept t) h e
    go true l true (unfinished i c none) e = absurd (none-ne-some r e)
    go true l true (unfinished i c (some a)) e = is (accept (with_stations t (put t.stations s (waiting a)))) (sound_wait t s a (ltb-true s 8 l) h) e

-- a reply that is defined where a test passes
pub reply_if_lem : {b : Bool} {q r : Reply Table} → reply_if b q ≡ some r → (b ≡ true) × (q ≡ r)
unfolding reply_if
reply_if_lem {b} {q} {r} = go b
  where
    go : (b : Bool) → reply_if b q ≡ some r → (b ≡ true) × (q ≡ r)
    go true e = (refl, some-injective _ _ e)
    go false e = absurd (none-ne-some r e)

-- what holds of a refusal, and of an answer that waits where an unfinished call was, holds of a withdrawal's reply
pub withdraw_all : (P : Reply Table → Type 0) (t : Table) (s : ℕ) (r : Reply Table) → P (refuse 5 t) → P (refuse 10 t)
    → (s < 8 → (i : ℕ) (c : Call) (o : Option Answer) (b : Answer) → t.stations s ≡ unfinished i c o → P (accept (with_stations t (put t.stations s (waiting b)))))
    → withdraw t s ≡ some r → P r
unfolding withdraw withdraw_at
withdraw_all P t s r five ten waits = go (ltb s 8) refl (t.stations s) refl
  where
    is : (q : Reply Table) → P q → ◌≡◌ {A = Option (Reply Table)} (some q) (some r) → P r
    is q g d = rw (some-injective _ _ d) at g

    go : (b : Bool) → ltb s 8 ≡ b → (x : Station) → t.stations s ≡ x → withdraw_at t s b x ≡ some r → P r
    go false l x q e = is (refuse 5 t) five e
    go true l idle q e = is (refuse 10 t) ten e
    go true l (waiting a) q e = is (refuse 10 t) ten e
    go true l (unfinished i c none) q e =
        is (accept (with_stations t (put t.stations s (waiting (withdrawn_answer c))))) (waits (ltb-true s 8 l) i c none (withdrawn_answer c) q) e
    go true l (unfinished i c (some a)) q e = rw (reply_if_lem e).1 at (waits (ltb-true s 8 l) i c (some a) a q)

-- what neither other stations nor a submission change, no event changes: the rest is done by moments
pub perform_keeps : {A : Type 0} (f : Table → A) (t : Table) → ((g : ℕ → Station) → f (with_stations t g) ≡ f t) → ((s : ℕ) (c : Call) → f (enter t s c) ≡ f t)
    → (ev : Event) (answers : Bool) (r : Reply Table) → perform t ev answers ≡ some r → f r.next ≡ f t
unfolding perform submit step step_at take take_at
perform_keeps f t put-stays enter-stays (submission s kind p c) answers r e =
    ap (λ (x : Reply Table). f x.next) (sym (some-injective _ _ e)) ∙
    ask_all P (ltb s 8) 5 t _ refl (λ l. ask_all P (is_idle (t.stations s)) 6 t _ refl (λ l. ask_all P (kind_in_range kind) 7 t _ refl (λ l. ask_all P (in_range_by t.scale.rule p) 8 t _ refl
    (λ l. ask_all P (curve_fits kind c) 9 t _ refl (λ l. enter-stays s (call_of kind p c))))))
  where
    P : Reply Table → Type 0
    P q = f q.next ≡ f t
perform_keeps f t put-stays enter-stays (taking s) answers r e =
    ap (λ (x : Reply Table). f x.next) (sym (some-injective _ _ e))
    ∙ ask_all (λ q. f q.next ≡ f t) (ltb s 8) 5 t _ refl (λ l. go (t.stations s))
  where
    go : (x : Station) → f (take_at t s x).next ≡ f t
    go idle = refl
    go (unfinished i c o) = refl
    go (waiting a) = put-stays (put t.stations s idle)
perform_keeps f t put-stays enter-stays (withdrawal s) answers r e =
    withdraw_all (λ q. f q.next ≡ f t) t s r refl refl (λ l i c o b q. put-stays (put t.stations s (waiting b))) e
perform_keeps f t put-stays enter-stays (single_step s) answers r e = go (ltb s 8) answers (t.stations s) e
  where
    is : (q : Reply Table) → f q.next ≡ f t → ◌≡◌ {A = Option (Reply Table)} (some q) (some r) → f r.next ≡ f t
    is q g d = ap (λ (x : Reply Table). f x.next) (sym (some-injective _ _ d)) ∙ g

    go : (b answers : Bool) (x : Station) → step_at t s b answers x ≡ some r → f r.next ≡ f t
    go false answers x q = is (refuse 5 t) refl q
    go true answers idle q = is (refuse 10 t) refl q
    go true answers (waiting a) q = is (refuse 10 t) refl q
    go true false (unfinished i c o) q = is (accept t) refl q
    go true true (unfinished i c none) q = absurd (none-ne-some r q)
    go true true (unfinished i c (some a)) q = is (accept (with_stations t (put t.stations s (waiting a)))) (put-stays (put t.stations s (waiting a))) q

pub sound_withdraw : (t : Table) (s : ℕ) (r : Reply Table) → Sound t → withdraw t s ≡ some r → Sound r.next
sound_withdraw t s r h = withdraw_all (λ q. Sound q.next) t s r h h (λ l i c o b e. sound_wait t s b l h)

pub sound_perform : (t : Table) (ev : Event) (answers : Bool) (r : Reply Table) → Sound t → perform t ev answers ≡ some r → Sound r.next
unfolding perform
sound_perform t (submission s kind p c) answers r h e = subst (λ (q : Reply Table). Sound q.next) (some-injective _ _ e) (sound_submit t s kind p c h)
sound_perform t (single_step s) answers r h e = sound_step t s answers r h e
sound_perform t (taking s) answers r h e = subst (λ (q : Reply Table). Sound q.next) (some-injective _ _ e) (sound_take t s h)
sound_perform t (withdrawal s) answers r h e = sound_withdraw t s r h e

-- ## Moments

pub sound_moment : (ev : Event) (t u : Table) (s : ℕ) → Sound t → Moment ev t s u → Sound u
unfolding identity_of
sound_moment ev t u s h m = go (dec_lt s 8)
  where
    go : Dec (s < 8) → Sound u
    go (yes l) = rw m.is at (sound_set t s m.identity m.call l m.pending h)
    go (no n) = absurd (none-ne-some m.identity (ap identity_of (sym (h.outside s (omega arith)) ∙ m.pending)))

pub sound_feed : (t : Table) (ms : List ℕ) (ev : Event) (answers : Bool) (r : Reply Table) → Sound t → feed t ms ev answers ≡ some r → Sound r.next
sound_feed t ms ev answers r h e =
    let w = feed_inv t ms ev answers r e in
    sound_perform w.0 ev answers r (moments_keep ev Sound (sound_moment ev) ms t w.0 w.1 h) w.2

-- ## Reached tables

-- the table after some events from an opening, whatever the moments and answers, as far as it is defined
pub data Reached (places limit : ℕ) (scale : Scale) : Table → Type 0 where
  first : Reached places limit scale (opened places limit scale)
  later : {t u : Table} → Reached places limit scale t → (ms : List ℕ) (ev : Event) (answers : Bool) (r : Reply Table) → feed t ms ev answers ≡ some r → r.next ≡ u
      → Reached places limit scale u

-- Every table that a history reaches is sound.
pub reached_sound : {places limit : ℕ} {scale : Scale} {t : Table} → Reached places limit scale t → Sound t
reached_sound {places} {limit} {scale} first = sound_opened places limit scale
reached_sound (later {t = t} h ms ev answers r e q) = rw q at (sound_feed t ms ev answers r (reached_sound h) e)
