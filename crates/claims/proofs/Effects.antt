-- Which calls have taken effect, said of the whole history (`effect_told`): a step of the station changed the held records, and no later submission of that
-- station was accepted.
use Prim.Native.Nat.{ℕ}
use mathlib.Core.Path.{◌≡◌, refl, sym, ap, subst}
use mathlib.Core.Logic.{◌⊎◌, inl, inr, ◌↔◌}
use mathlib.Core.List.{List, [], ◌∷◌, ◌++◌, cons≢nil, head-eq_of_cons-eq, tail-eq_of_cons-eq}
use Rattle.points.specs.declared.point.Point.{Point}
use Rattle.table.specs.Record.{Same}
use Rattle.table.specs.Event.{Event, submission, single_step, taking, withdrawal}
use Rattle.table.specs.History.{Index, reply, after, Effects}
use Rattle.claims.proofs.Unrolled.{AllEffects}

module _ (I : Index) (u : ℕ) where
  open I use {State}

  -- no submission of the station is accepted
  abbrev pub NoneAccepted : State → List Event → Type 0
  NoneAccepted st evs =
      (before : List Event) (kind : ℕ) (p : Point) (c : ℕ) (rest : List Event) → before ++ (submission u kind p c ∷ rest) ≡ evs → ¬ ((I.submit (after I st before) u kind p c).number ≡ 0)

  -- a step of the station changes the held records, and after it no submission of the station is accepted
  pub record Changed (st : State) (evs : List Event) : Type 0 where
    pub before : List Event
    pub rest : List Event
    pub splits : before ++ (single_step u ∷ rest) ≡ evs
    pub changed : ¬ Same (I.held (after I st before)) (I.held (I.step (after I st before) u).next)
    pub since : NoneAccepted (I.step (after I st before) u).next rest

  -- ---- one more event

  none_first : (st : State) → NoneAccepted st []
  none_first st [] kind p c rest q = absurd (cons≢nil q)
  none_first st (e ∷ before) kind p c rest q = absurd (cons≢nil q)

  none_later : (st : State) (ev : Event) (evs : List Event) → NoneAccepted st (ev ∷ evs) → NoneAccepted (reply I st ev).next evs
  unfolding after
  none_later st ev evs n before kind p c rest q = n (ev ∷ before) kind p c rest (ap (λ (es : List Event). ev ∷ es) q)

  changed_later : (st : State) (ev : Event) (evs : List Event) → Changed (reply I st ev).next evs → Changed st (ev ∷ evs)
  unfolding after
  changed_later st ev evs x =
      record { before = ev ∷ x.before; rest = x.rest; splits = ap (λ (es : List Event). ev ∷ es) x.splits; changed = x.changed; since = x.since }

  -- the station of a submission
  abbrev station_in : Event → ℕ → ℕ
  station_in (submission s kind p c) n = s
  station_in (single_step s) n = n
  station_in (taking s) n = n
  station_in (withdrawal s) n = n

  none_submitted : (st : State) (s kind : ℕ) (p : Point) (c : ℕ) (evs : List Event) → ((I.submit st s kind p c).number ≡ 0 → ¬ (u ≡ s))
      → NoneAccepted (I.submit st s kind p c).next evs → NoneAccepted st (submission s kind p c ∷ evs)
  unfolding after reply
  none_submitted st s kind p c evs d n [] kind' p' c' rest q a =
      let e : submission u kind' p' c' ≡ submission s kind p c = head-eq_of_cons-eq q in
      let same : u ≡ s = ap (λ (ev : Event). station_in ev 0) e in
      d (subst (λ (ev : Event). (reply I st ev).number ≡ 0) e a) same
  none_submitted st s kind p c evs d n (e ∷ before) kind' p' c' rest q a =
      n before kind' p' c' rest (tail-eq_of_cons-eq q) (rw (head-eq_of_cons-eq q) at a)

  -- an event that is no submission
  abbrev Other : Event → Type 0
  Other (submission s kind p c) = ⊥
  Other (single_step s) = Unit {0}
  Other (taking s) = Unit {0}
  Other (withdrawal s) = Unit {0}

  none_other : (st : State) (ev : Event) (evs : List Event) → Other ev → NoneAccepted (reply I st ev).next evs → NoneAccepted st (ev ∷ evs)
  unfolding after
  none_other st ev evs o n [] kind p c rest q = absurd (subst Other (sym (head-eq_of_cons-eq q)) o)
  none_other st ev evs o n (e ∷ before) kind p c rest q = rw (head-eq_of_cons-eq q) (n before kind p c rest (tail-eq_of_cons-eq q))

  changed_first : (st : State) (s : ℕ) (evs : List Event) → u ≡ s → ¬ Same (I.held st) (I.held (I.step st s).next) → NoneAccepted (I.step st s).next evs → Changed st (single_step s ∷ evs)
  unfolding after
  changed_first st s evs e x n = record {
    before = [];
    rest = evs;
    splits = ap (λ (v : ℕ). single_step v ∷ evs) e;
    changed = rw e x;
    since = subst (λ (v : ℕ). NoneAccepted (I.step st v).next evs) (sym e) n;
  }

  -- ---- the whole history

  to_changed : (evs : List Event) (did : ℕ → Type 0) (st : State) → AllEffects I did st evs u → (did u × NoneAccepted st evs) ⊎ Changed st evs
  unfolding reply
  to_changed [] did st x = inl (x, none_first st)
  to_changed (submission s kind p c ∷ evs) did st x = elim (to_changed evs (Effects I did st (submission s kind p c)) (I.submit st s kind p c).next x) [
    | inl y ↦ inl (y.0.0, none_submitted st s kind p c evs y.0.1 y.1)
    | inr y ↦ inr (changed_later st (submission s kind p c) evs y)
  ]
  to_changed (single_step s ∷ evs) did st x = elim (to_changed evs (Effects I did st (single_step s)) (I.step st s).next x) [
    | inl y ↦ elim y.0 [ inl d ↦ inl (d, none_other st (single_step s) evs tt y.1) | inr d ↦ inr (changed_first st s evs d.0 d.1 y.1) ]
    | inr y ↦ inr (changed_later st (single_step s) evs y)
  ]
  to_changed (taking s ∷ evs) did st x = elim (to_changed evs (Effects I did st (taking s)) (I.take st s).next x) [
    | inl y ↦ inl (y.0, none_other st (taking s) evs tt y.1)
    | inr y ↦ inr (changed_later st (taking s) evs y)
  ]
  to_changed (withdrawal s ∷ evs) did st x = elim (to_changed evs (Effects I did st (withdrawal s)) (I.withdraw st s).next x) [
    | inl y ↦ inl (y.0, none_other st (withdrawal s) evs tt y.1)
    | inr y ↦ inr (changed_later st (withdrawal s) evs y)
  ]

  from_did : (evs : List Event) (did : ℕ → Type 0) (st : State) → did u → NoneAccepted st evs → AllEffects I did st evs u
  unfolding reply after
  from_did [] did st d n = d
  from_did (submission s kind p c ∷ evs) did st d n =
      from_did evs (Effects I did st (submission s kind p c)) (I.submit st s kind p c).next
      (d, λ a e. n [] kind p c evs (ap (λ (v : ℕ). submission v kind p c ∷ evs) e) (rw e a)) (none_later st (submission s kind p c) evs n)
  from_did (single_step s ∷ evs) did st d n = from_did evs (Effects I did st (single_step s)) (I.step st s).next (inl d) (none_later st (single_step s) evs n)
  from_did (taking s ∷ evs) did st d n = from_did evs (Effects I did st (taking s)) (I.take st s).next d (none_later st (taking s) evs n)
  from_did (withdrawal s ∷ evs) did st d n = from_did evs (Effects I did st (withdrawal s)) (I.withdraw st s).next d (none_later st (withdrawal s) evs n)

  from_changed : (evs : List Event) (did : ℕ → Type 0) (st : State) (before rest : List Event) → before ++ (single_step u ∷ rest) ≡ evs
      → ¬ Same (I.held (after I st before)) (I.held (I.step (after I st before) u).next) → NoneAccepted (I.step (after I st before) u).next rest → AllEffects I did st evs u
  unfolding reply after
  from_changed [] did st [] rest q x n = absurd (cons≢nil q)
  from_changed [] did st (e ∷ before) rest q x n = absurd (cons≢nil q)
  from_changed (ev ∷ evs) did st [] rest q x n =
      rw (← head-eq_of_cons-eq q, ← tail-eq_of_cons-eq q) (from_did rest (Effects I did st (single_step u)) (I.step st u).next (inr (refl, x)) n)
  from_changed (ev ∷ evs) did st (e ∷ before) rest q x n =
      rw (← head-eq_of_cons-eq q) (from_changed evs (Effects I did st e) (reply I st e).next before rest (tail-eq_of_cons-eq q) x n)

  -- The recursion along the history and the sentence about it.
  pub effect_told : (st : State) (evs : List Event) → AllEffects I (λ s. ⊥) st evs u ↔ Changed st evs
  effect_told st evs = (
    λ x. elim (to_changed evs (λ s. ⊥) st x) [ inl y ↦ absurd y.0 | inr y ↦ y ],
    λ y. from_changed evs (λ s. ⊥) st y.before y.rest y.splits y.changed y.since,
  )
