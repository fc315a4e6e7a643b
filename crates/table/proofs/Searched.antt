-- What demand 3 says of a search, for every index that meets it: the answer is the nearest, by the factors of the opening, of the records held at some
-- point between the submission and the answer, or none where the grade had no record then (`search_held`). So no search comes back with a record that was
-- removed while a nearer one was held throughout.
use mathlib.Core.Path.{◌≡◌, refl, sym, ◌∙◌, ap}
use mathlib.Core.Logic.{◌⊎◌, inl, inr}
use mathlib.Core.Bool.{Bool, true, false}
use mathlib.Core.Option.{Option, none, some, none-ne-some, some-injective}
use mathlib.Core.List.{List, [], ◌∷◌, ◌++◌}
use Prim.Native.Nat.{ℕ}
use native.Mathlib.Omega.{arith}
use lib.Dec.{eqb, ltb}
use borrow.Author.Tests.{eqb-true}
use Rattle.points.specs.declared.point.Point.{Point}
use Rattle.points.specs.declared.scale.Scale.{Scale}
use Rattle.points.specs.Number.{in_range_by}
use Rattle.table.specs.Record.{nearest_of}
use Rattle.table.specs.Call.{Call, nearest, call_of, kind_in_range, Answer, nearest_answer}
use Rattle.table.specs.Table.{Station, idle, unfinished, waiting, Table, opened, put, with_stations, answer_of}
use Rattle.table.specs.Event.{Event, submission, single_step, Reply, ask, is_idle, curve_fits, enter, submit, own_step, own_withdrawal, moments, take_at, take, perform}
use Rattle.table.specs.History.{Index, reply, after, would_give, answered, Agree, Effects, Follows, Linear}
use Rattle.table.proofs.Tests.{and_left}
use Rattle.table.proofs.Nearest.{nearest_same}
use Rattle.table.proofs.Stations.{put_same}
use Rattle.table.proofs.Moments.{feed_inv}
use Rattle.table.proofs.Reached.{ask_all}
use Rattle.table.proofs.Scale.{feed_scale, opened_scale}
use Rattle.table.proofs.Settled.{answer_next}
use Rattle.table.proofs.Between.{sets_stay, between, perform_held, perform_stays}

-- ## Of the table

pub take_given : (t : Table) (s : ℕ) (a : Answer) → (take t s).given ≡ some a → t.stations s ≡ waiting a
unfolding take take_at
take_given t s a = go (ltb s 8) (t.stations s) refl
  where
    go : (b : Bool) (x : Station) → t.stations s ≡ x → (ask b 5 t (take_at t s x)).given ≡ some a → t.stations s ≡ waiting a
    go false x q e = absurd (none-ne-some a e)
    go true idle q e = absurd (none-ne-some a e)
    go true (unfinished i c o) q e = absurd (none-ne-some a e)
    go true (waiting b) q e = q ∙ ap waiting (some-injective _ _ e)

pub submit_accepted : (t : Table) (s kind : ℕ) (p : Point) (c : ℕ) → (submit t s kind p c).number ≡ 0 → (submit t s kind p c).next ≡ enter t s (call_of kind p c)
unfolding submit
submit_accepted t s kind p c =
    ask_all P (ltb s 8) 5 t _ (λ e. absurd (omega arith)) (λ l. ask_all P (is_idle (t.stations s)) 6 t _ (λ e. absurd (omega arith))
    (λ l. ask_all P (kind_in_range kind) 7 t _ (λ e. absurd (omega arith)) (λ l. ask_all P (in_range_by t.scale.rule p) 8 t _ (λ e. absurd (omega arith))
    (λ l. ask_all P (curve_fits kind c) 9 t _ (λ e. absurd (omega arith)) (λ l e. refl)))))
  where
    P : Reply Table → Type 0
    P r = r.number ≡ 0 → r.next ≡ enter t s (call_of kind p c)

-- one station has one answer set down, and one waiting
same_set : (x y : Station) (i j : ℕ) (c d : Call) (o : Option Answer) (b a : Answer) → x ≡ unfinished i c o → x ≡ unfinished j d (some b) → y ≡ waiting b → y ≡ waiting a
    → o ≡ some a
same_set x y i j c d o b a e f g h = cc

-- the answer that is put at a station waits there
put_waits : (t u : Table) (s : ℕ) (a : Answer) → u ≡ with_stations t (put t.stations s (waiting a)) → u.stations s ≡ waiting a
put_waits t u s a e = ap (λ (x : Table). x.stations s) e ∙ put_same t.stations s (waiting a)

-- the station of an accepted search
entered : (t : Table) (s : ℕ) (q : Point) (c : ℕ) → (submit t s 4 q c).number ≡ 0 → (submit t s 4 q c).next.stations s ≡ unfinished t.calls (nearest q) none
unfolding enter call_of
entered t s q c e = ap (λ (x : Table). x.stations s) (submit_accepted t s 4 q c e) ∙ put_same t.stations s (unfinished t.calls (nearest q) none)

module _ (I : Index) where
  open I use {State}

  -- P holds of the state before some events, or after one of them
  abbrev pub Sometime : (State → Type 0) → State → List Event → Type 0
  Sometime P st [] = P st
  Sometime P st (ev ∷ evs) = P st ⊎ Sometime P (reply I st ev).next evs

  -- no step of these events answers the station, and no withdrawal is its own
  abbrev pub Unanswered : ℕ → State → List Event → Type 0
  Unanswered s st [] = Unit
  Unanswered s st (ev ∷ evs) = ((own_step ev s ≡ true → answered I st ev ≡ false) × (own_withdrawal ev s ≡ false)) × Unanswered s (reply I st ev).next evs

  -- a is the answer of a search for q by the scale, among the records that the index holds
  abbrev pub Right : Scale → Point → Answer → State → Type 0
  Right scale q a st = a ≡ nearest_answer scale q (nearest_of scale q (I.held st))

  now : (P : State → Type 0) (st : State) (evs : List Event) → P st → Sometime P st evs
  now P st [] h = h
  now P st (ev ∷ evs) h = inl h

  pub follows_agree : (did : ℕ → Type 0) (evs : List Event) (mss : List (List ℕ)) (st : State) (t : Table) → Follows I did st t evs mss → Agree I st t
  follows_agree did [] [] st t h = h.0
  follows_agree did [] (ms ∷ mss) st t h = absurd h
  follows_agree did (ev ∷ evs) [] st t h = absurd h
  follows_agree did (ev ∷ evs) (ms ∷ mss) st t h = h.0

  -- the rest of a history that follows, from a table with the same factors
  pub follows_after : (X : Type 0) (before rest : List Event) (did : ℕ → Type 0) (mss : List (List ℕ)) (st : State) (t : Table)
      → Follows I did st t (before ++ rest) mss
      → ((did : ℕ → Type 0) (mss : List (List ℕ)) (u : Table) → u.scale ≡ t.scale → Follows I did (after I st before) u rest mss → X) → X
  unfolding after
  follows_after X [] rest did mss st t h k = k did mss t refl h
  follows_after X (ev ∷ before) rest did [] st t h k = absurd h
  follows_after X (ev ∷ before) rest did (ms ∷ mss) st t h k =
      let r : Reply Table = h.1.0 in
      let same : r.next.scale ≡ t.scale = feed_scale t ms ev (answered I st ev) r h.1.1.defined in
      follows_after X before rest (Effects I did st ev) mss (reply I st ev).next r.next h.1.2 (λ did mss u e. k did mss u (e ∙ same))

  -- ## One event

  right_held : (scale : Scale) (q : Point) (s : ℕ) (st : State) (t u : Table) → Agree I st t → u.scale ≡ scale → u.held ≡ t.held
      → Right scale q (answer_of u s (nearest q)) st
  unfolding answer_of
  right_held scale q s st t u a k e =
      ap (λ (x : Scale). nearest_answer x q (nearest_of x q u.held)) k
      ∙ ap (nearest_answer scale q) (ap (nearest_of scale q) e ∙ nearest_same scale q t.held (I.held st) (λ r. ((a.records r).1, (a.records r).0)) a.once)

  -- the search before what the event itself does: as it was, or its answer has been set down, right before the event or after it
  abbrev Meanwhile : Scale → Point → State → State → Option Answer → Option Answer → Type 0
  Meanwhile scale q st next o w = (w ≡ o) ⊎ ((b : Answer) × (w ≡ some b) × (Right scale q b st ⊎ Right scale q b next))

  meanwhile : (scale : Scale) (q : Point) (s i : ℕ) (o : Option Answer) (st : State) (t u : Table) (ms : List ℕ) (ev : Event) (r : Reply Table) (next : State) → Agree I st t
      → Agree I next r.next → t.scale ≡ scale
      → t.stations s ≡ unfinished i (nearest q) o → moments ev t ms ≡ some u → r.next.held ≡ u.held
      → (w : Option Answer) × (u.stations s ≡ unfinished i (nearest q) w) × Meanwhile scale q st next o w
  meanwhile scale q s i (some b) st t u ms ev r next a z k e m h = (some b, sets_stay ev ms t u s i (nearest q) b m e, inl refl)
  meanwhile scale q s i none st t u ms ev r next a z k e m h = elim (between ev ms t u s i (nearest q) e m) [
    | inl x ↦ (none, x, inl refl)
    | inr x ↦ (
      some (answer_of x.at_moment s (nearest q)),
      x.is,
      inr (
        answer_of x.at_moment s (nearest q),
        refl,
        elim x.held [
          | inl d ↦ inl (right_held scale q s st t x.at_moment a (x.scale ∙ k) d)
          | inr d ↦ inr (right_held scale q s next r.next x.at_moment z (x.scale ∙ k) (d ∙ sym h))
        ],
      ),
    )
  ]

  not_refused : (st : State) (s : ℕ) → answered I st (single_step s) ≡ true → (I.step st s).number ≡ 0
  unfolding answered
  not_refused st s a = eqb-true (I.step st s).number 0 (and_left (eqb (I.step st s).number 0) (eqb (I.take (I.step st s).next s).number 0) a)

  -- ## The rest of the search

  search_rest : (scale : Scale) (q : Point) (s i : ℕ) (a : Answer) (during : List Event) (did : ℕ → Type 0) (mss : List (List ℕ)) (st : State) (t : Table) (o : Option Answer)
      → t.scale ≡ scale → Follows I did st t (during ++ (single_step s ∷ [])) mss → t.stations s ≡ unfinished i (nearest q) o → Unanswered s st during
      → answered I (after I st during) (single_step s) ≡ true
      → would_give I (after I st (during ++ (single_step s ∷ []))) s ≡ some a → (o ≡ some a) ⊎ Sometime (Right scale q a) st (during ++ (single_step s ∷ []))
  unfolding after reply perform
  search_rest scale q s i a [] did [] st t o same h e n f g = absurd h
  search_rest scale q s i a [] did (ms ∷ mss) st t o same h e n f g =
      let r : Reply Table = h.1.0 in
      let c = h.1.1 in
      let z : Agree I (I.step st s).next r.next = follows_agree (Effects I did st (single_step s)) [] mss (I.step st s).next r.next h.1.2 in
      let v = feed_inv t ms (single_step s) true r (rw f at c.defined) in
      let m = meanwhile scale q s i o st t v.0 ms (single_step s) r (I.step st s).next h.0 z same e v.1 (perform_held v.0 (single_step s) true r v.2) in
      let accepted : r.number ≡ 0 = sym c.number ∙ not_refused st s f in
      let k = answer_next v.0 s r v.2 accepted in
      let x : r.next.stations s ≡ waiting a = take_given r.next s a (sym (z.waiting s) ∙ g) in
      let y : r.next.stations s ≡ waiting k.2 = put_waits v.0 r.next s k.2 k.4 in
      last m.0 (same_set (v.0.stations s) (r.next.stations s) i k.0 (nearest q) k.1 m.0 k.2 a m.1 k.3 y x) m.2
    where
      last : (w : Option Answer) → w ≡ some a → Meanwhile scale q st (I.step st s).next o w → (o ≡ some a) ⊎ (Right scale q a st ⊎ Right scale q a (I.step st s).next)
      last w d (inl x) = inl (sym x ∙ d)
      last w d (inr x) =
          let b : x.0 ≡ a = some-injective _ _ (sym x.1 ∙ d) in
          inr (rw b at x.2)
  search_rest scale q s i a (ev ∷ during) did [] st t o same h e n f g = absurd h
  search_rest scale q s i a (ev ∷ during) did (ms ∷ mss) st t o same h e n f g =
      let r : Reply Table = h.1.0 in
      let c = h.1.1 in
      let next : State = (reply I st ev).next in
      let z : Agree I next r.next = follows_agree (Effects I did st ev) (during ++ (single_step s ∷ [])) mss next r.next h.1.2 in
      let v = feed_inv t ms ev (answered I st ev) r c.defined in
      let m = meanwhile scale q s i o st t v.0 ms ev r next h.0 z same e v.1 (perform_held v.0 ev (answered I st ev) r v.2) in
      let y = perform_stays v.0 s i (nearest q) m.0 m.1 ev (answered I st ev) r n.0.0 n.0.1 v.2 in
      let kept : r.next.scale ≡ scale = feed_scale t ms ev (answered I st ev) r c.defined ∙ same in
      let ih = search_rest scale q s i a during (Effects I did st ev) mss next r.next m.0 kept h.1.2 y n.1 f g in
      more next m.0 m.2 ih
    where
      more : (next : State) (w : Option Answer) → Meanwhile scale q st next o w → (w ≡ some a) ⊎ Sometime (Right scale q a) next (during ++ (single_step s ∷ []))
          → (o ≡ some a) ⊎ (Right scale q a st ⊎ Sometime (Right scale q a) next (during ++ (single_step s ∷ [])))
      more next w k (inr x) = inr (inr x)
      more next w (inl k) (inl x) = inl (sym k ∙ x)
      more next w (inr k) (inl x) =
          let b : k.0 ≡ a = some-injective _ _ (sym k.1 ∙ x) in
          elim k.2 [ inl y ↦ inr (inl (rw b at y)) | inr y ↦ inr (inr (now (Right scale q a) next (during ++ (single_step s ∷ [])) (rw b at y))) ]

  -- Of an index that meets demand 3: let a search for q be accepted at station s after some events, let it be answered by the last of some more events, a step
  -- of s, and no earlier one, and let a be the answer that waits then. Then a is right, by the factors of the opening, for the records held after the
  -- submission or after one of these events.
  pub search_held : (start : State) (places limit : ℕ) (scale : Scale) → Linear I start places limit scale
      → (before during : List Event) (s c : ℕ) (q : Point) (a : Answer) (st : State)
      → (reply I (after I start before) (submission s 4 q c)).number ≡ 0 → (reply I (after I start before) (submission s 4 q c)).next ≡ st → Unanswered s st during
      → answered I (after I st during) (single_step s) ≡ true → would_give I (after I st (during ++ (single_step s ∷ []))) s ≡ some a
      → Sometime (Right scale q a) st (during ++ (single_step s ∷ []))
  unfolding perform
  search_held start places limit scale l before during s c q a st e d n f g =
      let rest : List Event = during ++ (single_step s ∷ []) in
      let w = l (before ++ (submission s 4 q c ∷ rest)) in
      follows_after (Sometime (Right scale q a) st rest) before (submission s 4 q c ∷ rest) (λ s. ⊥) w.0 start (opened places limit scale) w.1 go
    where
      go : (did : ℕ → Type 0) (mss : List (List ℕ)) (t : Table) → t.scale ≡ (opened places limit scale).scale
          → Follows I did (after I start before) t (submission s 4 q c ∷ (during ++ (single_step s ∷ []))) mss
          → Sometime (Right scale q a) st (during ++ (single_step s ∷ []))
      go did [] t same h = absurd h
      go did (ms ∷ mss) t same h =
          let ev : Event = submission s 4 q c in
          let from : State = after I start before in
          let r : Reply Table = h.1.0 in
          let k = h.1.1 in
          let v = feed_inv t ms ev (answered I from ev) r k.defined in
          let is : submit v.0 s 4 q c ≡ r = some-injective _ _ v.2 in
          let ok : (submit v.0 s 4 q c).number ≡ 0 = ap (λ (x : Reply Table). x.number) is ∙ sym k.number ∙ e in
          let at : r.next.stations s ≡ unfinished v.0.calls (nearest q) none = ap (λ (x : Reply Table). x.next.stations s) (sym is) ∙ entered v.0 s q c ok in
          let later : Follows I (Effects I did from ev) st r.next (during ++ (single_step s ∷ [])) mss = rw d at h.1.2 in
          let kept : r.next.scale ≡ scale = feed_scale t ms ev (answered I from ev) r k.defined ∙ same ∙ opened_scale places limit scale in
          let found = search_rest scale q s v.0.calls a during (Effects I did from ev) mss st r.next none kept later at n f g in
          elim found [ inl x ↦ absurd (none-ne-some a x) | inr x ↦ x ]
