-- What demand 3 says of a withdrawal, for every index that meets it (`withdrawn_waits`): a call that was accepted, and that nothing has ended since, can be withdrawn; what
-- waits then is 11 with its point, or the change that it has made.
use mathlib.Core.Path.{◌≡◌, refl, sym, ◌∙◌, ap}
use mathlib.Core.Logic.{◌⊎◌, inl, inr}
use mathlib.Core.Bool.{true}
use mathlib.Core.Option.{Option, none, some, some-injective}
use mathlib.Core.List.{List, [], ◌∷◌, ◌++◌}
use Prim.Native.Nat.{ℕ, ◌<◌}
use native.Mathlib.Omega.{arith}
use lib.Dec.{ltb}
use borrow.Author.Tests.{lt-ltb, ltb-true}
use Rattle.points.specs.declared.point.Point.{Point}
use Rattle.points.specs.declared.scale.Scale.{Scale}
use Rattle.table.specs.Call.{Call, call_of, Answer, is_change, withdrawn_answer}
use Rattle.table.specs.Table.{unfinished, waiting, Table, opened, put, with_stations, answer_of}
use Rattle.table.specs.Event.{Event, submission, withdrawal, Reply, accept, enter, submit, moments, take_at, take, withdraw_at, withdraw, perform}
use Rattle.table.specs.History.{Index, reply, after, would_give, answered, Agree, Effects, Follows, Linear}
use Rattle.table.proofs.Stations.{put_same}
use Rattle.table.proofs.Moments.{feed_inv}
use Rattle.table.proofs.Reached.{ask_all, reply_if_lem}
use Rattle.table.proofs.Between.{sets_stay, between, perform_stays}
use Rattle.table.proofs.Searched.{submit_accepted, Unanswered, follows_agree, follows_after}

-- ## Of the table

-- moments leave a call unfinished
still_unfinished : (ev : Event) (ms : List ℕ) (t u : Table) (s i : ℕ) (c : Call) (o : Option Answer) → t.stations s ≡ unfinished i c o → moments ev t ms ≡ some u
    → (w : Option Answer) × (u.stations s ≡ unfinished i c w)
still_unfinished ev ms t u s i c (some b) e m = (some b, sets_stay ev ms t u s i c b m e)
still_unfinished ev ms t u s i c none e m = elim (between ev ms t u s i c e m) [ inl x ↦ (none, x) | inr x ↦ (some (answer_of x.at_moment s c), x.is) ]

-- 11 with the point of the call, or a change
abbrev pub AfterWithdrawal : Call → Answer → Type 0
AfterWithdrawal c a = (a ≡ withdrawn_answer c) ⊎ (is_change a ≡ true)

-- a withdrawal of an unfinished call, where it is defined
withdraw_ends : (t : Table) (s i : ℕ) (c : Call) (o : Option Answer) (r : Reply Table) → s < 8 → t.stations s ≡ unfinished i c o → withdraw t s ≡ some r
    → (r.number ≡ 0) × ((a : Answer) × AfterWithdrawal c a × (r.next.stations s ≡ waiting a))
unfolding withdraw withdraw_at
withdraw_ends t s i c o r l e d = go o (rw (lt-ltb s 8 l, e) at d)
  where
    waits : (a : Answer) → AfterWithdrawal c a → some (accept (with_stations t (put t.stations s (waiting a)))) ≡ some r
        → (r.number ≡ 0) × ((a : Answer) × AfterWithdrawal c a × (r.next.stations s ≡ waiting a))
    waits a b q =
        let z = some-injective _ _ q in
        (ap (λ (x : Reply Table). x.number) (sym z), (a, b, ap (λ (x : Reply Table). x.next.stations s) (sym z) ∙ put_same t.stations s (waiting a)))

    go : (o : Option Answer) → withdraw_at t s true (unfinished i c o) ≡ some r → (r.number ≡ 0) × ((a : Answer) × AfterWithdrawal c a × (r.next.stations s ≡ waiting a))
    go none q = waits (withdrawn_answer c) (inl refl) q
    go (some a) q = let z = reply_if_lem q in waits a (inr z.0) (ap some z.1)

taking_gives : (t : Table) (s : ℕ) (a : Answer) → s < 8 → t.stations s ≡ waiting a → (take t s).given ≡ some a
unfolding take take_at
taking_gives t s a l e = rw (lt-ltb s 8 l, e)

submit_station : (t : Table) (s kind : ℕ) (p : Point) (c : ℕ) → (submit t s kind p c).number ≡ 0 → s < 8
unfolding submit
submit_station t s kind p c = ask_all (λ r. r.number ≡ 0 → s < 8) (ltb s 8) 5 t _ (λ e. absurd (omega arith)) (λ l e. ltb-true s 8 l)

-- ## Of an index

module _ (I : Index) where
  open I use {State}

  withdrawn_rest : (s i : ℕ) (c : Call) (during : List Event) (did : ℕ → Type 0) (mss : List (List ℕ)) (st : State) (t : Table) (o : Option Answer)
      → Follows I did st t (during ++ (withdrawal s ∷ [])) mss → s < 8 → t.stations s ≡ unfinished i c o → Unanswered I s st during
      → ((I.withdraw (after I st during) s).number ≡ 0) × ((a : Answer) × AfterWithdrawal c a × (would_give I (I.withdraw (after I st during) s).next s ≡ some a))
  unfolding after reply perform
  withdrawn_rest s i c [] did [] st t o h l e n = absurd h
  withdrawn_rest s i c [] did (ms ∷ mss) st t o h l e n =
      let r : Reply Table = h.1.0 in
      let k = h.1.1 in
      let v = feed_inv t ms (withdrawal s) (answered I st (withdrawal s)) r k.defined in
      let m = still_unfinished (withdrawal s) ms t v.0 s i c o e v.1 in
      let x = withdraw_ends v.0 s i c m.0 r l m.1 v.2 in
      let z : Agree I (I.withdraw st s).next r.next = follows_agree I (Effects I did st (withdrawal s)) [] mss (I.withdraw st s).next r.next h.1.2 in
      (k.number ∙ x.0, (x.1.0, x.1.1, z.waiting s ∙ taking_gives r.next s x.1.0 l x.1.2))
  withdrawn_rest s i c (ev ∷ during) did [] st t o h l e n = absurd h
  withdrawn_rest s i c (ev ∷ during) did (ms ∷ mss) st t o h l e n =
      let r : Reply Table = h.1.0 in
      let v = feed_inv t ms ev (answered I st ev) r h.1.1.defined in
      let m = still_unfinished ev ms t v.0 s i c o e v.1 in
      let y = perform_stays v.0 s i c m.0 m.1 ev (answered I st ev) r n.0.0 n.0.1 v.2 in
      withdrawn_rest s i c during (Effects I did st ev) mss (reply I st ev).next r.next m.0 h.1.2 l y n.1

  -- Of an index that meets demand 3: let a call be accepted at station s after some events, and let s withdraw it after some more, of which no step of s answers it and none
  -- withdraws it. Then the withdrawal is accepted, and what waits is 11 with the point of the call, or a change.
  pub withdrawn_waits : (start : State) (places limit : ℕ) (scale : Scale) → Linear I start places limit scale
      → (before during : List Event) (s kind : ℕ) (p : Point) (c : ℕ) (st : State)
      → (reply I (after I start before) (submission s kind p c)).number ≡ 0 → (reply I (after I start before) (submission s kind p c)).next ≡ st → Unanswered I s st during
      → ((I.withdraw (after I st during) s).number ≡ 0) × ((a : Answer) × AfterWithdrawal (call_of kind p c) a × (would_give I (I.withdraw (after I st during) s).next s ≡ some a))
  unfolding perform enter
  withdrawn_waits start places limit scale linear before during s kind p c st e d n =
      let rest : List Event = during ++ (withdrawal s ∷ []) in
      let w = linear (before ++ (submission s kind p c ∷ rest)) in
      follows_after I _ before (submission s kind p c ∷ rest) (λ s. ⊥) w.0 start (opened places limit scale) w.1 go
    where
      go : (did : ℕ → Type 0) (mss : List (List ℕ)) (t : Table) → t.scale ≡ (opened places limit scale).scale
          → Follows I did (after I start before) t (submission s kind p c ∷ (during ++ (withdrawal s ∷ []))) mss
          → ((I.withdraw (after I st during) s).number ≡ 0) × ((a : Answer) × AfterWithdrawal (call_of kind p c) a × (would_give I (I.withdraw (after I st during) s).next s ≡ some a))
      go did [] t same h = absurd h
      go did (ms ∷ mss) t same h =
          let ev : Event = submission s kind p c in
          let from : State = after I start before in
          let r : Reply Table = h.1.0 in
          let k = h.1.1 in
          let v = feed_inv t ms ev (answered I from ev) r k.defined in
          let is : submit v.0 s kind p c ≡ r = some-injective _ _ v.2 in
          let ok : (submit v.0 s kind p c).number ≡ 0 = ap (λ (x : Reply Table). x.number) is ∙ sym k.number ∙ e in
          let new = unfinished v.0.calls (call_of kind p c) none in
          let at : r.next.stations s ≡ new =
          ap (λ (x : Reply Table). x.next.stations s) (sym is) ∙ ap (λ (x : Table). x.stations s) (submit_accepted v.0 s kind p c ok) ∙ put_same v.0.stations s new in
          let later : Follows I (Effects I did from ev) st r.next (during ++ (withdrawal s ∷ [])) mss = rw d at h.1.2 in
          withdrawn_rest s v.0.calls (call_of kind p c) during (Effects I did from ev) mss st r.next none later (submit_station v.0 s kind p c ok) at n
