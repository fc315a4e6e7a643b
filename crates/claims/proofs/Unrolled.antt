-- What `Follows` of the table says along a history, said of each event: the moments and the table by the events before (`moments_at`, `table_at`), agreement
-- (`agree_at`), the event's reply (`fed_at`) and the end (`end_at`, `last_at`).
use Prim.Native.Nat.{ℕ}
use mathlib.Core.Path.{◌≡◌, refl, sym, ◌∙◌}
use mathlib.Core.List.{List, [], ◌∷◌, ◌++◌, cons≢nil, head-eq_of_cons-eq, tail-eq_of_cons-eq}
use mathlib.Core.Option.{some, some-injective}
use Rattle.table.specs.Table.{Table}
use Rattle.table.specs.Event.{Event, Reply, feed}
use Rattle.table.specs.History.{Index, reply, after, answered, Agree, Effects, AtEnd, Follows, Ends}

module _ (I : Index) where
  open I use {State}

  -- the moments at the event after these
  unfoldable pub moments_at : List (List ℕ) → List Event → List ℕ
  moments_at [] before = []
  moments_at (ms ∷ mss) [] = ms
  moments_at (ms ∷ mss) (e ∷ before) = moments_at mss before

  -- the table after these events
  unfoldable pub table_at : (did : ℕ → Type 0) (st : State) (t : Table) (evs : List Event) (mss : List (List ℕ)) → Follows I did st t evs mss → List Event → Table
  table_at did st t [] [] f before = t
  table_at did st t [] (ms ∷ mss) f before = absurd f
  table_at did st t (ev ∷ evs) [] f before = absurd f
  table_at did st t (ev ∷ evs) (ms ∷ mss) f [] = t
  table_at did st t (ev ∷ evs) (ms ∷ mss) f (e ∷ before) = table_at (Effects I did st ev) (reply I st ev).next f.1.0.next evs mss f.1.2 before

  -- the stations whose call has changed the held records since its submission, after the events
  abbrev pub AllEffects : (ℕ → Type 0) → State → List Event → ℕ → Type 0
  AllEffects did st [] = did
  AllEffects did st (ev ∷ evs) = AllEffects (Effects I did st ev) (reply I st ev).next evs

  pub table_first : (did : ℕ → Type 0) (st : State) (t : Table) (evs : List Event) (mss : List (List ℕ)) (f : Follows I did st t evs mss) → table_at did st t evs mss f [] ≡ t
  unfolding table_at
  table_first did st t [] [] f = refl
  table_first did st t [] (ms ∷ mss) f = absurd f
  table_first did st t (ev ∷ evs) [] f = absurd f
  table_first did st t (ev ∷ evs) (ms ∷ mss) f = refl

  -- index and table agree after every first part of the history
  pub agree_at : (did : ℕ → Type 0) (st : State) (t : Table) (evs : List Event) (mss : List (List ℕ)) (f : Follows I did st t evs mss) (before rest : List Event)
      → before ++ rest ≡ evs → Agree I (after I st before) (table_at did st t evs mss f before)
  unfolding table_at after
  agree_at did st t [] [] f [] rest q = f.0
  agree_at did st t [] [] f (e ∷ before) rest q = absurd (cons≢nil q)
  agree_at did st t [] (ms ∷ mss) f before rest q = absurd f
  agree_at did st t (ev ∷ evs) [] f before rest q = absurd f
  agree_at did st t (ev ∷ evs) (ms ∷ mss) f [] rest q = f.0
  agree_at did st t (ev ∷ evs) (ms ∷ mss) f (e ∷ before) rest q =
      rw (head-eq_of_cons-eq q)
      (agree_at (Effects I did st ev) (reply I st ev).next f.1.0.next evs mss f.1.2 before rest (tail-eq_of_cons-eq q))

  -- an event: the table's reply, which is the index's, and the table after it
  pub record FedAt (st : State) (t : Table) (ms : List ℕ) (ev : Event) (u : Table) : Type 0 where
    pub reply_table : Reply Table
    pub defined : feed t ms ev (answered I st ev) ≡ some reply_table
    pub next : reply_table.next ≡ u
    pub number : (reply I st ev).number ≡ reply_table.number
    pub given : (reply I st ev).given ≡ reply_table.given

  pub fed_at : (did : ℕ → Type 0) (st : State) (t : Table) (evs : List Event) (mss : List (List ℕ)) (f : Follows I did st t evs mss) (before : List Event) (ev : Event)
      (rest : List Event) → before ++ (ev ∷ rest) ≡ evs
      → FedAt (after I st before) (table_at did st t evs mss f before) (moments_at mss before) ev (table_at did st t evs mss f (before ++ (ev ∷ [])))
  unfolding table_at moments_at after
  fed_at did st t [] [] f [] ev rest q = absurd (cons≢nil q)
  fed_at did st t [] [] f (e ∷ before) ev rest q = absurd (cons≢nil q)
  fed_at did st t [] (ms ∷ mss) f before ev rest q = absurd f
  fed_at did st t (e ∷ evs) [] f before ev rest q = absurd f
  fed_at did st t (e ∷ evs) (ms ∷ mss) f [] ev rest q =
      rw (head-eq_of_cons-eq q)
      (record {
        reply_table = f.1.0;
        defined = f.1.1.defined;
        next = sym (table_first (Effects I did st e) (reply I st e).next f.1.0.next evs mss f.1.2);
        number = f.1.1.number;
        given = f.1.1.given;
      })
  fed_at did st t (e ∷ evs) (ms ∷ mss) f (d ∷ before) ev rest q =
      rw (head-eq_of_cons-eq q)
      (fed_at (Effects I did st e) (reply I st e).next f.1.0.next evs mss f.1.2 before ev rest (tail-eq_of_cons-eq q))

  -- the end of the history
  pub end_at : (did : ℕ → Type 0) (st : State) (t : Table) (evs : List Event) (mss : List (List ℕ)) (f : Follows I did st t evs mss)
      → AtEnd I (AllEffects did st evs) (table_at did st t evs mss f evs)
  unfolding table_at
  end_at did st t [] [] f = f.1
  end_at did st t [] (ms ∷ mss) f = absurd f
  end_at did st t (ev ∷ evs) [] f = absurd f
  end_at did st t (ev ∷ evs) (ms ∷ mss) f = end_at (Effects I did st ev) (reply I st ev).next f.1.0.next evs mss f.1.2

  -- the table at the end is the one that the moments lead to
  pub last_at : (did : ℕ → Type 0) (st : State) (t : Table) (evs : List Event) (mss : List (List ℕ)) (f : Follows I did st t evs mss) (u : Table)
      → Ends I st t evs mss u → table_at did st t evs mss f evs ≡ u
  unfolding table_at
  last_at did st t [] [] f u e = e
  last_at did st t [] (ms ∷ mss) f u e = absurd f
  last_at did st t (ev ∷ evs) [] f u e = absurd f
  last_at did st t (ev ∷ evs) (ms ∷ mss) f u e =
      let same : e.0 ≡ f.1.0 = some-injective e.0 f.1.0 (sym e.1 ∙ f.1.1.defined) in
      let ends : Ends I (reply I st ev).next f.1.0.next evs mss u = rw same at e.2 in
      last_at (Effects I did st ev) (reply I st ev).next f.1.0.next evs mss f.1.2 u ends
