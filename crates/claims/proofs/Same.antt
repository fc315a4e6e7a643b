-- Demand 3 as Demand3.antt writes it out and as the crate `table` defines it say the same (`same_claim`): nothing is lost by writing it out.
use Prim.Native.Nat.{ℕ}
use mathlib.Core.Path.{◌≡◌, refl, sym, ap, subst}
use mathlib.Core.Logic.{◌↔◌}
use mathlib.Core.List.{List, [], ◌∷◌, ◌++◌}
use Rattle.claims.specs.Definitions.{Scale, Table, opened, Event, submission, single_step, taking, withdrawal, reply, answered, word_index, after}
use Rattle.table.specs.History.{Index, Agree, Effects, AtEnd, Follows}
use Rattle.table.specs.History as History
use Rattle.claims.proofs.Unrolled.{FedAt, AllEffects}
use Rattle.claims.proofs.Effects.{effect_told}
use Rattle.claims.proofs.Demand3.{Agrees, Fed, Moments, moments_of}

-- ---- of any index

module _ (I : Index) where
  open I use {State}

  follows_from : (evs : List Event) (did : ℕ → Type 0) (st : State) (t : Table) (moments : List Event → List ℕ) (table : List Event → Table) → table [] ≡ t
      → ((before rest : List Event) → before ++ rest ≡ evs → Agree I (History.after I st before) (table before))
      → ((before : List Event) (ev : Event) (rest : List Event) → before ++ (ev ∷ rest) ≡ evs → FedAt I (History.after I st before) (table before) (moments before) ev (table (before ++ (ev ∷ []))))
      → AtEnd I (AllEffects I did st evs) (table evs) → (mss : List (List ℕ)) × Follows I did st t evs mss
  unfolding History.after
  follows_from [] did st t moments table first agrees feeds ended = ([], (subst (Agree I st) first (agrees [] [] refl), subst (AtEnd I did) first ended))
  follows_from (ev ∷ evs) did st t moments table first agrees feeds ended =
      let x : FedAt I st t (moments []) ev (table (ev ∷ [])) = subst (λ (u : Table). FedAt I st u (moments []) ev (table (ev ∷ []))) first (feeds [] ev evs refl) in
      let rest = follows_from evs (Effects I did st ev) (reply I st ev).next x.reply_table.next (λ b. moments (ev ∷ b)) (λ b. table (ev ∷ b)) (sym x.next)
      (λ b r q. agrees (ev ∷ b) r (ap (λ (es : List Event). ev ∷ es) q))
      (λ b e r q. feeds (ev ∷ b) e r (ap (λ (es : List Event). ev ∷ es) q)) ended in
      (moments [] ∷ rest.0, (subst (Agree I st) first (agrees [] (ev ∷ evs) refl), (x.reply_table, record { defined = x.defined; number = x.number; given = x.given }, rest.1)))

-- ---- of the words

index_agrees : {words : List ℕ} {t : Table} → Agrees words t → Agree word_index words t
index_agrees a = record { records = a.records; once = a.once; places = a.places; accepted = a.accepted; waiting = a.waiting }

index_fed : {words : List ℕ} {t next : Table} {ms : List ℕ} (ev : Event) → Fed words t ms ev next → FedAt word_index words t ms ev next
unfolding reply answered
index_fed (submission s kind p c) x = record { reply_table = x.fed; defined = x.defined; next = x.leaves; number = x.number; given = x.given }
index_fed (single_step s) x = record { reply_table = x.fed; defined = x.defined; next = x.leaves; number = x.number; given = x.given }
index_fed (taking s) x = record { reply_table = x.fed; defined = x.defined; next = x.leaves; number = x.number; given = x.given }
index_fed (withdrawal s) x = record { reply_table = x.fed; defined = x.defined; next = x.leaves; number = x.number; given = x.given }

follows_of : (start : List ℕ) (places limit : ℕ) (scale : Scale) (evs : List Event) → Moments start places limit scale evs → (mss : List (List ℕ)) × Follows word_index (λ s. ⊥) start (opened places limit scale) evs mss
unfolding after
follows_of start places limit scale evs m =
    follows_from word_index evs (λ s. ⊥) start (opened places limit scale) m.moments m.table m.first
    (λ b r q. index_agrees (m.agrees b r q))
    (λ b e r q. index_fed e (m.feeds b e r q))
    (λ s i c o e.
    let x = m.ended s i c o e in
    let y = effect_told word_index s start evs in (
      λ h. let z = x.0 h in let w = z.1 in (z.0, y.1 (record { before = w.before; rest = w.rest; splits = w.splits; changed = w.changed; since = w.since })),
      λ h. let w = y.0 h.1 in x.1 (h.0, record { before = w.before; rest = w.rest; splits = w.splits; changed = w.changed; since = w.since }),
    ))

-- "there are moments such that …", for each history.
pub same_claim : (start : List ℕ) (places limit : ℕ) (scale : Scale) (evs : List Event)
    → Moments start places limit scale evs ↔ ((mss : List (List ℕ)) × Follows word_index (λ s. ⊥) start (opened places limit scale) evs mss)
same_claim start places limit scale evs = (follows_of start places limit scale evs, λ f. moments_of start places limit scale evs f.0 f.1)
