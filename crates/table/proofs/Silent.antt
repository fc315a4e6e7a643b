-- Demand 3 does not ask for an answer: an index that never answers meets it (`silent_linear`). So the claim on solo steps must stand beside it.
use mathlib.Core.Path.{◌≡◌, refl, sym, ◌∙◌, ap}
use mathlib.Core.Bool.{Bool, true, false, ◌&&◌, false≢true}
use mathlib.Core.Option.{Option, map, some-injective}
use Prim.Native.Nat.{ℕ}
use lib.Dec.{eqb, ltb}
use Rattle.points.specs.declared.scale.Scale.{Scale}
use Rattle.table.specs.Call.{Call, Answer}
use Rattle.table.specs.Table.{Station, idle, unfinished, waiting, Table, opened, taken}
use Rattle.table.specs.Event.{single_step, Reply, ask, submit, take_at, take}
use Rattle.table.specs.History.{Index, answered, Agree, Linear}
use Rattle.table.proofs.Sound.{Sound}
use Rattle.table.proofs.Trim.{trim, trim_reply, taken_trim, moment_dropped, submit_trim, take_trim, still_trim}
use Rattle.table.proofs.Retract.{retract, retract_trim}
use Rattle.table.proofs.Simulation.{still_at, still, Matches, Simulation, still_step, simulation_linear}

-- the plain table as an index whose steps do nothing
abbrev pub silent : Index
silent = record { State = Table; submit = submit; step = still; take = take; withdraw = retract; held = λ t. t.held; taken = taken }

abbrev nobody : ℕ → Bool
nobody u = false

-- alike but for what is set down
abbrev Alike : Table → Table → Type 0
Alike st t = trim nobody st ≡ trim nobody t

alike_matches : (f : Table → Reply Table) → ((t : Table) → f (trim nobody t) ≡ trim_reply nobody (f t)) → (st t : Table) → Alike st t
    → Matches silent Alike (f st) (f t)
unfolding trim_reply
alike_matches f g st t h =
    let e : trim_reply nobody (f st) ≡ trim_reply nobody (f t) = sym (g st) ∙ ap f h ∙ g t in
    record { number = ap (λ (r : Reply Table). r.number) e; given = ap (λ (r : Reply Table). r.given) e; next = ap (λ (r : Reply Table). r.next) e }

still_alike : (t : Table) (s : ℕ) → still (trim nobody t) s ≡ trim_reply nobody (still t s)
still_alike t s = some-injective _ _ (sym (still_step (trim nobody t) s) ∙ still_trim nobody t s ∙ ap (map (trim_reply nobody)) (still_step t s))

agrees : (st t : Table) → Sound t → Alike st t → Agree silent st t
unfolding trim trim_reply
agrees st t k h =
    let e : st.held ≡ t.held = ap (λ (x : Table). x.held) h in
    let f : (s : ℕ) → trim_reply nobody (take st s) ≡ trim_reply nobody (take t s) = λ s. sym (take_trim nobody st s) ∙ ap (λ (x : Table). take x s) h ∙ take_trim nobody t s in
    record {
      records = rw e (λ r. (λ m. m, λ m. m));
      once = rw e k.once;
      places = sym (taken_trim nobody st) ∙ ap taken h ∙ taken_trim nobody t;
      accepted = λ s. ap (λ (r : Reply Table). r.number) (f s);
      waiting = λ s. ap (λ (r : Reply Table). r.given) (f s);
    }

take_unfinished : (t : Table) (s i : ℕ) (c : Call) (o : Option Answer) → ltb s 8 ≡ true → t.stations s ≡ unfinished i c o → (take t s).number ≡ 12
unfolding take take_at
take_unfinished t s i c o l e = rw (l, e, take_at)

never : (t : Table) (s : ℕ) → answered silent t (single_step s) ≡ true → ⊥
unfolding answered still still_at
never t s = go (ltb s 8) refl (t.stations s) refl
  where
    go : (b : Bool) → ltb s 8 ≡ b → (x : Station) → t.stations s ≡ x
        → (eqb (ask b 5 t (still_at t x)).number 0 && eqb (take (ask b 5 t (still_at t x)).next s).number 0) ≡ true → ⊥
    go false l x q e = false≢true e
    go true l idle q e = false≢true e
    go true l (waiting a) q e = false≢true e
    go true l (unfinished i c o) q e = false≢true (rw (take_unfinished t s i c o l q) at e)

silent_simulation : (places limit : ℕ) (scale : Scale) → Simulation silent Alike (opened places limit scale) places limit scale
silent_simulation places limit scale = record {
  begins = refl;
  agrees = λ {st} {t} k h. agrees st t k h;
  settles = λ {st} {t} {s} {i} {c} k l g e h. h ∙ sym (moment_dropped nobody t s i c refl g e);
  submits = λ {st} {t} s kind p c k d h. alike_matches (λ x. submit x s kind p c) (λ x. submit_trim nobody x s kind p c) st t h;
  takes = λ {st} {t} s k d h. alike_matches (λ x. take x s) (λ x. take_trim nobody x s) st t h;
  withdraws = λ {st} {t} s k d h. alike_matches (λ x. retract x s) (λ x. retract_trim nobody x s) st t h;
  stills = λ {st} {t} s k d h a. alike_matches (λ x. still x s) (λ x. still_alike x s) st t h;
  answers = λ {st} {t} s k d h a. absurd (never st s a);
}

-- An index that never answers meets demand 3.
pub silent_linear : (places limit : ℕ) (scale : Scale) → Linear silent (opened places limit scale) places limit scale
silent_linear places limit scale = simulation_linear silent Alike (opened places limit scale) places limit scale (silent_simulation places limit scale)
