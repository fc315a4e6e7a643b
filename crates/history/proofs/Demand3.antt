-- Demand 3 (`demand_3`): the index that the definitions of `steps` are is linear from every accepted opening. The relation of words and table is a
-- simulation, each event by its own lemma.
use Prim.Native.Nat.{ℕ, suc, ◌*◌, ◌≤◌, ◌<◌}
use mathlib.Core.Path.{◌≡◌, refl, sym, ap, ◌∙◌}
use mathlib.Core.Bool.{Bool, true, false, true≢false}
use mathlib.Core.List.{List}
use mathlib.Core.Option.{Option, none, some}
use native.Mathlib.Omega.{arith}
use native.Mathlib.Decide.{dec_lt}
use lib.Dec.{eqb, leb}
use lib.ListN.{length}
use borrow.Author.Tests.{ne_eqb, eqb-true, lt-ltb, le-ltb, leb-true}
use Rattle.points.specs.declared.scale.Scale.{Scale}
use Rattle.points.specs.Rule.{rule_in}
use Rattle.points.specs.Scale.{factors_in}
use Rattle.points.proofs.Tests.{and_l}
use Rattle.words.specs.Layout.{words_for, stations}
use Rattle.stations.specs.Common.{places_in, limit_in}
use Rattle.stations.specs.Station.{is_unfinished, state_at}
use Rattle.table.specs.Call.{Call, Answer}
use Rattle.table.specs.Table.{Station, idle, unfinished, waiting, Table, answer_of}
use Rattle.table.specs.Event.{single_step, accept, refuse, take, take_at}
use Rattle.table.specs.History.{answered, Linear}
use Rattle.table.proofs.Stations.{put_same}
use Rattle.table.proofs.Sound.{Sound}
use Rattle.table.proofs.Reached.{sound_feed}
use Rattle.table.proofs.Eager.{Settled, own}
use Rattle.table.proofs.Simulation.{Matches, Finishes, Simulation, still, still_at, finished, answer_step, simulation_linear}
use Rattle.calls.specs.Reply.{Reply as WordReply}
use Rattle.calls.specs.Open.{opened_words, open_of}
use Rattle.calls.specs.Step.{step_of}
use Rattle.history.specs.Index.{word_index}
use Rattle.history.specs.View.{seat_at}
use Rattle.history.specs.Related.{Related, Idle, Waits}
use Rattle.history.proofs.Outcome.{Outcome, goes_on, ends}
use Rattle.history.proofs.RelatedOpen.{related_open}
use Rattle.history.proofs.RelatedAgree.{related_agrees}
use Rattle.history.proofs.RelatedSettle.{related_settles}
use Rattle.history.proofs.RelatedSubmit.{related_submits}
use Rattle.history.proofs.RelatedTake.{related_takes}
use Rattle.history.proofs.RelatedWithdraw.{related_withdraws}
use Rattle.history.proofs.StepOutcome.{step_outcome, most_left}
use Rattle.trees.specs.Measure.{step_moves}

-- ---- whether a step has answered

-- a taking by a station with an unfinished call is refused, by one with a waiting answer accepted
pub take_busy : (t : Table) (s i : ℕ) (c : Call) (o : Option Answer) → s < stations → t.stations s ≡ unfinished i c o → (take t s).number ≡ 12
unfolding take take_at
take_busy t s i c o l q = rw (lt-ltb s stations l, q)

pub finished_waits : (t : Table) (s : ℕ) (c : Call) (o : Option Answer) → (a : Answer) × ((finished t s c o).stations s ≡ waiting a)
unfolding finished
finished_waits t s c none = (answer_of t s c, put_same t.stations s (waiting (answer_of t s c)))
finished_waits t s c (some a) = (a, put_same t.stations s (waiting a))

pub take_waits : (t : Table) (s : ℕ) (a : Answer) → s < stations → t.stations s ≡ waiting a → (take t s).number ≡ 0
unfolding take take_at
take_waits t s a l q = rw (lt-ltb s stations l, q)

-- the table after a step that answers is sound
pub finished_sound : (t : Table) (s i : ℕ) (c : Call) (o : Option Answer) → Sound t → s < stations → t.stations s ≡ unfinished i c o → Sound (finished t s c o)
finished_sound t s i c o h l q = sound_feed t (own t (single_step s) true) (single_step s) true (accept (finished t s c o)) h (answer_step t s i c o l q)

module _ (words : List ℕ) (t : Table) (s i : ℕ) (c : Call) (o : Option Answer) (h : Sound t) (l : s < stations) (q : t.stations s ≡ unfinished i c o) where
  goes_unanswered : (step_of words s).number ≡ 0 → Related (step_of words s).words t → answered word_index words (single_step s) ≡ false
  unfolding answered
  goes_unanswered e r =
      let n : (word_index.take (step_of words s).words s).number ≡ 12 = (related_agrees h r).accepted s ∙ take_busy t s i c o l q in
      rw (e, n)

  pub ends_answered : (step_of words s).number ≡ 0 → Related (step_of words s).words (finished t s c o) → answered word_index words (single_step s) ≡ true
  unfolding answered
  ends_answered e r =
      let w = finished_waits t s c o in
      let n : (word_index.take (step_of words s).words s).number ≡ 0 = (related_agrees (finished_sound t s i c o h l q) r).accepted s ∙ take_waits (finished t s c o) s w.0 l w.1 in
      rw (e, n)

-- ---- refused steps

-- question 4 passes, and 5 or 10 refuses
module _ {words : List ℕ} {t : Table} (s : ℕ) (r : Related words t) where
  step_outside : 8 ≤ s → step_of words s ≡ record { number = 5; words = words }
  unfolding step_of
  step_outside g = rw (r.opened, le-ltb s stations g)

  step_quiet : s < stations → is_unfinished (state_at words s) ≡ false → step_of words s ≡ record { number = 10; words = words }
  unfolding step_of
  step_quiet l e = rw (r.opened, lt-ltb s stations l, e)

-- the station is idle or has an answer waiting
abbrev pub Rests : Station → Type 0
Rests idle = Unit {0}
Rests (waiting a) = Unit {0}
Rests (unfinished i c o) = ⊥

pub quiet_state : {words : List ℕ} {t : Table} (s : ℕ) → s < stations → (x : Station) → t.stations s ≡ x → Rests x → Related words t → is_unfinished (state_at words s) ≡ false
unfolding seat_at
quiet_state {words} s l idle q e r = let b : Idle (seat_at words s) = rw q at (r.seats s l) in ne_eqb (state_at words s).word 1 (λ z. let y = b.state in omega arith)
quiet_state {words} {t} s l (waiting a) q e r = let b : Waits t.scale.rule (seat_at words s) a = rw q at (r.seats s l) in ne_eqb (state_at words s).word 1 (λ z. let y = b.state in omega arith)
quiet_state s l (unfinished i c o) q e r = absurd e

-- ---- the two obligations of a step

refusal : {words : List ℕ} {t : Table} (s n : ℕ) → step_of words s ≡ record { number = n; words = words } → Related words t → still t s ≡ refuse n t
    → Matches word_index Related (word_index.step words s) (still t s)
refusal s n e r q = rw (e, q) (record { number = refl; given = refl; next = r })

still_quiet : (t : Table) (s : ℕ) → s < stations → (x : Station) → t.stations s ≡ x → Rests x → still t s ≡ refuse 10 t
unfolding still still_at
still_quiet t s l idle q e = rw (lt-ltb s stations l, q)
still_quiet t s l (waiting a) q e = rw (lt-ltb s stations l, q)
still_quiet t s l (unfinished i c o) q e = absurd e

still_outside : (t : Table) (s : ℕ) → 8 ≤ s → still t s ≡ refuse 5 t
unfolding still
still_outside t s g = rw (le-ltb s stations g)

still_busy : (t : Table) (s i : ℕ) (c : Call) (o : Option Answer) → s < stations → t.stations s ≡ unfinished i c o → still t s ≡ accept t
unfolding still still_at
still_busy t s i c o l q = rw (lt-ltb s stations l, q)

-- a refused step has not answered
refused_unanswered : {words : List ℕ} (s n : ℕ) → step_of words s ≡ record { number = suc n; words = words } → answered word_index words (single_step s) ≡ true → ⊥
unfolding answered
refused_unanswered {words} s n e a =
    let z : eqb (step_of words s).number 0 ≡ true = and_l (eqb (step_of words s).number 0) (eqb (word_index.take (step_of words s).words s).number 0) a in
    let y : (step_of words s).number ≡ 0 = eqb-true (step_of words s).number 0 z in
    let x : (step_of words s).number ≡ suc n = ap (λ (w : WordReply). w.number) e in
    omega arith

module _ {words : List ℕ} {t : Table} (s : ℕ) (h : Sound t) (k : Settled t) (r : Related words t) where
  still_matches : (x : Station) → s < stations → t.stations s ≡ x → answered word_index words (single_step s) ≡ false → Matches word_index Related (word_index.step words s) (still t s)
  still_matches idle l q a = refusal s 10 (step_quiet s r l (quiet_state s l idle q tt r)) r (still_quiet t s l idle q tt)
  still_matches (waiting b) l q a = refusal s 10 (step_quiet s r l (quiet_state s l (waiting b) q tt r)) r (still_quiet t s l (waiting b) q tt)
  still_matches (unfinished i c o) l q a = go (step_outcome s i (step_moves * t.places) c o h k l q (most_left s i c o h l q r))
    where
      go : Outcome (most_left s i c o h l q r).related s c o (step_moves * t.places) (step_of words s) → Matches word_index Related (word_index.step words s) (still t s)
      go (goes_on e m f w d) = rw (still_busy t s i c o l q) (record { number = e; given = refl; next = w.related })
      go (ends e w) = absurd (true≢false (sym (ends_answered words t s i c o h l q e w.related) ∙ a))

  pub stills : answered word_index words (single_step s) ≡ false → Matches word_index Related (word_index.step words s) (still t s)
  stills a = go (dec_lt s 8)
    where
      go : Dec (s < stations) → Matches word_index Related (word_index.step words s) (still t s)
      go (yes l) = still_matches (t.stations s) l refl a
      go (no g) = refusal s 5 (step_outside s r (omega arith)) r (still_outside t s (omega arith))

  answer_matches : (x : Station) → s < stations → t.stations s ≡ x → answered word_index words (single_step s) ≡ true → Finishes word_index Related words t s
  answer_matches idle l q a = absurd (refused_unanswered s 9 (step_quiet s r l (quiet_state s l idle q tt r)) a)
  answer_matches (waiting b) l q a = absurd (refused_unanswered s 9 (step_quiet s r l (quiet_state s l (waiting b) q tt r)) a)
  answer_matches (unfinished i c o) l q a = go (step_outcome s i (step_moves * t.places) c o h k l q (most_left s i c o h l q r))
    where
      go : Outcome (most_left s i c o h l q r).related s c o (step_moves * t.places) (step_of words s) → Finishes word_index Related words t s
      go (goes_on e m f w d) = absurd (true≢false (sym a ∙ goes_unanswered words t s i c o h l q e w.related))
      go (ends e w) = record { station = l; identity = i; call = c; set = o; is = q; matches = record { number = e; given = refl; next = w.related } }

  pub answers : answered word_index words (single_step s) ≡ true → Finishes word_index Related words t s
  answers a = go (dec_lt s 8)
    where
      go : Dec (s < stations) → Finishes word_index Related words t s
      go (yes l) = answer_matches (t.stations s) l refl a
      go (no g) = absurd (refused_unanswered s 4 (step_outside s r (omega arith)) a)

-- ---- the theorem

-- an accepted opening has its five questions answered
pub record Accepted (words : List ℕ) (places limit : ℕ) (scale : Scale) : Type 0 where
  pub places_in_lem : places_in places ≡ true
  pub limit_in_lem : limit_in limit ≡ true
  pub rule_in_lem : rule_in scale.rule ≡ true
  pub factors_in_lem : factors_in scale ≡ true
  pub long : words_for places ≤ length words
  pub opens : open_of words places limit scale ≡ record { number = 0; words = opened_words words places limit scale }

pub accepted : (words : List ℕ) (places limit : ℕ) (scale : Scale) → (open_of words places limit scale).number ≡ 0 → Accepted words places limit scale
unfolding open_of
accepted words places limit scale e = go (places_in places) refl (limit_in limit) refl (rule_in scale.rule) refl (factors_in scale) refl (leb (words_for places) (length words)) refl
  where
    go : (a : Bool) → places_in places ≡ a → (b : Bool) → limit_in limit ≡ b → (r : Bool) → rule_in scale.rule ≡ r → (f : Bool) → factors_in scale ≡ f → (c : Bool) → leb (words_for places) (length words) ≡ c
        → Accepted words places limit scale
    go true p true m true u true k true l = record { places_in_lem = p; limit_in_lem = m; rule_in_lem = u; factors_in_lem = k; long = leb-true (words_for places) (length words) l; opens = rw (p, m, u, k, l) }
    go false p b m r u f k c l = let z : ◌≡◌ {A = ℕ} 1 0 = rw p at e in absurd (omega arith)
    go true p false m r u f k c l = let z : ◌≡◌ {A = ℕ} 2 0 = rw (p, m) at e in absurd (omega arith)
    go true p true m false u f k c l = let z : ◌≡◌ {A = ℕ} 20 0 = rw (p, m, u) at e in absurd (omega arith)
    go true p true m true u false k c l = let z : ◌≡◌ {A = ℕ} 17 0 = rw (p, m, u, k) at e in absurd (omega arith)
    go true p true m true u true k false l = let z : ◌≡◌ {A = ℕ} 3 0 = rw (p, m, u, k, l) at e in absurd (omega arith)

pub simulation : (words : List ℕ) (places limit : ℕ) (scale : Scale) → Accepted words places limit scale → Simulation word_index Related (opened_words words places limit scale) places limit scale
simulation words places limit scale w = record {
  begins = related_open words places limit scale w.places_in_lem w.limit_in_lem w.rule_in_lem w.factors_in_lem w.long;
  agrees = related_agrees;
  settles = related_settles;
  submits = λ s kind p c h k r. related_submits s kind p c h r;
  takes = λ s h k r. related_takes s h r;
  withdraws = λ s h k r. related_withdraws s h r;
  stills = λ s h k r a. stills s h k r a;
  answers = λ s h k r a. answers s h k r a;
}

pub demand_3 : (words : List ℕ) (places limit : ℕ) (scale : Scale) → (open_of words places limit scale).number ≡ 0 → Linear word_index (open_of words places limit scale).words places limit scale
demand_3 words places limit scale e =
    let w = accepted words places limit scale e in
    rw w.opens (simulation_linear word_index Related (opened_words words places limit scale) places limit scale (simulation words places limit scale w))
