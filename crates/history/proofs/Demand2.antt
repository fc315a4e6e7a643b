-- Demand 2 (`demand_2`): after every history a call run alone answers as the plain table does at that point, no room and changes spent included.
use Prim.Native.Nat.{ℕ, suc, ◌+◌, ◌*◌, ◌<◌}
use mathlib.Core.Path.{◌≡◌, refl, sym, ap, ◌∙◌, subst}
use mathlib.Core.Bool.{false}
use mathlib.Core.List.{List}
use mathlib.Core.Option.{Option, none, some}
use native.Mathlib.Omega.{arith}
use borrow.Author.Tests.{lt-ltb}
use Rattle.words.specs.Layout.{stations}
use Rattle.points.specs.declared.point.Point.{Point}
use Rattle.points.specs.declared.scale.Scale.{Scale}
use Rattle.table.specs.Call.{Call, call_of, Answer, is_change}
use Rattle.table.specs.Table.{idle, unfinished, waiting, Table, eight, answer_of, changed_if}
use Rattle.table.specs.Event.{Event, enter, submit, take_at, take}
use Rattle.table.proofs.Stations.{put_other}
use Rattle.table.proofs.Sound.{Sound, sound_set}
use Rattle.table.proofs.Reached.{sound_submit, sound_take}
use Rattle.table.proofs.Trim.{trim}
use Rattle.table.proofs.Alike.{Alike, alike_busy, alike_trim, alike_answer, alike_submit, alike_changed, alike_agree}
use Rattle.table.proofs.Eager.{unsettled, settle}
use Rattle.table.proofs.Settled.{settled, settle_keeps, settle_stays}
use Rattle.table.proofs.Simulation.{Matches, finished, simulation_leads}
use Rattle.table.proofs.Searched.{submit_accepted}
use Rattle.table.proofs.Alone.{submit_idle, Finishing, alone, finishing_idle, finishing_other}
use Rattle.calls.specs.Reply.{done}
use Rattle.calls.specs.Open.{opened_words, open_of}
use Rattle.calls.specs.Submit.{submit_of}
use Rattle.calls.specs.Take.{take_words}
use Rattle.calls.specs.Run.{run_of}
use Rattle.history.specs.Index.{word_index}
use Rattle.history.specs.Related.{Related}
use Rattle.history.specs.After.{after}
use Rattle.history.specs.Alone.{ran_words, RunsAlone, AnswersAsTable}
use Rattle.history.proofs.RelatedLaws.{word_places}
use Rattle.history.proofs.RelatedAgree.{related_agrees}
use Rattle.history.proofs.RelatedSettle.{related_settles}
use Rattle.history.proofs.RelatedSubmit.{related_submits}
use Rattle.history.proofs.RelatedTake.{related_takes}
use Rattle.history.proofs.StepOutcome.{most_left}
use Rattle.history.proofs.Demand3.{Accepted, accepted, simulation, finished_sound}
use Rattle.history.proofs.Reached.{history_related}
use Rattle.history.proofs.Stepped.{Stepped, stepped_ends}
use Rattle.history.proofs.Run.{run_related}
use Rattle.history.proofs.Everybody.{unfinished_same}
use Rattle.trees.specs.Measure.{step_moves}

-- ---- one call

-- the answer that waits is given
pub take_given : (t : Table) (s : ℕ) (a : Answer) → s < stations → t.stations s ≡ waiting a → (take t s).given ≡ some a
unfolding take take_at
take_given t s a l e = rw (lt-ltb s stations l, e)

-- two tables related to the same words have the same places
same_places : {words : List ℕ} {t u : Table} → Related words t → Related words u → t.places ≡ u.places
same_places r q = sym (word_places r) ∙ word_places q

enter_places : (t : Table) (s : ℕ) (c : Call) → (enter t s c).places ≡ t.places
unfolding enter
enter_places t s c = refl

-- the moments of the searches keep the relation
pub related_settled : {words : List ℕ} (t : Table) → Sound t → Related words t → Sound (settle eight t) × Related words (settle eight t)
related_settled {words} t h r =
    settle_keeps (λ u. Sound u × Related words u) (λ u v i d l g q x. (sound_set u v i d l q x.0, related_settles x.0 l g q x.1)) t (h, r)

module _ (words : List ℕ) (t : Table) (h : Sound t) (r : Related words t) (s kind : ℕ) (p : Point) (c : ℕ) (e : (submit_of words s kind p c).number ≡ 0) where
  abbrev call : Call
  call = call_of kind p c

  -- the words and the table after the submission, and the table with the moments of the searches
  abbrev begun : List ℕ
  begun = (submit_of words s kind p c).words

  abbrev entered : Table
  entered = enter t s call

  abbrev set : Table
  set = settle eight entered

  accepts : (submit t s kind p c).number ≡ 0
  accepts = sym (related_submits s kind p c h r).number ∙ e

  pub eighth : s < stations
  eighth = (submit_idle t s kind p c accepts).0

  finishing : Finishing t s call set
  finishing = alone t s call eighth (submit_idle t s kind p c accepts).1

  pub begun_related : Sound entered × Related begun entered
  begun_related =
      let n : (submit t s kind p c).next ≡ entered = submit_accepted t s kind p c accepts in
      (subst Sound n (sound_submit t s kind p c h), subst (Related begun) n (related_submits s kind p c h r).next)

  set_related : Sound set × Related begun set
  set_related = related_settled entered begun_related.0 begun_related.1

  ran : Stepped begun set s call finishing.set (step_moves * set.places)
  ran =
      stepped_ends set s finishing.identity call finishing.set set_related.0 (settled entered) eighth finishing.is begun (step_moves * set.places)
      (most_left s finishing.identity call finishing.set set_related.0 eighth finishing.is set_related.1)

  -- the step that answers, and the taking
  abbrev ending : Table
  ending = finished set s call finishing.set

  ending_sound : Sound ending
  ending_sound = finished_sound set s finishing.identity call finishing.set set_related.0 eighth finishing.is

  taking : Matches word_index Related (word_index.take (ran_words words s kind p c (suc ran.before)) s) (take ending s)
  taking = related_takes s ending_sound ran.related

  -- a call run alone on words that are related to a table answers as that table does
  pub related_alone : RunsAlone words t (16 * t.places + 64) s kind p c
  related_alone = record {
    before = ran.before;
    few = omega (arith, ran.few, same_places set_related.1 begun_related.1, enter_places t s call);
    answered = ran.answered;
    given = taking.given ∙ take_given ending s (answer_of t s call) eighth finishing.waits;
    left = alike_agree word_index (take_words (ran_words words s kind p c (suc ran.before)) s) finishing.left (related_agrees (sound_take ending s ending_sound) taking.next);
  }

  -- what it leaves, with a run instead of its steps
  pub record Leaves : Type 0 where
    pub ran_all : run_of begun s ≡ done (ran_words words s kind p c (suc related_alone.before))
    pub last : Table
    pub sound : Sound last
    pub related : Related (take_words (ran_words words s kind p c (suc related_alone.before)) s) last
    pub alike : Alike last (changed_if (is_change (answer_of t s call)) t s call)
    pub own : last.stations s ≡ idle
    pub others : (v : ℕ) → ¬ (v ≡ s) → unsettled (t.stations v) ≡ false → last.stations v ≡ t.stations v

  pub alone_leaves : Leaves
  unfolding related_alone enter
  alone_leaves = record {
    ran_all = run_related s ran.before begun_related.1 related_alone.few ran.answered;
    last = (take ending s).next;
    sound = sound_take ending s ending_sound;
    related = taking.next;
    alike = finishing.left;
    own = finishing_idle t s call set finishing eighth;
    others = λ v n f.
        finishing_other t s call set finishing eighth v n
        ∙ settle_stays entered v (ap unsettled (put_other t.stations s v (unfinished t.calls call none) n) ∙ f)
        ∙ put_other t.stations s v (unfinished t.calls call none) n;
  }

-- ---- alike tables

-- what a call run alone answers it answers as every table alike does
runs_alike : {words : List ℕ} {t u : Table} {most s kind : ℕ} {p : Point} {c : ℕ} → Alike t u → RunsAlone words t most s kind p c → RunsAlone words u most s kind p c
runs_alike {words} {t} {u} {most} {s} {kind} {p} {c} a w =
    let d : Call = call_of kind p c in
    let e : answer_of t s d ≡ answer_of u s d = alike_answer s d a in
    record {
      before = w.before;
      few = w.few;
      answered = w.answered;
      given = w.given ∙ ap {B = Option Answer} some e;
      left = rw e at (alike_agree word_index (take_words (ran_words words s kind p c (suc w.before)) s) (alike_changed (is_change (answer_of t s d)) s d a) w.left);
    }

-- ---- the theorem

demand_2_opened : (words : List ℕ) (places limit : ℕ) (scale : Scale) → Accepted words places limit scale → (evs : List Event) → AnswersAsTable (opened_words words places limit scale) places limit scale evs
unfolding after
demand_2_opened words places limit scale a evs =
    let w = simulation_leads word_index Related (opened_words words places limit scale) places limit scale (simulation words places limit scale a) evs in
    let t : Table = w.last in
    let u : Table = trim (λ s. false) t in
    let st = history_related words places limit scale a evs in
    let n : t.places ≡ places = same_places w.related st.related ∙ st.places_same in
    let now : List ℕ = after evs (opened_words words places limit scale) in
    record {
      moments = w.moments;
      follows = w.follows;
      table = u;
      ends = w.ends;
      agrees = alike_agree word_index now (alike_trim (λ s. false) t) (related_agrees w.sound w.related);
      submits = λ s kind p c. (related_submits s kind p c w.sound w.related).number ∙ alike_submit (alike_trim (λ s. false) t) s kind p c;
      unfinished = λ s l. unfinished_same w.related s l ∙ alike_busy (alike_trim (λ s. false) t) s;
      counters = λ s l. w.related.counters s l ∙ ap (λ (f : ℕ → ℕ). f s) (alike_trim (λ s. false) t).counters;
      alone = λ s kind p c e.
          runs_alike (alike_trim (λ s. false) t) (subst (λ (m : ℕ). RunsAlone now t (16 * m + 64) s kind p c) n (related_alone now t w.sound w.related s kind p c e));
    }

-- After every history from an accepted opening.
pub demand_2 : (words : List ℕ) (places limit : ℕ) (scale : Scale) → (open_of words places limit scale).number ≡ 0 → (evs : List Event) → AnswersAsTable (open_of words places limit scale).words places limit scale evs
demand_2 words places limit scale e evs =
    let a = accepted words places limit scale e in
    rw a.opens (demand_2_opened words places limit scale a evs)
