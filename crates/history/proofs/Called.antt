-- Calls one after the other, each with its submission, run and taking (`called`): words that stand for a table give its answer, and then stand for the
-- table with the call's effect.
use Prim.Native.Nat.{ℕ, suc, ◌*◌, ◌<◌}
use mathlib.Core.Path.{◌≡◌, refl, ap, ◌∙◌, subst}
use mathlib.Core.Bool.{false}
use mathlib.Core.List.{List}
use mathlib.Core.Option.{Option, some}
use native.Mathlib.Omega.{arith}
use Rattle.words.specs.Layout.{stations}
use Rattle.points.specs.declared.point.Point.{Point}
use Rattle.points.specs.declared.scale.Scale.{Scale}
use Rattle.table.specs.Call.{Call, call_of, nearest, Answer, is_change, is_search}
use Rattle.table.specs.Table.{idle, unfinished, waiting, Table, eight, opened, answer_of, changed_if}
use Rattle.table.specs.Event.{enter, submit}
use Rattle.table.proofs.Stations.{put_same}
use Rattle.table.proofs.Sound.{Sound, sound_opened}
use Rattle.table.proofs.Reached.{sound_submit}
use Rattle.table.proofs.Alike.{Alike, alike_refl, alike_trans, alike_settled, alike_submit, alike_answer, alike_changed}
use Rattle.table.proofs.Eager.{unsettled, settle}
use Rattle.table.proofs.Settled.{settled, settle_stays}
use Rattle.table.proofs.Simulation.{finished}
use Rattle.table.proofs.Searched.{submit_accepted}
use Rattle.table.proofs.Alone.{submit_idle, alone_search}
use Rattle.calls.specs.Reply.{Reply, done}
use Rattle.calls.specs.Open.{open_of}
use Rattle.calls.specs.Submit.{submit_of}
use Rattle.calls.specs.Take.{take_of, take_words}
use Rattle.calls.specs.Run.{run_of}
use Rattle.history.specs.Index.{given_by}
use Rattle.history.specs.Related.{Related}
use Rattle.history.specs.Alone.{stepped, ran_words}
use Rattle.history.proofs.RelatedOpen.{related_open}
use Rattle.history.proofs.RelatedSubmit.{related_submits}
use Rattle.history.proofs.RelatedTake.{related_takes}
use Rattle.history.proofs.StepOutcome.{most_left}
use Rattle.history.proofs.Demand3.{accepted, finished_sound}
use Rattle.history.proofs.Stepped.{stepped_ends}
use Rattle.history.proofs.Run.{run_related}
use Rattle.history.proofs.Demand2.{take_given, related_settled, related_alone, alone_leaves}
use Rattle.trees.specs.Measure.{step_moves}

-- a run is accepted, and the taking then gives this answer
pub record RunGives (words : List ℕ) (s : ℕ) (a : Answer) : Type 0 where
  pub ran : (run_of words s).number ≡ 0
  pub given : given_by (take_of (run_of words s).words s) ≡ some a

-- so is the submission of a call before it
pub record CallGives (words : List ℕ) (s kind : ℕ) (p : Point) (c : ℕ) (a : Answer) : Type 0 where
  pub submitted : (submit_of words s kind p c).number ≡ 0
  pub gives : RunGives (submit_of words s kind p c).words s a

-- the words after a submission, a run and a taking
abbrev pub called_words : List ℕ → ℕ → ℕ → Point → ℕ → List ℕ
called_words words s kind p c = take_words (run_of (submit_of words s kind p c).words s).words s

-- the words are related to a table alike
pub record Standing (words : List ℕ) (u : Table) : Type 0 where
  pub table : Table
  pub sound : Sound table
  pub related : Related words table
  pub alike : Alike table u

-- those that an accepted opening leaves stand for the table at first
pub standing_open : (words : List ℕ) (places limit : ℕ) (scale : Scale) → (open_of words places limit scale).number ≡ 0 → Standing (open_of words places limit scale).words (opened places limit scale)
standing_open words places limit scale e =
    let a = accepted words places limit scale e in
    rw a.opens
    (record {
      table = opened places limit scale;
      sound = sound_opened places limit scale;
      related = related_open words places limit scale a.places_in_lem a.limit_in_lem a.rule_in_lem a.factors_in_lem a.long;
      alike = alike_refl (opened places limit scale);
    })

-- ---- a call

pub record Called (words : List ℕ) (u : Table) (w : Standing words u) (s kind : ℕ) (p : Point) (c : ℕ) : Type 0 where
  pub gives : CallGives words s kind p c (answer_of u s (call_of kind p c))
  pub standing : Standing (called_words words s kind p c) (changed_if (is_change (answer_of u s (call_of kind p c))) u s (call_of kind p c))
  pub own : standing.table.stations s ≡ idle
  pub others : (v : ℕ) → ¬ (v ≡ s) → unsettled (w.table.stations v) ≡ false → standing.table.stations v ≡ w.table.stations v

pub called : {words : List ℕ} {u : Table} (w : Standing words u) (s kind : ℕ) (p : Point) (c : ℕ) → (submit u s kind p c).number ≡ 0 → Called words u w s kind p c
called {words} {u} w s kind p c e =
    let t : Table = w.table in
    let d : Call = call_of kind p c in
    let submitted : (submit_of words s kind p c).number ≡ 0 = (related_submits s kind p c w.sound w.related).number ∙ alike_submit w.alike s kind p c ∙ e in
    let runs = related_alone words t w.sound w.related s kind p c submitted in
    let leaves = alone_leaves words t w.sound w.related s kind p c submitted in
    let same : answer_of t s d ≡ answer_of u s d = alike_answer s d w.alike in
    let to : (run_of (submit_of words s kind p c).words s).words ≡ ran_words words s kind p c (suc runs.before) = ap (λ (r : Reply). r.words) leaves.ran_all in
    record {
      gives = record {
        submitted = submitted;
        gives = record { ran = ap (λ (r : Reply). r.number) leaves.ran_all; given = rw to (runs.given ∙ ap {B = Option Answer} some same) };
      };
      standing = record {
        table = leaves.last;
        sound = leaves.sound;
        related = rw to leaves.related;
        alike = rw same at (alike_trans leaves.alike (alike_changed (is_change (answer_of t s d)) s d w.alike));
      };
      own = leaves.own;
      others = leaves.others;
    }

-- ---- a search under other calls

-- a search that was submitted: its answer is set down
pub record Begun (words : List ℕ) (u : Table) (s : ℕ) (p : Point) : Type 0 where
  pub table : Table
  pub sound : Sound table
  pub related : Related words table
  pub alike : Alike table (enter u s (nearest p))
  pub is : table.stations s ≡ unfinished u.calls (nearest p) (some (answer_of u s (nearest p)))

pub begun : {words : List ℕ} {u : Table} (w : Standing words u) (s c : ℕ) (p : Point) → (submit u s 4 p c).number ≡ 0
    → ((submit_of words s 4 p c).number ≡ 0) × Begun (submit_of words s 4 p c).words w.table s p
unfolding call_of is_search
begun {words} {u} w s c p e =
    let t : Table = w.table in
    let m = related_submits s 4 p c w.sound w.related in
    let accepts : (submit t s 4 p c).number ≡ 0 = alike_submit w.alike s 4 p c ∙ e in
    let q = submit_idle t s 4 p c accepts in
    let n : (submit t s 4 p c).next ≡ enter t s (nearest p) = submit_accepted t s 4 p c accepts in
    let words' : List ℕ = (submit_of words s 4 p c).words in
    let x : Sound (enter t s (nearest p)) × Related words' (enter t s (nearest p)) = (subst Sound n (sound_submit t s 4 p c w.sound), subst (Related words') n m.next) in
    let y = related_settled (enter t s (nearest p)) x.0 x.1 in (
      m.number ∙ accepts,
      record {
        table = settle eight (enter t s (nearest p));
        sound = y.0;
        related = y.1;
        alike = alike_settled (enter t s (nearest p));
        is = alone_search t s (nearest p) q.0 q.1 refl;
      },
    )

-- a run of a station whose answer is set down gives it
pub set_gives : {words : List ℕ} {t : Table} (s i : ℕ) (c : Call) (a : Answer) → Sound t → Related words t → s < stations → t.stations s ≡ unfinished i c (some a) → RunGives words s a
unfolding unsettled finished
set_gives {words} {t} s i c a h r l q =
    let set : Table = settle eight t in
    let y = related_settled t h r in
    let e : set.stations s ≡ unfinished i c (some a) = settle_stays t s (ap unsettled q) ∙ q in
    let w = stepped_ends set s i c (some a) y.0 (settled t) l e words (step_moves * set.places) (most_left s i c (some a) y.0 l e y.1) in
    let g : run_of words s ≡ done (stepped (suc w.before) words s) = run_related s w.before y.1 (omega (arith, w.few)) w.answered in
    let ending : Table = finished set s c (some a) in
    let m = related_takes s (finished_sound set s i c (some a) y.0 l e) w.related in
    record {
      ran = ap (λ (x : Reply). x.number) g;
      given = rw g (m.given ∙ take_given ending s a l (put_same set.stations s (waiting a)));
    }
