-- Demand 2: "Each call run alone answers as a plain table of records does, after Definition 1 of the LFkD-tree paper: added unless held, removed only if held,
-- and the nearest record of the same grade by squared distance over weight, moisture, speed and draw, the [heavier] on a tie. No room and changes spent are
-- answered exactly under document 01's counts. Frames written read back as the same call; frames read write back as the same bytes." The
-- [heavier] wins by Rules 1.7; the counts are those of Rules 3; the squared distance goes by the factors of the opening (Rules 1.5).
-- First the plain table's answers, one by one; then `demand_2`, that a call run alone after any history gives them; then frames.
use Prim.Native.Nat.{ℕ, suc, ◌+◌, ◌-◌, ◌*◌, ◌<◌}
use mathlib.Core.Path.{◌≡◌, refl, ap, ◌∙◌}
use mathlib.Core.Logic.{◌↔◌, ◌⊎◌, inl, inr}
use mathlib.Core.Bool.{true}
use mathlib.Core.List.{List, ◌++◌, Memᴰ}
use lib.ListN.{length, drop, take as take_first}
use mathlib.Core.Option.{Option, none, some}
use Rattle.claims.specs.Definitions.{Scale, Point, square_of, same_grade, chosen_over, Chosen, Record, curve_at, Call, add, remove, contains, nearest, call_of, answer, is_change}
use Rattle.claims.specs.Definitions.{counter_at, is_unfinished, state_at, Table, busy, taken, answer_of, changed_if, Event, submit, done, open_of, submit_of, run_of, take_of, take_words}
use Rattle.claims.specs.Definitions.{opened, given_by, word_index, after, stepped, Frame, AllBytes, InWidth, Some, Ok, read_of, written_of}
use Rattle.points.proofs.ScaleLaws
use Rattle.table.proofs.Answers
use Rattle.table.specs.Record.{nearest_of}
use Rattle.table.specs.Call.{nearest_answer}
use Rattle.table.proofs.Nearest.{nearest_some, nearest_none}
use Rattle.table.proofs.Scale.{opened_scale, ends_scale}
use Rattle.history.proofs.Demand2.{demand_2 as demand_2_alone}
use Rattle.frames.proofs.WrittenLaws
use Rattle.frames.proofs.ReadLaws
use Rattle.claims.proofs.Stepping.{steps_accepted, steps_unanswered, steps_answered, run_alone}
use Rattle.claims.proofs.Unrolled.{last_at}
use Rattle.claims.proofs.Demand3.{Agrees, agrees_with, Moments, moments_of, AnsweredAt}

-- ---- the plain table's answers

-- of a call of station s
module _ (t : Table) (s : ℕ) (p : Point) where
  -- add (Rules 2.5): the point is held, 2 with the held curve
  pub add_held : (c held : ℕ) → curve_at p t.held ≡ some held → answer_of t s (add p c) ≡ answer 2 p held 0
  add_held = Answers.add_held t s p

  -- else the changes are used up, 4: station s has made as many as the limit (Rules 3.2)
  pub add_spent : (c : ℕ) → curve_at p t.held ≡ none → t.counters s ≡ t.limit → answer_of t s (add p c) ≡ answer 4 p 0 0
  add_spent = Answers.add_spent t s p

  -- else every place is taken, 3
  pub add_full : (c : ℕ) → curve_at p t.held ≡ none → ¬ (t.counters s ≡ t.limit) → taken t ≡ t.places → answer_of t s (add p c) ≡ answer 3 p 0 0
  add_full = Answers.add_full t s p

  -- else 1
  pub add_new : (c : ℕ) → curve_at p t.held ≡ none → ¬ (t.counters s ≡ t.limit) → ¬ (taken t ≡ t.places) → answer_of t s (add p c) ≡ answer 1 p c 0
  add_new = Answers.add_new t s p

  -- remove (Rules 2.6): the point is not held, 6
  pub remove_absent : curve_at p t.held ≡ none → answer_of t s (remove p) ≡ answer 6 p 0 0
  remove_absent = Answers.remove_absent t s p

  -- else the changes are used up, 4
  pub remove_spent : (held : ℕ) → curve_at p t.held ≡ some held → t.counters s ≡ t.limit → answer_of t s (remove p) ≡ answer 4 p 0 0
  remove_spent = Answers.remove_spent t s p

  -- else 5, with the curve that was held
  pub remove_held : (held : ℕ) → curve_at p t.held ≡ some held → ¬ (t.counters s ≡ t.limit) → answer_of t s (remove p) ≡ answer 5 p held 0
  remove_held = Answers.remove_held t s p

  -- contains (Rules 2.7): 7 with the curve
  pub contains_held : (held : ℕ) → curve_at p t.held ≡ some held → answer_of t s (contains p) ≡ answer 7 p held 0
  contains_held = Answers.contains_held t s p

  -- or 6
  pub contains_absent : curve_at p t.held ≡ none → answer_of t s (contains p) ≡ answer 6 p 0 0
  contains_absent = Answers.contains_absent t s p

-- The counter of another station has no part in an answer (Rules 3.2).
pub own_counter : (t u : Table) (s : ℕ) (c : Call) → t.places ≡ u.places → t.limit ≡ u.limit → t.scale ≡ u.scale → t.held ≡ u.held → t.counters s ≡ u.counters s → taken t ≡ taken u
    → answer_of t s c ≡ answer_of u s c
own_counter = Answers.answer_own

-- the choice (Rules 1.6, 1.7), by any factors: of two points the one with the smaller square is chosen; of two with the
-- same square the one of the higher basis weight; of two with the same square and weight the lower, compared axis by axis
pub chosen_exact : (scale : Scale) (target a b : Point) → (chosen_over scale target a b ≡ true) ↔ Chosen (square_of scale) target a b
chosen_exact = ScaleLaws.scale_exact

-- nearest (Rules 2.8), 8 with the record and the square, by the factors of the opening: a held record of the grade, and "every other held record of the grade has a greater square, or the same
-- and loses the tie" (Rules 4.10), so that the found one is chosen over it
pub record Found (t : Table) (p : Point) : Type 0 where
  pub found : Record
  pub held : Memᴰ found t.held
  pub grade : same_grade p found.point ≡ true
  pub first : (q : Record) → Memᴰ q t.held → same_grade p q.point ≡ true → ¬ (q.point ≡ found.point) → chosen_over t.scale p found.point q.point ≡ true
  pub answers : (s : ℕ) → answer_of t s (nearest p) ≡ answer 8 found.point found.curve (square_of t.scale p found.point)

-- "or 9 where the grade has no record" (Rules 2.8)
pub record NoneFound (t : Table) (p : Point) : Type 0 where
  pub grade : (q : Record) → Memᴰ q t.held → ¬ (same_grade p q.point ≡ true)
  pub answers : (s : ℕ) → answer_of t s (nearest p) ≡ answer 9 p 0 0

-- one of the two
pub nearest_either : (t : Table) (p : Point) → Found t p ⊎ NoneFound t p
unfolding answer_of nearest_answer
nearest_either t p = go (nearest_of t.scale p t.held) refl
  where
    go : (x : Option Record) → nearest_of t.scale p t.held ≡ x → Found t p ⊎ NoneFound t p
    go (some r) e = let n = nearest_some t.scale p t.held r e in inl (record { found = r; held = n.mem; grade = n.grade; first = n.first; answers = λ s. rw (e, nearest_answer) })
    go none e = inr (record { grade = nearest_none t.scale p t.held e; answers = λ s. rw (e, nearest_answer) })

-- ---- a call run alone

-- the words after a submission
abbrev pub begun : List ℕ → ℕ → ℕ → Point → ℕ → List ℕ
begun words s kind p c = (submit_of words s kind p c).words

-- where the plain table is t, station s is answered within 16 × places + 64 steps of its own, which are what a run gives it; the taking gives the table's answer;
-- and what it leaves agrees with the table after the call's effect
pub record RunsAlone (words : List ℕ) (t : Table) (places s kind : ℕ) (p : Point) (c : ℕ) : Type 0 where
  pub steps : ℕ
  pub few : steps < 16 * places + 64
  pub answered : AnsweredAt (begun words s kind p c) s steps
  pub ran : run_of (begun words s kind p c) s ≡ done (stepped (suc steps) (begun words s kind p c) s)
  pub given : given_by (take_of (run_of (begun words s kind p c) s).words s) ≡ some (answer_of t s (call_of kind p c))
  pub left : Agrees (take_words (run_of (begun words s kind p c) s).words s) (changed_if (is_change (answer_of t s (call_of kind p c))) t s (call_of kind p c))

-- there are moments as demand 3 wants them; submission refuses what their table at the end refuses, and a call that it accepts, run alone, answers as this table
pub record AnswersAsTable (start : List ℕ) (places limit : ℕ) (scale : Scale) (evs : List Event) : Type 0 where
  pub history : Moments start places limit scale evs
  pub submits : (s kind : ℕ) (p : Point) (c : ℕ) → (submit_of (after evs start) s kind p c).number ≡ (submit (history.table evs) s kind p c).number
  -- the state word of a station says unfinished exactly if the table does, so that `solo` of Demand3.antt speaks of the table's unfinished calls
  pub unfinished : (s : ℕ) → s < 8 → is_unfinished (state_at (after evs start) s) ≡ busy ((history.table evs).stations s)
  -- the counter of a station is the number of changes that the table has counted for it
  pub counters : (s : ℕ) → s < 8 → counter_at (after evs start) s ≡ (history.table evs).counters s
  -- and it goes by the factors of the opening
  pub factors : (history.table evs).scale ≡ scale
  pub alone : (s kind : ℕ) (p : Point) (c : ℕ) → (submit_of (after evs start) s kind p c).number ≡ 0 → RunsAlone (after evs start) (history.table evs) places s kind p c

-- "Each call run alone answers as a plain table of records does": after every history from an accepted opening.
pub demand_2 : (words : List ℕ) (places limit : ℕ) (scale : Scale) → (open_of words places limit scale).number ≡ 0 → (evs : List Event) → AnswersAsTable (open_of words places limit scale).words places limit scale evs
unfolding moments_of
demand_2 words places limit scale e evs =
    let start = (open_of words places limit scale).words in
    let x = demand_2_alone words places limit scale e evs in
    let h : Moments start places limit scale evs = moments_of start places limit scale evs x.moments x.follows in
    let same : h.table evs ≡ x.table = last_at word_index (λ s. ⊥) start (opened places limit scale) evs x.moments x.follows x.table x.ends in
    record {
      history = h;
      submits = λ s kind p c. rw same (x.submits s kind p c);
      unfinished = λ s l. rw same (x.unfinished s l);
      counters = λ s l. rw same (x.counters s l);
      factors = ap (λ (t : Table). t.scale) same ∙ ends_scale word_index evs x.moments start (opened places limit scale) x.table x.ends ∙ opened_scale places limit scale;
      alone = λ s kind p c a.
          let y = x.alone s kind p c a in
          let b : List ℕ = begun (after evs start) s kind p c in
          let r : run_of b s ≡ done (stepped (suc y.before) b s) = run_alone words places limit scale e evs s kind p c y.before y.few y.answered in
          rw same
          (record {
            steps = y.before;
            few = y.few;
            answered = record { accepted = steps_accepted y.before b s y.answered; unanswered = steps_unanswered y.before b s y.answered; answers = steps_answered y.before b s y.answered };
            ran = r;
            given = rw r y.given;
            left = rw r (agrees_with y.left);
          });
    }

-- ---- frames

-- "Frames written read back as the same call": fields of their widths, the bytes used, whatever bytes stand before and after them.
pub written_reads : (frame : Frame) → InWidth frame → (before rest : List ℕ)
    → read_of (before ++ (take_first (written_of frame).count (written_of frame).bytes ++ rest)) (length before) ≡ Some (Ok (frame, length before + (written_of frame).count))
written_reads = WrittenLaws.written_reads

-- "frames read write back as the same bytes": those from the position to the next, in any bytes; and the frame's fields are in width.
pub read_writes : (bytes : List ℕ) (at next : ℕ) (frame : Frame) → AllBytes bytes → read_of bytes at ≡ Some (Ok (frame, next))
    → (take_first (next - at) (drop at bytes) ≡ take_first (written_of frame).count (written_of frame).bytes) × (next ≡ at + (written_of frame).count) × InWidth frame
read_writes bytes at next frame b e = (ReadLaws.read_writes bytes at b e, ReadLaws.read_count bytes at b e, ReadLaws.read_in_width bytes at b e)
