-- What a step touches (Rules 5.2): `touch`, for every content of the words.
-- `withdraw_touch`, `submit_touch` and `take_touch` are the same of a withdrawal, a submission and a taking, which need no row.
use Prim.Native.Nat.{ℕ, ◌≤◌, ◌<◌}
use mathlib.Core.Path.{◌≡◌, refl, ap, ap₂, ◌∙◌}
use mathlib.Core.Bool.{Bool, true, false, ◌&&◌}
use mathlib.Core.List.{List, [], Memᴰ}
use native.Mathlib.Omega.{arith}
use borrow.Author.Tests.{ltb-true}
use lib.Dec.{eqb, ltb}
use lib.ListN.{length}
use Rattle.words.specs.Layout.{stations}
use Rattle.points.specs.Word.{NONE}
use Rattle.rows.specs.Row.{row_at}
use Rattle.stations.specs.Common.{opened_in, common_sound, is_opened, rows_in}
use Rattle.stations.specs.Station.{is_unfinished, state_at}
use Rattle.stations.specs.Call.{call_at, call_sound}
use Rattle.stations.proofs.CommonLaws.{common_sound_agree}
use Rattle.stations.proofs.RecordLaws.{state_at_agree, call_at_agree}
use Rattle.calls.specs.Reply.{Reply}
use Rattle.calls.specs.Link.{is_cut}
use Rattle.calls.specs.Search.{progress_at}
use Rattle.calls.specs.Walk.{code_at, stands_at}
use Rattle.calls.specs.Step.{records_sound, work_of, ask_unfinished, step_of}
use Rattle.calls.specs.Withdraw.{withdrawn_answer, withdraw_of}
use Rattle.stations.proofs.OpeningLaws.{rows_most, rows_in_agree}
use Rattle.history.specs.Touch.{AgreeOn, Leaves, pick_rows, search_rows, walk_rows, step_rows}
use Rattle.history.proofs.TouchLaws.{rule_same, opened_same, leaves_nothing, counts_same}
use Rattle.history.proofs.TouchRows.{below_there, below_few}
use Rattle.history.proofs.TouchReply.{Alike, alike_done, alike_ask, alike_rows, leaves_answered}
use Rattle.history.proofs.TouchWalk.{walk_alike}
use Rattle.history.proofs.TouchSearch.{search_alike}

-- ---- at most six rows

pick_few : (b : Bool) (x y : List ℕ) → length x ≤ 6 → length y ≤ 6 → length (pick_rows b x y) ≤ 6
pick_few true x y m n = m
pick_few false x y m n = n

pub step_rows_lem : (v : List ℕ) (s : ℕ) → length (step_rows v s) ≤ 6
unfolding step_rows
step_rows_lem v s =
    let call = call_at v s in
    let row = row_at v (rows_in v) (stands_at v s) in
    let needed = pick_rows (eqb call.kind 4) (search_rows v (rows_in v) s call) (walk_rows v (rows_in v) s call) in
    let few : length needed ≤ 6 = pick_few (eqb call.kind 4) _ _ (pick_few (eqb (progress_at v s call).missed NONE) _ _ (omega arith) (omega arith))
    (pick_few (is_cut row) _ _ (omega arith)
    (pick_few (eqb (code_at v s call row) 1) _ _ (omega arith) (pick_few (eqb (code_at v s call row) 5) _ _ (omega arith) (omega arith))))
    in
    omega (arith, few, below_few (rows_in v) needed)

-- each is a row of the index
pub step_rows_there : (v : List ℕ) (s r : ℕ) → Memᴰ r (step_rows v s) → r < rows_in v
unfolding step_rows
step_rows_there v s r m = below_there (rows_in v) _ r m

-- ---- what is read of the two records

module _ {v w : List ℕ} {s : ℕ} {rows : List ℕ} (a : AgreeOn v w s rows) where
  rows_same : rows_in v ≡ rows_in w
  rows_same = rows_in_agree a.common

  sound_same : records_sound v s ≡ records_sound w s
  unfolding records_sound
  sound_same =
      ap₂ ◌&&◌ (ap (common_sound v) rows_same ∙ common_sound_agree a.common (rows_in w))
      (λ i. call_sound (rule_same a i) (call_at_agree s a.station i) (counts_same a i).changes)

  -- the questions about an unfinished call
  unfinished_alike : {r q : Reply} → (s < stations → Alike v w r q s rows) → Alike v w (ask_unfinished v s r) (ask_unfinished w s q) s rows
  unfinished_alike x =
      alike_ask a (is_opened (opened_in v)) (is_opened (opened_in w)) 4 (ap is_opened (opened_same a))
      (λ o. alike_ask a (ltb s stations) (ltb s stations) 5 refl
      (λ l. alike_ask a (is_unfinished (state_at v s)) (is_unfinished (state_at w s)) 10 (ap is_unfinished (state_at_agree s a.station))
      (λ u. alike_ask a (records_sound v s) (records_sound w s) 11 sound_same (λ r. x (ltb-true s stations l)))))

-- no row has the number of none
rows_few : (v : List ℕ) → rows_in v ≤ NONE
rows_few v = omega (arith, rows_most v)

-- ---- one step

work_alike : {v w : List ℕ} {s : ℕ} → s < stations → AgreeOn v w s (step_rows v s)
    → Alike v w (work_of v (rows_in v) s (call_at v s)) (work_of w (rows_in w) s (call_at w s)) s (step_rows v s)
unfolding step_rows
work_alike {v} {w} {s} h a =
    rw (← rows_same a, ← call_at_agree s a.station)
    (alike_rows (rows_in v) (eqb (call_at v s).kind 4) _ _ a (search_alike h (rows_in v) (call_at v s)) (walk_alike h (rows_in v) (rows_few v) (call_at v s)))

step_alike : {v w : List ℕ} {s : ℕ} → AgreeOn v w s (step_rows v s) → Alike v w (step_of v s) (step_of w s) s (step_rows v s)
unfolding step_of
step_alike a = unfinished_alike a (λ l. work_alike l a)

-- the rows `step_rows` of a step do what Rules 5.2 says
pub step_touch : (v w : List ℕ) (s : ℕ) → AgreeOn v w s (step_rows v s)
    → ((step_of v s).number ≡ (step_of w s).number) × Leaves v w (step_of v s).words (step_of w s).words s (step_rows v s)
step_touch v w s a = let x = step_alike a in (x.number, x.leaves)

-- Rules 5.2: at most six rows, each of them one of the 2 × places rows, against every slice that agrees there.
pub touch : (v : List ℕ) (s : ℕ)
    → (rows : List ℕ) × (length rows ≤ 6) × ((r : ℕ) → Memᴰ r rows → r < rows_in v)
    × ((w : List ℕ) → AgreeOn v w s rows → ((step_of v s).number ≡ (step_of w s).number) × Leaves v w (step_of v s).words (step_of w s).words s rows)
touch v s = (step_rows v s, step_rows_lem v s, step_rows_there v s, λ w a. step_touch v w s a)

-- ---- one withdrawal

withdraw_alike : {v w : List ℕ} {s : ℕ} {rows : List ℕ} → AgreeOn v w s rows → Alike v w (withdraw_of v s) (withdraw_of w s) s rows
unfolding withdraw_of
withdraw_alike {v} {w} {s} a = unfinished_alike a (λ l. alike_done (leaves_answered (leaves_nothing a) _ _ (ap withdrawn_answer (call_at_agree s a.station))))

-- Rules 5.3: a withdrawal needs and changes the two records alone, and no row.
pub withdraw_touch : (v w : List ℕ) (s : ℕ) → AgreeOn v w s []
    → ((withdraw_of v s).number ≡ (withdraw_of w s).number) × Leaves v w (withdraw_of v s).words (withdraw_of w s).words s []
withdraw_touch v w s a = let x = withdraw_alike a in (x.number, x.leaves)
