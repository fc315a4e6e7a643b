-- Refusals: the number of every call is that of the first question answered no, for all words and arguments (`open_number` to `audit_number`), and a
-- refused call leaves every word as it was (`open_refused` to `take_refused`); a refused audit does not say yes (`audit_refused`).
use Rattle.std.specs.Prelude.{Option, None, Some, Result, Ok, Err}
use Prim.Native.Nat.{ℕ}
use mathlib.Core.Path.{◌≡◌, refl, ap, ◌∙◌}
use mathlib.Core.Logic.{◌≢◌, ◌⊎◌, inl, inr}
use mathlib.Core.Bool.{Bool, true, false, cond, ◌&&◌, ◌||◌}
use mathlib.Core.List.{List}
use lib.Dec.{eqb, leb, ltb}
use lib.ListN.{length}
use Rattle.stations.specs.Counts.{counts_at}
use Rattle.points.specs.declared.point.Point.{Point}
use Rattle.points.specs.declared.scale.Scale.{Scale}
use Rattle.points.specs.Scale.{factors_in}
use Rattle.points.specs.Number.{in_range_by}
use Rattle.points.specs.Rule.{rule_in}
use Rattle.words.specs.Rule.{rule_at}
use Rattle.points.specs.Word.{NONE}
use Rattle.stations.specs.declared.call.Call.{Call}
use Rattle.words.specs.Layout.{words_for, stations}
use Rattle.rows.specs.Row.{row_at}
use Rattle.stations.specs.Common.{places_in, limit_in, opened_in, taken_in, is_opened, rows_in}
use Rattle.stations.specs.Station.{is_idle, is_unfinished, state_at}
use Rattle.stations.specs.Call.{call_at, kind_in}
use Rattle.stations.specs.Answer.{waiting_at}
use Rattle.calls.specs.Reply.{Reply, done, refused, pick_reply, ask}
use Rattle.calls.specs.Link.{is_leaf, is_cut}
use Rattle.calls.specs.Open.{opened_words, open_of}
use Rattle.calls.specs.Submit.{curve_fits, submitted_words, submit_of}
use Rattle.calls.specs.Search.{seek, aim_at, progress_at, search_of}
use Rattle.calls.specs.Insert.{site_at, site_sound, insert_of}
use Rattle.calls.specs.Unlink.{around_at, around_sound, unlink_of}
use Rattle.calls.specs.Walk.{way_of, code_at, conclude, stands_at, walk_of}
use Rattle.calls.specs.Step.{records_sound, work_of, ask_unfinished, step_of}
use Rattle.calls.specs.Needs.{rows_sound}
use Rattle.calls.proofs.NeedLaws.{step_needs_lem}
use Rattle.calls.specs.Withdraw.{withdrawn_words, withdraw_of}
use Rattle.calls.specs.Take.{taking_of, take_of, emptied_words, take_words}
use Rattle.calls.specs.Report.{report_of}
use Rattle.calls.specs.Tree.{tree_in}
use Rattle.calls.specs.Queue.{queue_in}
use Rattle.calls.specs.Whole.{all_rows}
use Rattle.calls.specs.Audit.{audit_of, verdict_of, yes_told}
use Rattle.calls.specs.Run.{is_given}
use Rattle.history.specs.Questions.{or_else, first_no, open_questions, submit_questions, step_questions, withdraw_questions, take_questions, slice_questions}
use Rattle.words.specs.declared.refusal.Refusal.{Refusal}
use Rattle.words.specs.declared.refusal.Refusal.TheVariants.{NoStation, NotOpened}
use Rattle.words.specs.Refusal.{number_told}
use Rattle.stations.specs.declared.answer.Answer.{Answer}

-- ---- the work of a step is done or refused with 11

-- a reply that is done, or refused with the number and the words as they were
pub data Settles (number : ℕ) (words : List ℕ) (r : Reply) : Type 0 where
  is_done : r.number ≡ 0 → Settles number words r
  is_refused : r ≡ refused number words → Settles number words r

pick_settles : {number : ℕ} {words : List ℕ} (b : Bool) {x y : Reply} → Settles number words x → Settles number words y → Settles number words (pick_reply b x y)
pick_settles true p q = p
pick_settles false p q = q

search_settles : (words : List ℕ) (rows s : ℕ) (call : Call) → Settles 11 words (search_of words rows s call)
unfolding search_of
search_settles words rows s call = pick_settles (seek words rows (aim_at words call) (progress_at words s call)).sound (is_done refl) (is_refused refl)

insert_settles : (words : List ℕ) (rows s : ℕ) (call : Call) (at : ℕ) → Settles 11 words (insert_of words rows s call at)
unfolding insert_of
insert_settles words rows s call at = pick_settles (site_sound (site_at words rows at)) (is_done refl) (is_refused refl)

unlink_settles : (words : List ℕ) (rows s : ℕ) (call : Call) (at : ℕ) → Settles 11 words (unlink_of words rows s call at)
unfolding unlink_of
unlink_settles words rows s call at = pick_settles (around_sound (around_at words rows at) && leb 1 (counts_at words).held) (is_done refl) (is_refused refl)

walk_settles : (words : List ℕ) (rows s : ℕ) (call : Call) → Settles 11 words (walk_of words rows s call)
unfolding walk_of conclude
walk_settles words rows s call =
    let at = stands_at words s in
    let row = row_at words rows at in
    let code = code_at words s call row in
    pick_settles (is_cut row) (pick_settles (eqb (way_of words rows call.point at).to NONE) (is_refused refl) (is_done refl))
    (pick_settles (eqb at NONE || is_leaf row)
    (pick_settles (eqb code 1) (insert_settles words rows s call at) (pick_settles (eqb code 5) (unlink_settles words rows s call at) (is_done refl)))
    (is_refused refl))

pub work_settles : (words : List ℕ) (rows s : ℕ) (call : Call) → Settles 11 words (work_of words rows s call)
work_settles words rows s call = pick_settles (eqb call.kind 4) (search_settles words rows s call) (walk_settles words rows s call)

-- ---- numbers

pub open_number : (words : List ℕ) (places limit : ℕ) (scale : Scale) → (open_of words places limit scale).number ≡ first_no (open_questions words places limit scale)
unfolding open_of first_no
open_number words places limit scale = go (places_in places) (limit_in limit) (rule_in scale.rule) (factors_in scale) (leb (words_for places) (length words))
  where
    go : (a b r f c : Bool)
        → (ask a 1 words (ask b 2 words (ask r 20 words (ask f 17 words (ask c 3 words (done (opened_words words places limit scale))))))).number
        ≡ or_else a 1 (or_else b 2 (or_else r 20 (or_else f 17 (or_else c 3 0))))
    go true true true true true = refl
    go true true true true false = refl
    go true true true false c = refl
    go true true false f c = refl
    go true false r f c = refl
    go false b r f c = refl

pub submit_number : (words : List ℕ) (s kind : ℕ) (p : Point) (c : ℕ) → (submit_of words s kind p c).number ≡ first_no (submit_questions words s kind p c)
unfolding submit_of first_no
submit_number words s kind p c = go (is_opened (opened_in words)) (ltb s stations) (is_idle (state_at words s)) (kind_in kind) (in_range_by (rule_at words) p) (curve_fits kind c)
  where
    go : (o l i k r f : Bool)
        → (ask o 4 words (ask l 5 words (ask i 6 words (ask k 7 words (ask r 8 words (ask f 9 words (done (submitted_words words s kind p c)))))))).number
        ≡ or_else o 4 (or_else l 5 (or_else i 6 (or_else k 7 (or_else r 8 (or_else f 9 0)))))
    go true true true true true true = refl
    go true true true true true false = refl
    go true true true true false f = refl
    go true true true false r f = refl
    go true true false k r f = refl
    go true false i k r f = refl
    go false l i k r f = refl

pub step_number : (words : List ℕ) (s : ℕ) → (step_of words s).number ≡ first_no (step_questions words s)
unfolding step_of first_no
step_number words s = go (is_opened (opened_in words)) (ltb s stations) (is_unfinished (state_at words s)) (records_sound words s)
  where
    work : Reply
    work = work_of words (rows_in words) s (call_at words s)

    rows : (b : Bool) → cond b 0 11 ≡ or_else b 11 0
    rows true = refl
    rows false = refl

    go : (o l u r : Bool) → (ask o 4 words (ask l 5 words (ask u 10 words (ask r 11 words work)))).number ≡ or_else o 4 (or_else l 5 (or_else u 10 (or_else r 11 (or_else (rows_sound words s) 11 0))))
    go true true true true = step_needs_lem words s ∙ rows (rows_sound words s)
    go true true true false = refl
    go true true false r = refl
    go true false u r = refl
    go false l u r = refl

pub withdraw_number : (words : List ℕ) (s : ℕ) → (withdraw_of words s).number ≡ first_no (withdraw_questions words s)
unfolding withdraw_of first_no
withdraw_number words s = go (is_opened (opened_in words)) (ltb s stations) (is_unfinished (state_at words s)) (records_sound words s)
  where
    go : (o l u r : Bool)
        → (ask o 4 words (ask l 5 words (ask u 10 words (ask r 11 words (done (withdrawn_words words s (call_at words s))))))).number
        ≡ or_else o 4 (or_else l 5 (or_else u 10 (or_else r 11 0)))
    go true true true true = refl
    go true true true false = refl
    go true true false r = refl
    go true false u r = refl
    go false l u r = refl

pub take_number : (words : List ℕ) (s : ℕ) → number_told (take_of words s) ≡ first_no (take_questions words s)
unfolding take_of first_no
take_number words s = go (is_opened (opened_in words)) (ltb s stations) (waiting_at words s)
  where
    go : (o l : Bool) (w : Option Answer) → number_told (cond o (cond l (taking_of w) (Err NoStation)) (Err NotOpened)) ≡ or_else o 4 (or_else l 5 (or_else (is_given w) 12 0))
    go true true None = refl
    go true true (Some a) = refl
    go true false w = refl
    go false l w = refl

pub report_number : (words : List ℕ) → number_told (report_of words) ≡ first_no (slice_questions words)
unfolding report_of first_no
report_number words = go (is_opened (opened_in words))
  where
    go : (o : Bool) → number_told (cond o (Ok (taken_in words)) (Err NotOpened)) ≡ or_else o 4 0
    go true = refl
    go false = refl

-- an audit asks what a report asks
pub audit_number : (words : List ℕ) → number_told (verdict_of words) ≡ first_no (slice_questions words)
unfolding verdict_of first_no
audit_number words = go (is_opened (opened_in words))
  where
    go : (o : Bool) → number_told (cond o (Ok (all_rows words (tree_in words) (queue_in words))) (Err NotOpened)) ≡ or_else o 4 0
    go true = refl
    go false = refl

-- the verdict of an audit is `audit_of`
pub audit_says : (words : List ℕ) → yes_told (verdict_of words) ≡ audit_of words
unfolding verdict_of audit_of
audit_says words = go (is_opened (opened_in words))
  where
    go : (o : Bool)
        → yes_told (cond o (Ok (all_rows words (tree_in words) (queue_in words))) (Err NotOpened)) ≡ cond o (all_rows words (tree_in words) (queue_in words)) false
    go true = refl
    go false = refl

-- a refused audit does not say yes
pub audit_refused : (words : List ℕ) → number_told (verdict_of words) ≢ 0 → yes_told (verdict_of words) ≡ false
unfolding verdict_of
audit_refused words n = go (is_opened (opened_in words)) n
  where
    verdict : Bool → Result Bool Refusal
    verdict o = cond o (Ok (all_rows words (tree_in words) (queue_in words))) (Err NotOpened)

    go : (o : Bool) → number_told (verdict o) ≢ 0 → yes_told (verdict o) ≡ false
    go true n = absurd (n refl)
    go false n = refl

-- ---- a refused call leaves every word as it was

-- accepted, or the words as they were
abbrev Keeps : List ℕ → Reply → Type 0
Keeps words r = (r.number ≡ 0) ⊎ (r.words ≡ words)

ask_keeps : (words : List ℕ) (b : Bool) (n : ℕ) (r : Reply) → Keeps words r → Keeps words (ask b n words r)
ask_keeps words true n r k = k
ask_keeps words false n r k = inr refl

refused_keeps : (words : List ℕ) (r : Reply) → Keeps words r → ¬ (r.number ≡ 0) → r.words ≡ words
refused_keeps words r (inl e) n = absurd (n e)
refused_keeps words r (inr e) n = e

work_keeps : (words : List ℕ) (r : Reply) → Settles 11 words r → Keeps words r
work_keeps words r (is_done e) = inl e
work_keeps words r (is_refused e) = inr (ap (λ (x : Reply). x.words) e)

pub open_refused : (words : List ℕ) (places limit : ℕ) (scale : Scale) → ¬ ((open_of words places limit scale).number ≡ 0) → (open_of words places limit scale).words ≡ words
unfolding open_of
open_refused words places limit scale =
    refused_keeps words (open_of words places limit scale)
    (ask_keeps words (places_in places) 1 _
    (ask_keeps words (limit_in limit) 2 _ (ask_keeps words (rule_in scale.rule) 20 _ (ask_keeps words (factors_in scale) 17 _ (ask_keeps words (leb (words_for places) (length words)) 3 _ (inl refl))))))

pub submit_refused : (words : List ℕ) (s kind : ℕ) (p : Point) (c : ℕ) → ¬ ((submit_of words s kind p c).number ≡ 0) → (submit_of words s kind p c).words ≡ words
unfolding submit_of
submit_refused words s kind p c =
    refused_keeps words (submit_of words s kind p c)
    (ask_keeps words (is_opened (opened_in words)) 4 _
    (ask_keeps words (ltb s stations) 5 _
    (ask_keeps words (is_idle (state_at words s)) 6 _
    (ask_keeps words (kind_in kind) 7 _ (ask_keeps words (in_range_by (rule_at words) p) 8 _ (ask_keeps words (curve_fits kind c) 9 _ (inl refl)))))))

-- the questions about an unfinished call keep what its reply keeps
unfinished_keeps : (words : List ℕ) (s : ℕ) (r : Reply) → Keeps words r → Keeps words (ask_unfinished words s r)
unfinished_keeps words s r k =
    ask_keeps words (is_opened (opened_in words)) 4 _
    (ask_keeps words (ltb s stations) 5 _ (ask_keeps words (is_unfinished (state_at words s)) 10 _ (ask_keeps words (records_sound words s) 11 _ k)))

pub step_refused : (words : List ℕ) (s : ℕ) → ¬ ((step_of words s).number ≡ 0) → (step_of words s).words ≡ words
unfolding step_of
step_refused words s =
    let work = work_of words (rows_in words) s (call_at words s) in
    refused_keeps words (step_of words s) (unfinished_keeps words s work (work_keeps words work (work_settles words (rows_in words) s (call_at words s))))

pub withdraw_refused : (words : List ℕ) (s : ℕ) → ¬ ((withdraw_of words s).number ≡ 0) → (withdraw_of words s).words ≡ words
unfolding withdraw_of
withdraw_refused words s = refused_keeps words (withdraw_of words s) (unfinished_keeps words s (done (withdrawn_words words s (call_at words s))) (inl refl))

pub take_refused : (words : List ℕ) (s : ℕ) → ¬ (number_told (take_of words s) ≡ 0) → take_words words s ≡ words
unfolding take_words
take_refused words s n = go (take_of words s) refl
  where
    go : (x : Result Answer Refusal) → take_of words s ≡ x → emptied_words words s x ≡ words
    go (Err k) e = refl
    go (Ok a) e = absurd (n (ap number_told e))
