-- Demand 1: "Whoever calls, with whatever numbers, frame bytes or index contents, gets a defined result and the call ends. Bad input gets the number of
-- the first check it fails, and a refused call changes no word or byte lent to it."
-- A defined result, and an end, are in Contracts.antt: each public function meets its contract (`open_meets` and so on), which requires nothing and is an equation with a definition
-- (`open_contract` and so on). The numbers of refusals, and that a refused call changes nothing, are here, of these definitions. `read_report` and `audit` are lent the words for
-- reading alone, and the functions of `frames`, `readers` and `lines` the bytes.
-- A question is a test and its number; `first_no` is the number of the first that fails, and 0 where none does (Rules 7.1).
use Prim.Native.Nat.{ℕ, ◌+◌, ◌<◌}
use mathlib.Core.Path.{◌≡◌, refl, ◌∙◌}
use mathlib.Core.Bool.{Bool, true, false, cond, ◌&&◌}
use mathlib.Core.List.{List, [], ◌∷◌, Memᴰ}
use lib.Dec.{leb, ltb}
use lib.ListN.{length, drop, replicate}
use Rattle.claims.specs.Definitions.{Scale, plain_rule, rule_in, factors_in, plain_scale, Point, in_range_by, rule_at, words_for, places_in, limit_in, opened_in, is_idle, is_unfinished, state_at, waiting_at, number_told, yes_told}
use Rattle.claims.specs.Definitions.{is_opened, rows_in, open_of, kind_in, curve_fits, submit_of, records_sound, step_of, is_given, take_of, take_words, withdraw_of}
use Rattle.claims.specs.Definitions.{part, at_row, row_of, in_rows, Need, rows_of, step_needs, rows_sound, report_of, verdict_of, asked, first_no}
use Rattle.claims.specs.Definitions.{Frame, Open, Submit, Step, Take, Run, OpenScaled, OpenRuled, Withdraw, Some, Err, FrameRefusal, frame_number_told, is_kind, is_whole, has_kind, own_length, frame_question, read_of, reading_number}
use Rattle.claims.specs.Definitions.{position_after, Fields, padded, written_bytes, write_of, written_told, point_of, scale_of, submission_reply, apply_of, applied_number, apply_words, line_words}
use borrow.Author.Tests.{lt-ltb}
use Rattle.rows.proofs.RowLaws.{row_exact}
use Rattle.calls.proofs.Conjunctions.{and_false}
use Rattle.calls.proofs.NeedLaws.{needed_row}
use Rattle.history.proofs.Refused
use Rattle.frames.proofs.OutcomeLaws
use Rattle.lines.proofs.LineLaws

-- ---- the number of the first check it fails

-- opening: questions 1, 2, 20, 17 and 3 (Rules 7.3)
pub open_number : (words : List ℕ) (places limit : ℕ) (scale : Scale)
    → (open_of words places limit scale).number ≡ first_no (asked (places_in places) 1 ∷ asked (limit_in limit) 2 ∷ asked (rule_in scale.rule) 20 ∷ asked (factors_in scale) 17 ∷ asked (leb (words_for places) (length words)) 3 ∷ [])
open_number = Refused.open_number

-- submission: questions 4 and 5, as every call that names a station asks them (Rules 7.5, 7.6), then 6 to 9 (Rules 7.7)
pub submit_number : (words : List ℕ) (s kind : ℕ) (p : Point) (c : ℕ)
    → (submit_of words s kind p c).number
    ≡ first_no (asked (is_opened (opened_in words)) 4 ∷ asked (ltb s 8) 5
    ∷ asked (is_idle (state_at words s)) 6 ∷ asked (kind_in kind) 7 ∷ asked (in_range_by (rule_at words) p) 8 ∷ asked (curve_fits kind c) 9 ∷ [])
submit_number = Refused.submit_number

-- Step: question 10, and question 11 first of the two records (Rules 7.8, 7.10), then of the rows (Rules 7.11 to 7.15): `step_needs` lists what the step needs, and
-- `rows_sound` is that all of it is met. 11 exactly if one of these fails, and else 0.
pub step_number : (words : List ℕ) (s : ℕ)
    → (step_of words s).number
    ≡ first_no (asked (is_opened (opened_in words)) 4 ∷ asked (ltb s 8) 5
    ∷ asked (is_unfinished (state_at words s)) 10 ∷ asked (records_sound words s) 11 ∷ asked (rows_sound words s) 11 ∷ [])
step_number = Refused.step_number

-- A needed row with a field out of range is one of them: such a step gets 11.
pub field_out_of_range : (words : List ℕ) (s : ℕ) → is_opened (opened_in words) ≡ true → s < 8 → is_unfinished (state_at words s) ≡ true
    → (need : Need) → Memᴰ need (step_needs words s) → (r : ℕ) → Memᴰ r (rows_of need)
    → in_rows (rule_at words) (rows_in words) (row_of (part words (at_row r) 16)) ≡ false → (step_of words s).number ≡ 11
unfolding first_no
field_out_of_range words s o l u need m r k e =
    step_number words s ∙ rw (o, lt-ltb s 8 l, u, needed_row words s m k (row_exact words (rows_in words) r ∙ rw e (and_false there))) (either (records_sound words s))
  where
    there : Bool
    there = ltb r (rows_in words) && leb (at_row r + 16) (length words)

    either : (b : Bool) → first_no (asked true 4 ∷ asked true 5 ∷ asked true 10 ∷ asked b 11 ∷ asked false 11 ∷ []) ≡ 11
    either true = refl
    either false = refl

-- Withdrawal: question 10, then 11 (Rules 7.9). It needs the two records and no row, so that 11 is asked of these alone.
pub withdrawal_number : (words : List ℕ) (s : ℕ)
    → (withdraw_of words s).number
    ≡ first_no (asked (is_opened (opened_in words)) 4 ∷ asked (ltb s 8) 5 ∷ asked (is_unfinished (state_at words s)) 10 ∷ asked (records_sound words s) 11 ∷ [])
withdrawal_number = Refused.withdraw_number

-- taking: question 12 (Rules 7.17)
pub take_number : (words : List ℕ) (s : ℕ)
    → number_told (take_of words s) ≡ first_no (asked (is_opened (opened_in words)) 4 ∷ asked (ltb s 8) 5 ∷ asked (is_given (waiting_at words s)) 12 ∷ [])
take_number = Refused.take_number

-- A report names no station: question 4 alone (Rules 7.5).
pub report_number : (words : List ℕ) → number_told (report_of words) ≡ first_no (asked (is_opened (opened_in words)) 4 ∷ [])
report_number = Refused.report_number

-- An audit names none either.
pub audit_number : (words : List ℕ) → number_told (verdict_of words) ≡ first_no (asked (is_opened (opened_in words)) 4 ∷ [])
audit_number = Refused.audit_number

-- ---- "a refused call changes no word"

-- a refused opening
pub open_refused : (words : List ℕ) (places limit : ℕ) (scale : Scale) → ¬ ((open_of words places limit scale).number ≡ 0) → (open_of words places limit scale).words ≡ words
open_refused = Refused.open_refused

-- a refused submission
pub submit_refused : (words : List ℕ) (s kind : ℕ) (p : Point) (c : ℕ) → ¬ ((submit_of words s kind p c).number ≡ 0) → (submit_of words s kind p c).words ≡ words
submit_refused = Refused.submit_refused

-- a refused step
pub step_refused : (words : List ℕ) (s : ℕ) → ¬ ((step_of words s).number ≡ 0) → (step_of words s).words ≡ words
step_refused = Refused.step_refused

-- a refused withdrawal
pub withdrawal_refused : (words : List ℕ) (s : ℕ) → ¬ ((withdraw_of words s).number ≡ 0) → (withdraw_of words s).words ≡ words
withdrawal_refused = Refused.withdraw_refused

-- a refused taking
pub take_refused : (words : List ℕ) (s : ℕ) → ¬ (number_told (take_of words s) ≡ 0) → take_words words s ≡ words
take_refused = Refused.take_refused

-- A report and an audit write nothing at all; a refused audit does not say yes.
pub audit_refused : (words : List ℕ) → ¬ (number_told (verdict_of words) ≡ 0) → yes_told (verdict_of words) ≡ false
audit_refused = Refused.audit_refused

-- ---- frames

-- Reading a frame: questions 13 to 15 (Rules 7.18).
pub frame_number : (bytes : List ℕ) (at : ℕ) → at < length bytes
    → reading_number (read_of bytes at) ≡ first_no (asked (is_whole (drop at bytes)) 13 ∷ asked (has_kind (drop at bytes)) 14 ∷ asked (own_length (drop at bytes)) 15 ∷ [])
unfolding frame_question first_no
frame_number bytes at l = OutcomeLaws.reading_number_lem bytes at l ∙ same (is_whole (drop at bytes)) (has_kind (drop at bytes)) (own_length (drop at bytes))
  where
    same : (a b c : Bool) → cond a (cond b (cond c 0 15) 14) 13 ≡ first_no (asked a 13 ∷ asked b 14 ∷ asked c 15 ∷ [])
    same true true true = refl
    same true true false = refl
    same true false c = refl
    same false b c = refl

-- "A refusal is its number alone, with nothing written anywhere" (Rules 7.2): a frame that is not read changes no word, and does not move the position (Rules 9.5).
pub frame_refused : (words bytes : List ℕ) (at : ℕ) (refusal : FrameRefusal) → read_of bytes at ≡ Some (Err refusal)
    → (line_words words (read_of bytes at) ≡ words) × (position_after (read_of bytes at) at ≡ at)
unfolding line_words
frame_refused words bytes at refusal e = rw e (refl, refl)

-- "The writer takes a kind (question 14)" (Rules 9.6).
pub writer_number : (kind : ℕ) (fields : Fields) → frame_number_told (write_of kind fields) ≡ first_no (asked (is_kind kind) 14 ∷ [])
unfolding write_of first_no
writer_number kind fields = go (is_kind kind) refl
  where
    go : (b : Bool) → is_kind kind ≡ b → frame_number_told (write_of kind fields) ≡ first_no (asked b 14 ∷ [])
    go true e = rw (e, write_of)
    go false e = rw (e, write_of)

-- A refused writing has no byte of a frame: "all are zero and the count is 0" (Rules 9.6).
pub writer_refused : (kind : ℕ) (fields : Fields) → ¬ (frame_number_told (write_of kind fields) ≡ 0)
    → ((written_told (write_of kind fields)).bytes ≡ replicate 28 0) × ((written_told (write_of kind fields)).count ≡ 0)
unfolding write_of written_bytes padded
writer_refused kind fields = go (is_kind kind) refl
  where
    go : (b : Bool) → is_kind kind ≡ b → ¬ (frame_number_told (write_of kind fields) ≡ 0) → ((written_told (write_of kind fields)).bytes ≡ replicate 28 0) × ((written_told (write_of kind fields)).count ≡ 0)
    go true e n = absurd (n (rw (e, write_of)))
    go false e n = rw (e, write_of) (refl, refl)

-- a run is many calls, each refused or not by itself (`run_is_steps` in Further.antt)
abbrev pub IsRun : Frame → Type 0
IsRun (Open places limit) = ⊥
IsRun (Submit s) = ⊥
IsRun (Step station) = ⊥
IsRun (Take station) = ⊥
IsRun (Run station) = Unit {0}
IsRun (OpenScaled places limit factors) = ⊥
IsRun (OpenRuled places limit factors rule) = ⊥
IsRun (Withdraw station) = ⊥

-- A frame whose call is refused changes no word.
pub applied_refused : (words : List ℕ) (frame : Frame) → ¬ IsRun frame → ¬ (applied_number (apply_of words frame) ≡ 0) → apply_words words frame ≡ words
unfolding apply_of apply_words submission_reply
applied_refused words (Open places limit) r n = open_refused words places limit plain_scale (λ e. n (LineLaws.no_answer_number (open_of words places limit plain_scale).number ∙ e))
applied_refused words (Submit s) r n = submit_refused words s.station s.kind (point_of s) s.curve (λ e. n (LineLaws.no_answer_number (submission_reply words s).number ∙ e))
applied_refused words (Step station) r n = step_refused words station (λ e. n (LineLaws.no_answer_number (step_of words station).number ∙ e))
applied_refused words (Take station) r n = take_refused words station (λ e. n (LineLaws.taking_number (take_of words station) ∙ e))
applied_refused words (Run station) r n = absurd (r tt)
applied_refused words (OpenScaled places limit factors) r n = open_refused words places limit (scale_of plain_rule factors) (λ e. n (LineLaws.no_answer_number (open_of words places limit (scale_of plain_rule factors)).number ∙ e))
applied_refused words (OpenRuled places limit factors rule) r n = open_refused words places limit (scale_of rule factors) (λ e. n (LineLaws.no_answer_number (open_of words places limit (scale_of rule factors)).number ∙ e))
applied_refused words (Withdraw station) r n = withdrawal_refused words station (λ e. n (LineLaws.no_answer_number (withdraw_of words station).number ∙ e))
