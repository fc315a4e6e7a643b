-- A call asks its questions first, as one number, and then writes or not. Assumes nothing.
use Prim.Native.Nat.{ℕ}
use mathlib.Core.Path.{◌≡◌, refl, sym, ap, ◌∙◌}
use mathlib.Core.Bool.{Bool, true, false, cond}
use mathlib.Core.List.{List}
use lib.Dec.{eqb, leb, ltb}
use lib.ListN.{length}
use native.Mathlib.Omega.{arith}
use Rattle.words.specs.Layout.{stations, words_for}
use Rattle.words.specs.Refusal.{bad_places, bad_limit, short_slice, bad_factor, bad_rule, not_opened, no_station, not_idle, no_kind, bad_point, bad_curve, not_unfinished, unsound}
use Rattle.words.specs.Refusal.{number_of, number_told}
use Rattle.words.specs.declared.refusal.Refusal.{Refusal}
use Rattle.words.specs.declared.refusal.Refusal.TheVariants.{NotOpened, NoStation, NotUnfinished, Unsound}
use Rattle.std.specs.Prelude.{Result, Ok, Err}
use Rattle.points.specs.declared.point.Point.{Point}
use Rattle.points.specs.declared.scale.Scale.{Scale}
use Rattle.points.specs.Rule.{rule_in}
use Rattle.points.specs.Number.{in_range_by}
use Rattle.points.specs.Scale.{factors_in}
use Rattle.words.specs.Rule.{rule_at}
use Rattle.stations.specs.Common.{places_in, limit_in, opened_in, is_opened, rows_in}
use Rattle.stations.specs.Station.{is_idle, is_unfinished, state_at}
use Rattle.stations.specs.Call.{call_at, kind_in}
use Rattle.calls.specs.Reply.{Reply, replied, done, ask, refused, pick_reply}
use Rattle.calls.specs.Open.{open_question, opened_words, open_of}
use Rattle.calls.specs.Step.{records_sound, fields_sound, first_failed, ask_unfinished, work_of, step_of}
use Rattle.calls.specs.Withdraw.{withdrawn_reply, withdraw_of}
use Rattle.calls.specs.declared.turn.Turn.{Turn}
use Rattle.calls.specs.Turn.{turn_at, turn_of}
use Rattle.calls.specs.Submit.{curve_fits, call_question, submit_question, submitted_words, submit_of}

-- no question failed and the call leaves the words after, or one did and it leaves those before
abbrev pub settled : ℕ → List ℕ → List ℕ → Reply
settled number before after = pick_reply (eqb number 0) (done after) (replied number before)

-- an opening asks its questions first
pub open_settled : (words : List ℕ) (places limit : ℕ) (scale : Scale)
    → open_of words places limit scale ≡ settled (open_question words places limit scale) words (opened_words words places limit scale)
unfolding open_of open_question
open_settled words places limit scale = go (places_in places) (limit_in limit) (rule_in scale.rule) (factors_in scale) (leb (words_for places) (length words))
  where
    after : List ℕ
    after = opened_words words places limit scale

    go : (a b r f c : Bool)
        → ask a bad_places words (ask b bad_limit words (ask r bad_rule words (ask f bad_factor words (ask c short_slice words (done after)))))
        ≡ settled (cond a (cond b (cond r (cond f (cond c 0 short_slice) bad_factor) bad_rule) bad_limit) bad_places) words after
    go false b r f c = refl
    go true false r f c = refl
    go true true false f c = refl
    go true true true false c = refl
    go true true true true false = refl
    go true true true true true = refl

-- an opening that fails none has its places in range
pub open_places : (words : List ℕ) (places limit : ℕ) (scale : Scale) → open_question words places limit scale ≡ 0 → places_in places ≡ true
unfolding open_question
open_places words places limit scale =
    go (places_in places)
    (cond (limit_in limit) (cond (rule_in scale.rule) (cond (factors_in scale) (cond (leb (words_for places) (length words)) 0 short_slice) bad_factor) bad_rule) bad_limit)
  where
    go : (a : Bool) (n : ℕ) → cond a n bad_places ≡ 0 → a ≡ true
    go true n e = refl
    go false n e = absurd (omega arith)

-- a submission asks its questions first
pub submit_settled : (words : List ℕ) (s kind : ℕ) (point : Point) (curve : ℕ)
    → submit_of words s kind point curve ≡ settled (submit_question words s kind point curve) words (submitted_words words s kind point curve)
unfolding submit_of submit_question call_question
submit_settled words s kind point curve =
    go (is_opened (opened_in words)) (ltb s stations) (is_idle (state_at words s)) (kind_in kind) (in_range_by (rule_at words) point) (curve_fits kind curve)
  where
    after : List ℕ
    after = submitted_words words s kind point curve

    go : (a b c d e f : Bool)
        → ask a not_opened words (ask b no_station words (ask c not_idle words (ask d no_kind words (ask e bad_point words (ask f bad_curve words (done after))))))
        ≡ settled (cond a (cond b (cond c (cond d (cond e (cond f 0 bad_curve) bad_point) no_kind) not_idle) no_station) not_opened) words after
    go false b c d e f = refl
    go true false c d e f = refl
    go true true false d e f = refl
    go true true true false e f = refl
    go true true true true false f = refl
    go true true true true true false = refl
    go true true true true true true = refl

-- ## The questions about an unfinished call

-- what they come to, with a reply for when none fails
abbrev settled_by : Result Turn Refusal → List ℕ → Reply → Reply
settled_by (Ok turn) words reply = reply
settled_by (Err refusal) words reply = refused (number_of refusal) words

-- asked one after the other, they refuse with the number of the first that fails
asked_in_turn : (words : List ℕ) (s : ℕ) (reply : Reply) → ask_unfinished words s reply ≡ settled_by (turn_of words s) words reply
unfolding records_sound turn_of fields_sound
asked_in_turn words s reply = go (is_opened (opened_in words)) (ltb s stations) (is_unfinished (state_at words s)) (records_sound words s)
  where
    turn : (a b d e : Bool) → Result Turn Refusal
    turn a b d e = cond a (cond b (cond d (cond e (Ok (turn_at words s)) (Err Unsound)) (Err NotUnfinished)) (Err NoStation)) (Err NotOpened)

    go : (a b d e : Bool)
        → ask a not_opened words (ask b no_station words (ask d not_unfinished words (ask e unsound words reply))) ≡ settled_by (turn a b d e) words reply
    go true true true true = refl
    go true true true false = refl
    go true true false e = refl
    go true false d e = refl
    go false b d e = refl

-- the turn that is told is that of the station
turn_is : (words : List ℕ) (s : ℕ) (turn : Turn) → turn_of words s ≡ Ok turn → turn_at words s ≡ turn
unfolding turn_of
turn_is words s turn e = go (is_opened (opened_in words)) (ltb s stations) (is_unfinished (state_at words s)) (fields_sound words (rows_in words) (call_at words s)) e
  where
    go : (a b d f : Bool) → cond a (cond b (cond d (cond f (Ok (turn_at words s)) (Err Unsound)) (Err NotUnfinished)) (Err NoStation)) (Err NotOpened) ≡ Ok turn → turn_at words s ≡ turn
    go true true true true e = cc
    go true true true false e = let z : ◌≡◌ {A = ℕ} 0 1 = cc in absurd (omega arith)
    go true true false f e = let z : ◌≡◌ {A = ℕ} 0 1 = cc in absurd (omega arith)
    go true false d f e = let z : ◌≡◌ {A = ℕ} 0 1 = cc in absurd (omega arith)
    go false b d f e = let z : ◌≡◌ {A = ℕ} 0 1 = cc in absurd (omega arith)

-- the number that they tell is that of the first that fails
pub first_told : (words : List ℕ) (s : ℕ) → first_failed words (rows_in words) s (call_at words s) ≡ number_told (turn_of words s)
unfolding first_failed turn_of
first_told words s = go (is_opened (opened_in words)) (ltb s stations) (is_unfinished (state_at words s)) (fields_sound words (rows_in words) (call_at words s))
  where
    go : (a b d e : Bool)
        → cond a (cond b (cond d (cond e 0 unsound) not_unfinished) no_station) not_opened
        ≡ number_told (cond a (cond b (cond d (cond e (Ok (turn_at words s)) (Err Unsound)) (Err NotUnfinished)) (Err NoStation)) (Err NotOpened))
    go true true true true = refl
    go true true true false = refl
    go true true false e = refl
    go true false d e = refl
    go false b d e = refl

-- a station's turn is a step of its call, or a withdrawal
pub step_passes : (words : List ℕ) (s : ℕ) (turn : Turn) → turn_of words s ≡ Ok turn → work_of words turn.rows turn.s turn.call ≡ step_of words s
unfolding step_of
step_passes words s turn e = sym (asked_in_turn words s (work_of words (rows_in words) s (call_at words s)) ∙ rw e (ap (λ (t : Turn). work_of words t.rows t.s t.call) (turn_is words s turn e)))

pub step_refuses : (words : List ℕ) (s : ℕ) (refusal : Refusal) → turn_of words s ≡ Err refusal → refused (number_of refusal) words ≡ step_of words s
unfolding step_of
step_refuses words s refusal e = sym (asked_in_turn words s (work_of words (rows_in words) s (call_at words s)) ∙ rw e refl)

pub withdraw_passes : (words : List ℕ) (s : ℕ) (turn : Turn) → turn_of words s ≡ Ok turn → withdrawn_reply words turn.s turn.call ≡ withdraw_of words s
unfolding withdraw_of
withdraw_passes words s turn e = sym (asked_in_turn words s (withdrawn_reply words s (call_at words s)) ∙ rw e (ap (λ (t : Turn). withdrawn_reply words t.s t.call) (turn_is words s turn e)))

pub withdraw_refuses : (words : List ℕ) (s : ℕ) (refusal : Refusal) → turn_of words s ≡ Err refusal → refused (number_of refusal) words ≡ withdraw_of words s
unfolding withdraw_of
withdraw_refuses words s refusal e = sym (asked_in_turn words s (withdrawn_reply words s (call_at words s)) ∙ rw e refl)
