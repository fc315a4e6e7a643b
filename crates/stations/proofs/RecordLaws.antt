-- State, call and answer of a station: each write touches exactly its words (the `_words` laws), and what is read is a matter of
-- the station's words alone (the `_agree` laws) and untouched by the writes of the other parts of the record.
-- Assumes nothing.
use mathlib.Core.Path.{◌≡◌, refl, ap, ap₂, ◌∙◌}
use mathlib.Core.Bool.{true, cond, ◌&&◌}
use mathlib.Core.List.{List}
use Prim.Native.Nat.{ℕ}
use native.Mathlib.Omega.{arith}
use borrow.Author.Tests.{lt-ltb}
use lib.ListN.{length}
use Rattle.points.specs.Word.{NONE}
use Rattle.stations.specs.declared.station.State.{State}
use Rattle.stations.specs.declared.call.Best.{Best}
use Rattle.stations.specs.declared.call.Call.{Call}
use Rattle.stations.specs.declared.answer.Answer.{Answer}
use Rattle.std.specs.Prelude.{Some, None}
use Rattle.words.specs.Layout.{stations, station_size, at_station, at_call, at_best, at_answer}
use Rattle.words.specs.Words.{get}
use Rattle.words.specs.Rule.{rule_at}
use Rattle.words.specs.Agree.{Agree, Only, in_station, start_of, size_of, AgreeIn}
use Rattle.words.specs.Part.{point_words}
use Rattle.stations.specs.Station.{has_station, is_waiting, state_at, put_state}
use Rattle.stations.specs.Call.{best_of, best_words, call_of, call_words, no_call, call_at, put_best, put_asked, put_call}
use Rattle.stations.specs.Answer.{answer_of, answer_words, no_answer, answer_at, answer_sound, put_answer, waiting_at}
use Rattle.words.proofs.AgreeLaws.{agree_within, part_agree, only_apart, put_only, splice_only, cond_only}
use Rattle.stations.proofs.StationLaws.{There, there_tells, read_same, call_fits, best_fits, answer_fits}

-- each write touches its words alone
pub put_state_words : (w : List ℕ) (s : ℕ) (state : State) → Only (put_state w s state) w (at_station s) 1
unfolding put_state
put_state_words w s state = cond_only (has_station w s) (λ e. put_only w (at_station s) state.word)

pub put_best_words : (w : List ℕ) (s : ℕ) (best : Best) → Only (put_best w s best) w (at_best s) 6
unfolding put_best best_words point_words
put_best_words w s best =
    cond_only (has_station w s)
    (λ e. let t = there_tells w s e in splice_only w (best_words best) (at_best s) 6 (best_fits t) refl)

pub put_asked_words : (w : List ℕ) (s : ℕ) (call : Call) → Only (put_asked w s call) w (at_call s) 8
unfolding put_asked call_words point_words
put_asked_words w s call =
    cond_only (has_station w s)
    (λ e. let t = there_tells w s e in splice_only w (call_words call) (at_call s) 8 (call_fits t) refl)

pub put_answer_words : (w : List ℕ) (s : ℕ) (answer : Answer) → Only (put_answer w s answer) w (at_answer s) 9
unfolding put_answer answer_words point_words
put_answer_words w s answer =
    cond_only (has_station w s)
    (λ e. let t = there_tells w s e in splice_only w (answer_words answer) (at_answer s) 9 (answer_fits t) refl)

-- ---- reading

module _ {v w : List ℕ} (s : ℕ) (e : length v ≡ length w) where
  state_same : (There v s → Agree v w (at_station s) 1) → state_at v s ≡ state_at w s
  unfolding state_at
  state_same f =
      read_same (record { word = NONE }) v w s e (λ t. ap (λ x. record { word = x }) ((f t).words (at_station s) (omega arith) (omega arith)))

  call_same : (There v s → Agree v w (at_call s) 16) → call_at v s ≡ call_at w s
  unfolding call_at at_call at_best
  call_same f =
      read_same no_call v w s e
      (λ t. ap₂ call_of (part_agree (agree_within (f t) (at_call s) 8 (omega arith) (omega arith))) (ap best_of (part_agree (agree_within (f t) (at_best s) 6 (omega arith) (omega arith)))))

  answer_same : (There v s → Agree v w (at_answer s) 9) → answer_at v s ≡ answer_at w s
  unfolding answer_at
  answer_same f = read_same no_answer v w s e (λ t. ap answer_of (part_agree (f t)))

-- the state of a station that is there is the first word of its record
pub state_at_is : (w : List ℕ) (s : ℕ) → has_station w s ≡ true → state_at w s ≡ record { word = get w (at_station s) }
unfolding state_at
state_at_is w s here = rw here

-- slices that agree on the station's record have the same state, call and answer there
module _ {v w : List ℕ} (s : ℕ) (g : AgreeIn v w (in_station s)) where
  record_agree : There v s → Agree v w (at_station s) station_size
  unfolding start_of size_of
  record_agree t = rw (lt-ltb s stations t.station) at g

  pub state_at_agree : state_at v s ≡ state_at w s
  state_at_agree = state_same s g.lengths (λ t. agree_within (record_agree t) (at_station s) 1 (omega arith) (omega arith))

  pub call_at_agree : call_at v s ≡ call_at w s
  unfolding at_call
  call_at_agree = call_same s g.lengths (λ t. agree_within (record_agree t) (at_call s) 16 (omega arith) (omega arith))

  pub answer_at_agree : answer_at v s ≡ answer_at w s
  unfolding at_answer
  answer_at_agree = answer_same s g.lengths (λ t. agree_within (record_agree t) (at_answer s) 9 (omega arith) (omega arith))

-- the answer that waits is a matter of the rule, the state and the answer
pub waiting_same : (v w : List ℕ) (s t : ℕ) → rule_at v ≡ rule_at w → state_at v s ≡ state_at w t → answer_at v s ≡ answer_at w t → waiting_at v s ≡ waiting_at w t
unfolding waiting_at
waiting_same v w s t r e f = λ i. cond (is_waiting (e i) && answer_sound (r i) (f i)) (Some (f i)) None

pub waiting_at_agree : {v w : List ℕ} (s : ℕ) → rule_at v ≡ rule_at w → AgreeIn v w (in_station s) → waiting_at v s ≡ waiting_at w s
waiting_at_agree {v} {w} s r g = waiting_same v w s s r (state_at_agree s g) (answer_at_agree s g)

-- ---- what is written in another part of the record is not seen
module _ (w : List ℕ) (s : ℕ) where
  pub call_at_put_state : (state : State) → call_at (put_state w s state) s ≡ call_at w s
  unfolding at_call
  call_at_put_state state =
      let o = put_state_words w s state in
      call_same s o.lengths (λ t. only_apart o (at_call s) 16 (λ k h l h' l'. omega arith))

  pub answer_at-put_state : (state : State) → answer_at (put_state w s state) s ≡ answer_at w s
  unfolding at_answer
  answer_at-put_state state =
      let o = put_state_words w s state in
      answer_same s o.lengths (λ t. only_apart o (at_answer s) 9 (λ k h l h' l'. omega arith))

  pub state_at-put_best : (best : Best) → state_at (put_best w s best) s ≡ state_at w s
  unfolding at_best
  state_at-put_best best =
      let o = put_best_words w s best in
      state_same s o.lengths (λ t. only_apart o (at_station s) 1 (λ k h l h' l'. omega arith))

  pub answer_at-put_best : (best : Best) → answer_at (put_best w s best) s ≡ answer_at w s
  unfolding at_best at_answer
  answer_at-put_best best =
      let o = put_best_words w s best in
      answer_same s o.lengths (λ t. only_apart o (at_answer s) 9 (λ k h l h' l'. omega arith))

  state_at-put_asked : (call : Call) → state_at (put_asked w s call) s ≡ state_at w s
  unfolding at_call
  state_at-put_asked call =
      let o = put_asked_words w s call in
      state_same s o.lengths (λ t. only_apart o (at_station s) 1 (λ k h l h' l'. omega arith))

  answer_at-put_asked : (call : Call) → answer_at (put_asked w s call) s ≡ answer_at w s
  unfolding at_call at_answer
  answer_at-put_asked call =
      let o = put_asked_words w s call in
      answer_same s o.lengths (λ t. only_apart o (at_answer s) 9 (λ k h l h' l'. omega arith))

  pub state_at-put_answer : (answer : Answer) → state_at (put_answer w s answer) s ≡ state_at w s
  unfolding at_answer
  state_at-put_answer answer =
      let o = put_answer_words w s answer in
      state_same s o.lengths (λ t. only_apart o (at_station s) 1 (λ k h l h' l'. omega arith))

  pub call_at_put_answer : (answer : Answer) → call_at (put_answer w s answer) s ≡ call_at w s
  unfolding at_call at_answer
  call_at_put_answer answer =
      let o = put_answer_words w s answer in
      call_same s o.lengths (λ t. only_apart o (at_call s) 16 (λ k h l h' l'. omega arith))

pub state_at-put_call : (w : List ℕ) (s : ℕ) (call : Call) → state_at (put_call w s call) s ≡ state_at w s
unfolding put_call
state_at-put_call w s call = state_at-put_best (put_asked w s call) s call.best ∙ state_at-put_asked w s call

pub answer_at-put_call : (w : List ℕ) (s : ℕ) (call : Call) → answer_at (put_call w s call) s ≡ answer_at w s
unfolding put_call
answer_at-put_call w s call = answer_at-put_best (put_asked w s call) s call.best ∙ answer_at-put_asked w s call
