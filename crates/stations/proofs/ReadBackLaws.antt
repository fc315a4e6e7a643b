-- State, call, best and answer of a station are read back as they were written, for points in range.
-- Assumes nothing.
use mathlib.Core.Path.{◌≡◌, refl, ap, ap₂, ◌∙◌}
use mathlib.Core.Bool.{true}
use mathlib.Core.List.{List}
use Prim.Native.Nat.{ℕ, ◌+◌, ◌*◌, ◌/◌, ◌%◌, ◌≤◌}
use native.Mathlib.Omega.{arith}
use lib.ListN.{length}
use Rattle.points.specs.Point.{in_range}
use Rattle.points.proofs.WordLaws.{point_at_words}
use Rattle.stations.specs.declared.station.State.{State}
use Rattle.stations.specs.declared.call.Best.{Best}
use Rattle.stations.specs.declared.call.Call.{Call}
use Rattle.stations.specs.declared.answer.Answer.{Answer}
use Rattle.words.specs.Layout.{at_station, at_call, at_best, at_answer}
use Rattle.words.specs.Words.{put, part, splice}
use Rattle.words.specs.Part.{point_from, point_words}
use Rattle.stations.specs.Station.{has_station, state_at, put_state}
use Rattle.stations.specs.Call.{best_of, best_words, call_of, call_words, call_at, with_best, put_best, put_asked, put_call}
use Rattle.stations.specs.Answer.{answer_of, answer_words, answer_at, put_answer}
use Rattle.words.proofs.Splice.{length_splice, splice_part}
use Rattle.words.proofs.WordLaws.{length_put, get_put_same}
use Rattle.words.proofs.AgreeLaws.{part_agree, only_apart, splice_only}
use Rattle.stations.proofs.StationLaws.{There, there_tells, there_length, call_fits, best_fits, answer_fits}
use Rattle.stations.proofs.RecordLaws.{put_asked_words}

-- what was made words of gives itself
best_back : (best : Best) → in_range best.point ≡ true → best_of (best_words best) ≡ best
unfolding point_from best_of best_words point_words
best_back best e = ap (λ p. record { curve = best.curve; point = p }) (point_at_words best.point e)

call_back : (call : Call) (best : Best) → in_range call.point ≡ true → call_of (call_words call) best ≡ with_best best call
unfolding point_from call_of call_words point_words
call_back call best e =
    ap (λ p. record { kind = call.kind; point = p; curve = call.curve; asof = call.asof; best = best }) (point_at_words call.point e)

answer_back : (answer : Answer) → in_range answer.point ≡ true → answer_of (answer_words answer) ≡ answer
unfolding point_from answer_of answer_words point_words
answer_back answer e =
    ap₂ (λ p n. record { code = answer.code; point = p; curve = answer.curve; square = n }) (point_at_words answer.point e)
    (two_words answer.square)
  where
    two_words : (n : ℕ) → n % 4294967296 + 4294967296 * (n / 4294967296) ≡ n
    two_words n = omega arith

module _ (w : List ℕ) (s : ℕ) (here : has_station w s ≡ true) where
  t : There w s
  t = there_tells w s here

  still : (v : List ℕ) → length v ≡ length w → has_station v s ≡ true
  still v e = there_length v w s e ∙ here

  pub state_at-put_state_same : (state : State) → state_at (put_state w s state) s ≡ state
  unfolding state_at put_state at_station
  state_at-put_state_same state =
      rw (here, still (put w (at_station s) state.word) (length_put w (at_station s) state.word))
      (ap (λ x. record { word = x }) (get_put_same w (at_station s) state.word (omega (arith, t.station, t.long))))

  -- the best alone changes
  pub call_at_put_best : (best : Best) → in_range best.point ≡ true → call_at (put_best w s best) s ≡ with_best best (call_at w s)
  unfolding call_at put_best best_words call_of at_call at_best point_words
  call_at_put_best best e =
      let room : at_best s + 6 ≤ length w = best_fits t in
      let o = splice_only w (best_words best) (at_best s) 6 room refl in
      rw (here, still (splice w (best_words best) (at_best s) 6) (length_splice w (best_words best) (at_best s) 6 room refl))
      (ap₂ call_of (part_agree (only_apart o (at_call s) 8 (λ k h l h' l'. omega arith))) (ap best_of (splice_part w (best_words best) (at_best s) 6 room refl) ∙ best_back best e))

  -- the call but for its best
  call_at_put_asked : (call : Call) → in_range call.point ≡ true → call_at (put_asked w s call) s ≡ with_best (call_at w s).best call
  unfolding call_at put_asked call_words call_of best_of at_call at_best point_words
  call_at_put_asked call e =
      let room : at_call s + 8 ≤ length w = call_fits t in
      let o = splice_only w (call_words call) (at_call s) 8 room refl in
      rw (here, still (splice w (call_words call) (at_call s) 8) (length_splice w (call_words call) (at_call s) 8 room refl))
      (ap₂ call_of (splice_part w (call_words call) (at_call s) 8 room refl) (ap best_of (part_agree (only_apart o (at_best s) 6 (λ k h l h' l'. omega arith))))
      ∙ call_back call (best_of (part w (at_best s) 6)) e)

  pub answer_at-put_answer_same : (answer : Answer) → in_range answer.point ≡ true → answer_at (put_answer w s answer) s ≡ answer
  unfolding answer_at put_answer answer_words point_words
  answer_at-put_answer_same answer e =
      let room : at_answer s + 9 ≤ length w = answer_fits t in
      rw (here, still (splice w (answer_words answer) (at_answer s) 9) (length_splice w (answer_words answer) (at_answer s) 9 room refl))
      (ap answer_of (splice_part w (answer_words answer) (at_answer s) 9 room refl) ∙ answer_back answer e)

-- a call is read back whole
pub call_at_put_call_same : (w : List ℕ) (s : ℕ) → has_station w s ≡ true → (call : Call) → in_range call.point ≡ true → in_range call.best.point ≡ true → call_at (put_call w s call) s ≡ call
unfolding put_call
call_at_put_call_same w s here call e f =
    call_at_put_best (put_asked w s call) s (there_length (put_asked w s call) w s (put_asked_words w s call).lengths ∙ here) call.best f
    ∙ ap (with_best call.best) (call_at_put_asked w s here call e)
