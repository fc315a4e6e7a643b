-- Which stations there are, and the writes of a station's record: each touches words of that record alone (the `_only` laws), and slices that agree
-- somewhere agree there again after the same write (the `_agree` laws).
-- Assumes nothing.
use mathlib.Core.Path.{◌≡◌, refl}
use mathlib.Core.Bool.{Bool, true, false, cond, true≢false, false≢true}
use mathlib.Core.List.{List}
use Prim.Native.Nat.{ℕ, ◌+◌, ◌≤◌, ◌<◌}
use native.Mathlib.Omega.{arith}
use borrow.Author.Tests.{leb-true, ltb-true, le-leb, lt-ltb}
use lib.Dec.{leb, ltb}
use lib.ListN.{length}
use Rattle.points.proofs.Tests.{and_l, and_r, and_i}
use Rattle.stations.specs.declared.station.State.{State}
use Rattle.stations.specs.declared.call.Best.{Best}
use Rattle.stations.specs.declared.call.Call.{Call}
use Rattle.stations.specs.declared.answer.Answer.{Answer}
use Rattle.words.specs.Layout.{stations, station_size, records, at_station, at_call, at_best, at_answer, at_target, at_row, Fits}
use Rattle.words.specs.Words.{splice}
use Rattle.words.specs.Part.{point_words}
use Rattle.words.specs.Agree.{Agree, Only, in_station, start_of, size_of, OnlyIn}
use Rattle.stations.specs.Station.{has_station, put_state}
use Rattle.stations.specs.Call.{best_words, call_words, put_best, put_asked, put_call}
use Rattle.stations.specs.Answer.{answer_words, put_answer}
use Rattle.words.proofs.AgreeLaws.{only_trans, only_within, put_only, put_agree, splice_only, splice_agree, cond_only, cond_agree}

-- a station is there exactly if it is one of the eight in a slice that has their records
pub record There (w : List ℕ) (s : ℕ) : Type 0 where
  pub station : s < stations
  pub long : records ≤ length w

pub there_tells : (w : List ℕ) (s : ℕ) → has_station w s ≡ true → There w s
unfolding has_station
there_tells w s e = record {
  station = ltb-true s stations (and_l (ltb s stations) (leb records (length w)) e);
  long = leb-true records (length w) (and_r (ltb s stations) (leb records (length w)) e);
}

pub there_of : (w : List ℕ) (s : ℕ) → There w s → has_station w s ≡ true
unfolding has_station
there_of w s t = and_i (lt-ltb s stations t.station) (le-leb records (length w) t.long)

-- as in an opened slice
pub there_fits : (w : List ℕ) (rows s : ℕ) → Fits w rows → s < stations → has_station w s ≡ true
unfolding at_row
there_fits w rows s m h = there_of w s (record { station = h; long = omega (arith, m.long) })

-- and this is a matter of the length
pub there_length : (v w : List ℕ) (s : ℕ) → length v ≡ length w → has_station v s ≡ has_station w s
unfolding has_station
there_length v w s e = rw e

-- a reading that is made if the station is there
pub read_same : {A : Type 0} {x y : A} (z : A) (v w : List ℕ) (s : ℕ) → length v ≡ length w → (There v s → x ≡ y) → cond (has_station v s) x z ≡ cond (has_station w s) y z
read_same {A} {x} {y} z v w s e f = go (has_station v s) (has_station w s) refl (there_length v w s e)
  where
    go : (b d : Bool) → has_station v s ≡ b → b ≡ d → cond b x z ≡ cond d y z
    go true true h i = f (there_tells v s h)
    go true false h i = absurd (true≢false i)
    go false true h i = absurd (false≢true i)
    go false false h i = refl

-- its words are in the slice
module _ {w : List ℕ} {s : ℕ} (t : There w s) where
  pub call_fits : at_call s + 8 ≤ length w
  unfolding at_call at_station
  call_fits = omega (arith, t.station, t.long)

  pub best_fits : at_best s + 6 ≤ length w
  unfolding at_best at_station
  best_fits = omega (arith, t.station, t.long)

  pub answer_fits : at_answer s + 9 ≤ length w
  unfolding at_answer at_station
  answer_fits = omega (arith, t.station, t.long)

  pub target_fits : at_target s + 4 ≤ length w
  unfolding at_target
  target_fits = omega (arith, t.station, t.long)

-- what is written if the station is there, within its record
within_station : {w x : List ℕ} (s a n : ℕ) → (There w s → Only x w a n) → at_station s ≤ a → a + n ≤ at_station s + station_size → OnlyIn (cond (has_station w s) x w) w (in_station s)
unfolding start_of size_of
within_station {w} {x} s a n f p q =
    cond_only (has_station w s)
    (λ e. let t = there_tells w s e in
    rw (lt-ltb s stations t.station) (only_within (f t) (at_station s) station_size p q))

-- a write that is made if the station is there, to slices that agree
pub there_agree : {v w x y : List ℕ} {a n : ℕ} (s : ℕ) → Agree v w a n → (There v s → Agree x y a n) → Agree (cond (has_station v s) x v) (cond (has_station w s) y w) a n
there_agree {v} {w} s g f = cond_agree (has_station v s) (has_station w s) (there_length v w s g.lengths) (λ e. f (there_tells v s e)) g

-- ---- the state
pub put_state_only : (w : List ℕ) (s : ℕ) (state : State) → OnlyIn (put_state w s state) w (in_station s)
unfolding put_state
put_state_only w s state = within_station s (at_station s) 1 (λ t. put_only w (at_station s) state.word) (omega arith) (omega arith)

pub put_state_agree : {v w : List ℕ} {a n : ℕ} → Agree v w a n → (s : ℕ) (state : State) → Agree (put_state v s state) (put_state w s state) a n
unfolding put_state
put_state_agree g s state = there_agree s g (λ t. put_agree g (at_station s) state.word)

-- ---- the best, the call and the answer
pub put_best_only : (w : List ℕ) (s : ℕ) (best : Best) → OnlyIn (put_best w s best) w (in_station s)
unfolding put_best best_words at_best point_words
put_best_only w s best =
    within_station s (at_best s) 6 (λ t. splice_only w (best_words best) (at_best s) 6 (best_fits t) refl) (omega arith) (omega arith)

pub put_best_agree : {v w : List ℕ} {a n : ℕ} → Agree v w a n → (s : ℕ) (best : Best) → Agree (put_best v s best) (put_best w s best) a n
unfolding put_best best_words point_words
put_best_agree g s best = there_agree s g (λ t. splice_agree g (best_words best) (at_best s) 6 (best_fits t) refl)

put_asked_only : (w : List ℕ) (s : ℕ) (call : Call) → OnlyIn (put_asked w s call) w (in_station s)
unfolding put_asked call_words at_call point_words
put_asked_only w s call =
    within_station s (at_call s) 8 (λ t. splice_only w (call_words call) (at_call s) 8 (call_fits t) refl) (omega arith) (omega arith)

put_asked_agree : {v w : List ℕ} {a n : ℕ} → Agree v w a n → (s : ℕ) (call : Call) → Agree (put_asked v s call) (put_asked w s call) a n
unfolding put_asked call_words point_words
put_asked_agree g s call = there_agree s g (λ t. splice_agree g (call_words call) (at_call s) 8 (call_fits t) refl)

pub put_call_only : (w : List ℕ) (s : ℕ) (call : Call) → OnlyIn (put_call w s call) w (in_station s)
unfolding put_call
put_call_only w s call = only_trans (put_best_only (put_asked w s call) s call.best) (put_asked_only w s call)

pub put_call_agree : {v w : List ℕ} {a n : ℕ} → Agree v w a n → (s : ℕ) (call : Call) → Agree (put_call v s call) (put_call w s call) a n
unfolding put_call
put_call_agree g s call = put_best_agree (put_asked_agree g s call) s call.best

pub put_answer_only : (w : List ℕ) (s : ℕ) (answer : Answer) → OnlyIn (put_answer w s answer) w (in_station s)
unfolding put_answer answer_words at_answer point_words
put_answer_only w s answer =
    within_station s (at_answer s) 9 (λ t. splice_only w (answer_words answer) (at_answer s) 9 (answer_fits t) refl) (omega arith) (omega arith)

pub put_answer_agree : {v w : List ℕ} {a n : ℕ} → Agree v w a n → (s : ℕ) (answer : Answer) → Agree (put_answer v s answer) (put_answer w s answer) a n
unfolding put_answer answer_words point_words
put_answer_agree g s answer = there_agree s g (λ t. splice_agree g (answer_words answer) (at_answer s) 9 (answer_fits t) refl)

-- ---- lengths stay
pub length_put_state : (w : List ℕ) (s : ℕ) (state : State) → length (put_state w s state) ≡ length w
length_put_state w s state = (put_state_only w s state).lengths

pub length_put_best : (w : List ℕ) (s : ℕ) (best : Best) → length (put_best w s best) ≡ length w
length_put_best w s best = (put_best_only w s best).lengths

pub length_put_call : (w : List ℕ) (s : ℕ) (call : Call) → length (put_call w s call) ≡ length w
length_put_call w s call = (put_call_only w s call).lengths

pub length_put_answer : (w : List ℕ) (s : ℕ) (answer : Answer) → length (put_answer w s answer) ≡ length w
length_put_answer w s answer = (put_answer_only w s answer).lengths
