-- A station that is not there: reading gives what no check passes, and writing changes nothing.
-- Assumes nothing.
use mathlib.Core.Path.{◌≡◌, refl}
use mathlib.Core.Bool.{false}
use mathlib.Core.List.{List}
use Prim.Native.Nat.{ℕ}
use Rattle.points.specs.Word.{NONE}
use Rattle.stations.specs.declared.station.State.{State}
use Rattle.stations.specs.declared.call.Best.{Best}
use Rattle.stations.specs.declared.call.Call.{Call}
use Rattle.stations.specs.declared.answer.Answer.{Answer}
use Rattle.std.specs.Prelude.{None}
use Rattle.stations.specs.Station.{has_station, state_at, put_state}
use Rattle.stations.specs.Call.{no_call, call_at, call_sound, put_best, put_asked, put_call}
use Rattle.stations.specs.Answer.{no_answer, answer_at, put_answer, waiting_at}

module _ (w : List ℕ) (s : ℕ) (absent : has_station w s ≡ false) where
  pub state_at_absent : state_at w s ≡ record { word = NONE }
  unfolding state_at
  state_at_absent = rw absent

  pub call_at_absent : call_at w s ≡ no_call
  unfolding call_at
  call_at_absent = rw absent

  pub answer_at_absent : answer_at w s ≡ no_answer
  unfolding answer_at
  answer_at_absent = rw absent

  pub waiting_at_absent : waiting_at w s ≡ None
  unfolding waiting_at state_at
  waiting_at_absent = rw absent

  pub put_state_absent : (state : State) → put_state w s state ≡ w
  unfolding put_state
  put_state_absent state = rw absent

  pub put_best_absent : (best : Best) → put_best w s best ≡ w
  unfolding put_best
  put_best_absent best = rw absent

  pub put_call_absent : (call : Call) → put_call w s call ≡ w
  unfolding put_call put_asked put_best
  put_call_absent call = rw absent (rw absent)

  pub put_answer_absent : (answer : Answer) → put_answer w s answer ≡ w
  unfolding put_answer
  put_answer_absent answer = rw absent

-- the call that is read there passes no check
pub no_call_unsound : (rule changes : ℕ) → call_sound rule no_call changes ≡ false
unfolding call_sound
no_call_unsound rule changes = refl
