-- The answer that waits in a station: it is the station's answer, exactly where the state says so and every field is in range.
-- Assumes nothing.
use mathlib.Core.Path.{◌≡◌, refl, ap}
use mathlib.Core.Bool.{Bool, true, false, cond, ◌&&◌}
use mathlib.Core.List.{List}
use Prim.Native.Nat.{ℕ}
use native.Mathlib.Omega.{arith}
use Rattle.points.proofs.Tests.{and_l, and_r, and_i}
use Rattle.stations.specs.declared.answer.Answer.{Answer}
use Rattle.std.specs.Prelude.{Some, None}
use Rattle.words.specs.Rule.{rule_at}
use Rattle.stations.specs.Station.{is_waiting, state_at}
use Rattle.stations.specs.Answer.{answer_at, answer_sound, waiting_at}

-- it is the answer, where the state says so and every field is in range
pub waiting_given : (w : List ℕ) (s : ℕ) → is_waiting (state_at w s) ≡ true → answer_sound (rule_at w) (answer_at w s) ≡ true → waiting_at w s ≡ Some (answer_at w s)
unfolding waiting_at
waiting_given w s e f = ap (λ b. cond b (Some (answer_at w s)) None) (and_i e f)

pub waiting_nothing : (w : List ℕ) (s : ℕ) → is_waiting (state_at w s) ≡ false → waiting_at w s ≡ None
unfolding waiting_at
waiting_nothing w s e = ap (λ b. cond (b && answer_sound (rule_at w) (answer_at w s)) (Some (answer_at w s)) None) e

-- and nothing else waits
pub record Waits (w : List ℕ) (s : ℕ) (answer : Answer) : Type 0 where
  pub waiting : is_waiting (state_at w s) ≡ true
  pub sound : answer_sound (rule_at w) answer ≡ true
  pub is : answer_at w s ≡ answer

pub waiting_tells : (w : List ℕ) (s : ℕ) (answer : Answer) → waiting_at w s ≡ Some answer → Waits w s answer
unfolding waiting_at
waiting_tells w s answer e = go (is_waiting (state_at w s) && answer_sound (rule_at w) (answer_at w s)) refl e
  where
    go : (b : Bool) → (is_waiting (state_at w s) && answer_sound (rule_at w) (answer_at w s)) ≡ b → cond b (Some (answer_at w s)) None ≡ Some answer → Waits w s answer
    go true f h =
        let same : answer_at w s ≡ answer = cc in
        record {
          waiting = and_l (is_waiting (state_at w s)) (answer_sound (rule_at w) (answer_at w s)) f;
          sound = rw (← same) (and_r (is_waiting (state_at w s)) (answer_sound (rule_at w) (answer_at w s)) f);
          is = same;
        }
    go false f h = let z : ◌≡◌ {A = ℕ} 0 1 = cc in absurd (omega arith)
