-- The words of a station as the code reads and writes them: all of them are there if the station is.
-- Assumes nothing.
use mathlib.Core.Path.{◌≡◌, refl, sym, ◌∙◌}
use mathlib.Core.Bool.{Bool, true, false, cond, ◌&&◌, true≢false}
use mathlib.Core.List.{List}
use Prim.Native.Nat.{ℕ, ◌+◌, ◌≤◌}
use borrow.Author.Tests.{le-leb}
use lib.Dec.{leb}
use lib.ListN.{length}
use Rattle.points.specs.declared.point.Point.{Point}
use Rattle.words.specs.Layout.{at_call, at_best, at_answer, at_target}
use Rattle.words.specs.Words.{part, splice}
use Rattle.words.specs.Part.{put_part, point_words}
use Rattle.words.proofs.Lent.{part_fits}
use Rattle.stations.specs.declared.call.Best.{Best}
use Rattle.stations.specs.declared.call.Call.{Call}
use Rattle.stations.specs.declared.answer.Answer.{Answer}
use Rattle.stations.specs.Station.{has_station}
use Rattle.stations.specs.Call.{best_of, best_words, call_of, call_words, no_call, call_at, put_best, put_asked}
use Rattle.stations.specs.Answer.{answer_of, answer_words, no_answer, answer_at, put_answer}
use Rattle.stations.specs.Target.{target_of, target_words, no_target, target_at, put_target}
use Rattle.stations.proofs.StationLaws.{There, there_tells, call_fits, best_fits, answer_fits, target_fits}

module _ (w : List ℕ) (s : ℕ) where
  -- ---- what is read

  -- where the station and n words from a on are not both there, the station is not
  lacks : (a n : ℕ) → (There w s → a + n ≤ length w) → (has_station w s && leb (a + n) (length w)) ≡ false → has_station w s ≡ false
  lacks a n fits e = go (has_station w s) refl e
    where
      go : (b : Bool) → has_station w s ≡ b → (b && leb (a + n) (length w)) ≡ false → b ≡ false
      go true f g = absurd (true≢false (sym (le-leb (a + n) (length w) (fits (there_tells w s f))) ∙ g))
      go false f g = refl

  pub call_read : has_station w s ≡ true → call_at w s ≡ call_of (part w (at_call s) 8) (best_of (part w (at_best s) 6))
  unfolding call_at
  call_read e = rw e

  pub call_lacks : (has_station w s && leb (at_call s + 8) (length w)) ≡ false → call_at w s ≡ no_call
  unfolding call_at
  call_lacks e = rw (lacks (at_call s) 8 call_fits e)

  pub best_lacks : (has_station w s && leb (at_best s + 6) (length w)) ≡ false → call_at w s ≡ no_call
  unfolding call_at
  best_lacks e = rw (lacks (at_best s) 6 best_fits e)

  pub answer_read : has_station w s ≡ true → answer_at w s ≡ answer_of (part w (at_answer s) 9)
  unfolding answer_at
  answer_read e = rw e

  pub answer_lacks : (has_station w s && leb (at_answer s + 9) (length w)) ≡ false → answer_at w s ≡ no_answer
  unfolding answer_at
  answer_lacks e = rw (lacks (at_answer s) 9 answer_fits e)

  pub target_read : has_station w s ≡ true → target_at w s ≡ target_of (part w (at_target s) 4)
  unfolding target_at
  target_read e = rw e

  pub target_lacks : (has_station w s && leb (at_target s + 4) (length w)) ≡ false → target_at w s ≡ no_target
  unfolding target_at
  target_lacks e = rw (lacks (at_target s) 4 target_fits e)

  -- ---- what is written
  writes : (a : ℕ) (e : List ℕ) → (There w s → a + length e ≤ length w) → cond (has_station w s) (splice w e a (length e)) w ≡ cond (has_station w s) (put_part w e a) w
  writes a e fits = go (has_station w s) refl
    where
      go : (b : Bool) → has_station w s ≡ b → cond b (splice w e a (length e)) w ≡ cond b (put_part w e a) w
      go true f = sym (part_fits w e a (fits (there_tells w s f)))
      go false f = refl

  pub asked_written : (call : Call) → put_asked w s call ≡ cond (has_station w s) (put_part w (call_words call) (at_call s)) w
  unfolding put_asked call_words point_words
  asked_written call = writes (at_call s) (call_words call) call_fits

  pub best_written : (best : Best) → put_best w s best ≡ cond (has_station w s) (put_part w (best_words best) (at_best s)) w
  unfolding put_best best_words point_words
  best_written best = writes (at_best s) (best_words best) best_fits

  pub answer_written : (answer : Answer) → put_answer w s answer ≡ cond (has_station w s) (put_part w (answer_words answer) (at_answer s)) w
  unfolding put_answer answer_words point_words
  answer_written answer = writes (at_answer s) (answer_words answer) answer_fits

  pub target_written : (p : Point) → put_target w s p ≡ cond (has_station w s) (put_part w (target_words p) (at_target s)) w
  unfolding put_target target_words
  target_written p = writes (at_target s) (target_words p) target_fits
