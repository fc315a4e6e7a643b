-- The counters: a change counted adds one to the counter of its station (`counter_counted`) and leaves those of the others (`counter_other`); counters are
-- a matter of the common record alone (`counter_agree`). The greatest is at least each of them, and at most whatever is at least all (`greatest_most`, `greatest_least`).
-- Assumes nothing.
use mathlib.Core.Path.{◌≡◌, refl, ap₂, ◌∙◌}
use mathlib.Core.Bool.{Bool, true, false, cond}
use mathlib.Core.List.{List}
use Prim.Native.Nat.{ℕ, zero, suc, ◌≤◌, ◌<◌, max}
use native.Mathlib.Omega.{arith}
use native.Mathlib.Decide.{ℕ_discrete}
use lib.ListN.{length}
use Rattle.words.specs.Layout.{common_size, at_counter}
use Rattle.words.specs.Words.{get, put, more}
use Rattle.words.specs.Agree.{Agree, Only, in_common, start_of, size_of, AgreeIn, OnlyIn}
use Rattle.words.proofs.WordLaws.{length_put, get_put_same, get_put_other}
use Rattle.words.proofs.AgreeLaws.{agree_within, only_within, put_only, put_agree, cond_only}
use Rattle.stations.specs.Station.{has_station}
use Rattle.stations.specs.Counter.{counter_at, greatest_counter, change_counted}
use Rattle.stations.proofs.StationLaws.{There, there_tells, there_length, there_agree, read_same}

-- ---- what is read

-- slices with the same word have the same counter
counter_one : (v w : List ℕ) (s : ℕ) → length v ≡ length w → (There v s → get v (at_counter s) ≡ get w (at_counter s)) → counter_at v s ≡ counter_at w s
unfolding counter_at
counter_one v w s e a = read_same 0 v w s e a

-- so slices that agree on the eight counters have
pub counter_words : {v w : List ℕ} (s : ℕ) → Agree v w (at_counter 0) 8 → counter_at v s ≡ counter_at w s
unfolding at_counter
counter_words {v} {w} s g = counter_one v w s g.lengths (λ t. g.words (at_counter s) (omega arith) (omega (arith, t.station)))

-- and slices that agree in the common record
pub counter_agree : {v w : List ℕ} → AgreeIn v w in_common → (s : ℕ) → counter_at v s ≡ counter_at w s
unfolding start_of size_of at_counter
counter_agree g s = counter_words s (agree_within g (at_counter 0) 8 (omega arith) (omega arith))

-- ---- the greatest counter

-- no counter is above it
pub greatest_most : (w : List ℕ) (n s : ℕ) → s < n → counter_at w s ≤ greatest_counter w n
unfolding greatest_counter
greatest_most w zero s l = absurd (omega arith)
greatest_most w (suc n) s l = go (ℕ_discrete s n) (λ below. greatest_most w n s below)
  where
    go : Dec (s ≡ n) → (s < n → counter_at w s ≤ greatest_counter w n) → counter_at w s ≤ max (greatest_counter w n) (counter_at w n)
    go (yes e) f = rw e (omega arith)
    go (no d) f = omega (arith, f (omega arith))

-- and it is at most whatever is at least all
pub greatest_least : (w : List ℕ) (n m : ℕ) → ((s : ℕ) → s < n → counter_at w s ≤ m) → greatest_counter w n ≤ m
unfolding greatest_counter
greatest_least w zero m f = omega arith
greatest_least w (suc n) m f = omega (arith, greatest_least w n m (λ s l. f s (omega arith)), f n (omega arith))

pub greatest_agree : {v w : List ℕ} → AgreeIn v w in_common → (n : ℕ) → greatest_counter v n ≡ greatest_counter w n
unfolding greatest_counter
greatest_agree g zero = refl
greatest_agree g (suc n) = ap₂ max (greatest_agree g n) (counter_agree g n)

-- ---- a change counted
module _ (w : List ℕ) (s : ℕ) where
  abbrev written : List ℕ
  written = put w (at_counter s) (more (get w (at_counter s)))

  -- one of the counters is written
  pub counted_words : Only (change_counted w s) w (at_counter 0) 8
  unfolding change_counted at_counter
  counted_words =
      cond_only (has_station w s)
      (λ e. only_within (put_only w (at_counter s) (more (get w (at_counter s)))) (at_counter 0) 8 (omega arith) (omega (arith, (there_tells w s e).station)))

  pub counted_only : OnlyIn (change_counted w s) w in_common
  unfolding start_of size_of at_counter
  counted_only = only_within counted_words 0 common_size (omega arith) (omega arith)

  pub length_counted : length (change_counted w s) ≡ length w
  length_counted = counted_words.lengths

  -- it has one more
  pub counter_counted : has_station w s ≡ true → counter_at (change_counted w s) s ≡ more (counter_at w s)
  unfolding counter_at change_counted at_counter
  counter_counted here =
      let t = there_tells w s here in
      rw (here, there_length written w s (length_put w (at_counter s) (more (get w (at_counter s)))) ∙ here)
      (get_put_same w (at_counter s) (more (get w (at_counter s))) (omega (arith, t.station, t.long)))

  -- while those of other stations stay
  pub counter_other : (u : ℕ) → ¬ (u ≡ s) → counter_at (change_counted w s) u ≡ counter_at w u
  unfolding change_counted at_counter
  counter_other u d = go (has_station w s)
    where
      go : (b : Bool) → counter_at (cond b written w) u ≡ counter_at w u
      go true =
          counter_one written w u (length_put w (at_counter s) (more (get w (at_counter s))))
          (λ y. get_put_other w (at_counter s) (at_counter u) (more (get w (at_counter s))) (λ e. d (omega arith)))
      go false = refl

-- slices that agree in the common record and somewhere agree there again
pub counted_agree : {v w : List ℕ} {a n : ℕ} → AgreeIn v w in_common → Agree v w a n → (s : ℕ) → Agree (change_counted v s) (change_counted w s) a n
unfolding change_counted start_of size_of at_counter
counted_agree {v} {w} c g s =
    there_agree s g (λ t. rw (c.words (at_counter s) (omega arith) (omega (arith, t.station))) (put_agree g (at_counter s) (more (get w (at_counter s)))))
