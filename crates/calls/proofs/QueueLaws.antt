-- The walk along the queue as its code meets it, with a count that falls by one: `walk_on` passes a row, and at its end the walk stays (`walk_end`).
use Prim.Native.Nat.{ℕ, zero, suc, ◌-◌, ◌<◌}
use mathlib.Core.Path.{◌≡◌, refl, sym, ap}
use mathlib.Core.Logic.{◌⊎◌, inl, inr}
use mathlib.Core.Bool.{true, false}
use mathlib.Core.List.{List}
use native.Mathlib.Numerals.{sub-one}
use native.Mathlib.Omega.{arith}
use lib.Dec.{eqb}
use Rattle.points.specs.Word.{NONE}
use Rattle.rows.specs.Row.{row_at}
use Rattle.calls.specs.declared.queue.Queued.{Queued}
use Rattle.calls.specs.Queue.{pass_row, walk_queue}

walk_stays : (w : List ℕ) (rows released n : ℕ) (l : Queued) → eqb l.at NONE ≡ true → l ≡ walk_queue w rows released n l
unfolding walk_queue
walk_stays w rows released zero l e = refl
walk_stays w rows released (suc n) l e = rw e (walk_stays w rows released n l e)

-- no row is left, or the queue has ended
pub walk_end : (w : List ℕ) (rows released n : ℕ) (l : Queued) → (n ≡ 0) ⊎ (eqb l.at NONE ≡ true) → l ≡ walk_queue w rows released n l
unfolding walk_queue
walk_end w rows released n l (inl e) = rw e
walk_end w rows released n l (inr e) = walk_stays w rows released n l e

-- one row on
pub walk_on : (w : List ℕ) (rows released n : ℕ) (l m : Queued)
    → 0 < n
    → eqb l.at NONE ≡ false
    → m ≡ pass_row released l (row_at w rows l.at)
    → walk_queue w rows released n l ≡ walk_queue w rows released (n - 1) m
unfolding walk_queue
walk_on w rows released zero l m h e f = absurd (omega arith)
walk_on w rows released (suc n) l m h e f = rw (e, f) (ap (λ (k : ℕ). walk_queue w rows released k (pass_row released l (row_at w rows l.at))) (sym (sub-one (suc n))))
