-- The loops of the climb and of the queue, which count the rows that they have passed: k of n. Assumes nothing.
use Rattle.std.proofs.Common.{◌≡◌, ℕ, ◌+◌, ◌-◌, ◌<◌, Bool, true, false, ◌&&◌, ◌||◌, not, List, refl, ap, ◌∙◌, eqb, ltb, arith}
use Rattle.std.proofs.lemmas.Bool.{false≢true}
use borrow.Author.Tests.{ne_eqb}
use Rattle.points.specs.declared.point.Point.{Point}
use Rattle.points.specs.Word.{NONE}
use Rattle.rows.specs.Row.{row_at}
use Rattle.calls.specs.declared.climb.Climb.{Climb}
use Rattle.calls.specs.declared.queue.Queued.{Queued}
use Rattle.calls.specs.Climb.{climb, over_row}
use Rattle.calls.specs.Queue.{pass_row, walk_queue}
use Rattle.calls.proofs.ClimbLaws.{climb_on, climb_end}
use Rattle.calls.proofs.Conjunctions.{and_false}
use Rattle.calls.proofs.QueueLaws.{walk_on}

-- the test that ends a climb early: there is a row above where it goes on
above : (top sound : Bool) → (top || not sound) ≡ false → top ≡ false
above true sound e = e
above false sound e = refl

-- one row up
pub climb_more : (w : List ℕ) (rows root : ℕ) (point : Point) (n k : ℕ) (c d : Climb) (whole : Bool)
    → whole ≡ (c.sound && climb w rows root point (n - k) c.from c.up) → k < n → (eqb c.up NONE || not c.sound) ≡ false
    → d ≡ over_row point c (row_at w rows c.up)
    → whole ≡ (d.sound && climb w rows root point (n - (k + 1)) d.from d.up)
climb_more w rows root point n k c d whole e less on up =
    let left : (n - k) - 1 ≡ n - (k + 1) = omega arith in
    e ∙ climb_on w rows root point (n - k) c d (omega arith) (above (eqb c.up NONE) c.sound on) up
    ∙ ap (λ (i : ℕ). d.sound && climb w rows root point i d.from d.up) left

-- it is over where no row is left
pub climb_done : (w : List ℕ) (rows root : ℕ) (point : Point) (n : ℕ) (c : Climb) → n ≡ 0
    → (c.sound && (eqb c.up NONE && eqb c.from root)) ≡ (c.sound && climb w rows root point n c.from c.up)
climb_done w rows root point n c e = climb_end w rows root point n c (rw e refl)

-- and where there is none above, or it is no longer sound
pub climb_over : (w : List ℕ) (rows root : ℕ) (point : Point) (n : ℕ) (c : Climb) → (eqb c.up NONE || not c.sound) ≡ true
    → (c.sound && (eqb c.up NONE && eqb c.from root)) ≡ (c.sound && climb w rows root point n c.from c.up)
climb_over w rows root point n c = go (eqb c.up NONE) c.sound refl refl
  where
    go : (top sound : Bool) → eqb c.up NONE ≡ top → c.sound ≡ sound → (top || not sound) ≡ true
        → (c.sound && (eqb c.up NONE && eqb c.from root)) ≡ (c.sound && climb w rows root point n c.from c.up)
    go true sound e f h = climb_end w rows root point n c (rw e (and_false (ltb 0 n)))
    go false false e f h = rw f refl
    go false true e f h = absurd (false≢true h)

-- one row on
pub walk_more : (w : List ℕ) (rows released n k : ℕ) (l m whole : Queued)
    → whole ≡ walk_queue w rows released (n - k) l → k < n → ¬ (l.at ≡ NONE) → m ≡ pass_row released l (row_at w rows l.at)
    → whole ≡ walk_queue w rows released (n - (k + 1)) m
walk_more w rows released n k l m whole e less at pass =
    let left : (n - k) - 1 ≡ n - (k + 1) = omega arith in
    e ∙ walk_on w rows released (n - k) l m (omega arith) (ne_eqb l.at NONE at) pass ∙ ap (λ (i : ℕ). walk_queue w rows released i m) left
