-- A climb as its code meets it, with a count that falls by one: `climb_on` takes it one row up, `climb_end` is its end.
use Prim.Native.Nat.{ℕ, zero, suc, ◌-◌, ◌<◌}
use mathlib.Core.Path.{◌≡◌, refl, sym, ap, ◌∙◌}
use mathlib.Core.Logic.{inl, inr}
use mathlib.Core.Bool.{Bool, true, false, cond, ◌&&◌, not}
use mathlib.Core.List.{List}
use native.Mathlib.Numerals.{sub-one}
use native.Mathlib.Omega.{arith}
use lib.Dec.{eqb, ltb}
use Rattle.points.specs.declared.point.Point.{Point}
use Rattle.points.specs.Word.{NONE}
use Rattle.rows.specs.declared.row.Row.{Row}
use Rattle.rows.specs.declared.row.Row.TheVariants.{Bad, Spare, Removed, Leaf, Cut}
use Rattle.rows.specs.Row.{row_at}
use Rattle.calls.specs.declared.climb.Climb.{Climb}
use Rattle.calls.specs.Climb.{child_of, climb_row, climb, over_row}
use Rattle.calls.proofs.Going.{ended}
use Rattle.calls.proofs.Conjunctions.{and_false, and_both}

climb_row_lem : (w : List ℕ) (rows root : ℕ) (point : Point) (n : ℕ) (c : Climb) (row : Row)
    → (c.sound && climb_row point c.from row (λ over. climb w rows root point n c.up over))
    ≡ ((over_row point c row).sound && climb w rows root point n (over_row point c row).from (over_row point c row).up)
climb_row_lem w rows root point n c Bad = and_false c.sound
climb_row_lem w rows root point n c (Spare next freed) = and_false c.sound
climb_row_lem w rows root point n c (Removed next freed added held curve) = and_false c.sound
climb_row_lem w rows root point n c (Leaf over added held curve) = and_false c.sound
climb_row_lem w rows root point n c (Cut over cut left right) = and_both c.sound (eqb (child_of cut left right point) c.from) (climb w rows root point n c.up over)

-- one row up
pub climb_on : (w : List ℕ) (rows root : ℕ) (point : Point) (n : ℕ) (c d : Climb)
    → 0 < n
    → eqb c.up NONE ≡ false
    → d ≡ over_row point c (row_at w rows c.up)
    → (c.sound && climb w rows root point n c.from c.up) ≡ (d.sound && climb w rows root point (n - 1) d.from d.up)
unfolding climb
climb_on w rows root point zero c d l e f = absurd (omega arith)
climb_on w rows root point (suc n) c d l e f =
    rw (e, f)
    (climb_row_lem w rows root point n c (row_at w rows c.up)
    ∙ ap (λ (m : ℕ). (over_row point c (row_at w rows c.up)).sound && climb w rows root point m (over_row point c (row_at w rows c.up)).from (over_row point c (row_at w rows c.up)).up)
    (sym (sub-one (suc n))))

-- the end
pub climb_end : (w : List ℕ) (rows root : ℕ) (point : Point) (n : ℕ) (c : Climb)
    → (ltb 0 n && not (eqb c.up NONE)) ≡ false
    → (c.sound && (eqb c.up NONE && eqb c.from root)) ≡ (c.sound && climb w rows root point n c.from c.up)
unfolding climb
climb_end w rows root point zero c e = go (eqb c.up NONE)
  where
    go : (b : Bool) → (c.sound && (b && eqb c.from root)) ≡ (c.sound && cond b (eqb c.from root) false)
    go true = refl
    go false = refl
climb_end w rows root point (suc n) c e = elim (ended (suc n) c.up e) [ inl f ↦ absurd (omega arith) | inr f ↦ rw f refl ]
