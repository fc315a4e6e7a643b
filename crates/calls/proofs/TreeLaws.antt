-- The scan of the rows as its code meets it, row by row.
use Prim.Native.Nat.{ℕ, suc, ◌+◌}
use mathlib.Core.Path.{◌≡◌, refl, ap, ◌∙◌}
use mathlib.Core.Bool.{true}
use mathlib.Core.List.{List}
use native.Mathlib.Omega.{arith}
use Rattle.rows.specs.Row.{row_at}
use Rattle.calls.specs.declared.tree.Count.{Count}
use Rattle.calls.specs.Tree.{row_count, counted, scan}

pub scan_first : (w : List ℕ) (rows root : ℕ) → record { leaves = 0; sound = true } ≡ scan w rows root 0
unfolding scan
scan_first w rows root = refl

pub scan_on : (w : List ℕ) (rows root r : ℕ) (c d : Count)
    → c ≡ scan w rows root r
    → d ≡ counted c (row_count w rows root r (row_at w rows r))
    → d ≡ scan w rows root (r + 1)
unfolding scan
scan_on w rows root r c d e f =
    let one : suc r ≡ r + 1 = omega arith in
    f ∙ ap (λ (x : Count). counted x (row_count w rows root r (row_at w rows r))) e ∙ ap (λ (n : ℕ). scan w rows root n) one
