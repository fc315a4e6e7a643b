-- The four figures worked out from the tail of a run are what `Told` says in words (`told_exact`).
use Prim.Native.Nat.{ℕ, ◌≤◌}
use mathlib.Core.Path.{refl}
use mathlib.Core.List.{List}
use native.Mathlib.Omega.{arith}
use lib.ListN.{length}
use Rattle.window.specs.Tail.{tail_of}
use Rattle.window.specs.Figures.{sum_of, figures_of}
use Rattle.window.specs.Told.{Told}
use Rattle.window.proofs.TailLaws.{tail_exact, tail_length}
use Rattle.window.proofs.LeastLaws.{least_exact, greatest_exact}
use Rattle.window.proofs.MeanLaws.{mean_exact}

pub told_exact : (n : ℕ) (run : List ℕ) → 1 ≤ n → 1 ≤ length run → Told n run (figures_of (tail_of n run))
unfolding figures_of
told_exact n run l m =
    let ys : List ℕ = tail_of n run in
    let some : 1 ≤ length ys = omega (arith, tail_length n run) in
    record {
      last = ys;
      tail = tail_exact n run;
      number = refl;
      sum = refl;
      least = least_exact ys some;
      greatest = greatest_exact ys some;
      mean = mean_exact (sum_of ys) (length ys) some;
    }
