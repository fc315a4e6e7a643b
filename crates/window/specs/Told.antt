-- What is told of a run of readings, in words.
use Rattle.std.specs.Prelude.{ℕ, ◌≡◌, List, length}
use Rattle.window.specs.declared.figures.Figures.{Figures}
use Rattle.window.specs.Tail.{IsTail}
use Rattle.window.specs.Figures.{sum_of, IsLeast, IsGreatest, IsMean}

-- the figures f are those of the last n of a run, or of all of it where it is shorter
pub record Told (n : ℕ) (run : List ℕ) (f : Figures) : Type 0 where
  pub last : List ℕ
  pub tail : IsTail n run last
  pub number : f.number ≡ 0
  pub sum : f.sum ≡ sum_of last
  pub least : IsLeast f.least last
  pub greatest : IsGreatest f.greatest last
  pub mean : IsMean f.sum (length last) f.mean
