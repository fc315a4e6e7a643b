-- The choice of a target, as a search uses it: the side of a cut, the candidates, which of two is chosen, and which cuts hide nothing
-- better; with the laws that the search rests on.
use Rattle.std.specs.Prelude.{ℕ, ◌≡◌, Bool, true, false, not}
use Rattle.std.proofs.Math.Option.{Option, none, some}
use Rattle.points.specs.declared.point.Point.{Point}
use Rattle.points.specs.declared.cut.Cut.{Cut}
use Rattle.points.specs.declared.scale.Scale.{Scale}
use Rattle.points.specs.Cut.{goes_left}
use Rattle.points.specs.Square.{square_of}
use Rattle.points.specs.Choice.{no_square}

-- p is not chosen over the best; where there is none, every p would be
abbrev pub Loses : (Point → Point → Bool) → Point → Option Point → Type 0
Loses over p none = ⊥
Loses over p (some b) = over p b ≡ false

-- what a search for one target chooses by
pub record Choice : Type 0 where
  -- the side of a cut that the target is on
  pub side : Cut → Bool
  -- only these points can be the answer
  pub candidate : Point → Bool
  -- the first point is chosen over the second
  pub over : Point → Point → Bool
  -- the far side of a cut has no candidate that is chosen over the best
  pub excludes : Cut → Option Point → Bool
  pub irreflexive : (a : Point) → over a a ≡ false
  pub transitive : (a b c : Point) → over a b ≡ true → over b c ≡ true → over a c ≡ true
  pub total : (a b : Point) → ¬ (a ≡ b) → over a b ≡ false → over b a ≡ true
  pub sound : (k : Cut) (best : Option Point) (p : Point) → excludes k best ≡ true → goes_left k p ≡ not (side k) → candidate p ≡ true → Loses over p best

-- the side of a cut that a target is on
abbrev pub side_of : Point → Cut → Bool
side_of target k = goes_left k target

-- the square that a record must not exceed to be chosen: that of the best, or a number above every square while there is none
abbrev pub best_square : Scale → Point → Option Point → ℕ
best_square scale target none = no_square
best_square scale target (some b) = square_of scale target b
