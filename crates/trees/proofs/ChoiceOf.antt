-- The choice of a target by the scale of an opening: by the laws of `points` it has the laws that a search rests on.
use mathlib.Core.Path.{◌≡◌}
use mathlib.Core.Bool.{true, not}
use mathlib.Core.Option.{Option, none, some}
use Rattle.points.specs.declared.point.Point.{Point}
use Rattle.points.specs.declared.cut.Cut.{Cut}
use Rattle.points.specs.declared.scale.Scale.{Scale}
use Rattle.points.specs.Cut.{goes_left}
use Rattle.points.specs.Choice.{same_grade, chosen_over, excluded}
use Rattle.points.proofs.ScaleLaws.{scale_irrefl, scale_trans, scale_total, scale_far_loses, scale_far_none}
use Rattle.trees.specs.Choice.{Loses, Choice, side_of, best_square}

-- a candidate beyond an excluded cut is not chosen over the best; with no best there is none
pub far_sound : (scale : Scale) (target : Point) (k : Cut) (best : Option Point) (p : Point) → excluded scale k target (best_square scale target best) ≡ true
    → goes_left k p ≡ not (goes_left k target) → same_grade target p ≡ true
    → Loses (chosen_over scale target) p best
far_sound scale target k none p e f g = scale_far_none scale k target p e f g
far_sound scale target k (some b) p e f g = scale_far_loses scale k target b p e f g

-- the side of the target, the records of its grade, the smaller square and on a tie the heavier, and the cuts too far away
abbrev pub choice_of : Scale → Point → Choice
choice_of scale target = record {
  side = side_of target;
  candidate = λ p. same_grade target p;
  over = λ a b. chosen_over scale target a b;
  excludes = λ k best. excluded scale k target (best_square scale target best);
  irreflexive = scale_irrefl scale target;
  transitive = scale_trans scale target;
  total = scale_total scale target;
  sound = far_sound scale target;
}
