-- The scale of an opening: the range of its factors (`factor_ranges`) and of its rule (`rule_exact`), and laws 3 and 4 by it, which are those of `ChoiceLaws` for the square with its factors.
-- Assumes nothing.
use mathlib.Core.Path.{◌≡◌, refl}
use mathlib.Core.Logic.{◌↔◌, ◌⊎◌, inl, inr}
use mathlib.Core.Bool.{true, false, not, cond, ◌&&◌}
use Prim.Native.Nat.{ℕ, ◌≤◌}
use native.Mathlib.Omega.{arith}
use native.Mathlib.Decide.{dec_le}
use borrow.Author.Tests.{leb-true}
use lib.Dec.{eqb, leb}
use Rattle.points.specs.declared.point.Point.{Point}
use Rattle.points.specs.declared.cut.Cut.{Cut}
use Rattle.points.specs.declared.scale.Scale.{Scale}
use Rattle.points.specs.Rule.{plain_rule, dry_rule, rule_in}
use Rattle.points.specs.Scale.{count_of, most_factor, factors_in}
use Rattle.points.specs.Square.{square_of}
use Rattle.points.specs.Cut.{goes_left}
use Rattle.points.specs.Choice.{same_grade, chosen_at, chosen_by, chosen_over, Chosen, excluded, no_square}
use Rattle.points.specs.Kept.{Ordered, by_point}
use Rattle.points.proofs.Tests.{and_l, and_r}
use Rattle.points.proofs.SquareLaws.{scale_bounds}
use Rattle.points.proofs.ChoiceLaws.{chosen_exact, chosen_irrefl, chosen_asym, chosen_trans, chosen_total, chosen_stays, far_loses, far_none}
use Rattle.points.proofs.KeptLaws.{ordered_by}

-- ---- the factors

-- each is from 1 to the greatest under the rule
pub factor_ranges : (scale : Scale)
    → factors_in scale
    ≡ ((((leb 1 scale.weight && leb scale.weight (most_factor scale.rule))
    && (leb 1 scale.moisture && leb scale.moisture (most_factor scale.rule)))
    && (leb 1 scale.speed && leb scale.speed (most_factor scale.rule)))
    && (leb 1 scale.draw && leb scale.draw (most_factor scale.rule)))
unfolding factors_in
factor_ranges scale = refl

-- which is 16 under rule 2, else 1,000
pub factor_most : (rule : ℕ) → most_factor rule ≡ cond (eqb rule dry_rule) 16 1000
unfolding most_factor
factor_most rule = refl

-- ---- the rule

-- it is 1 or 2
pub rule_exact : (rule : ℕ) → (rule_in rule ≡ true) ↔ ((rule ≡ plain_rule) ⊎ (rule ≡ dry_rule))
rule_exact rule = (λ e. tells (dec_le rule 1) e, told)
  where
    tells : Dec (rule ≤ 1) → rule_in rule ≡ true → (rule ≡ plain_rule) ⊎ (rule ≡ dry_rule)
    tells (yes h) e = inl (omega (arith, leb-true 1 rule (and_l (leb 1 rule) (leb rule 2) e)))
    tells (no h) e = inr (omega (arith, leb-true rule 2 (and_r (leb 1 rule) (leb rule 2) e)))

    told : (rule ≡ plain_rule) ⊎ (rule ≡ dry_rule) → rule_in rule ≡ true
    told (inl e) = rw e
    told (inr e) = rw e

-- ---- the choice

module _ (scale : Scale) where
  -- by the squares of both
  pub scale_chosen : (t a b : Point) → chosen_over scale t a b ≡ chosen_at (square_of scale t a) (square_of scale t b) a b
  unfolding chosen_over chosen_by
  scale_chosen t a b = refl

  -- the choice in words
  pub scale_exact : (t a b : Point) → (chosen_over scale t a b ≡ true) ↔ Chosen (square_of scale) t a b
  unfolding chosen_over
  scale_exact = chosen_exact (square_of scale)

  -- a strict total order
  pub scale_irrefl : (t a : Point) → chosen_over scale t a a ≡ false
  unfolding chosen_over
  scale_irrefl = chosen_irrefl (square_of scale)

  pub scale_asym : (t a b : Point) → chosen_over scale t a b ≡ true → chosen_over scale t b a ≡ false
  unfolding chosen_over
  scale_asym = chosen_asym (square_of scale)

  pub scale_trans : (t a b c : Point) → chosen_over scale t a b ≡ true → chosen_over scale t b c ≡ true → chosen_over scale t a c ≡ true
  unfolding chosen_over
  scale_trans = chosen_trans (square_of scale)

  pub scale_total : (t a b : Point) → ¬ (a ≡ b) → chosen_over scale t a b ≡ false → chosen_over scale t b a ≡ true
  unfolding chosen_over
  scale_total = chosen_total (square_of scale)

  -- a record that is not chosen over the best is not chosen over a better one
  pub scale_stays : (t r a b : Point) → chosen_over scale t a b ≡ true → chosen_over scale t r b ≡ false → chosen_over scale t r a ≡ false
  unfolding chosen_over
  scale_stays = chosen_stays (square_of scale)

  -- so elements with points can be kept in its order
  pub scale_ordered : {A : Type 0} (point : A → Point) (t : Point) → Ordered point (by_point point (chosen_over scale t))
  scale_ordered point t = ordered_by point (chosen_over scale t) (scale_irrefl t) (scale_trans t) (scale_total t)

  -- no record of the grade beyond an excluded cut is chosen over the best
  pub scale_far_loses : (k : Cut) (t b p : Point) → excluded scale k t (square_of scale t b) ≡ true → goes_left k p ≡ not (goes_left k t) → same_grade t p ≡ true
      → chosen_over scale t p b ≡ false
  unfolding chosen_over excluded
  scale_far_loses = far_loses (square_of scale) (count_of scale) (scale_bounds scale)

  -- while there is no best, none is there
  pub scale_far_none : (k : Cut) (t p : Point) → excluded scale k t no_square ≡ true → goes_left k p ≡ not (goes_left k t) → same_grade t p ≡ true → ⊥
  unfolding excluded
  scale_far_none = far_none (square_of scale) (count_of scale) (scale_bounds scale)
