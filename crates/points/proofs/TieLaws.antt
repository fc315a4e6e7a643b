-- The order on a tie has the heavier first (`tie_heavier`), of two of one weight the lower (`tie_level`), and nothing else is first (`tie_tells`). It is
-- total, transitive, and equal only for equal points (`tie_turn`, `tie_trans`, `tie_equal`).
-- Assumes nothing.
use mathlib.Core.Path.{◌≡◌, refl, sym, ap, ◌∙◌}
use mathlib.Core.Logic.{◌⊎◌, inl, inr}
use mathlib.Core.Bool.{true, false}
use lib.Signed.{lt_z}
use Rattle.points.specs.declared.point.Point.{Point}
use Rattle.std.specs.declared.cmp.Ordering.{Ordering}
use Rattle.std.specs.declared.cmp.Ordering.TheVariants.{Less, Equal, Greater}
use Rattle.std.specs.Ordering.{ordering_then}
use Rattle.points.specs.Point.{coordinate_of}
use Rattle.points.specs.Order.{by_axis, order_of, tie_of, is_equal}
use Rattle.points.proofs.Tests.{no! }
use Rattle.points.proofs.OrderLaws.{turned, clash, Ordered, axis_equal, axis_same, axis_less, axis_ordered, then_ordered, then_second, ordered, order_equal}

module _ (a b : Point) where
  -- Rules 1.7: "the higher basis weight wins"
  pub tie_heavier : lt_z b.weight a.weight ≡ true → tie_of a b ≡ Less
  unfolding tie_of by_axis coordinate_of
  tie_heavier e = rw e

  -- Rules 1.7: "where the weights are equal as well, the lower point wins"
  pub tie_level : a.weight ≡ b.weight → tie_of a b ≡ order_of a b
  unfolding tie_of coordinate_of
  tie_level e = ap (λ (o : Ordering). ordering_then o (order_of a b)) (axis_same b a 2 (sym e))

  pub tie_tells : tie_of a b ≡ Less → (lt_z b.weight a.weight ≡ true) ⊎ ((a.weight ≡ b.weight) × (order_of a b ≡ Less))
  unfolding tie_of coordinate_of
  tie_tells = go (by_axis b a 2) refl
    where
      go : (o : Ordering) → by_axis b a 2 ≡ o → ordering_then o (order_of a b) ≡ Less → (lt_z b.weight a.weight ≡ true) ⊎ ((a.weight ≡ b.weight) × (order_of a b ≡ Less))
      go Less e f = inl (axis_less b a 2 e)
      go Equal e f = inr (sym (axis_equal b a 2 e), f)
      go Greater e f = clash cc

  -- the two ways of the code: the weights are one, or they settle it
  pub tie_on : is_equal (by_axis b a 2) ≡ true → tie_of a b ≡ order_of a b
  unfolding tie_of
  tie_on = go (by_axis b a 2)
    where
      go : (o : Ordering) → is_equal o ≡ true → ordering_then o (order_of a b) ≡ order_of a b
      go Less e = no! e
      go Equal e = refl
      go Greater e = no! e

  pub tie_ends : is_equal (by_axis b a 2) ≡ false → tie_of a b ≡ by_axis b a 2
  unfolding tie_of
  tie_ends = go (by_axis b a 2)
    where
      go : (o : Ordering) → is_equal o ≡ false → ordering_then o (order_of a b) ≡ o
      go Less e = refl
      go Equal e = no! (sym e)
      go Greater e = refl

-- an order turned round is one
flipped : (o : Point → Point → Ordering) → Ordered o → Ordered (λ a b. o b a)
flipped o w = record {
  self = w.self;
  turn = λ a b. w.turn b a;
  like = λ a b c e. w.turn a c ∙ ap turned (w.like a b c (w.turn b a ∙ ap turned e)) ∙ sym (w.turn b c);
  trans = λ a b c e f. w.trans c b a f e;
}

tie_ordered : Ordered tie_of
unfolding tie_of
tie_ordered = then_ordered (λ a b. by_axis b a 2) order_of (flipped (λ a b. by_axis a b 2) (axis_ordered 2)) ordered

pub tie_refl : (a : Point) → tie_of a a ≡ Equal
tie_refl a = tie_ordered.self a

pub tie_turn : (a b : Point) → tie_of b a ≡ turned (tie_of a b)
tie_turn a b = tie_ordered.turn a b

pub tie_trans : (a b c : Point) → tie_of a b ≡ Less → tie_of b c ≡ Less → tie_of a c ≡ Less
tie_trans a b c e f = tie_ordered.trans a b c e f

pub tie_equal : (a b : Point) → tie_of a b ≡ Equal → a ≡ b
unfolding tie_of
tie_equal a b e = order_equal a b (then_second (by_axis b a 2) (order_of a b) e)
