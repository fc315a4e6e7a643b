-- Where a move of a search leads from a cut, case by case: an open near side comes first, a far side that is not shut is not passed over.
use Prim.Native.Nat.{ℕ}
use mathlib.Core.Path.{◌≡◌, ap, ap₂}
use mathlib.Core.Bool.{true, false, cond}
use mathlib.Core.Option.{Option, none}
use lib.Dec.{eqb}
use Rattle.points.specs.declared.cut.Cut.{Cut}
use Rattle.trees.specs.Row.{cut_row}
use Rattle.trees.specs.Stand.{Down, Up}
use Rattle.trees.specs.Choice.{Choice}
use Rattle.trees.specs.Tour.{Best, Progress, pick_progress, go_to, Opens, shut, tour_down, tour_parent}

module _ (c : Choice) (opens : Opens) (as_of up : ℕ) (k : Cut) (l r x missed : ℕ) (best : Option Best) where
  -- down, at the cut in row x: the ways on
  abbrev near : Option Progress
  near = go_to (cond (c.side k) l r) Down missed best

  abbrev far : Option Progress
  far = go_to (cond (c.side k) r l) Down missed best

  abbrev turned : Option Progress
  turned = go_to x Up missed best

  -- to the near child where its side is open
  pub down_near : opens x (c.side k) ≡ true → tour_down c opens as_of (cut_row up k l r) x missed best ≡ near
  down_near n = ap (λ b. pick_progress b near (pick_progress (shut c opens k x best) turned far)) n

  -- else to the far child, unless its side is shut
  pub down_far : opens x (c.side k) ≡ false → shut c opens k x best ≡ false → tour_down c opens as_of (cut_row up k l r) x missed best ≡ far
  down_far n f = ap₂ (λ a b. pick_progress a near (pick_progress b turned far)) n f

  -- else the phase turns up
  pub down_turn : opens x (c.side k) ≡ false → shut c opens k x best ≡ true → tour_down c opens as_of (cut_row up k l r) x missed best ≡ turned
  down_turn n f = ap₂ (λ a b. pick_progress a near (pick_progress b turned far)) n f

module _ (c : Choice) (opens : Opens) (up : ℕ) (k : Cut) (l r parent x missed : ℕ) (best : Option Best) where
  -- up, at the cut in row `parent`: the ways on
  abbrev over : Option Progress
  over = go_to (cond (c.side k) r l) Down missed best

  abbrev higher : Option Progress
  higher = go_to parent Up missed best

  -- from the near child over to the far one, unless its side is shut
  pub up_over : eqb (cond (c.side k) l r) x ≡ true → shut c opens k parent best ≡ false → tour_parent c opens (cut_row up k l r) parent x missed best ≡ over
  up_over n f = ap₂ (λ a b. pick_progress a (pick_progress b higher over) (pick_progress (eqb (cond (c.side k) r l) x) higher none)) n f

  pub up_past : eqb (cond (c.side k) l r) x ≡ true → shut c opens k parent best ≡ true → tour_parent c opens (cut_row up k l r) parent x missed best ≡ higher
  up_past n f = ap₂ (λ a b. pick_progress a (pick_progress b higher over) (pick_progress (eqb (cond (c.side k) r l) x) higher none)) n f

  -- from the far child up
  pub up_far : eqb (cond (c.side k) l r) x ≡ false → eqb (cond (c.side k) r l) x ≡ true → tour_parent c opens (cut_row up k l r) parent x missed best ≡ higher
  up_far n f = ap₂ (λ a b. pick_progress a (pick_progress (shut c opens k parent best) higher over) (pick_progress b higher none)) n f
