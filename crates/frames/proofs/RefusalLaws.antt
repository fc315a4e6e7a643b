-- The numbers of a frame's refusals: none is 0, and no two have the same. Assumes nothing.
use Prim.Native.Nat.{ℕ}
use mathlib.Core.Path.{◌≡◌, refl}
use mathlib.Core.Bool.{true, false, cond}
use lib.Dec.{eqb}
use Rattle.std.specs.Prelude.{Option, Some, None}
use Rattle.frames.specs.Refusal.{number_of}
use Rattle.frames.specs.declared.refusal.FrameRefusal.{FrameRefusal}
use Rattle.frames.specs.declared.refusal.FrameRefusal.TheVariants.{NotWhole, NoKind, WrongLength}

-- no refusal has the number of a frame that is read
pub number_not_0 : (refusal : FrameRefusal) → eqb (number_of refusal) 0 ≡ false
number_not_0 NotWhole = refl
number_not_0 NoKind = refl
number_not_0 WrongLength = refl

-- the refusal of a number
abbrev refusal_by : ℕ → Option FrameRefusal
refusal_by n = cond (eqb n 13) (Some NotWhole) (cond (eqb n 14) (Some NoKind) (cond (eqb n 15) (Some WrongLength) None))

refusal_back : (refusal : FrameRefusal) → refusal_by (number_of refusal) ≡ Some refusal
refusal_back NotWhole = refl
refusal_back NoKind = refl
refusal_back WrongLength = refl

-- a number tells the refusal
pub number_tells : (a b : FrameRefusal) → number_of a ≡ number_of b → a ≡ b
number_tells a b e = cc (refusal_back a, refusal_back b)
