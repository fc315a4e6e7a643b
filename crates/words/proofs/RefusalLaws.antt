-- The numbers of refusals: none is 0, and no two have the same. Assumes nothing.
use Prim.Native.Nat.{ℕ}
use mathlib.Core.Path.{◌≡◌, refl}
use mathlib.Core.Bool.{true, false, cond}
use lib.Dec.{eqb}
use Rattle.std.specs.Prelude.{Option, Some, None}
use Rattle.words.specs.Refusal.{number_of}
use Rattle.words.specs.declared.refusal.Refusal.{Refusal}
use Rattle.words.specs.declared.refusal.Refusal.TheVariants.{BadPlaces, BadLimit, ShortSlice, NotOpened, NoStation, NotIdle, NoKind, BadPoint, BadCurve, NotUnfinished, Unsound, NothingWaits, BadFactor, BadRule}

-- no refusal has the number of an accepted call
pub number_not_0 : (refusal : Refusal) → eqb (number_of refusal) 0 ≡ false
number_not_0 BadPlaces = refl
number_not_0 BadLimit = refl
number_not_0 ShortSlice = refl
number_not_0 NotOpened = refl
number_not_0 NoStation = refl
number_not_0 NotIdle = refl
number_not_0 NoKind = refl
number_not_0 BadPoint = refl
number_not_0 BadCurve = refl
number_not_0 NotUnfinished = refl
number_not_0 Unsound = refl
number_not_0 NothingWaits = refl
number_not_0 BadFactor = refl
number_not_0 BadRule = refl

-- the refusal of a number
abbrev refusal_by : ℕ → Option Refusal
refusal_by n =
    cond (eqb n 1) (Some BadPlaces)
    (cond (eqb n 2) (Some BadLimit)
    (cond (eqb n 3) (Some ShortSlice)
    (cond (eqb n 4) (Some NotOpened)
    (cond (eqb n 5) (Some NoStation)
    (cond (eqb n 6) (Some NotIdle)
    (cond (eqb n 7) (Some NoKind)
    (cond (eqb n 8) (Some BadPoint)
    (cond (eqb n 9) (Some BadCurve)
    (cond (eqb n 10) (Some NotUnfinished)
    (cond (eqb n 11) (Some Unsound)
    (cond (eqb n 12) (Some NothingWaits)
    (cond (eqb n 17) (Some BadFactor)
    (cond (eqb n 20) (Some BadRule) None)))))))))))))

refusal_back : (refusal : Refusal) → refusal_by (number_of refusal) ≡ Some refusal
refusal_back BadPlaces = refl
refusal_back BadLimit = refl
refusal_back ShortSlice = refl
refusal_back NotOpened = refl
refusal_back NoStation = refl
refusal_back NotIdle = refl
refusal_back NoKind = refl
refusal_back BadPoint = refl
refusal_back BadCurve = refl
refusal_back NotUnfinished = refl
refusal_back Unsound = refl
refusal_back NothingWaits = refl
refusal_back BadFactor = refl
refusal_back BadRule = refl

-- a number tells the refusal
pub number_tells : (a b : Refusal) → number_of a ≡ number_of b → a ≡ b
number_tells a b e = cc (refusal_back a, refusal_back b)
