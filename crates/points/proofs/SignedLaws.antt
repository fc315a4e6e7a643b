-- A number that stops at the least and at the greatest `i32`, as the library saturates and clamps; and products of such numbers, which 64 bits hold.
-- Assumes nothing.
use mathlib.Core.Path.{◌≡◌, ap, ◌∙◌}
use Prim.Native.Nat.{ℕ, ◌≤◌}
use native.Mathlib.Omega.{arith}
use lib.Dec.{lit≤, lit<}
use lib.IntN.{ℤ, pos, negsuc, nat_abs, ◌+ℤ◌, ◌-ℤ◌, ◌*ℤ◌}
use mir.Syntax.{w32, w64}
use mir.Val.{SFits}
use Rattle.std.specs.Int.{saturate_signed, int_min, int_max}
use Rattle.std.proofs.lemmas.Bool.Decides.{nat_tests}
use Rattle.points.specs.Signed.{capped_of}
use Rattle.points.proofs.IntegerLaws.{Near, near_more, near_add, near_sub, near_mul}
use mir.Facts.{to_z-of_z}
use Rattle.points.proofs.MachineLaws.{in64, of_fits, fits64, near_extended, back64}

pub capped_saturate : (x : ℤ) → saturate_signed w32 x ≡ capped_of x
unfolding capped_of
capped_saturate (pos n) = grind (arith, nat_tests)
capped_saturate (negsuc n) = grind (arith, nat_tests)

pub capped_clamp : (x : ℤ) → int_max (negsuc 2147483647) (int_min x (pos 2147483647)) ≡ capped_of x
unfolding capped_of
capped_clamp (pos n) = grind (arith, nat_tests)
capped_clamp (negsuc n) = grind (arith, nat_tests)

ten_thousand : Near 10001 (pos 10000)
ten_thousand = record { near = lit< tt }

-- the products of rule 2
pub dry_fits : (x y : ℤ) → SFits w32 x → SFits w32 y → SFits w64 (x *ℤ (pos 10000 -ℤ y))
dry_fits x y f g =
    fits64 (near_more 9223372036854775808 (lit≤ tt) (near_mul x (pos 10000 -ℤ y) (of_fits f) (near_sub (pos 10000) y ten_thousand (of_fits g))))

pub grown_fits : (x : ℤ) → SFits w32 x → SFits w64 (pos 10000 *ℤ x)
grown_fits x f = fits64 (near_more 9223372036854775808 (lit≤ tt) (near_mul (pos 10000) x ten_thousand (of_fits f)))

-- how far twice a number lies from a sum
abs_near : {b : ℕ} (z : ℤ) → Near b z → nat_abs z ≤ b
abs_near (pos n) f = omega (arith, f.near)
abs_near (negsuc n) f = omega (arith, f.near)

pub far_small : (x s : ℤ) → SFits w32 x → SFits w32 s → nat_abs (x +ℤ x -ℤ s) ≤ 6442450944
far_small x s f g = abs_near (x +ℤ x -ℤ s) (near_sub (x +ℤ x) s (near_add x x (of_fits f) (of_fits f)) (of_fits g))

-- the product of the dry weight, as the machine reads its parts back
pub dry_read : (x y : ℤ) → SFits w32 x → SFits w32 y → in64 (in64 x *ℤ in64 (pos 10000 -ℤ in64 y)) ≡ x *ℤ (pos 10000 -ℤ y)
dry_read x y f g = (λ i. in64 (back64 (near_extended (of_fits f)) i *ℤ solid i)) ∙ to_z-of_z {w = w64} (dry_fits x y f g)
  where
    solid : in64 (pos 10000 -ℤ in64 y) ≡ pos 10000 -ℤ y
    solid =
        ap (λ z. in64 (pos 10000 -ℤ z)) (back64 (near_extended (of_fits g)))
        ∙ back64 (near_more 9223372036854775808 (lit≤ tt) (near_sub (pos 10000) y ten_thousand (of_fits g)))
