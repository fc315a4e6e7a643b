-- The words of a cut in range: its axis and its sum fit, and the sum is the least one and the word.
use Rattle.std.proofs.Common.{◌≡◌, ℕ, ◌+◌, ◌<◌, ◌∙◌, ap, sym, arith}
use lib.Signed.{mag}
use lib.Dec.{lit≤}
use lib.IntN.{ℤ, pos, ◌+ℤ◌}
use mir.Syntax.{w32}
use mir.Val.{to_z}
use mir.Facts.{to_z_pos}
use Rattle.points.specs.Word.{sum_range_of}
use Rattle.points.proofs.IntegerLaws.{near_more}
use Rattle.points.proofs.MachineLaws.{in32, Near32, passed, fits32, back32}
use Rattle.points.proofs.WordLaws.{SoundCut, cut_plainly}
use Rattle.rows.proofs.tree.sound_cut.Goals as goal

near : {axis sum : ℕ} → SoundCut axis sum → Near32 ((sum_range_of (axis + 1)).low +ℤ pos sum)
near k = near_more 2147483648 (lit≤ tt) k.near

-- the least sum and the word, as the machine holds them
parts : {axis sum : ℕ} {low : ℤ} → SoundCut axis sum → low ≡ (sum_range_of (axis + 1)).low → mag low < 2147483648
    → in32 low +ℤ to_z w32 sum ≡ (sum_range_of (axis + 1)).low +ℤ pos sum
parts {axis} {sum} k e b = λ i. passed e b i +ℤ to_z_pos w32 {n = sum} (omega (arith, k.small)) i

pub overflow_add-result : goal.overflow_add-result
overflow_add-result c = record { fits = omega (arith, (cut_plainly c.args.axis c.args.sum c.requires.0 c.requires.1).axis_small) }

pub overflow_cast-result : goal.overflow_cast-result
overflow_cast-result c = record { sfits = omega (arith, (cut_plainly c.args.axis c.args.sum c.requires.0 c.requires.1).small) }

pub overflow_add-result-2 : goal.overflow_add-result-2
overflow_add-result-2 c =
    let k = cut_plainly c.args.axis c.args.sum c.requires.0 c.requires.1 in
    rw (parts k c.sum_low_at.ensures c.sum_low_at.type_inv) (fits32 (near k))

pub returns : goal.returns
returns c =
    let k = cut_plainly c.args.axis c.args.sum c.requires.0 c.requires.1 in
    let sum = ap in32 (parts k c.sum_low_at.ensures c.sum_low_at.type_inv) ∙ back32 (near k) in
    (λ i. record { axis = c.args.axis + 1; sum = sum i }) ∙ sym k.is
