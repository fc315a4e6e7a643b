use Rattle.std.proofs.Common.{arith, ap, leb, ◌-◌}
use Rattle.window.specs.declared.figures.Summary.{Summary}
use Rattle.window.specs.Window.{present_in}
use Rattle.window.specs.Steady.{within_spread}
use Rattle.window.proofs.LeastLaws.{least_le_greatest}
use Rattle.window.proofs.WindowLaws.{present_length, sound_tells}
use Rattle.window.proofs.steady.within_spread.Goals as goal

pub overflow_sub-result : goal.overflow_sub-result
overflow_sub-result c =
    let w = c.args.sound.now.window.now in
    let some = present_length w (c.args.sound.now.size) (sound_tells w c.args.sound.now.sound) in
    let told = c.summary-summary.ensures in
    omega (arith, least_le_greatest (present_in w) (omega (arith, some, c.requires)), ap (λ (s : Summary). s.least) told, ap (λ (s : Summary). s.greatest) told)

pub returns : goal.returns
unfolding within_spread
returns c = ap (λ (s : Summary). leb (s.greatest - s.least) c.args.spread) c.summary-summary.ensures
