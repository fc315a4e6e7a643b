use Rattle.std.proofs.Common.{rules, arith, ◌≡◌, ◌≤◌, max, length, get_or, ap, sym, ◌∙◌}
use Rattle.window.specs.Figures.{sum_of, least_of, greatest_of, mean_of}
use Rattle.window.specs.Window.{present_in}
use Rattle.window.proofs.FiguresLaws.{running_first, running_more, running_all}
use Rattle.window.proofs.WindowLaws.{AllIn, in_at, present_fits, present_length, present_in_lem, sound_tells}
use Rattle.window.proofs.sound.Sound.summary.Goals as goal

pub loop-reading-init : goal.loop-reading-init
loop-reading-init c = running_first c.readings-readings.result.now

pub overflow_add-sum : goal.overflow_add-sum
overflow_add-sum c =
    let w = c.args.self.now.window.now in
    let h = sound_tells w c.args.self.now.sound in
    let xs = c.readings-readings.result.now in
    let all : AllIn xs = rw c.readings-readings.ensures (present_in_lem w c.args.self.now.size h) in
    let many : length xs ≡ w.present = ap length c.readings-readings.ensures ∙ present_length w c.args.self.now.size h in
    omega (arith, c.loop-reading.invariant.most, c.loop-reading-test.true, in_at xs all c.loop-reading.reading-index, many, h.present, h.most)

pub loop-reading-preserved : goal.loop-reading-preserved
loop-reading-preserved c =
    let w = c.args.self.now.window.now in
    let h = sound_tells w c.args.self.now.sound in
    let all : AllIn c.readings-readings.result.now = rw c.readings-readings.ensures (present_in_lem w c.args.self.now.size h) in
    let most : c.max-greatest.result ≡ max c.loop-reading.greatest (get_or c.readings-readings.result.now c.loop-reading.reading-index 0) = search rules in
    rw (c.min-least.ensures, most) (running_more _ _ _ _ _ all c.loop-reading-test.true c.loop-reading.invariant)

pub mean_of-requires : goal.mean_of-requires
mean_of-requires c =
    let w = c.args.self.now.window.now in
    let h = sound_tells w c.args.self.now.sound in
    let many = ap length c.readings-readings.ensures ∙ present_length w c.args.self.now.size h in
    (c.requires, present_fits w c.args.self.now.sound, omega (arith, c.loop-reading.invariant.most, c.loop-reading.auto.reading-index-end, many, h.present, h.most))

pub returns : goal.returns
returns c =
    let w = c.args.self.now.window.now in
    let h = sound_tells w c.args.self.now.sound in
    let xs = c.readings-readings.result.now in
    let e = c.readings-readings.ensures in
    let many : length (present_in w) ≡ w.present = present_length w c.args.self.now.size h in
    let all : AllIn xs = rw e (present_in_lem w c.args.self.now.size h) in
    let some : 1 ≤ length xs = omega (arith, ap length e, many, c.requires) in
    let told = running_all xs _ _ _ _ all some (omega (arith, c.loop-reading-test.false, c.loop-reading.auto.reading-index-end)) c.loop-reading.invariant in
    let sum = told.sum ∙ ap sum_of e in
    let mean = c.mean_of.ensures ∙ ap (λ k. mean_of k w.present) sum ∙ ap (λ k. mean_of (sum_of (present_in w)) k) (sym many) in
    λ i. record { sum = sum i; least = (told.least ∙ ap least_of e) i; greatest = (told.greatest ∙ ap greatest_of e) i; mean = mean i }
