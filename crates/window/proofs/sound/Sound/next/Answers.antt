use Rattle.std.proofs.Common.{rules, arith}
use Rattle.window.proofs.WindowLaws.{present_fits, sound_tells}
use Rattle.window.proofs.UpdateLaws.{made_is, made_sound}
use Rattle.window.proofs.sound.Sound.next.Goals as goal

pub overflow_add-present : goal.overflow_add-present
overflow_add-present c = let most = present_fits c.args.self.now.window.now c.args.self.now.sound in search rules

pub overflow_sub-staying : goal.overflow_sub-staying
overflow_sub-staying c =
    let h = sound_tells c.args.self.now.window.now c.args.self.now.sound in
    omega (arith, c.saturating_sub-gone.ensures, h.least, h.present)

pub slid-readings-requires : goal.slid-readings-requires
slid-readings-requires c =
    let h = sound_tells c.args.self.now.window.now c.args.self.now.sound in
    (omega (arith, c.saturating_sub-gone.ensures, h.least, h.present, h.most), c.args.self.now.size)

pub bounds-readings-staying : goal.bounds-readings-staying
bounds-readings-staying c =
    let h = sound_tells c.args.self.now.window.now c.args.self.now.sound in
    omega (arith, c.saturating_sub-gone.ensures, h.least, h.present, h.most)

pub returns : goal.returns
returns c =
    let w = c.args.self.now.window.now in
    let h = sound_tells w c.args.self.now.sound in (
      made_is w c.args.self.now.size h c.args.reading _ _ c.saturating_sub-gone.ensures c.slid-readings.ensures,
      made_sound w c.args.self.now.size h c.args.reading _ _ c.saturating_sub-gone.ensures c.slid-readings.ensures c.requires,
    )
