use Rattle.std.proofs.Common.{arith, rules, ◌≡◌, true, false, eqb, refl, ap, sym, ◌∙◌}
use borrow.Author.Tests.{eq-eqb, apart_eqb}
use Rattle.window.specs.declared.window.Window.{Window}
use Rattle.window.specs.Window.{is_sound}
use Rattle.window.specs.Steady.{is_full, within_spread, is_steady}
use Rattle.window.proofs.WindowLaws.{sound_tells}
use Rattle.window.proofs.steady.is_steady.Goals as goal

pub within_spread-requires : goal.within_spread-requires
within_spread-requires c =
    let e = c.in-Ok.ensures in
    let h = sound_tells c.in-Ok.sound.window.now c.in-Ok.sound.sound in
    omega (arith, h.least, ap (λ (v : Window). v.length) e, ap (λ (v : Window). v.present) e, c.if-window.true)

pub returns-in-Ok : goal.returns-in-Ok
unfolding is_steady is_full
returns-in-Ok c =
    let w = c.args.window in
    let sound : is_sound w ≡ true = sym (ap is_sound c.in-Ok.ensures) ∙ c.in-Ok.sound.sound in
    let full : eqb w.present w.length ≡ true = eq-eqb w.present w.length c.if-window.true in
    rw (sound, full) (c.within_spread.ensures ∙ ap (λ (v : Window). within_spread v c.args.spread) c.in-Ok.ensures)

pub returns-in_default : goal.returns-in_default
unfolding is_steady is_full
returns-in_default c =
    let w = c.args.window in
    let sound : is_sound w ≡ true = sym (ap is_sound c.in-Ok.ensures) ∙ c.in-Ok.sound.sound in
    let full : eqb w.present w.length ≡ false = apart_eqb w.present w.length c.if-window.false in
    rw (sound, full) refl

pub returns-in_default-2 : goal.returns-in_default-2
unfolding is_steady is_full
returns-in_default-2 c = let unsound : is_sound c.args.window ≡ false = search rules in rw unsound refl
