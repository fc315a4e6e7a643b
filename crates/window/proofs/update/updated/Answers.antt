use Rattle.std.proofs.Common.{arith, ◌≡◌, true, refl, ap, sym, ◌∙◌}
use Rattle.std.proofs.lemmas.Result.{err_from_is_err_and}
use borrow.Author.Tests.{le-leb, lt-leb}
use Rattle.window.specs.declared.window.Window.{Window}
use Rattle.window.specs.Figures.{figures_of, figures_told}
use Rattle.window.specs.Window.{wettest, present_in, is_sound}
use Rattle.window.specs.Update.{next_of, update_of}
use Rattle.window.proofs.WindowLaws.{sound_tells}
use Rattle.window.proofs.UpdateLaws.{next_some}
use Rattle.window.proofs.update.updated.Goals as goal

pub returns-in_err-sound : goal.returns-in_err-sound
unfolding update_of
returns-in_err-sound c =
    let p = err_from_is_err_and c.from_residual.result c.from_residual.ensures.1 in
    let q = c.in_err-sound.ensures in
    rw (p.1, p.2, q.1, q.0) refl

pub returns-then-reading-gt-WETTEST : goal.returns-then-reading-gt-WETTEST
unfolding update_of
returns-then-reading-gt-WETTEST c =
    let w = c.args.window.now in
    let sound : is_sound w ≡ true = sym (ap is_sound c.in_ok-sound.ensures) ∙ c.in_ok-sound.sound.sound in
    rw (sound, lt-leb c.args.reading wettest c.if-reading-gt-WETTEST.true) refl

pub summary-summary-requires : goal.summary-summary-requires
summary-summary-requires c =
    let s = c.in_ok-sound.sound in
    omega (arith, next_some s.window.now s.size (sound_tells s.window.now s.sound) c.args.reading, ap (λ (v : Window). v.present) c.next-next.ensures.0)

pub returns : goal.returns
unfolding update_of figures_of
returns c =
    let w = c.args.window.now in
    let x = c.args.reading in
    let sound : is_sound w ≡ true = sym (ap is_sound c.in_ok-sound.ensures) ∙ c.in_ok-sound.sound.sound in
    let next : c.next-next.result ≡ next_of w x = c.next-next.ensures.0 ∙ ap (λ (v : Window). next_of v x) c.in_ok-sound.ensures in
    let told : figures_told c.summary-summary.result ≡ figures_of (present_in (next_of w x)) = ap figures_told c.summary-summary.ensures ∙ ap (λ (v : Window). figures_of (present_in v)) next in
    rw (sound, le-leb x wettest c.if-reading-gt-WETTEST.false) (λ i. record { figures = told i; window = next i })
