use Rattle.std.proofs.Common.{arith, ◌≡◌, sym, ap, ◌∙◌, Bool, true, false, ◌&&◌, leb, eqb, take, drop}
use borrow.Author.Tests.{le-leb, lt-leb}
use Rattle.window.specs.Figures.{greatest_of}
use Rattle.window.specs.Window.{wettest}
use Rattle.window.proofs.WindowLaws.{below_greatest}
use Rattle.window.proofs.window.positions_sound.Goals as goal

pub returns-then-greatest_of-le-WETTEST : goal.returns-then-greatest_of-le-WETTEST
returns-then-greatest_of-le-WETTEST c =
    let xs = c.args.readings.now in
    let n = c.args.present in
    let here = c.greatest_of.ensures ∙ ap greatest_of c.split_at.ensures.front in
    let behind = c.greatest_of-then-greatest_of-le-WETTEST.ensures ∙ ap greatest_of c.split_at.ensures.back in
    let fits : leb (greatest_of (take n xs)) wettest ≡ true = le-leb _ _ (omega (arith, here, c.if-greatest_of-le-WETTEST.true)) in
    ap (λ k. eqb k 0) behind ∙ sym (ap (λ (b : Bool). b && eqb (greatest_of (drop n xs)) 0) fits) ∙ below_greatest xs n c.told-readings c.requires

pub returns-else-greatest_of-le-WETTEST : goal.returns-else-greatest_of-le-WETTEST
returns-else-greatest_of-le-WETTEST c =
    let xs = c.args.readings.now in
    let n = c.args.present in
    let here = c.greatest_of.ensures ∙ ap greatest_of c.split_at.ensures.front in
    let over : leb (greatest_of (take n xs)) wettest ≡ false = lt-leb _ _ (omega (arith, here, c.if-greatest_of-le-WETTEST.false)) in
    ap (λ k. leb k wettest) here ∙ over ∙ sym (ap (λ (b : Bool). b && eqb (greatest_of (drop n xs)) 0) over) ∙ below_greatest xs n c.told-readings c.requires
