-- What the figures are of the readings so far.
use Rattle.window.proofs.FiguresLaws.{Running}
use Rattle.window.proofs.sound.Sound.summary.Given as goal

abbrev pub invariant-loop-reading : goal.invariant-loop-reading
invariant-loop-reading l = Running l.readings l.reading-index l.sum l.least l.greatest
