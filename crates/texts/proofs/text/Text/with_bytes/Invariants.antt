-- The bytes so far stand behind the text.
use Rattle.std.proofs.Common.{take}
use Rattle.texts.specs.Text.{Puts}
use Rattle.texts.proofs.text.Text.with_bytes.Given as goal

abbrev pub invariant-loop-b : goal.invariant-loop-b
invariant-loop-b l = Puts l.fn.self (take l.b-index l.from) l.text
