-- The bytes of the header are those of its text, and there is room for them.
use Rattle.std.proofs.Common.{lit≤}
use Rattle.texts.specs.Line.{header_bytes}
use Rattle.texts.proofs.TextLaws.{puts_all}
use Rattle.texts.proofs.line.header.Goals as goal

pub returns : goal.returns
unfolding header_bytes
returns c = puts_all c.empty.ensures c.with_bytes.ensures (lit≤ tt)
