-- What is still to be written comes to the whole.
use Rattle.std.proofs.Common.{◌≡◌, ◌+◌}
use Rattle.std.proofs.Math.ListN.{drop}
use Rattle.numbers.specs.Bytes.{put_all}
use Rattle.numbers.proofs.bytes.put_bytes.Given as goal

abbrev pub invariant-loop-i : goal.invariant-loop-i
invariant-loop-i l = put_all l.bytes (l.at + l.i) (drop l.i l.part) ≡ put_all l.initial.bytes l.at l.part
