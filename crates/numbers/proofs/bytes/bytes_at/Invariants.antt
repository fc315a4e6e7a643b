-- There are N bytes, and those before the turn are the ones from the offset on.
use Rattle.std.proofs.Common.{◌≡◌, ℕ, ◌+◌, ◌<◌, get_or, length}
use Rattle.numbers.proofs.bytes.bytes_at.Given as goal

abbrev pub invariant-loop-i : goal.invariant-loop-i
invariant-loop-i g l = (length l.x-items ≡ g.row.N) × ((k : ℕ) → k < l.i → get_or l.x-items k 0 ≡ get_or l.bytes (l.at + k) 0)
