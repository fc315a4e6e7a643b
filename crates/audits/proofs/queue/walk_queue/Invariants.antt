-- The walk still to come, from where the loop stands, is the one asked for.
use Rattle.std.proofs.Common.{◌≡◌, ◌-◌}
use Rattle.calls.specs.Queue.{walk_queue}
use Rattle.audits.proofs.queue.walk_queue.Given as goal

abbrev pub invariant-loop : goal.invariant-loop
invariant-loop l = walk_queue l.words l.rows l.released l.n l.fn.l ≡ walk_queue l.words l.rows l.released (l.n - l.counter) l.line
