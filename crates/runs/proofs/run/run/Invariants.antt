-- What the steps that are left come to, from where the loop stands, is what the run comes to.
use Rattle.std.proofs.Common.{◌≡◌, ◌-◌}
use Rattle.calls.specs.Run.{run_for, run_of}
use Rattle.runs.proofs.run.run.Given as goal

abbrev pub invariant-loop : goal.invariant-loop
invariant-loop l = run_for (l.end - l.counter) l.words l.s ≡ run_of l.initial.words l.s
