-- The climb still to come, from where the loop stands, is the one asked for, unless it is no longer sound.
use Rattle.std.proofs.Common.{◌≡◌, ◌-◌, ◌&&◌}
use Rattle.calls.specs.Climb.{climb}
use Rattle.audits.proofs.tree.Rooted.climbs.Given as goal

abbrev pub invariant-loop : goal.invariant-loop
invariant-loop l =
    climb l.self.words.now l.self.rows l.self.root l.point l.self.rows l.r l.parent
    ≡ (l.c.sound && climb l.self.words.now l.self.rows l.self.root l.point (l.self.rows - l.counter) l.c.from l.c.up)
