-- How far a search has come: the best record so far, and where it stands. What a record that is considered makes of the best, how a search goes on, and one that
-- has met a row that is not what it must be.
use Rattle.std.specs.Prelude.{ℕ, Bool, true, false, ◌&&◌, ◌||◌, eqb, leb}
use Rattle.points.specs.declared.point.Point.{Point}
use Rattle.points.specs.Choice.{same_grade, chosen_over}
use Rattle.stations.specs.declared.call.Best.{Best}
use Rattle.calls.specs.declared.aim.Aim.{Aim}
use Rattle.calls.specs.declared.progress.Progress.{Progress}

-- one of two bests, and one of two progresses
abbrev pub pick_best : Bool → Best → Best → Best
pick_best true x y = x
pick_best false x y = y

abbrev pub pick_progress : Bool → Progress → Progress → Progress
pick_progress true x y = x
pick_progress false x y = y

-- there is no best, or the point is chosen over it
abbrev pub better : Aim → Best → Point → Bool
better aim best point = eqb best.curve 0 || chosen_over aim.scale aim.point point best.point

-- a record that the search may find: its number is at most as-of, and its grade is the target's
abbrev pub may_find : Aim → ℕ → Point → Bool
may_find aim added point = leb added aim.asof && same_grade aim.point point

-- a record prevails: the search may find it, and there is no best or it is chosen over the best
abbrev pub prevails : Aim → Best → ℕ → Point → Bool
prevails aim best added point = may_find aim added point && better aim best point

-- a record is considered
unfoldable pub considered : Aim → Best → ℕ → Point → ℕ → Best
considered aim best added point curve = pick_best (prevails aim best added point) (record { curve = curve; point = point }) best

-- the search goes on so
abbrev pub onward : Progress → ℕ → ℕ → Best → Progress
onward p cursor phase best = record { cursor = cursor; phase = phase; missed = p.missed; best = best; sound = p.sound }

-- a row was not what it must be
abbrev pub strayed : Progress → Progress
strayed p = record { cursor = p.cursor; phase = p.phase; missed = p.missed; best = p.best; sound = false }
