-- An unfinished call goes on: at another table of the same scale, another tree, queue or track its seat has to say anew only as-of, phase and work (`busy_on`).
use Prim.Native.Nat.{ℕ, ◌≤◌}
use mathlib.Core.List.{List}
use mathlib.Core.Option.{Option}
use mathlib.Core.Path.{◌≡◌, sym, subst}
use mathlib.Core.Bool.{true}
use Rattle.points.specs.declared.scale.Scale.{Scale}
use Rattle.points.specs.Number.{in_range_by}
use Rattle.stations.specs.declared.track.Track.{Track}
use Rattle.table.specs.Call.{Call, point_of, Answer}
use Rattle.table.specs.Table.{Table, all_changes}
use Rattle.trees.specs.Tree.{Tree}
use Rattle.trees.specs.Queue.{Free}
use Rattle.history.specs.View.{Seat, with_track}
use Rattle.history.specs.Related.{Works, Busy}

pub busy_on : {t : Table} {tree : Option Tree} {queue : List Free} {seat : Seat} {i : ℕ} {call : Call} {set : Option Answer} → Busy t tree queue seat i call set
    → {t' : Table} {tree' : Option Tree} {queue' : List Free} {set' : Option Answer} (track : Track) → t'.scale ≡ t.scale → seat.call.asof ≤ all_changes t' → track.phase ≤ 1
    → Works t' tree' queue' (with_track seat track) i call set' → Busy t' tree' queue' (with_track seat track) i call set'
busy_on {t} {tree} {queue} {seat} {i} {call} {set} v {t'} track scale asof phase works = record {
  state = v.state;
  kind = v.kind;
  point = v.point;
  curve = v.curve;
  ranged = subst (λ (x : Scale). in_range_by x.rule (point_of call) ≡ true) (sym scale) v.ranged;
  fits = v.fits;
  asof = asof;
  kept = subst (λ (x : Scale). in_range_by x.rule seat.call.best.point ≡ true) (sym scale) v.kept;
  phase = phase;
  works = works;
}
