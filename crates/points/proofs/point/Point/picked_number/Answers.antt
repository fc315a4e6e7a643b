use Rattle.std.proofs.Common.{◌≡◌, rules}
use mathlib.Core.Bool.{cond}
use lib.Dec.{eqb, leb}
use mir.Syntax.{w32}
use mir.Val.{SFits}
use Rattle.std.proofs.lemmas.Int.{to_z-of_z}
use Rattle.points.specs.Number.{number_of}
use Rattle.points.proofs.MachineLaws.{passed}
use Rattle.points.proofs.NumberLaws.{number_picked}
use Rattle.points.proofs.point.Point.picked_number.Goals as goal

pub returns : goal.returns
returns c =
    let drawn : SFits w32 c.grown-2.result = search rules in
    let sped : SFits w32 c.grown.result = search rules in
    let wet : SFits w32 c.grown-3.result = search rules in
    let solid : SFits w32 c.dry.result = search rules in
    let own : SFits w32 c.coordinate.result = search rules in
    let eighth : SFits w32 c.pick-eight.result = search rules in
    let seventh : SFits w32 c.pick-seven.result = search rules in
    let sixth : SFits w32 c.pick-six.result = search rules in
    let eight : c.pick-eight.result ≡ cond (eqb c.args.axis 8) c.grown.result c.grown-2.result = simp to_z-of_z at c.pick-eight.ensures in
    let seven : c.pick-seven.result ≡ cond (eqb c.args.axis 7) c.grown-3.result c.pick-eight.result = simp to_z-of_z at c.pick-seven.ensures in
    let six : c.pick-six.result ≡ cond (eqb c.args.axis 6) c.dry.result c.pick-seven.result = simp to_z-of_z at c.pick-six.ensures in
    let one : c.pick.result ≡ cond (leb c.args.axis 5) c.coordinate.result c.pick-six.result = simp to_z-of_z at c.pick.ensures in
    let all : c.pick.result ≡ number_of c.args.self c.args.axis =
    rw (one, six, seven, eight, c.coordinate.ensures, c.dry.ensures, c.grown-3.ensures, c.grown.ensures, c.grown-2.ensures) (number_picked c.args.self c.args.axis)
    in
    passed all c.pick.type_inv
