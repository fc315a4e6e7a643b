use Rattle.std.proofs.Common.{◌≡◌, rules}
use mathlib.Core.Bool.{cond}
use lib.Dec.{eqb}
use mir.Syntax.{w32}
use mir.Val.{SFits}
use Rattle.std.proofs.lemmas.Int.{to_z-of_z}
use Rattle.points.specs.Point.{coordinate_of}
use Rattle.points.proofs.MachineLaws.{passed}
use Rattle.points.proofs.PointLaws.{coordinate_picked}
use Rattle.points.proofs.point.Point.coordinate.Goals as goal

pub returns : goal.returns
returns c =
    let grade : SFits w32 c.args.self.grade = search rules in
    let weight : SFits w32 c.args.self.weight = search rules in
    let moisture : SFits w32 c.args.self.moisture = search rules in
    let speed : SFits w32 c.args.self.speed = search rules in
    let draw : SFits w32 c.args.self.draw = search rules in
    let fourth : SFits w32 c.pick-four.result = search rules in
    let third : SFits w32 c.pick-three.result = search rules in
    let second : SFits w32 c.pick-two.result = search rules in
    let four : c.pick-four.result ≡ cond (eqb c.args.axis 4) c.args.self.speed c.args.self.draw = simp to_z-of_z at c.pick-four.ensures in
    let three : c.pick-three.result ≡ cond (eqb c.args.axis 3) c.args.self.moisture c.pick-four.result = simp to_z-of_z at c.pick-three.ensures in
    let two : c.pick-two.result ≡ cond (eqb c.args.axis 2) c.args.self.weight c.pick-three.result = simp to_z-of_z at c.pick-two.ensures in
    let one : c.pick.result ≡ cond (eqb c.args.axis 1) c.args.self.grade c.pick-two.result = simp to_z-of_z at c.pick.ensures in
    let all : c.pick.result ≡ coordinate_of c.args.self c.args.axis = rw (one, two, three, four) (coordinate_picked c.args.self c.args.axis) in
    passed all c.pick.type_inv
