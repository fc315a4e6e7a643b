-- What a search may not do: take a record that is younger than its call, leave out a far side that may hold the record that wins a tie, or
-- pass over a row that it missed. Assumes nothing.
use Prim.Native.Nat.{ℕ, ◌<◌}
use mathlib.Core.Path.{◌≡◌, refl}
use mathlib.Core.Bool.{true, false}
use mathlib.Core.List.{List}
use borrow.Author.Tests.{eq-eqb, ne_eqb, lt-leb}
use Rattle.points.specs.declared.point.Point.{Point}
use Rattle.points.specs.declared.cut.Cut.{Cut as PointCut}
use Rattle.points.specs.Square.{square_of}
use Rattle.points.specs.Cut.{goes_left}
use Rattle.points.specs.Choice.{excluded}
use Rattle.points.specs.Word.{NONE}
use Rattle.rows.specs.declared.row.Row.TheVariants.{Removed, Leaf, Cut}
use Rattle.stations.specs.declared.call.Best.{Best}
use Rattle.rows.specs.Row.{row_at}
use Rattle.rows.specs.Grades.{admits}
use Rattle.calls.specs.declared.aim.Aim.{Aim}
use Rattle.calls.specs.declared.progress.Progress.{Progress}
use Rattle.calls.specs.Tour.{tour}
use Rattle.calls.specs.Look.{look}
use Rattle.calls.specs.Progress.{considered, onward}

-- a record that was added after the submission is not taken
pub considered_younger : (aim : Aim) (best : Best) (added : ℕ) (point : Point) (curve : ℕ) → aim.asof < added
    → considered aim best added point curve ≡ best
unfolding considered
considered_younger aim best added point curve young = rw (lt-leb added aim.asof young)

module _ (words : List ℕ) (rows : ℕ) (aim : Aim) (p : Progress) where
  -- from a leaf that is the near child the search goes over to a far child whose side admits the slot, unless the square of the best excludes that
  -- side: at an equal distance it does not
  pub tour_over : {parent added curve above right : ℕ} {point : Point} {cut : PointCut}
      → ¬ (p.cursor ≡ NONE) → p.phase ≡ 1 → row_at words rows p.cursor ≡ Leaf parent added point curve
      → ¬ (parent ≡ NONE) → row_at words rows parent ≡ Cut above cut p.cursor right → goes_left cut aim.point ≡ true
      → ¬ (p.best.curve ≡ 0) → excluded aim.scale cut aim.point (square_of aim.scale aim.point p.best.point) ≡ false
      → (slot : ℕ) → admits words parent false slot ≡ true
      → tour words rows slot aim p ≡ onward p right 0 p.best
  unfolding tour
  tour_over {parent} on up leaf under cut left some near slot admitted =
      rw (ne_eqb p.cursor NONE on, up, leaf, ne_eqb parent NONE under, cut, left, eq-eqb p.cursor p.cursor refl, admitted, ne_eqb p.best.curve 0 some, near)

  -- after a removed row the next removed row is the one to be looked at
  pub look_next : {next freed added curve after number older other : ℕ} {point at : Point}
      → ¬ (p.missed ≡ NONE) → row_at words rows p.missed ≡ Removed next freed added point curve → row_at words rows next ≡ Removed after number older at other
      → (look words rows aim p).missed ≡ next
  unfolding look
  look_next on row then = rw (ne_eqb p.missed NONE on, row, then)
