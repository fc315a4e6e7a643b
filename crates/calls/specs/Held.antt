-- The records held: "those on the leaves linked from the root" (Rules 6.1).
use Rattle.std.specs.Prelude.{ℕ, zero, suc, List, [], ◌∷◌, ◌++◌}
use Rattle.stations.specs.Counts.{counts_at}
use Rattle.points.specs.declared.point.Point.{Point}
use Rattle.rows.specs.declared.row.Row.{Row}
use Rattle.rows.specs.declared.row.Row.TheVariants.{Bad, Spare, Removed, Leaf, Cut}
use Rattle.rows.specs.Row.{row_at}
use Rattle.stations.specs.Common.{rows_in}

-- a record, a point and a curve
pub record Held : Type 0 where
  pub point : Point
  pub curve : ℕ

-- the records on a leaf, or on the leaves below a cut
abbrev pub records_of : Row → (ℕ → List Held) → List Held
records_of Bad below = []
records_of (Spare next freed) below = []
records_of (Removed next freed added point curve) below = []
records_of (Leaf parent added point curve) below = record { point = point; curve = curve } ∷ []
records_of (Cut parent cut left right) below = below left ++ below right

-- the records below a row, at most n rows down
unfoldable pub held_below : List ℕ → ℕ → ℕ → ℕ → List Held
held_below words rows zero r = []
held_below words rows (suc n) r = records_of (row_at words rows r) (λ child. held_below words rows n child)

-- the records held; no way down is longer than the rows are many
unfoldable pub held_in : List ℕ → List Held
held_in words = held_below words (rows_in words) (rows_in words) (counts_at words).root
