-- The two rules of distance (Rules 1.8), of which an opening chooses one. Rule 1 goes by the coordinates themselves; rule 2 by the dry weight and by
-- moisture, speed and draw times 10,000, which are four more axes of a point, 6 to 9 (`specs/Number`).
use Rattle.std.specs.Prelude.{ℕ, ◌+◌, Bool, cond, ◌&&◌, ◌||◌, eqb, leb}

-- the rule of the coordinates, and that of dry weight
abbrev pub plain_rule : ℕ
plain_rule = 1

abbrev pub dry_rule : ℕ
dry_rule = 2

-- Rules 7.1, question 20: "Is the rule 1 or 2?"
abbrev pub rule_in : ℕ → Bool
rule_in rule = leb plain_rule rule && leb rule dry_rule

-- how far the axes that a rule takes for 2 to 5 are from these
unfoldable pub shift_of : ℕ → ℕ
shift_of rule = cond (eqb rule dry_rule) 4 0

-- the k-th of the five axes that a rule goes by: grade is axis 1 under both
unfoldable pub axis_of : ℕ → ℕ → ℕ
axis_of rule k = cond (eqb k 1) 1 (k + shift_of rule)

-- an axis that a rule goes by
abbrev pub is_axis_by : ℕ → ℕ → Bool
is_axis_by rule axis = eqb axis 1 || (leb (2 + shift_of rule) axis && leb axis (5 + shift_of rule))
