-- The scale of an opening: its rule (Rules 1.8), and a factor for each of the axes 2 to 5 (Rules 1.5).
use Rattle.std.specs.Prelude.{ℕ, ◌+◌, Bool, cond, ◌&&◌, eqb, leb}
use Rattle.points.specs.declared.scale.Scale.{Scale}
use Rattle.points.specs.Rule.{plain_rule, dry_rule, shift_of}

-- how much an axis counts in the square: its factor, 0 for an axis that the rule does not take in
unfoldable pub count_of : Scale → ℕ → ℕ
count_of scale axis =
    cond (eqb axis (2 + shift_of scale.rule)) scale.weight
    (cond (eqb axis (3 + shift_of scale.rule)) scale.moisture
    (cond (eqb axis (4 + shift_of scale.rule)) scale.speed (cond (eqb axis (5 + shift_of scale.rule)) scale.draw 0)))

-- the greatest factor under a rule
unfoldable pub most_factor : ℕ → ℕ
most_factor rule = cond (eqb rule dry_rule) 16 1000

-- a factor from 1 to that
abbrev pub factor_in : ℕ → ℕ → Bool
factor_in rule factor = leb 1 factor && leb factor (most_factor rule)

-- Rules 7.1, question 17: "Is every factor 1 to 1,000, under rule 2 1 to 16?"
unfoldable pub factors_in : Scale → Bool
factors_in scale =
    ((factor_in scale.rule scale.weight && factor_in scale.rule scale.moisture) && factor_in scale.rule scale.speed)
    && factor_in scale.rule scale.draw

-- rule 1 and four ones, with which the square is the plain sum of the squared differences
abbrev pub plain_scale : Scale
plain_scale = record { rule = plain_rule; weight = 1; moisture = 1; speed = 1; draw = 1 }
