-- The rule of the opening (Rules 3.1), by which the rows and the records of the stations are judged; 0 where the slice has no such word.
use Rattle.std.specs.Prelude.{ℕ, List}
use Rattle.words.specs.Layout.{at_rule}
use Rattle.words.specs.Words.{get}

unfoldable pub rule_at : List ℕ → ℕ
rule_at words = get words at_rule
