-- The scale of the common record: the factors of the opening, in four words one after the other, and then the rule.
use Rattle.std.specs.Prelude.{ℕ, ◌+◌, cond, List, [], ◌∷◌, leb, length}
use Rattle.points.specs.declared.scale.Scale.{Scale}
use Rattle.words.specs.Layout.{common_size, at_scale}
use Rattle.words.specs.Words.{get, splice}
use Rattle.words.specs.Rule.{rule_at}

-- the scale in the five words
unfoldable pub scale_from : List ℕ → Scale
scale_from words = record {
  rule = rule_at words;
  weight = get words at_scale;
  moisture = get words (at_scale + 1);
  speed = get words (at_scale + 2);
  draw = get words (at_scale + 3);
}

-- five zeros
abbrev pub no_scale : Scale
no_scale = record { rule = 0; weight = 0; moisture = 0; speed = 0; draw = 0 }

-- the scale; five zeros where the slice is too short for the common record
unfoldable pub scale_at : List ℕ → Scale
scale_at words = cond (leb common_size (length words)) (scale_from words) no_scale

-- its five words
unfoldable pub scale_words : Scale → List ℕ
scale_words scale = scale.weight ∷ scale.moisture ∷ scale.speed ∷ scale.draw ∷ scale.rule ∷ []

-- the words with that scale written; as they were where the slice is too short for the common record
unfoldable pub put_scale : List ℕ → Scale → List ℕ
put_scale words scale = cond (leb common_size (length words)) (splice words (scale_words scale) at_scale 5) words
