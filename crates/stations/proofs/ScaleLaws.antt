-- The scale: what is written is read back (`scale_back`), and it is a matter of five words of the common record (`scale_words_lem`).
-- Assumes nothing.
use mathlib.Core.Path.{◌≡◌, refl, ap, ◌∙◌}
use mathlib.Core.Bool.{cond}
use mathlib.Core.List.{List}
use Prim.Native.Nat.{ℕ, ◌+◌, ◌≤◌, ◌<◌}
use native.Mathlib.Omega.{arith}
use borrow.Author.Tests.{leb-true, le-leb}
use lib.Dec.{leb}
use lib.ListN.{length, get_or}
use Rattle.points.specs.declared.scale.Scale.{Scale}
use Rattle.words.specs.Layout.{common_size, at_scale, at_rule}
use Rattle.words.specs.Words.{get, splice}
use Rattle.words.specs.Rule.{rule_at}
use Rattle.words.specs.Agree.{Agree, Only, in_common, start_of, size_of, AgreeIn}
use Rattle.words.proofs.Splice.{splice_inside}
use Rattle.words.proofs.AgreeLaws.{agree_within, splice_only, cond_only}
use Rattle.stations.specs.Scale.{scale_from, no_scale, scale_at, scale_words, put_scale}

-- slices that agree on the five words have the same scale
pub scale_words_lem : {v w : List ℕ} → Agree v w at_scale 5 → scale_at v ≡ scale_at w
unfolding scale_at scale_from rule_at at_scale at_rule
scale_words_lem {v} {w} g =
    ap (λ (n : ℕ). cond (leb common_size n) (scale_from v) no_scale) g.lengths
    ∙ (λ i. cond (leb common_size (length w)) (record { rule = at 4 (omega arith) i; weight = at 0 (omega arith) i; moisture = at 1 (omega arith) i; speed = at 2 (omega arith) i; draw = at 3 (omega arith) i }) no_scale)
  where
    at : (k : ℕ) → k < 5 → get v (at_scale + k) ≡ get w (at_scale + k)
    at k l = g.words (at_scale + k) (omega arith) (omega arith)

-- so slices that agree in the common record have
pub scale_agree : {v w : List ℕ} → AgreeIn v w in_common → scale_at v ≡ scale_at w
unfolding start_of size_of at_scale
scale_agree g = scale_words_lem (agree_within g at_scale 5 (omega arith) (omega arith))

-- ---- the scale written
module _ (w : List ℕ) (scale : Scale) where
  fits : common_size ≤ length w → at_scale + 5 ≤ length w
  unfolding at_scale
  fits h = omega arith

  -- five words are
  pub put_scale_words : Only (put_scale w scale) w at_scale 5
  unfolding put_scale scale_words
  put_scale_words = cond_only (leb common_size (length w)) (λ e. splice_only w (scale_words scale) at_scale 5 (fits (leb-true common_size (length w) e)) refl)

  pub length_put_scale : length (put_scale w scale) ≡ length w
  length_put_scale = put_scale_words.lengths

  -- and read back
  pub scale_back : common_size ≤ length w → scale_at (put_scale w scale) ≡ scale
  unfolding scale_at scale_from rule_at put_scale get scale_words at_scale at_rule
  scale_back h =
      rw (ap (leb common_size) length_put_scale ∙ le-leb common_size (length w) h, le-leb common_size (length w) h)
      (λ i. record { rule = at 4 (omega arith) i; weight = at 0 (omega arith) i; moisture = at 1 (omega arith) i; speed = at 2 (omega arith) i; draw = at 3 (omega arith) i })
    where
      at : (k : ℕ) → k < 5 → get (splice w (scale_words scale) at_scale 5) (at_scale + k) ≡ get_or (scale_words scale) k 0
      at k l = splice_inside w (scale_words scale) at_scale 5 (fits h) refl k l

-- the rule of the scale is the one that rows are judged by
pub scale_rule : (w : List ℕ) → common_size ≤ length w → (scale_at w).rule ≡ rule_at w
unfolding scale_at scale_from
scale_rule w h = rw (le-leb common_size (length w) h)
