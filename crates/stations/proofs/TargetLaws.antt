-- The target of a station's last search: what is written is read back (`target_back`), and the targets of other stations stay (`target_other`).
-- Assumes nothing.
use Prim.Native.Nat.{ℕ, ◌+◌, ◌*◌, ◌/◌, ◌%◌, ◌≤◌, ◌<◌}
use mathlib.Core.Path.{◌≡◌, refl, ap, ◌∙◌}
use mathlib.Core.Bool.{true}
use mathlib.Core.List.{List}
use native.Mathlib.Omega.{arith}
use lib.ListN.{length}
use lib.Arith.{digits_div, digits_mod}
use Rattle.points.specs.declared.point.Point.{Point}
use Rattle.points.specs.Point.{on_axis, in_range}
use Rattle.points.specs.Word.{word_of}
use Rattle.points.proofs.Tests.{and_i}
use Rattle.points.proofs.PointLaws.{in_range_axis}
use Rattle.points.proofs.WordLaws.{word_le_span, grade_span, moisture_span, point_at_words}
use Rattle.words.specs.Layout.{common_size, at_target}
use Rattle.words.specs.Words.{splice}
use Rattle.words.specs.Agree.{Agree, Only, in_common, start_of, size_of, AgreeIn, OnlyIn}
use Rattle.stations.specs.Station.{has_station}
use Rattle.stations.specs.Target.{moistures, pair_of, target_of, target_words, no_target, target_at, put_target}
use Rattle.words.proofs.Splice.{length_splice, splice_part}
use Rattle.words.proofs.AgreeLaws.{agree_within, part_agree, only_within, only_apart, splice_only, splice_agree, cond_only}
use Rattle.stations.proofs.StationLaws.{there_tells, there_length, there_agree, target_fits, read_same}

-- ---- grade and moisture in one word
pub grade_most : (p : Point) → on_axis p 1 ≡ true → word_of p 1 ≤ 9998
grade_most p e = omega (arith, word_le_span 1 p e, grade_span)

pub moisture_most : (p : Point) → on_axis p 3 ≡ true → word_of p 3 < moistures
moisture_most p e = omega (arith, word_le_span 3 p e, moisture_span)

-- the four words of a point in range give it back
words_back : (p : Point) → in_range p ≡ true → target_of (target_words p) ≡ p
unfolding pair_of target_of target_words
words_back p e =
    let small = moisture_most p (in_range_axis p e 3) in
    let grade : pair_of p / moistures ≡ word_of p 1 = ap (λ n. n / moistures) pair ∙ digits_div (word_of p 1) small in
    let moisture : pair_of p % moistures ≡ word_of p 3 = ap (λ n. n % moistures) pair ∙ digits_mod (word_of p 1) small in
    rw (grade, moisture) (point_at_words p e)
  where
    pair : pair_of p ≡ word_of p 1 * moistures + word_of p 3
    pair = rw (and_i (in_range_axis p e 1) (in_range_axis p e 3))

-- ---- what is read

-- slices that agree on the four words have the same target
target_agree : {v w : List ℕ} (s : ℕ) → Agree v w (at_target s) 4 → target_at v s ≡ target_at w s
unfolding target_at
target_agree {v} {w} s g = rw (there_length v w s g.lengths, part_agree g) refl

-- so slices that agree on the words of the eight targets have
pub target_words_lem : {v w : List ℕ} (s : ℕ) → Agree v w (at_target 0) 32 → target_at v s ≡ target_at w s
unfolding target_at at_target
target_words_lem {v} {w} s g =
    read_same no_target v w s g.lengths (λ t. ap target_of (part_agree (agree_within g (at_target s) 4 (omega arith) (omega (arith, t.station)))))

-- and slices that agree in the common record
pub target_at_agree : {v w : List ℕ} → AgreeIn v w in_common → (s : ℕ) → target_at v s ≡ target_at w s
unfolding start_of size_of at_target
target_at_agree g s = target_words_lem s (agree_within g (at_target 0) 32 (omega arith) (omega arith))

-- ---- the target written
module _ (w : List ℕ) (s : ℕ) (p : Point) where
  four_only : Only (put_target w s p) w (at_target s) 4
  unfolding put_target target_words
  four_only = cond_only (has_station w s) (λ e. splice_only w (target_words p) (at_target s) 4 (target_fits (there_tells w s e)) refl)

  -- words of the targets are
  pub put_target_words : Only (put_target w s p) w (at_target 0) 32
  unfolding put_target target_words at_target
  put_target_words =
      cond_only (has_station w s)
      (λ e. let t = there_tells w s e in
      only_within (splice_only w (target_words p) (at_target s) 4 (target_fits t) refl) (at_target 0) 32 (omega arith) (omega (arith, t.station)))

  pub put_target_only : OnlyIn (put_target w s p) w in_common
  unfolding start_of size_of at_target
  put_target_only = only_within put_target_words 0 common_size (omega arith) (omega arith)

  pub length_put_target : length (put_target w s p) ≡ length w
  length_put_target = put_target_words.lengths

  -- the target of another station stays
  pub target_other : (u : ℕ) → ¬ (u ≡ s) → target_at (put_target w s p) u ≡ target_at w u
  unfolding at_target
  target_other u d = target_agree u (only_apart four_only (at_target u) 4 (λ k a b c e. d (omega arith)))

  -- a target in range is read back
  pub target_back : has_station w s ≡ true → in_range p ≡ true → target_at (put_target w s p) s ≡ p
  unfolding target_at put_target target_words
  target_back here e =
      let r = target_fits (there_tells w s here) in
      let there = there_length (splice w (target_words p) (at_target s) 4) w s (length_splice w (target_words p) (at_target s) 4 r refl) ∙ here in
      rw (here, there) (ap target_of (splice_part w (target_words p) (at_target s) 4 r refl) ∙ words_back p e)

pub put_target_agree : {v w : List ℕ} {a n : ℕ} → Agree v w a n → (s : ℕ) (p : Point) → Agree (put_target v s p) (put_target w s p) a n
unfolding put_target target_words
put_target_agree g s p = there_agree s g (λ t. splice_agree g (target_words p) (at_target s) 4 (target_fits t) refl)
