-- The common record has five parts: what opening writes, the counts, and the tracks, the counters and the targets of the stations. What is written in one
-- of them is not seen in another.
-- Assumes nothing.
use mathlib.Core.Path.{◌≡◌}
use mathlib.Core.List.{List}
use Prim.Native.Nat.{ℕ}
use native.Mathlib.Omega.{arith}
use Rattle.points.specs.declared.point.Point.{Point}
use Rattle.points.specs.declared.scale.Scale.{Scale}
use Rattle.words.specs.Layout.{at_counts, at_scale, at_rule, at_cursor, at_counter, at_target}
use Rattle.words.specs.Rule.{rule_at}
use Rattle.words.proofs.AgreeLaws.{only_apart}
use Rattle.words.proofs.RuleLaws.{rule_same}
use Rattle.stations.specs.declared.counts.Counts.{Counts}
use Rattle.stations.specs.declared.track.Track.{Track}
use Rattle.stations.specs.Counts.{counts_at, put_counts}
use Rattle.stations.specs.Track.{track_at, put_track}
use Rattle.stations.specs.Counter.{counter_at, change_counted}
use Rattle.stations.specs.Target.{target_at, put_target}
use Rattle.stations.specs.Common.{opened_in, put_opening}
use Rattle.stations.proofs.OpeningLaws.{opened_first, opening_apart}
use Rattle.stations.proofs.CountLaws.{counts_words, put_counts_words}
use Rattle.stations.proofs.TrackLaws.{track_words, put_track_words}
use Rattle.stations.proofs.CounterLaws.{counter_words, counted_words}
use Rattle.stations.proofs.TargetLaws.{target_words_lem, put_target_words}

-- ---- what opening writes
module _ (w : List ℕ) (places limit : ℕ) (scale : Scale) where
  pub counts_put_opening : counts_at (put_opening w places limit scale) ≡ counts_at w
  unfolding at_counts at_scale
  counts_put_opening = counts_words (opening_apart w places limit scale at_counts 6 (λ k h l h' l'. omega arith) (λ k h l h' l'. omega arith))

  pub track_put_opening : (u : ℕ) → track_at (put_opening w places limit scale) u ≡ track_at w u
  unfolding at_cursor at_scale
  track_put_opening u = track_words u (opening_apart w places limit scale (at_cursor 0) 32 (λ k h l h' l'. omega arith) (λ k h l h' l'. omega arith))

  pub counter_put_opening : (u : ℕ) → counter_at (put_opening w places limit scale) u ≡ counter_at w u
  unfolding at_counter at_scale
  counter_put_opening u = counter_words u (opening_apart w places limit scale (at_counter 0) 8 (λ k h l h' l'. omega arith) (λ k h l h' l'. omega arith))

  pub target_put_opening : (u : ℕ) → target_at (put_opening w places limit scale) u ≡ target_at w u
  unfolding at_target at_scale
  target_put_opening u = target_words_lem u (opening_apart w places limit scale (at_target 0) 32 (λ k h l h' l'. omega arith) (λ k h l h' l'. omega arith))

-- ---- the counts
module _ (w : List ℕ) (counts : Counts) where
  pub opened_put_counts : opened_in (put_counts w counts) ≡ opened_in w
  unfolding at_counts at_scale
  opened_put_counts = opened_first (only_apart (put_counts_words w counts) 0 3 (λ k h l h' l'. omega arith))
      (only_apart (put_counts_words w counts) at_scale 5 (λ k h l h' l'. omega arith))

  pub rule_put_counts : rule_at (put_counts w counts) ≡ rule_at w
  unfolding at_counts at_rule
  rule_put_counts = rule_same (only_apart (put_counts_words w counts) at_rule 1 (λ k h l h' l'. omega arith))

  pub track_put_counts : (u : ℕ) → track_at (put_counts w counts) u ≡ track_at w u
  unfolding at_counts at_cursor
  track_put_counts u = track_words u (only_apart (put_counts_words w counts) (at_cursor 0) 32 (λ k h l h' l'. omega arith))

  pub counter_put_counts : (u : ℕ) → counter_at (put_counts w counts) u ≡ counter_at w u
  unfolding at_counts at_counter
  counter_put_counts u = counter_words u (only_apart (put_counts_words w counts) (at_counter 0) 8 (λ k h l h' l'. omega arith))

  pub target_put_counts : (u : ℕ) → target_at (put_counts w counts) u ≡ target_at w u
  unfolding at_counts at_target
  target_put_counts u = target_words_lem u (only_apart (put_counts_words w counts) (at_target 0) 32 (λ k h l h' l'. omega arith))

-- ---- a track
module _ (w : List ℕ) (s : ℕ) (track : Track) where
  pub opened_put_track : opened_in (put_track w s track) ≡ opened_in w
  unfolding at_cursor at_scale
  opened_put_track = opened_first (only_apart (put_track_words w s track) 0 3 (λ k h l h' l'. omega arith))
      (only_apart (put_track_words w s track) at_scale 5 (λ k h l h' l'. omega arith))

  pub rule_put_track : rule_at (put_track w s track) ≡ rule_at w
  unfolding at_cursor at_rule
  rule_put_track = rule_same (only_apart (put_track_words w s track) at_rule 1 (λ k h l h' l'. omega arith))

  pub counts_put_track : counts_at (put_track w s track) ≡ counts_at w
  unfolding at_counts at_cursor
  counts_put_track = counts_words (only_apart (put_track_words w s track) at_counts 6 (λ k h l h' l'. omega arith))

  pub counter_put_track : (u : ℕ) → counter_at (put_track w s track) u ≡ counter_at w u
  unfolding at_cursor at_counter
  counter_put_track u = counter_words u (only_apart (put_track_words w s track) (at_counter 0) 8 (λ k h l h' l'. omega arith))

  pub target_put_track : (u : ℕ) → target_at (put_track w s track) u ≡ target_at w u
  unfolding at_cursor at_target
  target_put_track u = target_words_lem u (only_apart (put_track_words w s track) (at_target 0) 32 (λ k h l h' l'. omega arith))

-- ---- a counter
module _ (w : List ℕ) (s : ℕ) where
  pub opened_counted : opened_in (change_counted w s) ≡ opened_in w
  unfolding at_counter at_scale
  opened_counted = opened_first (only_apart (counted_words w s) 0 3 (λ k h l h' l'. omega arith))
      (only_apart (counted_words w s) at_scale 5 (λ k h l h' l'. omega arith))

  pub rule_counted : rule_at (change_counted w s) ≡ rule_at w
  unfolding at_counter at_rule
  rule_counted = rule_same (only_apart (counted_words w s) at_rule 1 (λ k h l h' l'. omega arith))

  pub counts_counted : counts_at (change_counted w s) ≡ counts_at w
  unfolding at_counts at_counter
  counts_counted = counts_words (only_apart (counted_words w s) at_counts 6 (λ k h l h' l'. omega arith))

  pub track_counted : (u : ℕ) → track_at (change_counted w s) u ≡ track_at w u
  unfolding at_cursor at_counter
  track_counted u = track_words u (only_apart (counted_words w s) (at_cursor 0) 32 (λ k h l h' l'. omega arith))

  pub target_counted : (u : ℕ) → target_at (change_counted w s) u ≡ target_at w u
  unfolding at_counter at_target
  target_counted u = target_words_lem u (only_apart (counted_words w s) (at_target 0) 32 (λ k h l h' l'. omega arith))

-- ---- a target
module _ (w : List ℕ) (s : ℕ) (p : Point) where
  pub opened_put_target : opened_in (put_target w s p) ≡ opened_in w
  unfolding at_target at_scale
  opened_put_target = opened_first (only_apart (put_target_words w s p) 0 3 (λ k h l h' l'. omega arith))
      (only_apart (put_target_words w s p) at_scale 5 (λ k h l h' l'. omega arith))

  pub rule_put_target : rule_at (put_target w s p) ≡ rule_at w
  unfolding at_target at_rule
  rule_put_target = rule_same (only_apart (put_target_words w s p) at_rule 1 (λ k h l h' l'. omega arith))

  pub counts_put_target : counts_at (put_target w s p) ≡ counts_at w
  unfolding at_counts at_target
  counts_put_target = counts_words (only_apart (put_target_words w s p) at_counts 6 (λ k h l h' l'. omega arith))

  pub track_put_target : (u : ℕ) → track_at (put_target w s p) u ≡ track_at w u
  unfolding at_cursor at_target
  track_put_target u = track_words u (only_apart (put_target_words w s p) (at_cursor 0) 32 (λ k h l h' l'. omega arith))

  pub counter_put_target : (u : ℕ) → counter_at (put_target w s p) u ≡ counter_at w u
  unfolding at_counter at_target
  counter_put_target u = counter_words u (only_apart (put_target_words w s p) (at_counter 0) 8 (λ k h l h' l'. omega arith))
