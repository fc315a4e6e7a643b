-- What opening writes of the records: zero in every word of them, so that every station is idle (`state_cleared`) and has made no change, and mark, places, limit and factors, so
-- that the slice is opened (`opened_begun`). The words beyond the records stay.
-- Assumes nothing.
use mathlib.Core.Path.{◌≡◌, refl, ap, sym, ◌∙◌}
use mathlib.Core.Bool.{Bool, true, false, cond}
use mathlib.Core.List.{List, ◌++◌}
use Prim.Native.Nat.{ℕ, zero, suc, ◌-◌, ◌≤◌, ◌<◌, min}
use native.Mathlib.Omega.{arith}
use native.Mathlib.Decide.{ℕ_discrete}
use borrow.Author.Tests.{ltb-true, ltb-false}
use lib.Dec.{ltb}
use lib.ListN.{length, get_or, take, drop}
use lib.Seq.{get_or-drop}
use Rattle.std.proofs.Common.{replicate}
use Rattle.std.proofs.Math.ListN.{get_or-append}
use Rattle.std.proofs.lemmas.List.{get_or-append_right, get_or-replicate, length-replicate, length-append, length-take, length-drop}
use Rattle.points.specs.declared.scale.Scale.{Scale}
use Rattle.points.specs.Rule.{rule_in}
use Rattle.points.specs.Scale.{factors_in}
use Rattle.words.specs.Layout.{stations, records, words_for, at_mark, at_places, at_limit, at_scale, at_counter, at_station}
use Rattle.words.specs.Words.{get, put}
use Rattle.words.specs.Agree.{in_common, in_station, Beyond}
use Rattle.words.proofs.WordLaws.{words_same, length_put, get_put_same, get_put_other}
use Rattle.words.proofs.AgreeLaws.{elsewhere, only_apart, station_common}
use Rattle.words.proofs.BeyondLaws.{beyond_refl, beyond_common}
use Rattle.stations.specs.Station.{idle, has_station, state_at}
use Rattle.stations.specs.Counter.{counter_at}
use Rattle.stations.specs.Scale.{scale_at}
use Rattle.stations.specs.Common.{mark, places_in, limit_in, mark_at, places_at, limit_at, Opened, opened_in, cleared, records_cleared, put_opening}
use Rattle.stations.proofs.StationLaws.{There, there_of, there_tells}
use Rattle.stations.proofs.OpeningLaws.{places_tells, limit_tells, opened_of, headed, headed_words, scaled_words, put_opening_only, length_put_opening}
use Rattle.stations.proofs.ScaleLaws.{scale_back}
use Rattle.stations.proofs.RecordLaws.{state_at_is, state_at_agree}

-- ---- zero in the first words

first_beyond : (m : ℕ) (w : List ℕ) (n : ℕ) → m ≤ n → Beyond (cleared m w) w n
unfolding cleared
first_beyond zero w n h = beyond_refl w n
first_beyond (suc m) w n h =
    let b = first_beyond m w n (omega arith) in
    record { lengths = length_put (cleared m w) m 0 ∙ b.lengths; words = λ k l. get_put_other (cleared m w) m k 0 (λ e. omega arith) ∙ b.words k l }

first_zero : (m : ℕ) (w : List ℕ) (k : ℕ) → k < m → k < length w → get (cleared m w) k ≡ 0
unfolding cleared
first_zero zero w k l h = absurd (omega arith)
first_zero (suc m) w k l h = go (ℕ_discrete k m) (λ below. first_zero m w k below h)
  where
    go : Dec (k ≡ m) → (k < m → get (cleared m w) k ≡ 0) → get (put (cleared m w) m 0) k ≡ 0
    go (yes e) f = rw e (get_put_same (cleared m w) m 0 (omega (arith, (first_beyond m w m (omega arith)).lengths)))
    go (no d) f = get_put_other (cleared m w) m k 0 d ∙ f (omega arith)

-- so the words are zeros, and then those beyond
first_fill : (m : ℕ) (w : List ℕ) → cleared m w ≡ replicate (min m (length w)) 0 ++ drop (min m (length w)) w
unfolding get
first_fill m w =
    words_same (cleared m w) (replicate n 0 ++ drop n w) (beyond.lengths ∙ sym size)
    (λ k l. go k (omega (arith, beyond.lengths)) (ltb k n) refl)
  where
    n : ℕ
    n = min m (length w)

    beyond : Beyond (cleared m w) w m
    beyond = first_beyond m w m (omega arith)

    size : length (replicate n 0 ++ drop n w) ≡ length w
    size = omega (arith, length-append {A = ℕ} (replicate n 0) (drop n w), length-replicate {A = ℕ} n 0, length-drop {A = ℕ} n w)

    go : (k : ℕ) → k < length w → (b : Bool) → ltb k n ≡ b → get (cleared m w) k ≡ get (replicate n 0 ++ drop n w) k
    go k l true e =
        let h : k < n = ltb-true k n e in
        first_zero m w k (omega arith) l ∙ sym (get_or-append {A = ℕ} (replicate n 0) (drop n w) 0 k (omega (arith, length-replicate {A = ℕ} n 0)) ∙ get_or-replicate {A = ℕ} n k 0 0 h)
    go k l false e =
        let h : n ≤ k = ltb-false k n e in
        beyond.words k (omega arith) ∙ sym (get_or-append_right {X = ℕ} (replicate n 0) (drop n w) n k 0 (length-replicate {A = ℕ} n 0) h ∙ get_or-drop n w (k - n) 0 ∙ ap (λ (j : ℕ). get_or w j 0) (omega arith))

-- ---- the records cleared
module _ (w : List ℕ) where
  cleared_fill : records_cleared w ≡ replicate (min records (length w)) 0 ++ drop (min records (length w)) w
  unfolding records_cleared
  cleared_fill = first_fill records w

  -- as a function fills them: v is the part that it fills, of the length of the first n words
  pub cleared_filled : (v : List ℕ) (n : ℕ) → n ≡ min records (length w) → v ≡ replicate (length (take n w)) 0 → v ++ drop n w ≡ records_cleared w
  cleared_filled v n e f =
      let size : length (take n w) ≡ n = omega (arith, length-take {A = ℕ} n w) in
      rw (f, size, e) (sym cleared_fill)

  pub cleared_beyond : {n : ℕ} → records ≤ n → Beyond (records_cleared w) w n
  unfolding records_cleared
  cleared_beyond {n} h = first_beyond records w n h

  pub length_cleared : length (records_cleared w) ≡ length w
  length_cleared = (cleared_beyond {n = records} (omega arith)).lengths

  -- every station is idle
  pub state_cleared : records ≤ length w → (s : ℕ) → s < stations → state_at (records_cleared w) s ≡ idle
  unfolding records_cleared at_station
  state_cleared h s l =
      state_at_is (records_cleared w) s (there_of (records_cleared w) s (record { station = l; long = omega (arith, length_cleared) }))
      ∙ (λ i. record { word = first_zero records w (at_station s) (omega arith) (omega arith) i })

  -- and has made no change
  pub counter_cleared : records ≤ length w → (s : ℕ) → counter_at (records_cleared w) s ≡ 0
  unfolding counter_at records_cleared at_counter
  counter_cleared h s = go (has_station (records_cleared w) s) (there_tells (records_cleared w) s)
    where
      go : (b : Bool) → (b ≡ true → There (records_cleared w) s) → cond b (get (records_cleared w) (at_counter s)) 0 ≡ 0
      go true f = first_zero records w (at_counter s) (omega (arith, (f refl).station)) (omega (arith, (f refl).station))
      go false f = refl

-- ---- mark, places, limit and factors
module _ (w : List ℕ) (places limit : ℕ) (scale : Scale) where
  pub opening_beyond : {n : ℕ} → records ≤ n → Beyond (put_opening w places limit scale) w n
  opening_beyond h = beyond_common (put_opening_only w places limit scale) h

  -- the stations' records stay
  pub state_put_opening : (s : ℕ) → state_at (put_opening w places limit scale) s ≡ state_at w s
  state_put_opening s = state_at_agree s (elsewhere in_common (in_station s) (put_opening_only w places limit scale) (station_common s))

  scale_begun : records ≤ length w → scale_at (put_opening w places limit scale) ≡ scale
  unfolding put_opening
  scale_begun h = scale_back (headed w places limit) scale (omega (arith, (headed_words w places limit).lengths))

  -- and the slice is opened
  pub opened_begun : places_in places ≡ true → limit_in limit ≡ true → rule_in scale.rule ≡ true → factors_in scale ≡ true → words_for places ≤ length w
      → opened_in (put_opening w places limit scale) ≡ Opened places limit scale
  unfolding mark_at places_at limit_at at_mark at_places at_limit at_scale
  opened_begun p l r f h =
      opened_of (put_opening w places limit scale) places limit scale (record {
        first = headed_at at_mark (omega arith) ∙ get_put_other two at_limit at_mark limit (λ e. omega arith) ∙ get_put_other one at_places at_mark places (λ e. omega arith) ∙ get_put_same w at_mark mark (omega arith);
        places_word = headed_at at_places (omega arith) ∙ get_put_other two at_limit at_places limit (λ e. omega arith) ∙ get_put_same one at_places places (omega (arith, length_put w at_mark mark));
        limit_word = headed_at at_limit (omega arith) ∙ get_put_same two at_limit limit (omega (arith, length_put one at_places places, length_put w at_mark mark));
        scale_word = scale_begun (omega arith);
        places_least = (places_tells places p).0;
        places_most = (places_tells places p).1;
        limit_least = (limit_tells limit l).0;
        limit_most = (limit_tells limit l).1;
        rule = r;
        factors = f;
        long = omega (arith, length_put_opening w places limit scale);
      })
    where
      one : List ℕ
      one = put w at_mark mark

      two : List ℕ
      two = put one at_places places

      -- the first three words are not the scale's
      headed_at : (k : ℕ) → k < 3 → get (put_opening w places limit scale) k ≡ get (headed w places limit) k
      headed_at k l = (only_apart (scaled_words w places limit scale) 0 3 (λ n h i h' i'. omega arith)).words k (omega arith) (omega arith)
