-- Question 4: what an opened slice has (`opened_tells`, `opened_of`), that this is a matter of the common record and the length alone, and the rows that it has.
-- Assumes nothing.
use mathlib.Core.Path.{◌≡◌, refl, sym, ap, ◌∙◌}
use mathlib.Core.Bool.{Bool, true, false, cond, ◌&&◌}
use mathlib.Core.List.{List}
use Prim.Native.Nat.{ℕ, ◌*◌, ◌≤◌, ◌<◌}
use native.Mathlib.Omega.{arith}
use borrow.Author.Tests.{leb-true, eqb-true, le-leb}
use lib.Dec.{eqb, leb}
use lib.ListN.{length}
use Rattle.points.specs.declared.scale.Scale.{Scale}
use Rattle.points.specs.Rule.{rule_in}
use Rattle.points.specs.Scale.{factors_in}
use Rattle.points.proofs.Tests.{and_l, and_r, and_i}
use Rattle.words.specs.Layout.{stations, common_size, records, most_places, most_rows, most_limit, words_for, at_mark, at_places, at_limit, at_scale, Fits}
use Rattle.words.specs.Words.{put}
use Rattle.words.specs.Rule.{rule_at}
use Rattle.words.specs.Agree.{Agree, Apart, Only, in_common, start_of, size_of, AgreeIn, OnlyIn}
use Rattle.stations.specs.Station.{has_station}
use Rattle.stations.specs.Scale.{scale_at}
use Rattle.stations.specs.Common.{mark, places_in, limit_in, mark_at, places_at, limit_at, open_in, Refused, Opened, opened_in, is_opened, rows_in, put_opening}
use Rattle.words.proofs.AgreeLaws.{agree_within, agree_trans, only_trans, only_within, only_apart, put_only}
use Rattle.words.proofs.BeyondLaws.{fits_of, fits_records}
use Rattle.stations.proofs.StationLaws.{there_fits}
use Rattle.stations.proofs.ScaleLaws.{scale_words_lem, put_scale_words, scale_rule}

-- ---- the ranges of places and limit
pub places_tells : (places : ℕ) → places_in places ≡ true → (1 ≤ places) × (places ≤ most_places)
unfolding places_in
places_tells p e = (leb-true 1 p (and_l (leb 1 p) (leb p most_places) e), leb-true p most_places (and_r (leb 1 p) (leb p most_places) e))

pub places_of : (places : ℕ) → 1 ≤ places → places ≤ most_places → places_in places ≡ true
unfolding places_in
places_of p h l = and_i (le-leb 1 p h) (le-leb p most_places l)

pub limit_tells : (limit : ℕ) → limit_in limit ≡ true → (1 ≤ limit) × (limit ≤ most_limit)
unfolding limit_in
limit_tells n e = (leb-true 1 n (and_l (leb 1 n) (leb n most_limit) e), leb-true n most_limit (and_r (leb 1 n) (leb n most_limit) e))

pub limit_of : (limit : ℕ) → 1 ≤ limit → limit ≤ most_limit → limit_in limit ≡ true
unfolding limit_in
limit_of n h l = and_i (le-leb 1 n h) (le-leb n most_limit l)

-- ---- question 4

-- what an opened slice has
pub record IsOpen (w : List ℕ) (places limit : ℕ) (scale : Scale) : Type 0 where
  pub first : mark_at w ≡ mark
  pub places_word : places_at w ≡ places
  pub limit_word : limit_at w ≡ limit
  pub scale_word : scale_at w ≡ scale
  pub places_least : 1 ≤ places
  pub places_most : places ≤ most_places
  pub limit_least : 1 ≤ limit
  pub limit_most : limit ≤ most_limit
  pub rule : rule_in scale.rule ≡ true
  pub factors : factors_in scale ≡ true
  pub long : words_for places ≤ length w

open_tells : (w : List ℕ) → open_in (mark_at w) (places_at w) (limit_at w) (scale_at w) (length w) ≡ true → IsOpen w (places_at w) (limit_at w) (scale_at w)
unfolding open_in
open_tells w e =
    let m = mark_at w in
    let p = places_at w in
    let l = limit_at w in
    let r = rule_in (scale_at w).rule in
    let f = factors_in (scale_at w) in
    let five = and_l ((((eqb m mark && places_in p) && limit_in l) && r) && f) (leb (words_for p) (length w)) e in
    let four = and_l (((eqb m mark && places_in p) && limit_in l) && r) f five in
    let three = and_l ((eqb m mark && places_in p) && limit_in l) r four in
    let two = and_l (eqb m mark && places_in p) (limit_in l) three in
    let ps = places_tells p (and_r (eqb m mark) (places_in p) two) in
    let ls = limit_tells l (and_r (eqb m mark && places_in p) (limit_in l) three) in
    record {
      first = eqb-true m mark (and_l (eqb m mark) (places_in p) two);
      places_word = refl;
      limit_word = refl;
      scale_word = refl;
      places_least = ps.0;
      places_most = ps.1;
      limit_least = ls.0;
      limit_most = ls.1;
      rule = and_r ((eqb m mark && places_in p) && limit_in l) r four;
      factors = and_r (((eqb m mark && places_in p) && limit_in l) && r) f five;
      long = leb-true (words_for p) (length w) (and_r ((((eqb m mark && places_in p) && limit_in l) && r) && f) (leb (words_for p) (length w)) e);
    }

-- question 4 passes exactly on such a slice
pub opened_tells : (w : List ℕ) (places limit : ℕ) (scale : Scale) → opened_in w ≡ Opened places limit scale → IsOpen w places limit scale
unfolding opened_in
opened_tells w places limit scale e = go (open_in (mark_at w) (places_at w) (limit_at w) (scale_at w) (length w)) refl e
  where
    go : (b : Bool) → open_in (mark_at w) (places_at w) (limit_at w) (scale_at w) (length w) ≡ b
        → cond b (Opened (places_at w) (limit_at w) (scale_at w)) Refused ≡ Opened places limit scale → IsOpen w places limit scale
    go true f h =
        let p : places_at w ≡ places = cc in
        let l : limit_at w ≡ limit = cc in
        let s : scale_at w ≡ scale = cc in
        rw (← p, ← l, ← s) (open_tells w f)
    go false f h = let z : ◌≡◌ {A = ℕ} 0 1 = cc in absurd (omega arith)

pub opened_of : (w : List ℕ) (places limit : ℕ) (scale : Scale) → IsOpen w places limit scale → opened_in w ≡ Opened places limit scale
unfolding opened_in open_in
opened_of w places limit scale o =
    rw (
      o.first,
      o.places_word,
      o.limit_word,
      o.scale_word,
      places_of places o.places_least o.places_most,
      limit_of limit o.limit_least o.limit_most,
      o.rule,
      o.factors,
      le-leb (words_for places) (length w) o.long,
    )

-- question 4, as a test
pub opened_is : (w : List ℕ) → is_opened (opened_in w) ≡ open_in (mark_at w) (places_at w) (limit_at w) (scale_at w) (length w)
unfolding opened_in
opened_is w = go (open_in (mark_at w) (places_at w) (limit_at w) (scale_at w) (length w))
  where
    go : (b : Bool) → is_opened (cond b (Opened (places_at w) (limit_at w) (scale_at w)) Refused) ≡ b
    go true = refl
    go false = refl

-- ---- an opened slice
module _ (w : List ℕ) (places limit : ℕ) (scale : Scale) (o : opened_in w ≡ Opened places limit scale) where
  is_open : IsOpen w places limit scale
  is_open = opened_tells w places limit scale o

  -- it holds two rows for each place
  pub opened_fits : Fits w (2 * places)
  opened_fits = fits_of w places is_open.places_most is_open.long

  -- it has the records
  pub opened_long : records ≤ length w
  opened_long = fits_records w (2 * places) opened_fits

  -- its rule is the one that rows are judged by
  pub opened_rule : rule_at w ≡ scale.rule
  opened_rule = sym (scale_rule w (omega (arith, opened_long))) ∙ ap (λ (x : Scale). x.rule) is_open.scale_word

  pub opened_station : (s : ℕ) → s < stations → has_station w s ≡ true
  opened_station s l = there_fits w (2 * places) s opened_fits l

  -- its rows
  pub rows_in_lem : rows_in w ≡ 2 * places
  unfolding rows_in
  rows_in_lem = rw (is_open.places_word, le-leb places most_places is_open.places_most)

-- no slice has more rows than the greatest index
pub rows_most : (w : List ℕ) → rows_in w ≤ most_rows
unfolding rows_in
rows_most w = go (leb (places_at w) most_places) refl
  where
    go : (b : Bool) → leb (places_at w) most_places ≡ b → cond b (2 * places_at w) 0 ≤ most_rows
    go true e = omega (arith, leb-true (places_at w) most_places e)
    go false e = omega arith

-- ---- slices that agree

-- question 4 is a matter of the first three words, the five of the scale, and the length
pub opened_first : {v w : List ℕ} → Agree v w 0 3 → Agree v w at_scale 5 → opened_in v ≡ opened_in w
unfolding opened_in mark_at places_at limit_at at_mark at_places at_limit
opened_first g f =
    rw (g.words 0 (omega arith) (omega arith), g.words 1 (omega arith) (omega arith), g.words 2 (omega arith) (omega arith), scale_words_lem f, g.lengths)

module _ {v w : List ℕ} (g : AgreeIn v w in_common) where
  pub opened_in_agree : opened_in v ≡ opened_in w
  unfolding start_of size_of at_scale
  opened_in_agree = opened_first (agree_within g 0 3 (omega arith) (omega arith)) (agree_within g at_scale 5 (omega arith) (omega arith))

  pub places_agree : places_at v ≡ places_at w
  unfolding places_at at_places start_of size_of
  places_agree = g.words 1 (omega arith) (omega arith)

  pub limit_agree : limit_at v ≡ limit_at w
  unfolding limit_at at_limit start_of size_of
  limit_agree = g.words 2 (omega arith) (omega arith)

  pub rows_in_agree : rows_in v ≡ rows_in w
  unfolding rows_in
  rows_in_agree = ap (λ x. cond (leb x most_places) (2 * x) 0) places_agree

-- ---- mark, places, limit and scale written

-- the words with mark, places and limit alone
abbrev pub headed : List ℕ → ℕ → ℕ → List ℕ
headed w places limit = put (put (put w at_mark mark) at_places places) at_limit limit

module _ (w : List ℕ) (places limit : ℕ) where
  -- three words are
  pub headed_words : Only (headed w places limit) w 0 3
  unfolding at_mark at_places at_limit
  headed_words =
      only_trans (only_within (put_only (put (put w at_mark mark) at_places places) at_limit limit) 0 3 (omega arith) (omega arith))
      (only_trans (only_within (put_only (put w at_mark mark) at_places places) 0 3 (omega arith) (omega arith)) (only_within (put_only w at_mark mark) 0 3 (omega arith) (omega arith)))

  module _ (scale : Scale) where
    -- and then the five of the scale
    pub scaled_words : Only (put_opening w places limit scale) (headed w places limit) at_scale 5
    unfolding put_opening
    scaled_words = put_scale_words (headed w places limit) scale

    pub put_opening_only : OnlyIn (put_opening w places limit scale) w in_common
    unfolding start_of size_of at_scale
    put_opening_only =
        only_trans (only_within scaled_words 0 common_size (omega arith) (omega arith)) (only_within headed_words 0 common_size (omega arith) (omega arith))

    pub length_put_opening : length (put_opening w places limit scale) ≡ length w
    length_put_opening = scaled_words.lengths ∙ headed_words.lengths

    -- another part of the common record is not touched by either
    pub opening_apart : (a n : ℕ) → Apart a n 0 3 → Apart a n at_scale 5 → Agree (put_opening w places limit scale) w a n
    opening_apart a n f g = agree_trans (only_apart scaled_words a n g) (only_apart headed_words a n f)
