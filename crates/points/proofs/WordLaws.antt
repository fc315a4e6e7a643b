-- Law 6: a point is in range exactly if each of its words is at most high − low (`in_range_words`), and storing then loading gives it back
-- (`point_at_words`); the same for the point of five words, under a rule too (`point_at_by`), and for cuts.
-- Assumes nothing.
use mathlib.Core.Path.{◌≡◌, refl, sym, ap, ◌∙◌}
use mathlib.Core.Bool.{Bool, true, false, not, ◌&&◌, ◌||◌}
use Prim.Native.Nat.{ℕ, zero, suc, ◌+◌, ◌-◌, ◌≤◌}
use native.Mathlib.Omega.{arith}
use borrow.Author.Tests.{leb-true, leb-false, le-leb, lt-leb, eqb-true, ne_eqb}
use lib.Dec.{eqb, leb, ltb, lit≤}
use lib.IntN.{pos, ◌+ℤ◌}
use lib.Signed.{lt_z}
use mir.Syntax.{w32}
use mir.Val.{SFits}
use Rattle.points.specs.declared.point.Point.{Point}
use Rattle.points.specs.declared.cut.Cut.{Cut}
use Rattle.points.specs.Point.{index_of, range_of, within_range, coordinate_of, on_axis, in_range}
use Rattle.points.specs.Rule.{dry_rule, shift_of, is_axis_by}
use Rattle.points.specs.Number.{number_range_of, in_range_by}
use Rattle.points.specs.Word.{stored_in, loaded_in, sum_range_of, span_in, span_of, sum_span_of, word_of, coordinate_at, point_at, is_axis, cut_in_range, axis_word_of, sum_word_of, cut_at}
use Rattle.points.proofs.Tests.{no!, and_l, and_r, and_i, leb_cong}
use Rattle.points.proofs.IntegerLaws.{Near, near_more, near_add}
use Rattle.points.proofs.MachineLaws.{in32, of_fits, fits32, back32}
use Rattle.points.proofs.PointLaws.{reach, range_sound, range_below, sum_range_sound, sum_range_below, sum_range_span, number_range_sound, in_range_axis}
use Rattle.points.proofs.NumberLaws.{shift_le}
use Rattle.points.proofs.RangeLaws.{span_raise, stored_le, stored_high, loaded_is, loaded, loaded_stored, stored_loaded, within_stored, within_loaded}

-- ---- points

-- the range of an axis is such
module _ (axis : ℕ) where
  half : reach ≤ 2147483648
  half = lit≤ tt

  pub word_le_span : (p : Point) → on_axis p axis ≡ true → word_of p axis ≤ span_of axis
  unfolding word_of on_axis
  word_le_span p e = stored_le (range_of axis) (range_sound axis) half (range_below axis) (coordinate_of p axis) e

  pub on_axis_word : (p : Point) → on_axis p axis ≡ leb (word_of p axis) (span_of axis)
  unfolding word_of on_axis
  on_axis_word p = within_stored (range_of axis) (range_sound axis) half (range_below axis) (coordinate_of p axis)

  coordinate_back : (p : Point) → on_axis p axis ≡ true → coordinate_at axis (word_of p axis) ≡ coordinate_of p axis
  unfolding word_of on_axis coordinate_at
  coordinate_back p e = loaded_stored (range_of axis) (range_sound axis) half (range_below axis) (coordinate_of p axis) e

  word_back : (w : ℕ) → w ≤ span_of axis → stored_in (range_of axis) (coordinate_at axis w) ≡ w
  unfolding coordinate_at
  word_back w h = stored_loaded (range_of axis) (range_sound axis) half (range_below axis) w h

  word_test : (w : ℕ) → within_range (range_of axis) (coordinate_at axis w) ≡ leb w (span_of axis)
  unfolding coordinate_at
  word_test w = within_loaded (range_of axis) (range_sound axis) half (range_below axis) w

  word_again : (w : ℕ) → within_range (range_of axis) (coordinate_at axis w) ≡ true → stored_in (range_of axis) (coordinate_at axis w) ≡ w
  word_again w e = word_back w (leb-true w (span_of axis) (sym (word_test w) ∙ e))

-- the words of grades and moistures, by number
pub grade_span : span_of 1 ≡ 9998
unfolding span_in range_of index_of
grade_span = refl

pub moisture_span : span_of 3 ≡ 10000
unfolding span_in range_of index_of
moisture_span = refl

-- in range exactly if each stored word is at most high − low
pub in_range_words : (p : Point)
    → in_range p ≡ ((((leb (word_of p 1) (span_of 1) && leb (word_of p 2) (span_of 2)) && leb (word_of p 3) (span_of 3)) && leb (word_of p 4) (span_of 4)) && leb (word_of p 5) (span_of 5))
unfolding in_range
in_range_words p = λ i. (((on_axis_word 1 p i && on_axis_word 2 p i) && on_axis_word 3 p i) && on_axis_word 4 p i) && on_axis_word 5 p i

-- storing then loading gives the point back
pub point_at_words : (p : Point) → in_range p ≡ true → point_at (word_of p 1) (word_of p 2) (word_of p 3) (word_of p 4) (word_of p 5) ≡ p
unfolding point_at coordinate_of
point_at_words p e = λ i. record {
  grade = coordinate_back 1 p (in_range_axis p e 1) i;
  weight = coordinate_back 2 p (in_range_axis p e 2) i;
  moisture = coordinate_back 3 p (in_range_axis p e 3) i;
  speed = coordinate_back 4 p (in_range_axis p e 4) i;
  draw = coordinate_back 5 p (in_range_axis p e 5) i;
}

-- the moisture of a word
moisture_test : (w : ℕ) → w ≤ span_of 3 → lt_z (coordinate_at 3 w) (pos 10000) ≡ ltb w 10000
unfolding coordinate_at range_of index_of
moisture_test w h =
    let plain : 0 + w ≡ w = omega arith in
    ap (λ z. lt_z z (pos 10000)) (loaded_is (range_of 3) (range_sound 3) (lit≤ tt) (range_below 3) w h) ∙ ap (λ n. ltb n 10000) plain

and_false : (a : Bool) → (a && false) ≡ false
and_false true = refl
and_false false = refl

-- the last of four tests, as the second
and_last : (a b c d : Bool) → (((a && b) && c) && d) ≡ (((a && d) && b) && c)
and_last false b c d = refl
and_last true true true true = refl
and_last true true true false = refl
and_last true true false true = refl
and_last true true false false = refl
and_last true false c true = refl
and_last true false c false = refl

module _ (grade weight moisture speed draw : ℕ) where
  -- the point of five words is in range exactly if each is at most high − low
  pub point_at_in_range : in_range (point_at grade weight moisture speed draw)
      ≡ ((((leb grade (span_of 1) && leb weight (span_of 2)) && leb moisture (span_of 3)) && leb speed (span_of 4)) && leb draw (span_of 5))
  unfolding in_range on_axis point_at coordinate_of
  point_at_in_range = λ i. (((word_test 1 grade i && word_test 2 weight i) && word_test 3 moisture i) && word_test 4 speed i) && word_test 5 draw i

  -- and under a rule, if the moisture's is one that the rule lets pass
  pub point_at_by : (rule : ℕ) → in_range_by rule (point_at grade weight moisture speed draw)
      ≡ (((((leb grade (span_of 1) && leb weight (span_of 2)) && leb moisture (span_of 3)) && (not (eqb rule dry_rule) || ltb moisture 10000)) && leb speed (span_of 4)) && leb draw (span_of 5))
  unfolding in_range_by point_at
  point_at_by rule = ap (λ t. t && (not (eqb rule dry_rule) || lt_z (coordinate_at 3 moisture) (pos 10000))) point_at_in_range ∙ go (leb moisture (span_of 3)) refl
    where
      first : Bool
      first = leb grade (span_of 1) && leb weight (span_of 2)

      go : (t : Bool) → leb moisture (span_of 3) ≡ t
          → ((((first && leb moisture (span_of 3)) && leb speed (span_of 4)) && leb draw (span_of 5)) && (not (eqb rule dry_rule) || lt_z (coordinate_at 3 moisture) (pos 10000)))
          ≡ ((((first && leb moisture (span_of 3)) && (not (eqb rule dry_rule) || ltb moisture 10000)) && leb speed (span_of 4)) && leb draw (span_of 5))
      go true e =
          rw (moisture_test moisture (leb-true moisture (span_of 3) e))
          (and_last (first && leb moisture (span_of 3)) (leb speed (span_of 4)) (leb draw (span_of 5)) (not (eqb rule dry_rule) || ltb moisture 10000))
      go false e = rw (e, and_false first)

  -- the words of that point, where it is in range
  pub record Words (p : Point) : Type 0 where
    pub grade_word : word_of p 1 ≡ grade
    pub weight_word : word_of p 2 ≡ weight
    pub moisture_word : word_of p 3 ≡ moisture
    pub speed_word : word_of p 4 ≡ speed
    pub draw_word : word_of p 5 ≡ draw

  pub words_of_point : in_range (point_at grade weight moisture speed draw) ≡ true → Words (point_at grade weight moisture speed draw)
  unfolding word_of point_at coordinate_of on_axis
  words_of_point e =
      let p = point_at grade weight moisture speed draw in
      record {
        grade_word = word_again 1 grade (in_range_axis p e 1);
        weight_word = word_again 2 weight (in_range_axis p e 2);
        moisture_word = word_again 3 moisture (in_range_axis p e 3);
        speed_word = word_again 4 speed (in_range_axis p e 4);
        draw_word = word_again 5 draw (in_range_axis p e 5);
      }

-- ---- cuts
axis_back : (axis : ℕ) → is_axis axis ≡ true → axis - 1 + 1 ≡ axis
axis_back axis e = omega (arith, leb-true 1 axis (and_l (leb 1 axis) (leb axis 9) e))

axis_word : (axis : ℕ) → is_axis axis ≡ true → leb (axis - 1) 8 ≡ true
axis_word axis e = le-leb (axis - 1) 8 (omega (arith, leb-true axis 9 (and_r (leb 1 axis) (leb axis 9) e)))

-- an axis that a rule goes by is one of the nine
axis_one : (rule axis : ℕ) → is_axis_by rule axis ≡ true → is_axis axis ≡ true
axis_one rule axis e = go (eqb axis 1) refl (leb (2 + shift_of rule) axis) refl (leb axis (5 + shift_of rule)) refl e
  where
    both : 1 ≤ axis → axis ≤ 9 → is_axis axis ≡ true
    both h k = and_i (le-leb 1 axis h) (le-leb axis 9 k)

    go : (p : Bool) → eqb axis 1 ≡ p → (q : Bool) → leb (2 + shift_of rule) axis ≡ q → (r : Bool) → leb axis (5 + shift_of rule) ≡ r
        → (p || (q && r)) ≡ true → is_axis axis ≡ true
    go true f q g r h k = let one = eqb-true axis 1 f in both (omega arith) (omega arith)
    go false f true g true h k = both (omega (arith, leb-true (2 + shift_of rule) axis g)) (omega (arith, leb-true axis (5 + shift_of rule) h, shift_le rule))
    go false f true g false h k = no! k
    go false f false g r h k = no! k

-- by the word of the axis, one less than its number
pub axis_by_word : (rule axis : ℕ) → is_axis_by rule (axis + 1) ≡ (eqb axis 0 || (leb (1 + shift_of rule) axis && leb axis (4 + shift_of rule)))
axis_by_word rule zero = refl
axis_by_word rule (suc n) =
    let by = shift_of rule in
    let low = leb_cong (2 + by) (suc n + 1) (1 + by) (suc n) (λ h. omega arith) (λ h. omega arith) in
    let high = leb_cong (suc n + 1) (5 + by) (suc n) (4 + by) (λ h. omega arith) (λ h. omega arith) in
    rw (ne_eqb (suc n + 1) 1 (λ e. omega arith), ne_eqb (suc n) 0 (λ e. omega arith)) (λ i. low i && high i)

-- storing then loading gives the cut back
pub cut_at_words : (rule : ℕ) (k : Cut) → cut_in_range rule k ≡ true → cut_at (axis_word_of k) (sum_word_of k) ≡ k
unfolding cut_in_range cut_at axis_word_of sum_word_of
cut_at_words rule k e =
    let a = axis_one rule k.axis (and_l (is_axis_by rule k.axis) (within_range (sum_range_of k.axis) k.sum) e) in
    let s = and_r (is_axis_by rule k.axis) (within_range (sum_range_of k.axis) k.sum) e in
    let back = axis_back k.axis a in
    let r = sum_range_of k.axis in
    let sum : loaded_in r (stored_in r k.sum) ≡ k.sum = loaded_stored r (sum_range_sound k.axis) (lit≤ tt) (sum_range_below k.axis) k.sum s in
    rw (a, axis_word k.axis a, back) (λ i. record { axis = k.axis; sum = sum i })

-- the cut of two words is in range exactly if each is at most its greatest, and the axis is one that the rule goes by
pub cut_at_in_range : (rule axis sum : ℕ) → cut_in_range rule (cut_at axis sum) ≡ (is_axis_by rule (axis + 1) && leb sum (sum_span_of (axis + 1)))
unfolding cut_in_range cut_at
cut_at_in_range rule axis sum = go (leb axis 8) refl
  where
    none : (t : Bool) → is_axis_by rule (axis + 1) ≡ t → leb axis 8 ≡ false → t ≡ false
    none true e f = absurd (omega (arith, leb-false axis 8 f, leb-true (axis + 1) 9 (and_r (leb 1 (axis + 1)) (leb (axis + 1) 9) (axis_one rule (axis + 1) e))))
    none false e f = refl

    go : (t : Bool) → leb axis 8 ≡ t → cut_in_range rule (cut_at axis sum) ≡ (is_axis_by rule (axis + 1) && leb sum (sum_span_of (axis + 1)))
    go true e = rw e (λ i. is_axis_by rule (axis + 1) && within_loaded (sum_range_of (axis + 1)) (sum_range_sound (axis + 1)) (lit≤ tt) (sum_range_below (axis + 1)) sum i)
    go false e = rw (e, none (is_axis_by rule (axis + 1)) refl e, lt-leb (2 + shift_of rule) 0 (omega arith))

-- so both words are in range whatever the rule
pub cut_words_tell : (rule axis sum : ℕ) → cut_in_range rule (cut_at axis sum) ≡ true → (axis ≤ 8) × (sum ≤ sum_span_of (axis + 1))
cut_words_tell rule axis sum e =
    let a = is_axis_by rule (axis + 1) in
    let b = leb sum (sum_span_of (axis + 1)) in
    let pair : (a && b) ≡ true = sym (cut_at_in_range rule axis sum) ∙ e in
    let h = leb-true (axis + 1) 9 (and_r (leb 1 (axis + 1)) (leb (axis + 1) 9) (axis_one rule (axis + 1) (and_l a b pair))) in
    (omega arith, leb-true sum (sum_span_of (axis + 1)) (and_r a b pair))

-- that cut, where its words are: the next axis, and the least sum there with the word added, all of which 32 bits hold
pub record SoundCut (axis sum : ℕ) : Type 0 where
  pub axis_small : axis ≤ 8
  pub small : sum ≤ 2000000000
  pub low : Near (reach + reach) (sum_range_of (axis + 1)).low
  pub near : Near (reach + reach) ((sum_range_of (axis + 1)).low +ℤ pos sum)
  pub is : cut_at axis sum ≡ record { axis = axis + 1; sum = (sum_range_of (axis + 1)).low +ℤ pos sum }

pub cut_plainly : (axis sum : ℕ) → axis ≤ 8 → sum ≤ sum_span_of (axis + 1) → SoundCut axis sum
unfolding cut_at
cut_plainly axis sum h second =
    let first = le-leb axis 8 h in
    let r = sum_range_of (axis + 1) in
    let s = sum_range_sound (axis + 1) in
    let t = sum_range_below (axis + 1) in
    let plain = loaded_is r s (lit≤ tt) t sum second in
    record {
      axis_small = h;
      small = omega (arith, second, span_raise r s (lit≤ tt) t, sum_range_span (axis + 1));
      low = s.low;
      near = (loaded r s (lit≤ tt) t sum second).near;
      is = rw first (λ i. record { axis = axis + 1; sum = plain i });
    }

-- the words of that cut, where it is in range
pub record CutWords (axis sum : ℕ) (k : Cut) : Type 0 where
  pub axis_part : axis_word_of k ≡ axis
  pub sum_part : sum_word_of k ≡ sum

pub words_of_cut : (rule axis sum : ℕ) → cut_in_range rule (cut_at axis sum) ≡ true → CutWords axis sum (cut_at axis sum)
unfolding cut_at axis_word_of sum_word_of
words_of_cut rule axis sum e =
    let tell = cut_words_tell rule axis sum e in
    let first = le-leb axis 8 tell.0 in
    let one : is_axis (axis + 1) ≡ true = and_i (le-leb 1 (axis + 1) (omega arith)) (le-leb (axis + 1) 9 (omega (arith, tell.0))) in
    let minus : axis + 1 - 1 ≡ axis = omega arith in
    record {
      axis_part = rw (first, one) minus;
      sum_part = rw first (stored_loaded (sum_range_of (axis + 1)) (sum_range_sound (axis + 1)) (lit≤ tt) (sum_range_below (axis + 1)) sum tell.1);
    }

-- the greatest number of an axis, and the greatest of its sums, as words
pub range_high : (axis : ℕ) → stored_in (range_of axis) (range_of axis).high ≡ span_of axis
range_high axis = stored_high (range_of axis) (range_sound axis) (lit≤ tt) (range_below axis)

pub sum_range_high : (axis : ℕ) → stored_in (sum_range_of axis) (sum_range_of axis).high ≡ sum_span_of axis
sum_range_high axis = stored_high (sum_range_of axis) (sum_range_sound axis) (lit≤ tt) (sum_range_below axis)

-- twice an end of a range fits
pub sum_fits : (axis : ℕ) → SFits w32 ((number_range_of axis).low +ℤ (number_range_of axis).low)
sum_fits axis = let n = (number_range_sound axis).low in fits32 (near_more 2147483648 (lit≤ tt) (near_add _ _ n n))

pub sum_fits_high : (axis : ℕ) → SFits w32 ((number_range_of axis).high +ℤ (number_range_of axis).high)
sum_fits_high axis = let n = (number_range_sound axis).high in fits32 (near_more 2147483648 (lit≤ tt) (near_add _ _ n n))

-- and is read back
pub sum_read : (axis : ℕ) → in32 (in32 (number_range_of axis).low +ℤ in32 (number_range_of axis).low) ≡ (number_range_of axis).low +ℤ (number_range_of axis).low
sum_read axis =
    let low = near_more 2147483648 (lit≤ tt) (number_range_sound axis).low in
    ap in32 (λ i. back32 low i +ℤ back32 low i) ∙ back32 (of_fits (sum_fits axis))

pub sum_read_high : (axis : ℕ) → in32 (in32 (number_range_of axis).high +ℤ in32 (number_range_of axis).high) ≡ (number_range_of axis).high +ℤ (number_range_of axis).high
sum_read_high axis =
    let high = near_more 2147483648 (lit≤ tt) (number_range_sound axis).high in
    ap in32 (λ i. back32 high i +ℤ back32 high i) ∙ back32 (of_fits (sum_fits_high axis))
