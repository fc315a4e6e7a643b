-- Law 1: two different points in range get different sides of their cut, under either rule (`cut_parts`); and that cut can be stored (`cut_in_range_lem`).
-- Assumes nothing.
use mathlib.Core.Path.{◌≡◌, refl, sym, ap, ◌∙◌}
use mathlib.Core.Bool.{Bool, true, false, not, ◌||◌}
use Prim.Native.Nat.{ℕ, zero, suc, ◌+◌, ◌≤◌, ◌<◌}
use native.Mathlib.Omega.{arith}
use native.Mathlib.Numerals.{add-one}
use borrow.Author.Tests.{ltb-true, ltb-false, lt-ltb, le-ltb, le-leb, eqb-false}
use native.Mathlib.Decide.{dec_le}
use lib.Dec.{ltb, eqb, lit≤}
use lib.IntN.{ℤ, ◌+ℤ◌}
use Rattle.points.specs.declared.point.Point.{Point}
use Rattle.points.specs.declared.cut.Spread.{Spread}
use Rattle.points.specs.Number.{number_of, number_range_of, in_range_by}
use Rattle.points.specs.Rule.{shift_of, axis_of, is_axis_by}
use Rattle.points.specs.Square.{gap_of}
use Rattle.points.specs.Cut.{pick_spread, wider_of, spread_of, widest_of, cut_of, goes_left}
use Rattle.points.specs.Word.{sum_range_of, cut_in_range}
use Rattle.points.proofs.Tests.{and_i}
use Rattle.points.proofs.IntegerLaws.{raise, Near, near_add, near_more, raise_add, raise_inj, lt_z_raise, apart_raise}
use Rattle.points.proofs.PointLaws.{reach, Within, within_true, number_range_sound, sum_range_sound}
use Rattle.points.proofs.NumberLaws.{capped_plain, number_within, numbers_equal}

-- ---- the widest axis

-- a spread of the two points, on one of the first n axes of the rule
record Spreads (rule : ℕ) (a b : Point) (n : ℕ) (s : Spread) : Type 0 where
  own : s.gap ≡ gap_of a b s.axis
  place : ℕ
  least : 1 ≤ place
  most : place ≤ n
  on : s.axis ≡ axis_of rule place
  widest : (j : ℕ) → 1 ≤ j → j ≤ n → gap_of a b (axis_of rule j) ≤ s.gap

module _ (rule : ℕ) (a b : Point) where
  first : Spreads rule a b 1 (spread_of a b (axis_of rule 1))
  unfolding spread_of
  first = record {
    own = refl;
    place = 1;
    least = omega arith;
    most = omega arith;
    on = refl;
    widest = λ j h k. let e : j ≡ 1 = omega arith in rw e (omega arith);
  }

  next : (n : ℕ) (s : Spread) → Spreads rule a b n s → Spreads rule a b (suc n) (wider_of s (spread_of a b (axis_of rule (suc n))))
  unfolding wider_of spread_of
  next n s w = go (ltb s.gap (gap_of a b (axis_of rule (suc n)))) refl
    where
      new : Spread
      new = record { axis = axis_of rule (suc n); gap = gap_of a b (axis_of rule (suc n)) }

      wider_new : s.gap < gap_of a b (axis_of rule (suc n)) → (j : ℕ) → 1 ≤ j → j ≤ suc n → gap_of a b (axis_of rule j) ≤ gap_of a b (axis_of rule (suc n))
      wider_new h j l m = by (dec_le j n)
        where
          by : Dec (j ≤ n) → gap_of a b (axis_of rule j) ≤ gap_of a b (axis_of rule (suc n))
          by (yes k) = omega (arith, w.widest j l k)
          by (no k) = let e : j ≡ suc n = omega arith in rw e (omega arith)

      wider_old : gap_of a b (axis_of rule (suc n)) ≤ s.gap → (j : ℕ) → 1 ≤ j → j ≤ suc n → gap_of a b (axis_of rule j) ≤ s.gap
      wider_old h j l m = by (dec_le j n)
        where
          by : Dec (j ≤ n) → gap_of a b (axis_of rule j) ≤ s.gap
          by (yes k) = w.widest j l k
          by (no k) = let e : j ≡ suc n = omega arith in rw e h

      go : (t : Bool) → ltb s.gap (gap_of a b (axis_of rule (suc n))) ≡ t → Spreads rule a b (suc n) (pick_spread t new s)
      go true e = record {
        own = refl;
        place = suc n;
        least = omega arith;
        most = omega arith;
        on = refl;
        widest = wider_new (ltb-true s.gap (gap_of a b (axis_of rule (suc n))) e);
      }
      go false e = record {
        own = w.own;
        place = w.place;
        least = w.least;
        most = omega (arith, w.most);
        on = w.on;
        widest = wider_old (ltb-false s.gap (gap_of a b (axis_of rule (suc n))) e);
      }

-- what the widest axis is: the k-th of the rule, with a gap that no other of the five passes
pub record Widest (rule : ℕ) (a b : Point) (axis : ℕ) : Type 0 where
  pub place : ℕ
  pub least : 1 ≤ place
  pub most : place ≤ 5
  pub on : axis ≡ axis_of rule place
  pub widest : (j : ℕ) → 1 ≤ j → j ≤ 5 → gap_of a b (axis_of rule j) ≤ gap_of a b axis

pub widest_axis : (rule : ℕ) (a b : Point) → Widest rule a b (widest_of rule a b)
unfolding widest_of
widest_axis rule a b =
    let w = next rule a b 4 _ (next rule a b 3 _ (next rule a b 2 _ (next rule a b 1 _ (first rule a b)))) in
    record { place = w.place; least = w.least; most = w.most; on = w.on; widest = λ j h k. rw w.own at (w.widest j h k) }

-- an axis of a rule is one
axis_by : (rule k : ℕ) → 1 ≤ k → k ≤ 5 → is_axis_by rule (axis_of rule k) ≡ true
unfolding axis_of
axis_by rule k h l = go (eqb k 1) refl
  where
    go : (t : Bool) → eqb k 1 ≡ t → is_axis_by rule (axis_of rule k) ≡ true
    go true e = rw e
    go false e =
        let n = eqb-false k 1 e in
        let m : 2 ≤ k = omega (arith, n) in
        rw (e, le-leb (2 + shift_of rule) (k + shift_of rule) (omega arith), le-leb (k + shift_of rule) (5 + shift_of rule) (omega arith)) (or_true (eqb (k + shift_of rule) 1))
      where
        or_true : (t : Bool) → (t || true) ≡ true
        or_true true = refl
        or_true false = refl

-- ---- the sum
module _ (rule : ℕ) (a b : Point) (ra : in_range_by rule a ≡ true) (rb : in_range_by rule b ≡ true) where
  axis : ℕ
  axis = widest_of rule a b

  x : ℤ
  x = number_of a axis

  y : ℤ
  y = number_of b axis

  wx : Within reach (number_range_of axis) x
  unfolding x axis
  wx = let w = widest_axis rule a b in rw w.on (number_within rule a ra w.place w.least w.most)

  wy : Within reach (number_range_of axis) y
  unfolding y axis
  wy = let w = widest_axis rule a b in rw w.on (number_within rule b rb w.place w.least w.most)

  near_sum : Near (reach + reach) (x +ℤ y)
  near_sum = near_add x y wx.near wy.near

  -- the cut of points in range keeps the sum itself
  pub cut_plain : cut_of rule a b ≡ record { axis = widest_of rule a b; sum = number_of a (widest_of rule a b) +ℤ number_of b (widest_of rule a b) }
  unfolding cut_of x y axis
  cut_plain = λ i. record { axis = widest_of rule a b; sum = capped_plain (x +ℤ y) (near_more 2147483648 (lit≤ tt) near_sum) i }

  -- a cut's test of a point, over raised numbers
  side : (p : Point) → Within reach (number_range_of axis) (number_of p axis)
      → goes_left (cut_of rule a b) p ≡ ltb (raise reach (number_of p axis) + raise reach (number_of p axis)) (raise reach x + raise reach y)
  unfolding goes_left x y axis
  side p w =
      let z = number_of p (widest_of rule a b) in
      rw cut_plain
      (lt_z_raise (z +ℤ z) (x +ℤ y) (near_add z z w.near w.near) near_sum
      ∙ (λ i. ltb (raise_add z z w.near w.near i) (raise_add x y wx.near wy.near i)))

  -- different points differ on the widest axis
  differ : ¬ (a ≡ b) → raise reach x ≡ raise reach y → ⊥
  unfolding x y axis gap_of
  differ n e = n (numbers_equal rule a b ra rb same)
    where
      gap : gap_of a b (widest_of rule a b) ≡ 0
      gap = omega (arith, apart_raise (number_of a (widest_of rule a b)) (number_of b (widest_of rule a b)) wx.near wy.near)

      same : (j : ℕ) → 1 ≤ j → j ≤ 5 → number_of a (axis_of rule j) ≡ number_of b (axis_of rule j)
      same j h k =
          let u = number_within rule a ra j h k in
          let v = number_within rule b rb j h k in
          raise_inj (number_of a (axis_of rule j)) (number_of b (axis_of rule j)) u.near v.near
          (omega (arith, apart_raise (number_of a (axis_of rule j)) (number_of b (axis_of rule j)) u.near v.near, (widest_axis rule a b).widest j h k, gap))

  pub cut_parts : ¬ (a ≡ b) → goes_left (cut_of rule a b) b ≡ not (goes_left (cut_of rule a b) a)
  unfolding x y axis
  cut_parts n = side b wy ∙ go (ltb m k) refl ∙ sym (ap not (side a wx))
    where
      m : ℕ
      m = raise reach x

      k : ℕ
      k = raise reach y

      go : (t : Bool) → ltb m k ≡ t → ltb (k + k) (m + k) ≡ not (ltb (m + m) (m + k))
      go true e = let h = ltb-true m k e in le-ltb (k + k) (m + k) (omega arith) ∙ sym (ap not (lt-ltb (m + m) (m + k) (omega arith)))
      go false e =
          let h = ltb-false m k e in
          let l : k < m = omega (arith, differ n) in
          lt-ltb (k + k) (m + k) (omega arith) ∙ sym (ap not (le-ltb (m + m) (m + k) (omega arith)))

  pub cut_in_range_lem : cut_in_range rule (cut_of rule a b) ≡ true
  unfolding cut_in_range sum_range_of x y axis
  cut_in_range_lem =
      let k = widest_of rule a b in
      let w = widest_axis rule a b in
      let r = number_range_sound k in
      let one : is_axis_by rule k ≡ true = rw w.on (axis_by rule w.place w.least w.most) in
      rw cut_plain
      (and_i one
      (within_true (sum_range_of k) (x +ℤ y) (sum_range_sound k)
      (record {
        near = near_sum;
        from = omega (arith, raise_add x y wx.near wy.near, raise_add (number_range_of k).low (number_range_of k).low r.low r.low, wx.from, wy.from);
        to = omega (arith, raise_add x y wx.near wy.near, raise_add (number_range_of k).high (number_range_of k).high r.high r.high, wx.to, wy.to);
      })))

-- the widest on the axes that a rule goes by before the k-th
pub widest_before : ℕ → Point → Point → ℕ → Spread
widest_before rule a b zero = spread_of a b (axis_of rule 1)
widest_before rule a b (suc zero) = spread_of a b (axis_of rule 1)
widest_before rule a b (suc (suc zero)) = spread_of a b (axis_of rule 1)
widest_before rule a b (suc (suc (suc n))) = wider_of (widest_before rule a b (suc (suc n))) (spread_of a b (axis_of rule (suc (suc n))))

module _ (rule : ℕ) (a b : Point) where
  pub widest_first : widest_before rule a b 2 ≡ spread_of a b (axis_of rule 1)
  unfolding widest_before
  widest_first = refl

  pub widest_next : (k : ℕ) → 2 ≤ k → wider_of (widest_before rule a b k) (spread_of a b (axis_of rule k)) ≡ widest_before rule a b (k + 1)
  unfolding widest_before
  widest_next zero h = absurd (omega arith)
  widest_next (suc zero) h = absurd (omega arith)
  widest_next (suc (suc n)) h = rw (add-one (suc (suc n)))

  pub widest_last : (widest_before rule a b 6).axis ≡ widest_of rule a b
  unfolding widest_before widest_of
  widest_last = refl

pub ruleset widening = (widest_first, widest_next, widest_last)
