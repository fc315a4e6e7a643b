-- The ranges of coordinates, of numbers and of sums, and what a point in range says of each of its coordinates, over raised numbers.
-- Assumes nothing.
use mathlib.Core.Path.{◌≡◌, refl, sym, ◌∙◌}
use mathlib.Core.Bool.{Bool, true, false, cond, ◌&&◌}
use Prim.Native.Nat.{ℕ, zero, suc, ◌+◌, ◌≤◌, ◌<◌}
use native.Mathlib.Omega.{arith}
use lib.Dec.{eqb, leb, lit<, lit≤}
use lib.IntN.{ℤ, pos, negsuc, ◌+ℤ◌}
use lib.Signed.{le_z}
use borrow.Author.Tests.{ne_eqb, leb-true, le-leb, lt-leb}
use Rattle.points.specs.declared.point.Point.{Point}
use Rattle.points.specs.declared.point.Range.{Range}
use Rattle.points.specs.Point.{index_of, range_of, coordinate_of, within_range, on_axis, in_range}
use Rattle.points.specs.Number.{pick_range, number_range_of}
use Rattle.points.specs.Word.{sum_range_of}
use Rattle.points.proofs.Tests.{no!, and_l, and_r, and_i}
use Rattle.points.proofs.IntegerLaws.{raise, Near, near_add, near_more, near_lt, near_raise, raise_add, le_z_raise}

-- every number of a point in range and every end of a range lies from -reach to reach - 1; the sums of two, from twice that
abbrev pub reach : ℕ
reach = 1073741824

-- a range whose ends are near and in order
pub record Sound (b : ℕ) (r : Range) : Type 0 where
  pub low : Near b r.low
  pub high : Near b r.high
  pub order : raise b r.low ≤ raise b r.high

-- a number of a range, over raised numbers
pub record Within (b : ℕ) (r : Range) (x : ℤ) : Type 0 where
  pub near : Near b x
  pub from : raise b r.low ≤ raise b x
  pub to : raise b x ≤ raise b r.high

between : {b : ℕ} (l x h : ℤ) → Near b l → Near b h → le_z l x ≡ true → le_z x h ≡ true → Near b x
between l (pos n) (pos h) f g e d = record { near = omega (arith, g.near, leb-true n h d) }
between l (pos n) (negsuc h) f g e d = no! d
between (pos l) (negsuc n) h f g e d = no! e
between (negsuc l) (negsuc n) h f g e d = record { near = omega (arith, f.near, leb-true n l e) }

pub within : {b : ℕ} (r : Range) (x : ℤ) → Sound b r → within_range r x ≡ true → Within b r x
unfolding within_range
within {b} r x s e =
    let l = and_l (le_z r.low x) (le_z x r.high) e in
    let h = and_r (le_z r.low x) (le_z x r.high) e in
    let n = between r.low x r.high s.low s.high l h in
    record {
      near = n;
      from = leb-true (raise b r.low) (raise b x) (sym (le_z_raise r.low x s.low n) ∙ l);
      to = leb-true (raise b x) (raise b r.high) (sym (le_z_raise x r.high n s.high) ∙ h);
    }

pub within_true : {b : ℕ} (r : Range) (x : ℤ) → Sound b r → Within b r x → within_range r x ≡ true
unfolding within_range
within_true {b} r x s w =
    and_i (le_z_raise r.low x s.low w.near ∙ le-leb (raise b r.low) (raise b x) w.from)
    (le_z_raise x r.high w.near s.high ∙ le-leb (raise b x) (raise b r.high) w.to)

-- any number but 1 to 4 is taken for axis 5
module _ (axis : ℕ) (one : axis ≡ 1 → ⊥) (two : axis ≡ 2 → ⊥) (three : axis ≡ 3 → ⊥) (four : axis ≡ 4 → ⊥) where
  pub last_axis : {A : Type 0} (f : ℕ → A) (last : A) → f 0 ≡ last → ((n : ℕ) → f (suc (suc (suc (suc (suc n))))) ≡ last) → f axis ≡ last
  last_axis f last z s = go axis one two three four
    where
      go : (k : ℕ) → (k ≡ 1 → ⊥) → (k ≡ 2 → ⊥) → (k ≡ 3 → ⊥) → (k ≡ 4 → ⊥) → f k ≡ last
      go zero a b c d = z
      go (suc zero) a b c d = absurd (a refl)
      go (suc (suc zero)) a b c d = absurd (b refl)
      go (suc (suc (suc zero))) a b c d = absurd (c refl)
      go (suc (suc (suc (suc zero)))) a b c d = absurd (d refl)
      go (suc (suc (suc (suc (suc n))))) a b c d = s n

  pub index_rest : index_of axis ≡ 4
  unfolding index_of
  index_rest = last_axis index_of 4 refl (λ n. refl)

-- a coordinate, as one of two at each axis
pub coordinate_picked : (p : Point) (axis : ℕ)
    → cond (eqb axis 1) p.grade (cond (eqb axis 2) p.weight (cond (eqb axis 3) p.moisture (cond (eqb axis 4) p.speed p.draw))) ≡ coordinate_of p axis
unfolding coordinate_of
coordinate_picked p zero = refl
coordinate_picked p (suc zero) = refl
coordinate_picked p (suc (suc zero)) = refl
coordinate_picked p (suc (suc (suc zero))) = refl
coordinate_picked p (suc (suc (suc (suc zero)))) = refl
coordinate_picked p (suc (suc (suc (suc (suc n))))) =
    let axis = suc (suc (suc (suc (suc n)))) in
    rw (ne_eqb axis 1 (λ e. omega arith), ne_eqb axis 2 (λ e. omega arith), ne_eqb axis 3 (λ e. omega arith), ne_eqb axis 4 (λ e. omega arith))

pub index_lt : (axis : ℕ) → index_of axis < 5
unfolding index_of
index_lt zero = lit< tt
index_lt (suc zero) = lit< tt
index_lt (suc (suc zero)) = lit< tt
index_lt (suc (suc (suc zero))) = lit< tt
index_lt (suc (suc (suc (suc zero)))) = lit< tt
index_lt (suc (suc (suc (suc (suc n))))) = lit< tt

-- every axis's range is sound, and its ends are at most 100,000
abbrev pub narrow : ℕ
narrow = 100001

pub range_narrow : (axis : ℕ) → Sound narrow (range_of axis)
unfolding range_of index_of
range_narrow zero = record { low = record { near = lit< tt }; high = record { near = lit< tt }; order = lit≤ tt }
range_narrow (suc zero) = record { low = record { near = lit< tt }; high = record { near = lit< tt }; order = lit≤ tt }
range_narrow (suc (suc zero)) = record { low = record { near = lit< tt }; high = record { near = lit< tt }; order = lit≤ tt }
range_narrow (suc (suc (suc zero))) = record { low = record { near = lit< tt }; high = record { near = lit< tt }; order = lit≤ tt }
range_narrow (suc (suc (suc (suc zero)))) = record { low = record { near = lit< tt }; high = record { near = lit< tt }; order = lit≤ tt }
range_narrow (suc (suc (suc (suc (suc n))))) = record { low = record { near = lit< tt }; high = record { near = lit< tt }; order = lit≤ tt }

pub range_sound : (axis : ℕ) → Sound reach (range_of axis)
range_sound axis =
    let s = range_narrow axis in
    let l = (range_of axis).low in
    let h = (range_of axis).high in
    record {
      low = near_more reach (lit≤ tt) s.low;
      high = near_more reach (lit≤ tt) s.high;
      order = omega (arith, near_raise l s.low 1073641823, near_raise h s.high 1073641823, s.order);
    }

-- the ranges of the numbers, one by one
number_ranges : (P : Range → Type 0) → ((axis : ℕ) → P (range_of axis)) → P (number_range_of 6) → P (number_range_of 7) → P (number_range_of 8) → P (number_range_of 9)
    → (axis : ℕ) → P (number_range_of axis)
unfolding number_range_of
number_ranges P plain dry moisture speed draw axis = go (leb axis 5) (eqb axis 6) (eqb axis 7) (eqb axis 8)
  where
    go : (five six seven eight : Bool)
        → P (pick_range five (range_of axis) (pick_range six (number_range_of 6) (pick_range seven (number_range_of 7) (pick_range eight (number_range_of 8) (number_range_of 9)))))
    go true six seven eight = plain axis
    go false true seven eight = dry
    go false false true eight = moisture
    go false false false true = speed
    go false false false false = draw

pub number_range_sound : (axis : ℕ) → Sound reach (number_range_of axis)
unfolding number_range_of
number_range_sound =
    number_ranges (Sound reach) range_sound (record { low = record { near = lit< tt }; high = record { near = lit< tt }; order = lit≤ tt })
    (record { low = record { near = lit< tt }; high = record { near = lit< tt }; order = lit≤ tt })
    (record { low = record { near = lit< tt }; high = record { near = lit< tt }; order = lit≤ tt })
    (record { low = record { near = lit< tt }; high = record { near = lit< tt }; order = lit≤ tt })

-- a coordinate is below the number that is in no range, and none of the numbers passes 1,000,000,000
pub range_below : (axis : ℕ) → raise reach (range_of axis).high < 2147483647 + reach
range_below axis = let s = range_narrow axis in omega (arith, near_raise (range_of axis).high s.high 1073641823, near_lt (range_of axis).high s.high)

record Ends (r : Range) : Type 0 where
  top : raise reach r.high ≤ 1000000000 + reach
  span : raise reach r.high ≤ raise reach r.low + 1000000000

ends : (axis : ℕ) → Ends (number_range_of axis)
unfolding number_range_of
ends = number_ranges Ends narrow_ends (record { top = lit≤ tt; span = lit≤ tt }) (record { top = lit≤ tt; span = lit≤ tt }) (record { top = lit≤ tt; span = lit≤ tt })
    (record { top = lit≤ tt; span = lit≤ tt })
  where
    narrow_ends : (axis : ℕ) → Ends (range_of axis)
    narrow_ends axis =
        let s = range_narrow axis in
        let l = (range_of axis).low in
        let h = (range_of axis).high in
        let low = near_raise l s.low 1073641823 in
        let high = near_raise h s.high 1073641823 in
        record { top = omega (arith, high, near_lt h s.high); span = omega (arith, low, high, near_lt h s.high) }

-- and so it is with the ranges of sums
module _ (axis : ℕ) where
  l : ℤ
  l = (number_range_of axis).low

  h : ℤ
  h = (number_range_of axis).high

  low_sum : raise (reach + reach) (l +ℤ l) ≡ raise reach l + raise reach l
  unfolding l
  low_sum = raise_add l l (number_range_sound axis).low (number_range_sound axis).low

  high_sum : raise (reach + reach) (h +ℤ h) ≡ raise reach h + raise reach h
  unfolding h
  high_sum = raise_add h h (number_range_sound axis).high (number_range_sound axis).high

  pub sum_range_sound : Sound (reach + reach) (sum_range_of axis)
  unfolding sum_range_of l h
  sum_range_sound =
      let r = number_range_sound axis in
      record { low = near_add l l r.low r.low; high = near_add h h r.high r.high; order = omega (arith, low_sum, high_sum, r.order) }

  pub sum_range_below : raise (reach + reach) (sum_range_of axis).high < 2147483647 + (reach + reach)
  unfolding sum_range_of h
  sum_range_below = omega (arith, high_sum, (ends axis).top)

  pub sum_range_span : raise (reach + reach) (sum_range_of axis).high ≤ raise (reach + reach) (sum_range_of axis).low + 2000000000
  unfolding sum_range_of l h
  sum_range_span = omega (arith, low_sum, high_sum, (ends axis).span)

-- any word of an axis but 0 to 7 is taken for that of axis 9
pub sum_range_rest : (axis : ℕ) → (axis ≡ 0 → ⊥) → (axis ≡ 1 → ⊥) → (axis ≡ 2 → ⊥) → (axis ≡ 3 → ⊥) → (axis ≡ 4 → ⊥) → (axis ≡ 5 → ⊥) → (axis ≡ 6 → ⊥) → (axis ≡ 7 → ⊥)
    → sum_range_of (axis + 1) ≡ sum_range_of 9
unfolding sum_range_of number_range_of
sum_range_rest axis a b c d e f g h =
    let most : 8 ≤ axis = past axis a b c d e f g h in
    rw (lt-leb (axis + 1) 5 (omega arith), ne_eqb (axis + 1) 6 (λ i. omega arith), ne_eqb (axis + 1) 7 (λ i. omega arith), ne_eqb (axis + 1) 8 (λ i. omega arith))
  where
    past : (k : ℕ) → (k ≡ 0 → ⊥) → (k ≡ 1 → ⊥) → (k ≡ 2 → ⊥) → (k ≡ 3 → ⊥) → (k ≡ 4 → ⊥) → (k ≡ 5 → ⊥) → (k ≡ 6 → ⊥) → (k ≡ 7 → ⊥) → 8 ≤ k
    past zero a b c d e f g h = absurd (a refl)
    past (suc zero) a b c d e f g h = absurd (b refl)
    past (suc (suc zero)) a b c d e f g h = absurd (c refl)
    past (suc (suc (suc zero))) a b c d e f g h = absurd (d refl)
    past (suc (suc (suc (suc zero)))) a b c d e f g h = absurd (e refl)
    past (suc (suc (suc (suc (suc zero))))) a b c d e f g h = absurd (f refl)
    past (suc (suc (suc (suc (suc (suc zero)))))) a b c d e f g h = absurd (g refl)
    past (suc (suc (suc (suc (suc (suc (suc zero))))))) a b c d e f g h = absurd (h refl)
    past (suc (suc (suc (suc (suc (suc (suc (suc n)))))))) a b c d e f g h = omega arith

-- the five tests of a point in range
record Tests (p : Point) : Type 0 where
  grade : on_axis p 1 ≡ true
  weight : on_axis p 2 ≡ true
  moisture : on_axis p 3 ≡ true
  speed : on_axis p 4 ≡ true
  draw : on_axis p 5 ≡ true

tests : (p : Point) → in_range p ≡ true → Tests p
unfolding in_range
tests p e =
    let a = on_axis p 1 in
    let b = on_axis p 2 in
    let c = on_axis p 3 in
    let d = on_axis p 4 in
    let f = on_axis p 5 in
    let e4 = and_l (((a && b) && c) && d) f e in
    let e3 = and_l ((a && b) && c) d e4 in
    let e2 = and_l (a && b) c e3 in
    record { grade = and_l a b e2; weight = and_r a b e2; moisture = and_r (a && b) c e3; speed = and_r ((a && b) && c) d e4; draw = and_r (((a && b) && c) && d) f e }

-- the ranges of the five coordinates, in numbers
pub point_ranges : (p : Point)
    → in_range p
    ≡ (((((le_z (pos 1) p.grade && le_z p.grade (pos 9999))
    && (le_z (pos 1) p.weight && le_z p.weight (pos 100000)))
    && (le_z (pos 0) p.moisture && le_z p.moisture (pos 10000)))
    && (le_z (pos 0) p.speed && le_z p.speed (pos 30000)))
    && (le_z (negsuc 1999) p.draw && le_z p.draw (pos 2000)))
unfolding in_range on_axis within_range range_of index_of coordinate_of
point_ranges p = refl

-- a point in range is so on every axis
pub in_range_axis : (p : Point) → in_range p ≡ true → (axis : ℕ) → on_axis p axis ≡ true
unfolding on_axis coordinate_of range_of index_of
in_range_axis p e zero = (tests p e).draw
in_range_axis p e (suc zero) = (tests p e).grade
in_range_axis p e (suc (suc zero)) = (tests p e).weight
in_range_axis p e (suc (suc (suc zero))) = (tests p e).moisture
in_range_axis p e (suc (suc (suc (suc zero)))) = (tests p e).speed
in_range_axis p e (suc (suc (suc (suc (suc n))))) = (tests p e).draw

-- and a point that is so on the five axes is in range
pub in_range_all : (p : Point) → ((axis : ℕ) → on_axis p axis ≡ true) → in_range p ≡ true
unfolding in_range
in_range_all p h = and_i (and_i (and_i (and_i (h 1) (h 2)) (h 3)) (h 4)) (h 5)

pub axis_within : (p : Point) → in_range p ≡ true → (axis : ℕ) → Within reach (range_of axis) (coordinate_of p axis)
unfolding on_axis
axis_within p e axis = within (range_of axis) (coordinate_of p axis) (range_sound axis) (in_range_axis p e axis)

-- points with one coordinate on every axis are one
pub coordinates_equal : (a b : Point) → ((axis : ℕ) → 1 ≤ axis → axis ≤ 5 → coordinate_of a axis ≡ coordinate_of b axis) → a ≡ b
unfolding coordinate_of
coordinates_equal a b h =
    let grade : a.grade ≡ b.grade = h 1 (lit≤ tt) (lit≤ tt) in
    let weight : a.weight ≡ b.weight = h 2 (lit≤ tt) (lit≤ tt) in
    let moisture : a.moisture ≡ b.moisture = h 3 (lit≤ tt) (lit≤ tt) in
    let speed : a.speed ≡ b.speed = h 4 (lit≤ tt) (lit≤ tt) in
    let draw : a.draw ≡ b.draw = h 5 (lit≤ tt) (lit≤ tt) in
    λ i. record { grade = grade i; weight = weight i; moisture = moisture i; speed = speed i; draw = draw i }
