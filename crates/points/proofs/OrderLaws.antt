-- Law 2: the order of points is total, transitive, and equal only for equal points (`order_equal`, `order_turn`, `order_trans`).
-- Assumes nothing.
use mathlib.Core.Path.{◌≡◌, refl, sym, ap, ◌∙◌}
use mathlib.Core.Bool.{Bool, true, false, cond}
use Prim.Native.Nat.{ℕ, suc, ◌+◌, ◌<◌}
use native.Mathlib.Omega.{arith}
use borrow.Author.Tests.{ltb-true, ltb-false, lt-ltb, le-ltb}
use lib.Dec.{ltb}
use lib.IntN.{ℤ}
use lib.Signed.{lt_z, mag}
use Rattle.points.specs.declared.point.Point.{Point}
use Rattle.std.specs.declared.cmp.Ordering.{Ordering}
use Rattle.std.specs.declared.cmp.Ordering.TheVariants.{Less, Equal, Greater}
use Rattle.std.specs.Ordering.{int_cmp, ordering_then}
use Rattle.points.specs.Point.{coordinate_of}
use Rattle.points.specs.Order.{by_axis, order_of, is_equal, same_point}
use Rattle.points.proofs.Tests.{no! }
use Rattle.points.proofs.IntegerLaws.{raise, Near, lt_z_raise, raise_inj}

-- the same two, the other way round
abbrev pub turned : Ordering → Ordering
turned Less = Greater
turned Equal = Equal
turned Greater = Less

-- two different orders are not one
pub clash {ℓ} : {X : Type ℓ} → ◌≡◌ {A = ℕ} 0 1 → X
clash e = absurd (omega arith)

-- ---- one axis

-- the order of two numbers
numbers : ℤ → ℤ → Ordering
numbers x y = int_cmp x y

-- the same of natural numbers
naturals : ℕ → ℕ → Ordering
naturals m n = cond (ltb m n) Less (cond (ltb n m) Greater Equal)

module _ (m n : ℕ) where
  naturals_less : m < n → naturals m n ≡ Less
  unfolding naturals
  naturals_less h = rw (lt-ltb m n h)

  naturals_equal : m ≡ n → naturals m n ≡ Equal
  unfolding naturals
  naturals_equal h = rw (le-ltb m n (omega arith), le-ltb n m (omega arith))

  naturals_greater : n < m → naturals m n ≡ Greater
  unfolding naturals
  naturals_greater h = rw (le-ltb m n (omega arith), lt-ltb n m h)

-- which of the three holds, with the order that says so
data Which (m n : ℕ) : Type 0 where
  less : m < n → naturals m n ≡ Less → Which m n
  equal : m ≡ n → naturals m n ≡ Equal → Which m n
  greater : n < m → naturals m n ≡ Greater → Which m n

which : (m n : ℕ) → Which m n
which m n = go (ltb m n) refl (ltb n m) refl
  where
    go : (s : Bool) → ltb m n ≡ s → (t : Bool) → ltb n m ≡ t → Which m n
    go true e t f = less (ltb-true m n e) (naturals_less m n (ltb-true m n e))
    go false e true f = greater (ltb-true n m f) (naturals_greater m n (ltb-true n m f))
    go false e false f =
        let h : m ≡ n = omega (arith, ltb-false m n e, ltb-false n m f) in
        equal h (naturals_equal m n h)

numbers_naturals : {b : ℕ} (x y : ℤ) → Near b x → Near b y → numbers x y ≡ naturals (raise b x) (raise b y)
unfolding numbers naturals
numbers_naturals x y f g = rw (lt_z_raise x y f g, lt_z_raise y x g f)

-- a bound for three numbers at a time
bound : ℤ → ℤ → ℤ → ℕ
bound x y z = suc (mag x + mag y + mag z)

module _ (x y z : ℤ) where
  near_x : Near (bound x y z) x
  unfolding bound
  near_x = record { near = omega arith }

  near_y : Near (bound x y z) y
  unfolding bound
  near_y = record { near = omega arith }

  near_z : Near (bound x y z) z
  unfolding bound
  near_z = record { near = omega arith }

-- ---- what an order of points obeys
pub record Ordered (o : Point → Point → Ordering) : Type 0 where
  pub self : (a : Point) → o a a ≡ Equal
  pub turn : (a b : Point) → o b a ≡ turned (o a b)
  pub like : (a b c : Point) → o a b ≡ Equal → o a c ≡ o b c
  pub trans : (a b c : Point) → o a b ≡ Less → o b c ≡ Less → o a c ≡ Less

numbers_self : (x : ℤ) → numbers x x ≡ Equal
numbers_self x = numbers_naturals x x (near_x x x x) (near_x x x x) ∙ naturals_equal (raise (bound x x x) x) (raise (bound x x x) x) refl

numbers_turn : (x y : ℤ) → numbers y x ≡ turned (numbers x y)
numbers_turn x y = go (which m n)
  where
    m : ℕ
    m = raise (bound x y x) x

    n : ℕ
    n = raise (bound x y x) y

    there : numbers x y ≡ naturals m n
    there = numbers_naturals x y (near_x x y x) (near_y x y x)

    back : numbers y x ≡ naturals n m
    back = numbers_naturals y x (near_y x y x) (near_x x y x)

    go : Which m n → numbers y x ≡ turned (numbers x y)
    go (less h e) = back ∙ naturals_greater n m h ∙ sym (ap turned (there ∙ e))
    go (equal h e) = back ∙ naturals_equal n m (sym h) ∙ sym (ap turned (there ∙ e))
    go (greater h e) = back ∙ naturals_less n m h ∙ sym (ap turned (there ∙ e))

numbers_equal : (x y : ℤ) → numbers x y ≡ Equal → x ≡ y
numbers_equal x y e = go (which m n)
  where
    m : ℕ
    m = raise (bound x y x) x

    n : ℕ
    n = raise (bound x y x) y

    there : numbers x y ≡ naturals m n
    there = numbers_naturals x y (near_x x y x) (near_y x y x)

    go : Which m n → x ≡ y
    go (less h f) = clash (cc (there, f, e))
    go (equal h f) = raise_inj x y (near_x x y x) (near_y x y x) h
    go (greater h f) = clash (cc (there, f, e))

numbers_trans : (x y z : ℤ) → numbers x y ≡ Less → numbers y z ≡ Less → numbers x z ≡ Less
numbers_trans x y z e f = go (which m n) (which n k)
  where
    m : ℕ
    m = raise (bound x y z) x

    n : ℕ
    n = raise (bound x y z) y

    k : ℕ
    k = raise (bound x y z) z

    one : numbers x y ≡ naturals m n
    one = numbers_naturals x y (near_x x y z) (near_y x y z)

    two : numbers y z ≡ naturals n k
    two = numbers_naturals y z (near_y x y z) (near_z x y z)

    go : Which m n → Which n k → numbers x z ≡ Less
    go (less h a) (less i b) = numbers_naturals x z (near_x x y z) (near_z x y z) ∙ naturals_less m k (omega arith)
    go (less h a) (equal i b) = clash (cc (two, b, f))
    go (less h a) (greater i b) = clash (cc (two, b, f))
    go (equal h a) w = clash (cc (one, a, e))
    go (greater h a) w = clash (cc (one, a, e))

axis_numbers : (a b : Point) (k : ℕ) → by_axis a b k ≡ numbers (coordinate_of a k) (coordinate_of b k)
unfolding by_axis numbers
axis_numbers a b k = refl

pub axis_equal : (a b : Point) (k : ℕ) → by_axis a b k ≡ Equal → coordinate_of a k ≡ coordinate_of b k
axis_equal a b k e = numbers_equal (coordinate_of a k) (coordinate_of b k) (sym (axis_numbers a b k) ∙ e)

pub axis_same : (a b : Point) (k : ℕ) → coordinate_of a k ≡ coordinate_of b k → by_axis a b k ≡ Equal
axis_same a b k e = axis_numbers a b k ∙ ap (numbers (coordinate_of a k)) (sym e) ∙ numbers_self (coordinate_of a k)

pub axis_less : (a b : Point) (k : ℕ) → by_axis a b k ≡ Less → lt_z (coordinate_of a k) (coordinate_of b k) ≡ true
unfolding by_axis
axis_less a b k = go (lt_z (coordinate_of a k) (coordinate_of b k)) (lt_z (coordinate_of b k) (coordinate_of a k))
  where
    go : (s t : Bool) → cond s Less (cond t Greater Equal) ≡ Less → s ≡ true
    go true t e = refl
    go false true e = clash cc
    go false false e = clash cc

pub axis_ordered : (k : ℕ) → Ordered (λ a b. by_axis a b k)
axis_ordered k = record {
  self = λ a. axis_same a a k refl;
  turn = λ a b. axis_numbers b a k ∙ numbers_turn (coordinate_of a k) (coordinate_of b k) ∙ sym (ap turned (axis_numbers a b k));
  like = λ a b c e. axis_numbers a c k ∙ ap (λ x. numbers x (coordinate_of c k)) (axis_equal a b k e) ∙ sym (axis_numbers b c k);
  trans = λ a b c e f. axis_numbers a c k ∙ numbers_trans (coordinate_of a k) (coordinate_of b k) (coordinate_of c k) (sym (axis_numbers a b k) ∙ e) (sym (axis_numbers b c k) ∙ f);
}

-- ---- one order after another
module _ (o p : Point → Point → Ordering) (w : Ordered o) (v : Ordered p) where
  then_self : (a : Point) → ordering_then (o a a) (p a a) ≡ Equal
  then_self a = rw (w.self a) (v.self a)

  turned_then : (x y : Ordering) → turned (ordering_then x y) ≡ ordering_then (turned x) (turned y)
  turned_then Less y = refl
  turned_then Equal y = refl
  turned_then Greater y = refl

  then_turn : (a b : Point) → ordering_then (o b a) (p b a) ≡ turned (ordering_then (o a b) (p a b))
  then_turn a b = (λ i. ordering_then (w.turn a b i) (v.turn a b i)) ∙ sym (turned_then (o a b) (p a b))

  then_like : (a b c : Point) → ordering_then (o a b) (p a b) ≡ Equal → ordering_then (o a c) (p a c) ≡ ordering_then (o b c) (p b c)
  then_like a b c = go (o a b) refl
    where
      go : (x : Ordering) → o a b ≡ x → ordering_then x (p a b) ≡ Equal → ordering_then (o a c) (p a c) ≡ ordering_then (o b c) (p b c)
      go Less e f = clash (cc)
      go Equal e f = λ i. ordering_then (w.like a b c e i) (v.like a b c f i)
      go Greater e f = clash (cc)

  -- equal on the right
  tail_like : (a b c : Point) → o b c ≡ Equal → o a b ≡ o a c
  tail_like a b c e = w.turn b a ∙ ap turned (w.like b c a e) ∙ sym (w.turn c a)

  then_trans : (a b c : Point) → ordering_then (o a b) (p a b) ≡ Less → ordering_then (o b c) (p b c) ≡ Less → ordering_then (o a c) (p a c) ≡ Less
  then_trans a b c = go (o a b) refl (o b c) refl
    where
      go : (x : Ordering) → o a b ≡ x → (y : Ordering) → o b c ≡ y → ordering_then x (p a b) ≡ Less → ordering_then y (p b c) ≡ Less → ordering_then (o a c) (p a c) ≡ Less
      go Less e Less f h k = rw (w.trans a b c e f)
      go Less e Equal f h k = rw (sym (tail_like a b c f) ∙ e)
      go Less e Greater f h k = clash (cc)
      go Equal e Less f h k = rw (w.like a b c e ∙ f)
      go Equal e Equal f h k = rw (w.like a b c e ∙ f) (v.trans a b c h k)
      go Equal e Greater f h k = clash (cc)
      go Greater e y f h k = clash (cc)

  pub then_ordered : Ordered (λ a b. ordering_then (o a b) (p a b))
  then_ordered = record { self = then_self; turn = then_turn; like = then_like; trans = then_trans }

-- the first of two orders is Equal, and so is the second, where they are together
then_first : (x y : Ordering) → ordering_then x y ≡ Equal → x ≡ Equal
then_first Less y e = clash (cc)
then_first Equal y e = refl
then_first Greater y e = clash (cc)

pub then_second : (x y : Ordering) → ordering_then x y ≡ Equal → y ≡ Equal
then_second Less y e = clash (cc)
then_second Equal y e = e
then_second Greater y e = clash (cc)

-- ---- points
from4 : Point → Point → Ordering
from4 a b = ordering_then (by_axis a b 4) (by_axis a b 5)

from3 : Point → Point → Ordering
from3 a b = ordering_then (by_axis a b 3) (from4 a b)

from2 : Point → Point → Ordering
from2 a b = ordering_then (by_axis a b 2) (from3 a b)

order_from : (a b : Point) → order_of a b ≡ ordering_then (by_axis a b 1) (from2 a b)
unfolding order_of from2 from3 from4
order_from a b = refl

pub ordered : Ordered order_of
unfolding order_of from2 from3 from4
ordered =
    let four : Ordered from4 = then_ordered (λ a b. by_axis a b 4) (λ a b. by_axis a b 5) (axis_ordered 4) (axis_ordered 5) in
    let three : Ordered from3 = then_ordered (λ a b. by_axis a b 3) from4 (axis_ordered 3) four in
    let two : Ordered from2 = then_ordered (λ a b. by_axis a b 2) from3 (axis_ordered 2) three in
    then_ordered (λ a b. by_axis a b 1) from2 (axis_ordered 1) two

pub order_refl : (a : Point) → order_of a a ≡ Equal
order_refl a = ordered.self a

pub order_turn : (a b : Point) → order_of b a ≡ turned (order_of a b)
order_turn a b = ordered.turn a b

pub order_trans : (a b c : Point) → order_of a b ≡ Less → order_of b c ≡ Less → order_of a c ≡ Less
order_trans a b c e f = ordered.trans a b c e f

-- points that agree on every axis
pub points_equal : (a b : Point) → coordinate_of a 1 ≡ coordinate_of b 1 → coordinate_of a 2 ≡ coordinate_of b 2 → coordinate_of a 3 ≡ coordinate_of b 3
    → coordinate_of a 4 ≡ coordinate_of b 4 → coordinate_of a 5 ≡ coordinate_of b 5 → a ≡ b
unfolding coordinate_of
points_equal a b grade weight moisture speed draw =
    λ i. record { grade = grade i; weight = weight i; moisture = moisture i; speed = speed i; draw = draw i }

pub order_equal : (a b : Point) → order_of a b ≡ Equal → a ≡ b
unfolding from2 from3 from4
order_equal a b e =
    let s1 = sym (order_from a b) ∙ e in
    let s2 = then_second (by_axis a b 1) (from2 a b) s1 in
    let s3 = then_second (by_axis a b 2) (from3 a b) s2 in
    let s4 = then_second (by_axis a b 3) (from4 a b) s3 in
    let s5 = then_second (by_axis a b 4) (by_axis a b 5) s4 in
    points_equal a b
    (axis_equal a b 1 (then_first (by_axis a b 1) (from2 a b) s1))
    (axis_equal a b 2 (then_first (by_axis a b 2) (from3 a b) s2))
    (axis_equal a b 3 (then_first (by_axis a b 3) (from4 a b) s3))
    (axis_equal a b 4 (then_first (by_axis a b 4) (by_axis a b 5) s4))
    (axis_equal a b 5 s5)

-- ---- one point
pub same_point_refl : (a : Point) → same_point a a ≡ true
unfolding same_point
same_point_refl a = ap is_equal (order_refl a)

pub same_point_true : (a b : Point) → same_point a b ≡ true → a ≡ b
unfolding same_point
same_point_true a b e = go (order_of a b) refl
  where
    go : (x : Ordering) → order_of a b ≡ x → a ≡ b
    go Less f = no! (sym (ap is_equal f) ∙ e)
    go Equal f = order_equal a b f
    go Greater f = no! (sym (ap is_equal f) ∙ e)

pub same_point_false : (a b : Point) → same_point a b ≡ false → ¬ (a ≡ b)
same_point_false a b e q = no! (sym e ∙ ap (same_point a) (sym q) ∙ same_point_refl a)

pub point_dec : (a b : Point) → Dec (a ≡ b)
point_dec a b = go (same_point a b) refl
  where
    go : (t : Bool) → same_point a b ≡ t → Dec (a ≡ b)
    go true e = yes (same_point_true a b e)
    go false e = no (same_point_false a b e)
