-- Grades of a cut: a slot that is marked is there and none is lost; a new cut has none; what writes elsewhere, or writes the cut itself, leaves them.
-- Marks are no field of a row: the row of a cut reads as before.
-- Assumes nothing.
use mathlib.Core.Path.{◌≡◌, refl, sym, ap, ◌∙◌}
use mathlib.Core.Bool.{Bool, true, false, cond, not, ◌&&◌}
use mathlib.Core.List.{List}
use Prim.Native.Nat.{ℕ, ◌+◌, ◌/◌, ◌%◌, ◌^◌, ◌≤◌, ◌<◌}
use native.Mathlib.Decide.{ℕ_discrete, dec_lt}
use native.Mathlib.Nat.{mod-lt}
use native.Mathlib.Omega.{arith}
use borrow.Author.Tests.{eq-eqb, ne_eqb, eqb-true, leb-true, le-leb, lt-ltb, le-ltb}
use Rattle.std.proofs.lemmas.Nat.Bits.{bit_at_or, bit_at-pow_same}
use lib.Dec.{eqb, leb, ltb, lit<}
use lib.ListN.{length}
use Rattle.points.specs.declared.point.Point.{Point}
use Rattle.points.specs.declared.cut.Cut.{Cut as PointCut}
use Rattle.points.specs.Choice.{same_grade}
use Rattle.points.proofs.Tests.{and_r}
use Rattle.points.proofs.ChoiceLaws.{grade_word}
use Rattle.rows.specs.declared.row.Row.TheVariants.{Cut}
use Rattle.words.specs.Layout.{most_rows, row_size, at_row, Fits}
use Rattle.words.specs.Words.{get, put, splice}
use Rattle.words.specs.Rule.{rule_at}
use Rattle.words.specs.Agree.{Agree, Only, in_row, AgreeIn, OnlyIn, start_of, size_of}
use Rattle.rows.specs.Row.{row_at, put_row}
use Rattle.rows.specs.Tree.{child_at, at_child}
use Rattle.rows.specs.Grades.{slot_of, at_slot, has_bit, with_bit, admits, mark_side, mark_toward, no_grades, begin_grades}
use Rattle.words.proofs.Splice.{length_splice}
use Rattle.words.proofs.WordLaws.{put_outside, get_put_same, get_put_other}
use Rattle.words.proofs.AgreeLaws.{only_refl, only_trans, only_within, only_apart, put_only, put_agree, splice_only, splice_agree, cond_only, cond_agree, row_row, common_row, elsewhere}
use Rattle.words.proofs.RuleLaws.{rule_unseen}
use Rattle.rows.proofs.RowLaws.{row_at_agree, put_row_cut_only}
use Rattle.rows.proofs.CutLaws.{cut_fits, cut_child, cut_first}

-- ---- slots

-- points of one grade have one slot
pub slot_grade : (a b : Point) → same_grade a b ≡ true → slot_of a ≡ slot_of b
unfolding slot_of
slot_grade a b e = ap (λ n. n % 127) (grade_word a b e)

-- a slot is one of 127
pub slot_below : (p : Point) → slot_of p < 127
unfolding slot_of
slot_below p = mod-lt _ (lit< tt)

-- ---- bits

-- a bit that is put in is in
bit_in : (w k : ℕ) → has_bit (with_bit w k) k ≡ true
unfolding has_bit with_bit
bit_in w k = let b = k % 32 in eq-eqb _ _ (omega (arith, bit_at_or w (2 ^ b) b, bit_at-pow_same b))

-- and no bit is lost
bit_stays : (w j k : ℕ) → has_bit w j ≡ true → has_bit (with_bit w k) j ≡ true
unfolding has_bit with_bit
bit_stays w j k h =
    let b = j % 32 in
    let f : w / 2 ^ b % 2 ≡ 1 = eqb-true _ _ h in
    eq-eqb _ _ (omega (arith, bit_at_or w (2 ^ (k % 32)) b))

-- ---- one mark

module _ (w : List ℕ) (r : ℕ) (left : Bool) (k : ℕ) where
  -- a slot that is marked is there
  mark_in : at_slot r left k < length w → admits (mark_side w r left k) r left k ≡ true
  unfolding admits mark_side
  mark_in h = ap (λ x. has_bit x k) (get_put_same w (at_slot r left k) (with_bit (get w (at_slot r left k)) k) h) ∙ bit_in (get w (at_slot r left k)) k

  -- and none is lost, on any side of any row
  mark_stays : (q : ℕ) (side : Bool) (j : ℕ) → admits w q side j ≡ true → admits (mark_side w r left k) q side j ≡ true
  unfolding admits mark_side
  mark_stays q side j e = go (ℕ_discrete (at_slot q side j) (at_slot r left k))
    where
      new : ℕ
      new = with_bit (get w (at_slot r left k)) k

      here : Dec (at_slot r left k < length w) → at_slot q side j ≡ at_slot r left k → has_bit (get (put w (at_slot r left k) new) (at_slot q side j)) j ≡ true
      here (yes h) f =
          ap (λ i. has_bit (get (put w (at_slot r left k) new) i) j) f
          ∙ ap (λ x. has_bit x j) (get_put_same w (at_slot r left k) new h)
          ∙ bit_stays (get w (at_slot r left k)) j k (ap (λ i. has_bit (get w i) j) (sym f) ∙ e)
      here (no h) f = ap (λ v. has_bit (get v (at_slot q side j)) j) (put_outside w (at_slot r left k) new (omega arith)) ∙ e

      go : Dec (at_slot q side j ≡ at_slot r left k) → has_bit (get (put w (at_slot r left k) new) (at_slot q side j)) j ≡ true
      go (yes f) = here (dec_lt (at_slot r left k) (length w)) f
      go (no n) = ap (λ x. has_bit x j) (get_put_other w (at_slot r left k) (at_slot q side j) new n) ∙ e

  -- it touches the grades of its row alone
  mark_grades : k < 128 → Only (mark_side w r left k) w (at_row r + 8) 8
  unfolding mark_side at_slot
  mark_grades h = go left
    where
      go : (b : Bool) → Only (put w (at_slot r b k) (with_bit (get w (at_slot r b k)) k)) w (at_row r + 8) 8
      go true = only_within (put_only w (at_slot r true k) _) (at_row r + 8) 8 (omega arith) (omega (arith, h))
      go false = only_within (put_only w (at_slot r false k) _) (at_row r + 8) 8 (omega arith) (omega (arith, h))

-- slices that agree, and agree on the row, agree again after one mark
mark_agree : {v w : List ℕ} {a n : ℕ} → Agree v w a n → (r : ℕ) (left : Bool) (k : ℕ) → k < 128 → AgreeIn v w (in_row r) → Agree (mark_side v r left k) (mark_side w r left k) a n
unfolding mark_side at_slot start_of size_of
mark_agree {v} {w} {a} {n} g r left k h m = go left
  where
    go : (b : Bool) → Agree (put v (at_slot r b k) (with_bit (get v (at_slot r b k)) k)) (put w (at_slot r b k) (with_bit (get w (at_slot r b k)) k)) a n
    go true = rw (m.words (at_slot r true k) (omega arith) (omega (arith, h))) (put_agree g (at_slot r true k) (with_bit (get w (at_slot r true k)) k))
    go false = rw (m.words (at_slot r false k) (omega arith) (omega (arith, h))) (put_agree g (at_slot r false k) (with_bit (get w (at_slot r false k)) k))

-- ---- what writes leave

-- slices that agree on a row admit the same there
pub admits_agree : {v w : List ℕ} (r : ℕ) (side : Bool) (k : ℕ) → k < 128 → AgreeIn v w (in_row r) → admits v r side k ≡ admits w r side k
unfolding admits at_slot start_of size_of
admits_agree {v} {w} r side k h g = go side
  where
    go : (b : Bool) → has_bit (get v (at_slot r b k)) k ≡ has_bit (get w (at_slot r b k)) k
    go true = ap (λ x. has_bit x k) (g.words (at_slot r true k) (omega arith) (omega (arith, h)))
    go false = ap (λ x. has_bit x k) (g.words (at_slot r false k) (omega arith) (omega (arith, h)))

-- a cut that is written keeps its grades
pub admits_put_row : (w : List ℕ) (r parent : ℕ) (cut : PointCut) (left right q : ℕ) (side : Bool) (k : ℕ) → k < 128
    → admits (put_row w r (Cut parent cut left right)) q side k ≡ admits w q side k
unfolding admits at_slot at_row
admits_put_row w r parent cut left right q side k h = go side
  where
    go : (b : Bool) → has_bit (get (put_row w r (Cut parent cut left right)) (at_slot q b k)) k ≡ has_bit (get w (at_slot q b k)) k
    go true = ap (λ x. has_bit x k) ((put_row_cut_only w r parent cut left right).others (at_slot q true k) (λ p l. omega (arith, h, p, l)))
    go false = ap (λ x. has_bit x k) ((put_row_cut_only w r parent cut left right).others (at_slot q false k) (λ p l. omega (arith, h, p, l)))

-- no row is seen to change where only the grades of a cut do
module _ {v w : List ℕ} (rows r parent : ℕ) (cut : PointCut) (left right : ℕ) where
  row_at_grades : Only v w (at_row r + 8) 8 → row_at w rows r ≡ Cut parent cut left right → (q : ℕ) → row_at v rows q ≡ row_at w rows q
  unfolding start_of size_of
  row_at_grades g e q = go (ℕ_discrete q r)
    where
      own : OnlyIn v w (in_row r)
      own = only_within g (at_row r) row_size (omega arith) (omega arith)

      same : rule_at v ≡ rule_at w
      same = rule_unseen (in_row r) own (common_row r)

      go : Dec (q ≡ r) → row_at v rows q ≡ row_at w rows q
      go (yes f) = rw f (cut_first w rows r e same (only_apart g (at_row r) 8 (λ i p l p' l'. omega arith)))
      go (no n) = row_at_agree rows q same (elsewhere (in_row r) (in_row q) own (row_row q r n))

-- ---- a walk's mark

module _ (w : List ℕ) (r to k : ℕ) (below : k < 128) where
  pub toward_stays : (q : ℕ) (side : Bool) (j : ℕ) → admits w q side j ≡ true → admits (mark_toward w r to k) q side j ≡ true
  unfolding mark_toward
  toward_stays q side j e = go (eqb r to)
    where
      go : (b : Bool) → admits (cond b w (mark_side w r (eqb (child_at w r true) to) k)) q side j ≡ true
      go true = e
      go false = mark_stays w r (eqb (child_at w r true) to) k q side j e

  toward_grades : Only (mark_toward w r to k) w (at_row r + 8) 8
  unfolding mark_toward
  toward_grades = go (eqb r to)
    where
      go : (b : Bool) → Only (cond b w (mark_side w r (eqb (child_at w r true) to) k)) w (at_row r + 8) 8
      go true = only_refl w (at_row r + 8) 8
      go false = mark_grades w r (eqb (child_at w r true) to) k below

  -- it touches its row alone
  pub toward_only : OnlyIn (mark_toward w r to k) w (in_row r)
  unfolding start_of size_of
  toward_only = only_within toward_grades (at_row r) row_size (omega arith) (omega arith)

  -- a walk that stays marks nothing
  pub toward_here : r ≡ to → mark_toward w r to k ≡ w
  unfolding mark_toward
  toward_here e = rw (eq-eqb r to e)

  -- one that goes on from a cut marks the side that it takes, and no row is seen to change
  module _ (rows : ℕ) {parent : ℕ} {cut : PointCut} {left right : ℕ} (reads : row_at w rows r ≡ Cut parent cut left right) where
    pub toward_rows : (q : ℕ) → row_at (mark_toward w r to k) rows q ≡ row_at w rows q
    toward_rows = row_at_grades rows r parent cut left right toward_grades reads

    pub toward_in : ¬ (r ≡ to) → admits (mark_toward w r to k) r (eqb left to) k ≡ true
    unfolding mark_toward at_slot
    toward_in n = rw (ne_eqb r to n) (rw (cut_child w rows r reads true) (mark_in w r (eqb left to) k (go (eqb left to))))
      where
        go : (b : Bool) → at_slot r b k < length w
        go true = omega (arith, below, cut_fits w rows r reads)
        go false = omega (arith, below, cut_fits w rows r reads)

-- slices that agree, and agree on the row, agree again after a walk's mark
pub toward_agree : {v w : List ℕ} {a n : ℕ} → Agree v w a n → (r to k : ℕ) → k < 128 → AgreeIn v w (in_row r) → Agree (mark_toward v r to k) (mark_toward w r to k) a n
unfolding mark_toward child_at at_child start_of size_of
toward_agree {v} {w} {a} {n} g r to k h m = rw (m.words (at_row r + 6) (omega arith) (omega arith)) (go (eqb r to))
  where
    go : (b : Bool) → Agree (cond b v (mark_side v r (eqb (get w (at_row r + 6)) to) k)) (cond b w (mark_side w r (eqb (get w (at_row r + 6)) to) k)) a n
    go true = g
    go false = mark_agree g r (eqb (get w (at_row r + 6)) to) k h m

-- ---- a new cut

-- a row with no grades
abbrev cleared : List ℕ → ℕ → List ℕ
cleared w r = splice w no_grades (at_row r + 8) 8

module _ (w : List ℕ) (r : ℕ) (left : Bool) (here there : ℕ) (below : here < 128) (below' : there < 128) where
  begin_grades_lem : Only (begin_grades w r left here there) w (at_row r + 8) 8
  unfolding begin_grades no_grades
  begin_grades_lem = cond_only (ltb r most_rows && leb (at_row r + row_size) (length w)) (λ e.
      only_trans (mark_grades (mark_side (cleared w r) r left here) r (not left) there below')
      (only_trans (mark_grades (cleared w r) r left here below)
      (splice_only w no_grades (at_row r + 8) 8 (omega (arith, leb-true (at_row r + row_size) (length w) (and_r (ltb r most_rows) _ e))) refl)))

  -- they touch its row alone
  pub begin_only : OnlyIn (begin_grades w r left here there) w (in_row r)
  unfolding start_of size_of
  begin_only = only_within begin_grades_lem (at_row r) row_size (omega arith) (omega arith)

  -- no row is seen to change
  pub begin_rows : (rows : ℕ) {parent : ℕ} {cut : PointCut} {one two : ℕ} → row_at w rows r ≡ Cut parent cut one two → (q : ℕ)
      → row_at (begin_grades w r left here there) rows q ≡ row_at w rows q
  begin_rows rows {parent} {cut} {one} {two} e = row_at_grades rows r parent cut one two begin_grades_lem e

  -- both slots are there
  module _ (rows : ℕ) (room : Fits w rows) (h : r < rows) where
    m : r < most_rows
    m = omega (arith, room.most)

    fits : at_row r + row_size ≤ length w
    unfolding at_row
    fits = omega (arith, room.long)

    begun : begin_grades w r left here there ≡ mark_side (mark_side (cleared w r) r left here) r (not left) there
    unfolding begin_grades
    begun = rw (lt-ltb r most_rows m, le-leb (at_row r + row_size) (length w) fits)

    size : length (cleared w r) ≡ length w
    unfolding no_grades
    size = length_splice w no_grades (at_row r + 8) 8 (omega (arith, fits)) refl

    pub begin_here : admits (begin_grades w r left here there) r left here ≡ true
    unfolding at_slot
    begin_here = rw begun (mark_stays (mark_side (cleared w r) r left here) r (not left) there r left here (mark_in (cleared w r) r left here (go left)))
      where
        go : (b : Bool) → at_slot r b here < length (cleared w r)
        go true = omega (arith, size, fits, below)
        go false = omega (arith, size, fits, below)

    pub begin_there : admits (begin_grades w r left here there) r (not left) there ≡ true
    unfolding at_slot
    begin_there = rw begun (mark_in (mark_side (cleared w r) r left here) r (not left) there (go (not left)))
      where
        go : (b : Bool) → at_slot r b there < length (mark_side (cleared w r) r left here)
        go true = omega (arith, size, fits, below', (mark_grades (cleared w r) r left here below).lengths)
        go false = omega (arith, size, fits, below', (mark_grades (cleared w r) r left here below).lengths)

-- a row that is not there gets none
pub begin_outside : (w : List ℕ) (r : ℕ) (left : Bool) (here there : ℕ) → most_rows ≤ r → begin_grades w r left here there ≡ w
unfolding begin_grades
begin_outside w r left here there h = rw (le-ltb r most_rows h)

-- slices that agree, and agree on the row, agree again after a new cut got its grades
pub begin_agree : {v w : List ℕ} {a n : ℕ} → Agree v w a n → (r : ℕ) (left : Bool) (here there : ℕ) → here < 128 → there < 128 → AgreeIn v w (in_row r)
    → Agree (begin_grades v r left here there) (begin_grades w r left here there) a n
unfolding begin_grades no_grades
begin_agree {v} {w} {a} {n} g r left here there h h' m =
    cond_agree (ltb r most_rows && leb (at_row r + row_size) (length v)) (ltb r most_rows && leb (at_row r + row_size) (length w))
    (ap (λ i. ltb r most_rows && leb (at_row r + row_size) i) g.lengths)
    (λ e.
    let room : at_row r + 8 + 8 ≤ length v = omega (arith, leb-true (at_row r + row_size) (length v) (and_r (ltb r most_rows) _ e)) in
    let c = splice_agree g no_grades (at_row r + 8) 8 room refl in
    let d = splice_agree m no_grades (at_row r + 8) 8 room refl in
    mark_agree (mark_agree c r left here h d) r (not left) there h' (mark_agree d r left here h d))
    g
