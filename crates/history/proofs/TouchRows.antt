-- The rows of a step: those below the number of rows, of a list of at most six. A row that is read is among them, or is `Bad` on both sides
-- (`row_alike`); one that is written is among them, or the write changes nothing (`leaves_below`).
use Prim.Native.Nat.{ℕ, ◌≤◌, ◌<◌}
use mathlib.Core.Path.{◌≡◌, refl, sym, ap, subst, ◌∙◌}
use mathlib.Core.Bool.{Bool, true, false}
use mathlib.Core.List.Memᴰ
use mathlib.Core.List.{List, [], ◌∷◌, Memᴰ}
use mathlib.Core.Logic.{inl, inr}
use native.Mathlib.Omega.{arith}
use native.Mathlib.Decide.{dec_lt}
use borrow.Author.Tests.{ltb-true, lt-ltb}
use lib.Dec.{ltb}
use lib.ListN.{length}
use Rattle.points.specs.declared.point.Point.{Point}
use Rattle.points.specs.Word.{NONE}
use Rattle.rows.specs.declared.row.Row.{Row}
use Rattle.rows.specs.declared.row.Row.TheVariants.{Bad}
use Rattle.rows.specs.Row.{row_at, put_row}
use Rattle.rows.specs.Grades.{slot_of, mark_toward, begin_grades}
use Rattle.rows.proofs.RowLaws.{row_at_outside, put_row_bad, put_row_none}
use Rattle.rows.proofs.GradeLaws.{begin_outside}
use Rattle.history.specs.Touch.{AgreeOn, Leaves, pick_rows, rows_below}
use Rattle.history.proofs.Frame.{slot_fits}
use Rattle.history.proofs.TouchLaws.{row_same, leaves_row, leaves_toward, leaves_begin}

-- ---- the places in a list

module _ {r : ℕ} {rest : List ℕ} where
  pub the_first : Memᴰ r (r ∷ rest)
  the_first = Memᴰ.head refl

  pub the_second : {a : ℕ} → Memᴰ r (a ∷ (r ∷ rest))
  the_second = Memᴰ.tail the_first

  pub the_third : {a b : ℕ} → Memᴰ r (a ∷ (b ∷ (r ∷ rest)))
  the_third = Memᴰ.tail the_second

  pub the_fourth : {a b c : ℕ} → Memᴰ r (a ∷ (b ∷ (c ∷ (r ∷ rest))))
  the_fourth = Memᴰ.tail the_third

  pub the_fifth : {a b c d : ℕ} → Memᴰ r (a ∷ (b ∷ (c ∷ (d ∷ (r ∷ rest)))))
  the_fifth = Memᴰ.tail the_fourth

  pub the_sixth : {a b c d e : ℕ} → Memᴰ r (a ∷ (b ∷ (c ∷ (d ∷ (e ∷ (r ∷ rest))))))
  the_sixth = Memᴰ.tail the_fifth

-- in one of two lists
pub in_pick : {r : ℕ} (b : Bool) {x y : List ℕ} → Memᴰ r x → Memᴰ r y → Memᴰ r (pick_rows b x y)
in_pick true m n = m
in_pick false m n = n

-- ---- the rows below a number

below_more : {r : ℕ} (x : ℕ) (b : Bool) {rest : List ℕ} → Memᴰ r rest → Memᴰ r (pick_rows b (x ∷ rest) rest)
below_more x true m = Memᴰ.tail m
below_more x false m = m

-- a row of the list that is below stays
pub below_has : {r : ℕ} (count : ℕ) {list : List ℕ} → r < count → Memᴰ r list → Memᴰ r (rows_below count list)
unfolding rows_below
below_has count h (Memᴰ.head {x} {xs} e) = rw (lt-ltb x count (subst (λ k. k < count) e h)) (Memᴰ.head e)
below_has count h (Memᴰ.tail {x} {xs} m) = below_more x (ltb x count) (below_has count h m)

-- what stays is below
pub below_there : (count : ℕ) (list : List ℕ) (r : ℕ) → Memᴰ r (rows_below count list) → r < count
unfolding rows_below
below_there count [] r m = absurd (Memᴰ.not-nil m)
below_there count (x ∷ rest) r m = go (ltb x count) refl (below_there count rest r) m
  where
    go : (b : Bool) → ltb x count ≡ b → (Memᴰ r (rows_below count rest) → r < count)
        → Memᴰ r (pick_rows b (x ∷ rows_below count rest) (rows_below count rest)) → r < count
    go true e below n = elim (Memᴰ.cases_cons n) [ inl f ↦ subst (λ k. k < count) (sym f) (ltb-true x count e) | inr o ↦ below o ]
    go false e below n = below n

-- and no more rows
pub below_few : (count : ℕ) (list : List ℕ) → length (rows_below count list) ≤ length list
unfolding rows_below
below_few count [] = omega arith
below_few count (x ∷ rest) = go (ltb x count) (below_few count rest)
  where
    go : (b : Bool) → length (rows_below count rest) ≤ length rest → length (pick_rows b (x ∷ rows_below count rest) (rows_below count rest)) ≤ length (x ∷ rest)
    go true h = omega arith
    go false h = omega arith

-- ---- reading and writing

module _ {v w : List ℕ} {s : ℕ} (count : ℕ) where
  -- a row that is found by links that are alike
  pub row_alike : {list : List ℕ} → AgreeOn v w s (rows_below count list) → (r q : ℕ) → Memᴰ r list → r ≡ q → row_at v count r ≡ row_at w count q
  row_alike {list} a r q m e = go (dec_lt r count) ∙ ap (row_at w count) e
    where
      go : Dec (r < count) → row_at v count r ≡ row_at w count r
      go (yes h) = row_same a count r (below_has count h m)
      go (no n) = row_at_outside v count r (omega arith) ∙ sym (row_at_outside w count r (omega arith))

  -- a row is written that is among the rows, or the write changes nothing
  pub leaves_below : {v' w' list : List ℕ} → Leaves v w v' w' s (rows_below count list) → (r : ℕ) (x : Row) → Memᴰ r list
      → (count ≤ r → (u : List ℕ) → put_row u r x ≡ u) → Leaves v w (put_row v' r x) (put_row w' r x) s (rows_below count list)
  leaves_below {v'} {w'} {list} l r x m idle = go (dec_lt r count)
    where
      go : Dec (r < count) → Leaves v w (put_row v' r x) (put_row w' r x) s (rows_below count list)
      go (yes h) = leaves_row l r x (below_has count h m)
      go (no n) = rw (idle (omega arith) v', idle (omega arith) w') l

  -- a row below the number of rows is marked
  pub leaves_marked : {v' w' list : List ℕ} → Leaves v w v' w' s (rows_below count list) → (r to : ℕ) (p : Point) → Memᴰ r list → r < count
      → Leaves v w (mark_toward v' r to (slot_of p)) (mark_toward w' r to (slot_of p)) s (rows_below count list)
  leaves_marked l r to p m h = leaves_toward l r to (slot_of p) (slot_fits p) (below_has count h m)

  -- a new cut gets its grades: it is among the rows, or nothing is written
  pub leaves_begun : {v' w' list : List ℕ} → Leaves v w v' w' s (rows_below count list) → (r : ℕ) (left : Bool) (p q : Point) → Memᴰ r list → (count ≤ r → r ≡ NONE)
      → Leaves v w (begin_grades v' r left (slot_of p) (slot_of q)) (begin_grades w' r left (slot_of p) (slot_of q)) s (rows_below count list)
  leaves_begun {v'} {w'} {list} l r left p q m idle = go (dec_lt r count)
    where
      go : Dec (r < count) → Leaves v w (begin_grades v' r left (slot_of p) (slot_of q)) (begin_grades w' r left (slot_of p) (slot_of q)) s (rows_below count list)
      go (yes h) = leaves_begin l r left (slot_of p) (slot_of q) (slot_fits p) (slot_fits q) (below_has count h m)
      go (no n) =
          let none : r ≡ NONE = idle (omega arith) in
          rw (begin_outside v' r left (slot_of p) (slot_of q) (omega (arith, none)), begin_outside w' r left (slot_of p) (slot_of q) (omega (arith, none))) l

-- nothing is written at none, and `Bad` nowhere
pub none_idle : {r : ℕ} → r ≡ NONE → (x : Row) (u : List ℕ) → put_row u r x ≡ u
none_idle e x u = ap (λ r. put_row u r x) e ∙ put_row_none u x

pub bad_idle : {x : Row} → x ≡ Bad → (r : ℕ) (u : List ℕ) → put_row u r x ≡ u
bad_idle e r u = ap (put_row u r) e ∙ put_row_bad u r
