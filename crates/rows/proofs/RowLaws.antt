-- Rows in words: a row in range that is written is read back; every other row, record and word is as it was; `NONE` and `Bad` are
-- harmless; slices that agree on the words of a row have the same row there.
-- Assumes nothing.
use mathlib.Core.Path.{◌≡◌, refl, ap, ◌∙◌}
use mathlib.Core.Bool.{Bool, true, false, cond, ◌&&◌, false≢true}
use mathlib.Core.List.{List}
use Prim.Native.Nat.{ℕ, ◌+◌, ◌≤◌, ◌<◌}
use native.Mathlib.Omega.{arith}
use borrow.Author.Tests.{leb-true, le-leb, lt-ltb, le-ltb}
use lib.Dec.{leb, ltb, lit<}
use lib.ListN.{length, get_or, drop}
use Rattle.points.specs.Number.{in_range_by}
use Rattle.points.specs.Word.{NONE, cut_in_range}
use Rattle.points.proofs.Tests.{and_l, and_r}
use Rattle.points.proofs.NumberLaws.{in_range_by_lem}
use Rattle.points.proofs.WordLaws.{point_at_words, cut_at_words}
use Rattle.points.specs.declared.cut.Cut.{Cut as PointCut}
use Rattle.points.specs.declared.point.Point.{Point}
use Rattle.rows.specs.declared.row.Row.{Row}
use Rattle.rows.specs.declared.row.Row.TheVariants.{Bad, Spare, Removed, Leaf, Cut}
use Rattle.words.specs.Layout.{row_size, at_row, most_rows, Fits}
use Rattle.words.specs.Words.{part, splice}
use Rattle.words.specs.Rule.{rule_at}
use Rattle.words.specs.Agree.{Agree, Only, in_row, AgreeIn, OnlyIn, start_of, size_of}
use Rattle.words.specs.Range.{link_in, curve_in}
use Rattle.rows.specs.Row.{is_row, in_rows, checked_row, row_of, row_at, encode_row, filled_row, put_row, spare_words, record_words, cut_words, as_spare, as_removed, as_leaf, as_cut}
use Rattle.words.specs.Part.{point_from, point_words}
use lib.Seq.{get_or-take, get_or-drop}
use Rattle.words.proofs.Splice.{length_splice, splice_inside}
use Rattle.words.proofs.AgreeLaws.{part_agree, only_within, splice_only, splice_agree, cond_only, cond_agree, row_row, common_row, elsewhere}
use Rattle.words.proofs.RuleLaws.{rule_unseen}

-- what it means that a row is in range, by kind
pub in_rows_bad : (rule rows : ℕ) → in_rows rule rows Bad ≡ false
unfolding in_rows
in_rows_bad rule rows = refl

pub in_rows_spare : (rule rows next freed : ℕ) → in_rows rule rows (Spare next freed) ≡ link_in rows next
unfolding in_rows
in_rows_spare rule rows next freed = refl

pub in_rows_removed : (rule rows next freed added : ℕ) (point : Point) (curve : ℕ)
    → in_rows rule rows (Removed next freed added point curve) ≡ ((link_in rows next && in_range_by rule point) && curve_in curve)
unfolding in_rows
in_rows_removed rule rows next freed added point curve = refl

pub in_rows_leaf : (rule rows parent added : ℕ) (point : Point) (curve : ℕ)
    → in_rows rule rows (Leaf parent added point curve) ≡ ((link_in rows parent && in_range_by rule point) && curve_in curve)
unfolding in_rows
in_rows_leaf rule rows parent added point curve = refl

pub in_rows_cut : (rule rows parent : ℕ) (cut : PointCut) (left right : ℕ)
    → in_rows rule rows (Cut parent cut left right) ≡ (((link_in rows parent && cut_in_range rule cut) && ltb left rows) && ltb right rows)
unfolding in_rows
in_rows_cut rule rows parent cut left right = refl

-- a row in range is a row
pub in_rows_row : (rule rows : ℕ) (row : Row) → in_rows rule rows row ≡ true → is_row row ≡ true
unfolding in_rows
in_rows_row rule rows Bad e = e
in_rows_row rule rows (Spare next freed) e = refl
in_rows_row rule rows (Removed next freed added point curve) e = refl
in_rows_row rule rows (Leaf parent added point curve) e = refl
in_rows_row rule rows (Cut parent cut left right) e = refl

-- at most sixteen words are written
encode_fits : (row : Row) → length (encode_row row) ≤ row_size
unfolding encode_row spare_words record_words cut_words point_words
encode_fits Bad = omega arith
encode_fits (Spare next freed) = omega arith
encode_fits (Removed next freed added point curve) = omega arith
encode_fits (Leaf parent added point curve) = omega arith
encode_fits (Cut parent cut left right) = omega arith

-- words that begin as those of a row give the row
row_back : (rule rows : ℕ) (row : Row) (x : List ℕ) → in_rows rule rows row ≡ true
    → ((k : ℕ) → k < length (encode_row row) → get_or x k 0 ≡ get_or (encode_row row) k 0) → row_of x ≡ row
unfolding in_rows row_of encode_row point_from spare_words record_words cut_words as_spare as_removed as_leaf as_cut point_words
row_back rule rows Bad x e h = absurd (false≢true e)
row_back rule rows (Spare next freed) x e h = simp (h 0 (lit< tt), h 1 (lit< tt), h 2 (lit< tt))
row_back rule rows (Removed next freed added point curve) x e h =
    simp (h 0 (lit< tt), h 1 (lit< tt), h 2 (lit< tt), h 3 (lit< tt), h 4 (lit< tt), h 5 (lit< tt), h 6 (lit< tt), h 7 (lit< tt), h 8 (lit< tt), h 9 (lit< tt))
    (ap (λ p. Removed next freed added p curve)
    (point_at_words point (in_range_by_lem rule point (and_r (link_in rows next) (in_range_by rule point) (and_l (link_in rows next && in_range_by rule point) (curve_in curve) e)))))
row_back rule rows (Leaf parent added point curve) x e h =
    simp (h 0 (lit< tt), h 1 (lit< tt), h 3 (lit< tt), h 4 (lit< tt), h 5 (lit< tt), h 6 (lit< tt), h 7 (lit< tt), h 8 (lit< tt), h 9 (lit< tt))
    (ap (λ p. Leaf parent added p curve)
    (point_at_words point (in_range_by_lem rule point (and_r (link_in rows parent) (in_range_by rule point) (and_l (link_in rows parent && in_range_by rule point) (curve_in curve) e)))))
row_back rule rows (Cut parent cut left right) x e h =
    let f = and_l (link_in rows parent && cut_in_range rule cut) (ltb left rows) (and_l ((link_in rows parent && cut_in_range rule cut) && ltb left rows) (ltb right rows) e) in
    simp (h 0 (lit< tt), h 1 (lit< tt), h 4 (lit< tt), h 5 (lit< tt), h 6 (lit< tt), h 7 (lit< tt))
    (ap (λ k. Cut parent k left right) (cut_at_words rule cut (and_r (link_in rows parent) (cut_in_range rule cut) f)))

checked_same : (rule rows : ℕ) (row : Row) → in_rows rule rows row ≡ true → checked_row rule rows row ≡ row
unfolding checked_row
checked_same rule rows row e = rw e

checked_sound : (rule rows : ℕ) (row : Row) → is_row (checked_row rule rows row) ≡ true → in_rows rule rows (checked_row rule rows row) ≡ true
unfolding checked_row
checked_sound rule rows row e = go (in_rows rule rows row) refl e
  where
    go : (b : Bool) → in_rows rule rows row ≡ b → is_row (cond b row Bad) ≡ true → in_rows rule rows (cond b row Bad) ≡ true
    go true f h = f
    go false f h = absurd (false≢true h)

-- a row that is read is in range
pub row_sound : (w : List ℕ) (rows r : ℕ) → is_row (row_at w rows r) ≡ true → in_rows (rule_at w) rows (row_at w rows r) ≡ true
unfolding row_at
row_sound w rows r e = go (ltb r rows && leb (at_row r + row_size) (length w)) e
  where
    go : (b : Bool) → is_row (cond b (checked_row (rule_at w) rows (row_of (part w (at_row r) row_size))) Bad) ≡ true
        → in_rows (rule_at w) rows (cond b (checked_row (rule_at w) rows (row_of (part w (at_row r) row_size))) Bad) ≡ true
    go true h = checked_sound (rule_at w) rows (row_of (part w (at_row r) row_size)) h
    go false h = absurd (false≢true h)

-- a row is read exactly if it is one of the index, in the slice, and every field of its words is in range
pub row_exact : (w : List ℕ) (rows r : ℕ)
    → is_row (row_at w rows r) ≡ ((ltb r rows && leb (at_row r + row_size) (length w)) && in_rows (rule_at w) rows (row_of (part w (at_row r) row_size)))
unfolding row_at checked_row
row_exact w rows r = go (ltb r rows && leb (at_row r + row_size) (length w)) (in_rows (rule_at w) rows row) refl
  where
    row : Row
    row = row_of (part w (at_row r) row_size)

    go : (b i : Bool) → in_rows (rule_at w) rows row ≡ i → is_row (cond b (cond i row Bad) Bad) ≡ (b && i)
    go true true e = in_rows_row (rule_at w) rows row e
    go true false e = refl
    go false i e = refl

-- there is no row from rows on, so none at NONE
pub row_at_outside : (w : List ℕ) (rows r : ℕ) → rows ≤ r → row_at w rows r ≡ Bad
unfolding row_at
row_at_outside w rows r h = rw (le-ltb r rows h)

pub row_at_none : (w : List ℕ) (rows : ℕ) → Fits w rows → row_at w rows NONE ≡ Bad
row_at_none w rows m = row_at_outside w rows NONE (omega (arith, m.most))

pub put_row_outside : (w : List ℕ) (r : ℕ) (row : Row) → most_rows ≤ r → put_row w r row ≡ w
unfolding put_row
put_row_outside w r row h = go (is_row row) (ltb r most_rows) (le-ltb r most_rows h)
  where
    go : (b d : Bool) → d ≡ false → cond ((b && d) && leb (at_row r + row_size) (length w)) (filled_row w (at_row r) row) w ≡ w
    go true d e = rw e
    go false d e = refl

pub put_row_none : (w : List ℕ) (row : Row) → put_row w NONE row ≡ w
put_row_none w row = put_row_outside w NONE row (omega arith)

-- Bad is not written
pub put_row_bad : (w : List ℕ) (r : ℕ) → put_row w r Bad ≡ w
unfolding put_row
put_row_bad w r = refl

-- the words that are written fit where the row does
fill_fits : (w : List ℕ) (a : Bool) (row : Row) (r : ℕ) → (a && leb (at_row r + row_size) (length w)) ≡ true → at_row r + length (encode_row row) ≤ length w
fill_fits w a row r e = omega (arith, leb-true (at_row r + row_size) (length w) (and_r a _ e), encode_fits row)

-- writing a row touches its sixteen words alone
pub put_row_only : (w : List ℕ) (r : ℕ) (row : Row) → OnlyIn (put_row w r row) w (in_row r)
unfolding put_row filled_row start_of size_of
put_row_only w r row =
    cond_only ((is_row row && ltb r most_rows) && leb (at_row r + row_size) (length w))
    (λ e. only_within (splice_only w (encode_row row) (at_row r) (length (encode_row row)) (fill_fits w (is_row row && ltb r most_rows) row r e) refl)
    (at_row r) row_size (omega arith) (omega (arith, encode_fits row)))

pub length_put_row : (w : List ℕ) (r : ℕ) (row : Row) → length (put_row w r row) ≡ length w
length_put_row w r row = (put_row_only w r row).lengths

-- slices that agree agree again after the same row was written
pub put_row_agree : {v w : List ℕ} {a n : ℕ} → Agree v w a n → (r : ℕ) (row : Row) → Agree (put_row v r row) (put_row w r row) a n
unfolding put_row filled_row
put_row_agree {v} {w} {a} {n} g r row =
    cond_agree ((is_row row && ltb r most_rows) && leb (at_row r + row_size) (length v)) ((is_row row && ltb r most_rows) && leb (at_row r + row_size) (length w))
    (ap (λ k. (is_row row && ltb r most_rows) && leb (at_row r + row_size) k) g.lengths)
    (λ e. splice_agree g (encode_row row) (at_row r) (length (encode_row row)) (fill_fits v (is_row row && ltb r most_rows) row r e) refl)
    g

-- slices of one rule that agree on the words of a row have the same row there
pub row_at_agree : {v w : List ℕ} (rows r : ℕ) → rule_at v ≡ rule_at w → AgreeIn v w (in_row r) → row_at v rows r ≡ row_at w rows r
unfolding row_at start_of size_of
row_at_agree rows r e g = rw (e, g.lengths, part_agree g)

-- a row written leaves the rule
pub rule_put_row : (w : List ℕ) (r : ℕ) (row : Row) → rule_at (put_row w r row) ≡ rule_at w
rule_put_row w r row = rule_unseen (in_row r) (put_row_only w r row) (common_row r)

-- another row stays
pub row_at_put_row_other : (w : List ℕ) (r : ℕ) (row : Row) (rows q : ℕ) → ¬ (q ≡ r) → row_at (put_row w r row) rows q ≡ row_at w rows q
row_at_put_row_other w r row rows q n =
    row_at_agree rows q (rule_put_row w r row) (elsewhere (in_row r) (in_row q) (put_row_only w r row) (row_row q r n))

-- a row in range that is written is read back
pub row_at_put_row_same : (w : List ℕ) (r : ℕ) (row : Row) (rows : ℕ) → Fits w rows → r < rows → in_rows (rule_at w) rows row ≡ true → row_at (put_row w r row) rows r ≡ row
unfolding row_at put_row filled_row at_row
row_at_put_row_same w r row rows m h e =
    let room : at_row r + row_size ≤ length w = omega (arith, m.long) in
    let below : r < most_rows = omega (arith, m.most) in
    let n = length (encode_row row) in
    let fits : at_row r + n ≤ length w = omega (arith, encode_fits row) in
    let new = splice w (encode_row row) (at_row r) n in
    let first : (k : ℕ) → k < n → get_or (part new (at_row r) row_size) k 0 ≡ get_or (encode_row row) k 0 =
    λ k l. get_or-take row_size (drop (at_row r) new) k 0 (omega (arith, encode_fits row)) ∙ get_or-drop (at_row r) new k 0
    ∙ splice_inside w (encode_row row) (at_row r) n fits refl k l in
    rw (rule_put_row w r row)
    (simp (in_rows_row (rule_at w) rows row e, lt-ltb r most_rows below, le-leb (at_row r + row_size) (length w) room, length_splice w (encode_row row) (at_row r) n fits refl, lt-ltb r rows h, row_back (rule_at w) rows row (part new (at_row r) row_size) e first)
    (checked_same (rule_at w) rows row e))

-- ---- cuts, whose last eight words are no field of the row

-- writing a cut touches its first eight words alone
pub put_row_cut_only : (w : List ℕ) (r parent : ℕ) (cut : PointCut) (left right : ℕ) → Only (put_row w r (Cut parent cut left right)) w (at_row r) 8
unfolding put_row encode_row filled_row cut_words
put_row_cut_only w r parent cut left right =
    cond_only ((true && ltb r most_rows) && leb (at_row r + row_size) (length w))
    (λ e. splice_only w (encode_row (Cut parent cut left right)) (at_row r) 8 (omega (arith, leb-true (at_row r + row_size) (length w) (and_r (true && ltb r most_rows) _ e))) refl)
