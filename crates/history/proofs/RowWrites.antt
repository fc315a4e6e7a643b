-- Rows written one after another into words that read as a heap (`put_row_lem`, `put_nothing`): they read as the heap with these rows, and counts and
-- seats stay.
use Prim.Native.Nat.{ℕ, ◌*◌, ◌<◌}
use mathlib.Core.Path.{◌≡◌, refl, ap, ◌∙◌}
use mathlib.Core.Bool.{Bool, true, false≢true}
use mathlib.Core.List.{List}
use native.Mathlib.Decide.{ℕ_discrete}
use borrow.Author.Tests.{eq-eqb, ne_eqb}
use Rattle.stations.specs.Counter.{counter_at}
use Rattle.stations.specs.Counts.{counts_at}
use Rattle.points.specs.declared.point.Point.{Point}
use Rattle.points.specs.declared.scale.Scale.{Scale}
use Rattle.points.specs.declared.cut.Cut.{Cut as PointCut}
use Rattle.points.specs.Word.{NONE}
use Rattle.rows.specs.declared.row.Row.{Row as WordRow}
use Rattle.rows.specs.declared.row.Row.TheVariants.{Bad, Spare, Removed, Leaf, Cut}
use Rattle.words.specs.Agree.{in_row}
use Rattle.rows.specs.Row.{row_at, put_row, in_rows}
use Rattle.rows.specs.Grades.{slot_of, begin_grades}
use Rattle.words.proofs.AgreeLaws.{row_row, common_row}
use Rattle.words.proofs.RuleLaws.{rule_unseen}
use Rattle.rows.proofs.RowLaws.{put_row_only, rule_put_row}
use Rattle.rows.proofs.GradeLaws.{admits_put_row, begin_only, begin_rows}
use Rattle.calls.proofs.UnseenLaws.{reads_unseen}
use Rattle.stations.specs.Common.{opened_in, Opened}
use Rattle.trees.specs.Row.{Row, Heap, Wrote}
use Rattle.calls.specs.Link.{is_cut}
use Rattle.history.specs.View.{seat_at, word_row, Reads, heap_put, marks_in, Written}
use Rattle.history.proofs.Frame.{slot_fits}
use Rattle.history.proofs.Effects.{reads_put, put_none, region_written, row_written}

pub heap_wrote : (h : Heap) (r : ℕ) (row : Row) → Wrote h (heap_put h r row) r row
unfolding heap_put
heap_wrote h r row = record { here = rw (eq-eqb r r refl, heap_put); rest = λ i n. rw (ne_eqb i r n, heap_put) }

-- the words read as the heap; counts and seats are those of the words before
pub record Holding (before words : List ℕ) (places limit : ℕ) (scale : Scale) (h : Heap) : Type 0 where
  pub opened : opened_in words ≡ Opened places limit scale
  pub written : Written before words (counts_at before) (counter_at before) (λ s. seat_at before s)
  pub reads : Reads words (2 * places) h

-- no row is written yet
pub held_first : (words : List ℕ) (places limit : ℕ) (scale : Scale) (h : Heap) → opened_in words ≡ Opened places limit scale → Reads words (2 * places) h → Holding words words places limit scale h
held_first words places limit scale h o r = record { opened = o; written = record { opened = refl; counted = refl; counters = λ s. refl; seated = λ s l. refl }; reads = r }

-- a row in range is written
pub put_row_lem : {before words : List ℕ} {places limit : ℕ} {scale : Scale} {h : Heap} → Holding before words places limit scale h → (r : ℕ) (x : WordRow) (row : Row) → x ≡ word_row row → r < 2 * places
    → in_rows scale.rule (2 * places) (word_row row) ≡ true → Holding before (put_row words r x) places limit scale (heap_put h r row)
put_row_lem {before} {words} {places} {limit} {scale} {h} w r x row e l i =
    let v = row_written words r x in
    record {
      opened = v.opened ∙ w.opened;
      written = record {
        opened = v.opened ∙ w.written.opened;
        counted = v.counted ∙ w.written.counted;
        counters = λ s. v.counters s ∙ w.written.counters s;
        seated = λ s k. v.seated s k ∙ w.written.seated s k;
      };
      reads = rw e (reads_put words places limit scale h r row w.opened l i w.reads);
    }

-- a cut gets its grades
pub put_grades : {before words : List ℕ} {places limit : ℕ} {scale : Scale} {h : Heap} → Holding before words places limit scale h → (r : ℕ) (left : Bool) (p q : Point) {parent : ℕ} {cut : PointCut} {one two : ℕ}
    → row_at words (2 * places) r ≡ Cut parent cut one two → Holding before (begin_grades words r left (slot_of p) (slot_of q)) places limit scale h
put_grades {before} {words} {places} w r left p q e =
    let v = region_written r (begin_only words r left (slot_of p) (slot_of q) (slot_fits p) (slot_fits q)) in
    record {
      opened = v.opened ∙ w.opened;
      written = record {
        opened = v.opened ∙ w.written.opened;
        counted = v.counted ∙ w.written.counted;
        counters = λ s. v.counters s ∙ w.written.counters s;
        seated = λ s k. v.seated s k ∙ w.written.seated s k;
      };
      reads = λ i l. begin_rows words r left (slot_of p) (slot_of q) (slot_fits p) (slot_fits q) (2 * places) e i ∙ w.reads i l;
    }

-- a row at none is not written
pub put_nothing : {before words : List ℕ} {places limit : ℕ} {scale : Scale} {h : Heap} → Holding before words places limit scale h → (r : ℕ) (x : WordRow) → r ≡ NONE → Holding before (put_row words r x) places limit scale h
put_nothing {before} {words} {places} {limit} {scale} {h} w r x e =
    let same : put_row words r x ≡ words = ap (λ n. put_row words n x) e ∙ put_none words x in
    rw same w

-- ---- marks

-- a row that is written keeps the marks of every other row, and its own where it is a cut
pub marks_kept : (words : List ℕ) (r : ℕ) (row : WordRow) (x : ℕ) → (x ≡ r → is_cut row ≡ true) → (side : Bool) (p : Point) → marks_in (put_row words r row) x side p ≡ marks_in words x side p
marks_kept words r row x f side p = go row f (ℕ_discrete x r)
  where
    other : (row : WordRow) → ¬ (x ≡ r) → marks_in (put_row words r row) x side p ≡ marks_in words x side p
    other row n = (reads_unseen (in_row r) (in_row x) (rule_put_row words r row) (put_row_only words r row) (row_row x r n)).grades side (slot_of p) (slot_fits p)

    here : (row : WordRow) → is_cut row ≡ true → marks_in (put_row words r row) x side p ≡ marks_in words x side p
    here Bad e = absurd (false≢true e)
    here (Spare next freed) e = absurd (false≢true e)
    here (Removed next freed added point curve) e = absurd (false≢true e)
    here (Leaf parent added point curve) e = absurd (false≢true e)
    here (Cut parent cut left right) e = admits_put_row words r parent cut left right x side (slot_of p) (slot_fits p)

    go : (row : WordRow) → (x ≡ r → is_cut row ≡ true) → Dec (x ≡ r) → marks_in (put_row words r row) x side p ≡ marks_in words x side p
    go row f (yes e) = here row (f e)
    go row f (no n) = other row n

-- a new cut's grades leave the marks of every other row
pub marks_begun : (words : List ℕ) (r : ℕ) (left : Bool) (here there : Point) (x : ℕ) → ¬ (x ≡ r) → (side : Bool) (p : Point)
    → marks_in (begin_grades words r left (slot_of here) (slot_of there)) x side p ≡ marks_in words x side p
marks_begun words r left here there x n side p =
    let only = begin_only words r left (slot_of here) (slot_of there) (slot_fits here) (slot_fits there) in
    (reads_unseen (in_row r) (in_row x) (rule_unseen (in_row r) only (common_row r)) only (row_row x r n)).grades side (slot_of p) (slot_fits p)
