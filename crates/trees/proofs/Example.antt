-- The theorems' hypotheses can be met, and the moves compute: an index of two places is opened, a record is inserted, a search is submitted, a
-- nearer record is inserted beside the first, and the first is unlinked; the search answers the first, the only one held at its submission, and
-- that is right (`answers`, `right`). A search for another grade, of which the cut has no mark, passes over both its sides (`passes_over`, `none_right`).
use Prim.Native.Nat.{ℕ}
use mathlib.Core.Path.{◌≡◌, refl, sym, ◌∙◌, ap, subst, subst₂, subst₃}
use mathlib.Core.Logic.{inl, inr}
use mathlib.Core.Bool.{Bool, true, false, not, true≢false}
use mathlib.Core.List.{List, [], ◌∷◌}
use mathlib.Core.Option.{Option, none, some}
use native.Mathlib.Omega.{arith}
use lib.IntN.{pos}
use Rattle.points.specs.declared.point.Point.{Point}
use Rattle.points.specs.declared.cut.Cut.{Cut}
use Rattle.points.specs.Point.{coordinate_of}
use Rattle.points.specs.Number.{number_of}
use Rattle.points.specs.Scale.{plain_scale}
use Rattle.points.specs.Order.{by_axis}
use Rattle.points.specs.Cut.{goes_left}
use Rattle.points.specs.Choice.{same_grade}
use Rattle.points.specs.Word.{NONE}
use Rattle.points.proofs.ChoiceLaws.{grade_turn, grade_trans}
use Rattle.trees.specs.Row.{Entry, spare_row, removed_row, leaf_row, cut_row, Heap, next_of, parent_of, sibling_of, set_next, set_parent, write}
use Rattle.trees.specs.Tree.{Tree, leaf, cut, top, top_of, Has, Shape, Holds, tree_count, leaves_from, leaves_linked}
use Rattle.trees.specs.Queue.{Free, tail_of, spare_rows}
use Rattle.trees.specs.Store.{Store}
use Rattle.trees.specs.Stand.{Down, Up, landing, move_cursor, after_unlink, missed_after}
use Rattle.trees.specs.Tour.{Progress, considered, look, Opens, tour, toured, seek, search_after_insert, search_after_unlink}
use Rattle.trees.specs.Below.{Closed, Marks, Covered}
use Rattle.trees.specs.Search.{begun, Search, Nearest}
use Rattle.trees.specs.Reads.{UnlinkApart, Leaf}
use Rattle.trees.specs.Insert.{first_free, second_free, new_cut, InsertBeside, Inserted}
use Rattle.trees.specs.Unlink.{sibling_row, grand_row, UnlinkWrites, Unlinked}
use Rattle.trees.proofs.Spot.{Rows}
use Rattle.trees.proofs.ShapeLaws.{shape_unique}
use Rattle.trees.proofs.WriteLaws.{write_wrote, insert_write, insert_writes, unlink_writes}
use Rattle.trees.proofs.Insert.{insert}
use Rattle.trees.proofs.Unlink.{unlink}
use Rattle.trees.proofs.SearchLaws.{search_begin, search_insert, search_unlink, search_seek, search_finish}
use Rattle.trees.proofs.MarkLaws.{closed_covered}
use Rattle.trees.proofs.Open.{opened_next, store_open}
use Rattle.trees.proofs.ChoiceOf.{choice_of}

-- a point of grade 12 with this weight
abbrev weighing : ℕ → Point
weighing w = record { grade = pos 12; weight = pos w; moisture = pos 550; speed = pos 9000; draw = pos 0 }

abbrev target : Point
target = weighing 12000

abbrev old : Entry
old = record { point = weighing 8000; curve = 41; added = 1 }

abbrev new : Entry
new = record { point = weighing 11990; curve = 42; added = 2 }

-- the rows after the opening, the two inserts and the unlink
abbrev opened : Heap
opened i = spare_row (opened_next 4 i) 0

abbrev one : Heap
one = write opened 0 (leaf_row NONE old)

-- the cut between the two weights
abbrev between : Cut
between = record { axis = 2; sum = pos 19990 }

abbrev two : Heap
two = write (write (write one 1 (leaf_row 2 new)) 2 (new_cut between NONE new.point 1 0)) 0 (leaf_row 2 old)

abbrev last : Heap
last = write (write (write (write two 3 (set_next 0 (two 3))) 0 (removed_row 2 1 old)) 2 (spare_row NONE 1)) 1 (set_parent NONE (two 1))

-- the search for weight 12,000, submitted after the first insert, as the changes of the others leave it
abbrev left : Progress
left = search_after_unlink 0 2 1 (landing (choice_of plain_scale target).side two 2 0) (search_after_insert 0 2 (begun (some (leaf 0 old))))

-- a store whose tree has this shape holds this tree
is_tree_lem : {h : Heap} {t : Option Tree} {q : List Free} {changes removals released : ℕ} (t' : Tree) → Store 2 h t q changes removals released → Rows t'
    → Shape h (some t') → top_of t ≡ top t'
    → Store 2 h (some t') q changes removals released
is_tree_lem {h} {t} t' s rows shape e =
    let f : t ≡ some t' = shape_unique h t (some t') (λ i m x. omega (arith, s.inside i m, s.fits)) rows s.shape shape e in
    rw f at s

-- the first insert
first : Inserted 2 opened one none (spare_rows 0 4) 0 0 0 old none between 0 1
unfolding spare_rows
first = insert one between old none none (store_open 2 opened (omega arith) (λ i l. refl)) (omega arith) refl tt refl
    (insert_write (write_wrote opened 0 (leaf_row NONE old)))

store_one : Store 2 one (some (leaf 0 old)) first.queue 1 0 0
unfolding write
store_one = is_tree_lem (leaf 0 old) first.store (λ i m x. omega (arith, m, x)) refl first.root

-- the second, beside the first record
abbrev beside : Leaf
beside = record { row = 0; parent = NONE; entry = old }

parted : goes_left between old.point ≡ not (goes_left between new.point)
unfolding goes_left number_of coordinate_of
parted = refl

second : Inserted 2 one two (some (leaf 0 old)) first.queue 1 0 0 new (some beside) between 1 2
unfolding tree_count write
second =
    let a_is : first_free first.queue ≡ 1 = first.head in
    let b_is : second_free one first.queue ≡ 2 = ap (λ x. next_of (one x)) a_is in
    let w : InsertBeside one two between 1 2 new beside =
    insert_writes (record {
      a≢b = λ e. omega arith;
      a≢row = λ e. omega arith;
      b≢row = λ e. omega arith;
      a≢parent = λ e. omega arith;
      b≢parent = λ e. omega arith;
      row≢parent = λ e. omega arith;
    })
    (write_wrote one 1 (leaf_row 2 new)) (write_wrote (write one 1 (leaf_row 2 new)) 2 (new_cut between NONE new.point 1 0))
    (write_wrote (write (write one 1 (leaf_row 2 new)) 2 (new_cut between NONE new.point 1 0)) 0 (leaf_row 2 old))
    (record { nothing = λ e i. refl; written = λ n. absurd (n refl) }) in
    let w' : InsertBeside one two between (first_free first.queue) (second_free one first.queue) new beside =
    subst₂ (λ (x y : ℕ). InsertBeside one two between x y new beside) (sym a_is) (sym b_is) w in
    subst₂ (λ (x y : ℕ). Inserted 2 one two (some (leaf 0 old)) first.queue 1 0 0 new (some beside) between x y) a_is b_is
    (insert two between new (some (leaf 0 old)) (some beside) store_one (omega arith) (refl, refl) parted refl w')

-- the unlink of the first record, from below the cut of row 2, with the second as its sibling
abbrev both : Tree
both = cut 2 between (leaf 0 old) (leaf 1 new)

cut_reads : two 2 ≡ cut_row NONE between 0 1
unfolding write number_of coordinate_of goes_left
cut_reads = refl

tree_two : second.tree ≡ some both
unfolding write
tree_two =
    shape_unique two second.tree (some both) (λ i m x. omega (arith, second.store.inside i m, second.store.fits))
    (λ i. elim [ inl e ↦ λ x. omega (arith, e, x) | inr (inl e) ↦ λ x. omega (arith, e, x) | inr (inr e) ↦ λ x. omega (arith, e, x) ]) second.store.shape
    (cut_reads, refl, refl) second.root

abbrev gone : Leaf
gone = record { row = 0; parent = 2; entry = old }

third : Unlinked 2 two last second.tree second.queue 2 0 0 gone 1 NONE
unfolding write spare_rows
third =
    let tail_is : tail_of second.queue ≡ 3 = second.tail ∙ first.tail in
    let sibling_is : sibling_row two gone ≡ 1 = ap (sibling_of 0) cut_reads in
    let grand_is : grand_row two gone ≡ NONE = ap parent_of cut_reads in
    let h₁ : Heap = write two 3 (set_next 0 (two 3)) in
    let h₂ : Heap = write h₁ 0 (removed_row 2 1 old) in
    let h₃ : Heap = write h₂ 2 (spare_row NONE 1) in
    let has : Has second.tree 0 = rw tree_two (inr (inl refl)) in
    let apart : UnlinkApart 3 0 2 1 NONE = record {
      tail≢row = λ e. omega arith;
      tail≢parent = λ e. omega arith;
      tail≢sibling = λ e. omega arith;
      tail≢grand = λ e. omega arith;
      row≢parent = λ e. omega arith;
      row≢sibling = λ e. omega arith;
      row≢grand = λ e. omega arith;
      parent≢sibling = λ e. omega arith;
      parent≢grand = λ e. omega arith;
      sibling≢grand = λ e. omega arith;
    } in
    let w : UnlinkWrites two last 3 1 gone 1 NONE =
    unlink_writes (λ e. omega arith) apart (write_wrote two 3 (set_next 0 (two 3))) (write_wrote h₁ 0 (removed_row 2 1 old)) (write_wrote h₂ 2 (spare_row NONE 1))
    (write_wrote h₃ 1 (set_parent NONE (two 1))) (record { nothing = λ e i. refl; written = λ n. absurd (n refl) }) in
    let w' : UnlinkWrites two last (tail_of second.queue) 1 gone (sibling_row two gone) (grand_row two gone) =
    subst₃ (λ (x y z : ℕ). UnlinkWrites two last x 1 gone y z) (sym tail_is) (sym sibling_is) (sym grand_is) w in
    subst₂ (λ (x y : ℕ). Unlinked 2 two last second.tree second.queue 2 0 0 gone x y) sibling_is grand_is
    (unlink {l = gone} second.tree second.store has refl w')

held_after : leaves_linked 4 last 1 ≡ new ∷ []
unfolding leaves_linked leaves_from write
held_after = refl

moved : left ≡ record { stand = record { cursor = 1; phase = Down }; missed = 0; best = none }
unfolding move_cursor after_unlink missed_after
moved = refl

-- a search that stood on the removed record, the far child, would have landed on its way up; one on the other, which is near, going down
lands_up : landing (choice_of plain_scale target).side two 2 0 ≡ Up
unfolding landing write number_of coordinate_of goes_left
lands_up = refl

lands_down : landing (choice_of plain_scale target).side two 2 1 ≡ Down
unfolding landing write number_of coordinate_of goes_left
lands_down = refl

-- what holds of the search after all this
searching : Search (choice_of plain_scale target) 1 0 (Holds (some (leaf 0 old))) third.tree third.queue 3 1 left
searching = search_unlink second.store third (search_insert second (omega arith) (search_begin (choice_of plain_scale target) (some (leaf 0 old)) store_one (λ e. (λ m. m, λ m. m))))

-- one step looks at the removed record, passes over the one that is younger than the search, and has nothing left
answers : seek (choice_of plain_scale target) (λ x side. true) 1 last left ≡ some (record {
  stand = record { cursor = NONE; phase = Up };
  missed = NONE;
  best = some
      (record { point = old.point; curve = 41 });
})
unfolding seek look tour toured considered write move_cursor after_unlink missed_after same_grade by_axis coordinate_of
answers = refl

-- so the answer is the nearest of the records held at submission
right : Nearest (choice_of plain_scale target) (Holds (some (leaf 0 old))) (some (record { point = old.point; curve = 41 }))
right =
    let w = search_seek third.tree third.store (λ x side. true) (λ x side e f. absurd (true≢false f)) left searching in
    let e : w.to ≡ record { stand = record { cursor = NONE; phase = Up }; missed = NONE; best = some (record { point = old.point; curve = 41 }) } =
    cc (w.is, answers) in
    search_finish third.tree third.store (rw e at w.search) refl

-- between the second insert and the unlink, a search for grade 13 where both sides of the cut have the mark of grade 12 alone
abbrev other : Point
other = record { grade = pos 13; weight = pos 12000; moisture = pos 550; speed = pos 9000; draw = pos 0 }

abbrev marked : Marks
marked x side p = same_grade old.point p

store_two : Store 2 two (some both) second.queue 2 0 0
store_two = subst (λ (t : Option Tree). Store 2 two t second.queue 2 0 0) tree_two second.store

covered_two : Covered marked (some both)
unfolding same_grade by_axis coordinate_of
covered_two =
    subst (λ (t : Option Tree). Covered marked t) tree_two (second.covers marked marked (λ x side e m. absurd m) (λ x m side p e. e) (refl, refl, refl))

abbrev opens : Opens
opens x side = marked x side other

-- every point of grade 13 has the marks of that one
same_marks : (p : Point) → same_grade other p ≡ true → (b : Bool) → same_grade old.point p ≡ b → same_grade old.point p ≡ same_grade old.point other
unfolding same_grade by_axis coordinate_of
same_marks p g true e = e ∙ sym (grade_trans old.point p other e (grade_turn other p g))
same_marks p g false e = e

closed : Closed opens (choice_of plain_scale other) (some both)
closed = closed_covered marked (choice_of plain_scale other) other (some both) (λ x side p g. same_marks p g (same_grade old.point p) refl) covered_two

-- one step comes to the cut, turns there and is at its end
passes_over : seek (choice_of plain_scale other) opens 2 two (begun (some both)) ≡ some (record { stand = record { cursor = NONE; phase = Up }; missed = NONE; best = none })
unfolding seek look tour toured write same_grade by_axis number_of coordinate_of goes_left
passes_over = refl

-- and that no record has the grade is right
none_right : Nearest (choice_of plain_scale other) (Holds (some both)) none
none_right =
    let w = search_seek (some both) store_two opens closed (begun (some both)) (search_begin (choice_of plain_scale other) (some both) store_two (λ e. (λ m. m, λ m. m))) in
    let e : w.to ≡ record { stand = record { cursor = NONE; phase = Up }; missed = NONE; best = none } = cc (w.is, passes_over) in
    search_finish (some both) store_two (rw e at w.search) refl
