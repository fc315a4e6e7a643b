-- The marks of an add, over the words: a stride of its walk marks the side that it takes, loses no mark and changes no row (`stride`), and so do the six of a step
-- (`way_come`). Words that have gained marks alone are related again (`related_marked`).
use Prim.Native.Nat.{ℕ, ◌*◌, ◌<◌}
use mathlib.Core.Path.{◌≡◌, refl, sym, ◌∙◌, ap, subst}
use mathlib.Core.Logic.{inl, inr}
use mathlib.Core.Bool.{Bool, true, false, cond}
use mathlib.Core.List.{List}
use mathlib.Core.Option.{Option, none, some}
use native.Mathlib.Omega.{arith}
use lib.Dec.{eqb}
use borrow.Author.Tests.{eq-eqb, ne_eqb}
use Rattle.stations.specs.Counter.{counter_at}
use Rattle.stations.specs.Counts.{counts_at}
use Rattle.stations.specs.declared.counts.Counts.{Counts}
use Rattle.points.specs.declared.point.Point.{Point}
use Rattle.points.specs.Cut.{goes_left}
use Rattle.rows.specs.declared.row.Row.TheVariants.{Cut}
use Rattle.rows.specs.Row.{row_at}
use Rattle.rows.specs.Grades.{slot_of, mark_toward}
use Rattle.rows.proofs.GradeLaws.{toward_stays, toward_only, toward_here, toward_rows, toward_in}
use Rattle.table.specs.Call.{add, remove, contains, nearest}
use Rattle.table.specs.Table.{Station, idle, unfinished, waiting, Table}
use Rattle.trees.specs.Row.{parent_of}
use Rattle.trees.specs.Tree.{Tree, Has}
use Rattle.trees.specs.Route.{OnRoute}
use Rattle.trees.specs.Reads.{LeafAt, CutAt}
use Rattle.trees.specs.Below.{Marks, Passed, Grows}
use Rattle.trees.proofs.ReadLaws.{read_row, read_above}
use Rattle.trees.proofs.RouteLaws.{on_route_has}
use Rattle.trees.proofs.Routes.{passed_route, passed_grows}
use Rattle.trees.proofs.MarkLaws.{cover_grows, pass_grows, pass_down}
use Rattle.calls.specs.Walk.{down, way_of, marked_way}
use Rattle.history.specs.View.{Seat, seat_at, Reads, marks_in, Written}
use Rattle.history.specs.Related.{Marking, Related}
use Rattle.history.proofs.Frame.{slot_fits}
use Rattle.history.proofs.RowEffects.{region_written}
use Rattle.history.proofs.OwnSeat.{least_same}

-- ---- in the tree

-- an add that has marked its way is on it
pub passed_on : (marks : Marks) (tree : Option Tree) (p : Point) (x : ℕ) → Passed marks tree p x → OnRoute tree p x
passed_on marks none p x o = absurd o
passed_on marks (some t) p x o = passed_route marks t p x o

-- and stays so where no mark is lost
pub passed_more : (marks marks' : Marks) (tree : Option Tree) (p : Point) (x : ℕ) → Grows marks marks' tree → Passed marks tree p x → Passed marks' tree p x
passed_more marks marks' none p x g o = absurd o
passed_more marks marks' (some t) p x g o = passed_grows marks marks' t p x g o

pub marking_grows : (marks marks' : Marks) (tree : Option Tree) (cursor : ℕ) (x : Station) → Grows marks marks' tree → Marking marks tree cursor x → Marking marks' tree cursor x
marking_grows marks marks' tree cursor idle g m = tt
marking_grows marks marks' tree cursor (waiting a) g m = tt
marking_grows marks marks' tree cursor (unfinished i (add p c) set) g m = pass_grows marks marks' tree p cursor g m
marking_grows marks marks' tree cursor (unfinished i (remove p) set) g m = tt
marking_grows marks marks' tree cursor (unfinished i (contains p) set) g m = tt
marking_grows marks marks' tree cursor (unfinished i (nearest p) set) g m = tt

-- ---- a walk of an add

-- the words w have gained marks alone, and an add of p has marked its way down to row x
pub record Come {words : List ℕ} {t : Table} (r : Related words t) (p : Point) (w : List ℕ) (x : ℕ) : Type 0 where
  pub reads : Reads w (2 * t.places) r.heap
  pub written : Written words w (counts_at words) (counter_at words) (λ s. seat_at words s)
  pub grown : Grows (marks_in words) (marks_in w) r.tree
  pub passed : Passed (marks_in w) r.tree p x

module _ {words : List ℕ} {t : Table} (r : Related words t) (p : Point) where
  abbrev rows : ℕ
  rows = 2 * t.places

  abbrev next : ℕ → ℕ
  next x = down words rows p x

  module _ (w : List ℕ) (x : ℕ) (c : Come r p w x) where
    abbrev v : List ℕ
    v = mark_toward w x (next x) (slot_of p)

    has : Has r.tree x
    has = on_route_has r.tree p x (passed_on (marks_in w) r.tree p x c.passed)

    inside : x < rows
    inside = r.store.inside x has

    -- at a leaf it stays, and marks nothing
    leaf_stride : LeafAt r.heap r.tree x → Come r p v (next x)
    unfolding down
    leaf_stride a =
        let stays : next x ≡ x = rw (r.reads x inside, a.reads) in
        let same : v ≡ w = toward_here w x (next x) (slot_of p) (slot_fits p) (sym stays) in
        rw (same, stays) c

    -- from a cut it goes to the child on its side
    module _ (a : CutAt r.heap r.tree x) where
      goes : next x ≡ cond (goes_left a.key p) a.left a.right
      unfolding down
      goes = rw (r.reads x inside, a.reads)

      reads_cut : row_at w rows x ≡ Cut a.parent a.key a.left a.right
      reads_cut = rw (c.reads x inside, a.reads)

      -- no row is its own child
      child_off : (y : ℕ) → Has r.tree y → parent_of (r.heap y) ≡ x → ¬ (x ≡ y)
      child_off y m back e = elim (read_above r.tree r.store m) [
        | inl u ↦ omega (arith, back, u.0, inside, r.store.fits)
        | inr u ↦ u.1.other (back ∙ e)
      ]

      off : ¬ (x ≡ next x)
      off e = go (goes_left a.key p) (e ∙ goes)
        where
          go : (b : Bool) → x ≡ cond b a.left a.right → ⊥
          go true f = child_off a.left a.left_has a.left_back f
          go false f = child_off a.right a.right_has a.right_back f

      -- the side of the child to which it goes is the point's
      side_is : eqb a.left (next x) ≡ goes_left a.key p
      side_is = rw goes (go (goes_left a.key p))
        where
          go : (b : Bool) → eqb a.left (cond b a.left a.right) ≡ b
          go true = eq-eqb a.left a.left refl
          go false = ne_eqb a.left a.right a.different

      marked : marks_in v x (goes_left a.key p) p ≡ true
      marked = rw side_is at (toward_in w x (next x) (slot_of p) (slot_fits p) rows reads_cut off)

      more : Grows (marks_in w) (marks_in v) r.tree
      more y m side q e = toward_stays w x (next x) (slot_of p) (slot_fits p) y side (slot_of q) e

      cut_stride : Come r p v (next x)
      cut_stride =
          let only = region_written x (toward_only w x (next x) (slot_of p) (slot_fits p)) in
          record {
            reads = λ i l. toward_rows w x (next x) (slot_of p) (slot_fits p) rows reads_cut i ∙ c.reads i l;
            written = record {
              opened = only.opened ∙ c.written.opened;
              counted = only.counted ∙ c.written.counted;
              counters = λ s. only.counters s ∙ c.written.counters s;
              seated = λ s l. only.seated s l ∙ c.written.seated s l;
            };
            grown = λ y m side q e. more y m side q (c.grown y m side q e);
            passed = subst (λ (y : ℕ). Passed (marks_in v) r.tree p y) (sym goes)
                (pass_down (marks_in v) r.tree p r.store a.reads marked (passed_more (marks_in w) (marks_in v) r.tree p x more c.passed));
          }

    pub stride : Come r p v (next x)
    stride = elim (read_row r.tree r.store has) [ inl a ↦ leaf_stride a | inr a ↦ cut_stride a ]

  -- the six of a step, from a row to which the add has marked its way
  pub way_come : (x : ℕ) → Passed (marks_in words) r.tree p x → Come r p (marked_way words (way_of words rows p x) (slot_of p)) (way_of words rows p x).to
  unfolding way_of marked_way
  way_come x m =
      let first : Come r p words x = record { reads = r.reads; written = record { opened = refl; counted = refl; counters = λ s. refl; seated = λ s l. refl }; grown = λ y h side q e. e; passed = m } in
      let one = stride words x first in
      let two = stride _ _ one in
      let three = stride _ _ two in
      let four = stride _ _ three in
      let five = stride _ _ four in
      stride _ _ five

-- Words that have gained marks alone are related to the same table.
unfoldable pub related_marked : {words w : List ℕ} {t : Table} (r : Related words t) → Written words w (counts_at words) (counter_at words) (λ s. seat_at words s) → Reads w (2 * t.places) r.heap
    → Grows (marks_in words) (marks_in w) r.tree → Related w t
related_marked {words} {w} {t} r v reads g = record {
  opened = v.opened ∙ r.opened;
  heap = r.heap;
  tree = r.tree;
  queue = r.queue;
  reads = reads;
  store = rw (least_same words w (ap (λ (c : Counts). c.removals) v.counted) (λ s l. ap (λ (x : Seat). x.track.since) (v.seated s l))) r.store;
  counted = rw v.counted r.counted;
  counters = λ s l. v.counters s ∙ r.counters s l;
  records = r.records;
  number = r.number;
  seats = λ s l. rw (v.seated s l) (r.seats s l);
  covered = cover_grows (marks_in words) (marks_in w) r.tree g r.covered;
  marking = λ s l. rw (v.seated s l) (marking_grows (marks_in words) (marks_in w) r.tree (seat_at words s).track.cursor (t.stations s) g (r.marking s l));
}
