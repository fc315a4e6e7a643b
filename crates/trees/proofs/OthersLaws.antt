-- What the changes of other stations do to what is left to a search: an insert adds at most four moves (`others_insert`), an unlink at most one look
-- (`others_unlink`). At any time the tour is at most four moves for each record held (`tour_count`), and a look is left for no more than the removals since
-- the submission (`left_counted`).
use Prim.Native.Nat.{ℕ, suc, ◌+◌, ◌*◌, ◌≤◌, ◌-◌}
use mathlib.Core.Path.{◌≡◌, refl}
use mathlib.Core.Bool.{Bool, true, false, cond}
use mathlib.Core.List.{List, [], ◌∷◌}
use mathlib.Core.Option.{Option, none, some}
use native.Mathlib.Omega.{arith}
use lib.Dec.{eqb}
use lib.ListN.{length-append}
use Rattle.points.specs.declared.cut.Cut.{Cut}
use Rattle.points.specs.Word.{NONE}
use Rattle.trees.specs.Row.{Entry, Heap}
use Rattle.trees.specs.Tree.{Tree, leaf, cut, tree_count, count_of}
use Rattle.trees.specs.Queue.{Free}
use Rattle.trees.specs.Store.{Store}
use Rattle.trees.specs.Stand.{Stand, landing}
use Rattle.trees.specs.Choice.{Choice}
use Rattle.trees.specs.Tour.{Progress, search_after_insert, search_after_unlink}
use Rattle.trees.specs.Search.{Search}
use Rattle.trees.specs.Reads.{Leaf}
use Rattle.trees.specs.Insert.{leaf_of, cut_for, Inserted}
use Rattle.trees.specs.Unlink.{removal_of, Unlinked}
use Rattle.trees.specs.Measure.{cost, tree_left, tour_left, step_moves, progress_left, search_left}
use Rattle.trees.proofs.Left.{left_cost}
use Rattle.trees.proofs.MeasureLaws.{kept_missing}

module _ {places : ℕ} {h h' : Heap} {t : Option Tree} {q : List Free} {changes removals released : ℕ} {c : Choice} {as_of since : ℕ} {Then : Entry → Type 0} {s : Progress}
    (st : Store places h t q changes removals released) where
  -- an insert: at most four moves more, those of a leaf and a cut
  pub others_insert : {new : Entry} {beside : Option Leaf} {k : Cut} {a b : ℕ} (w : Inserted places h h' t q changes removals released new beside k a b) → released ≤ since
      → Search c as_of since Then t q changes removals s
      → progress_left c.side w.tree w.queue (search_after_insert (leaf_of beside) (cut_for beside b) s) ≤ 4 + progress_left c.side t q s
  others_insert w le v =
      omega (arith, w.left c.side s.stand v.stands, kept_missing st v.missing, kept_missing w.store (w.missing since s.missed v.rest le v.missing))

  -- an unlink: no move more, and one look, at the record that it removed
  pub others_unlink : {l : Leaf} {sibling grand : ℕ} (w : Unlinked places h h' t q changes removals released l sibling grand)
      → Search c as_of since Then t q changes removals s
      → progress_left c.side w.tree w.queue (search_after_unlink l.row l.parent sibling (landing c.side h l.parent l.row) s)
      ≤ step_moves + progress_left c.side t q s
  others_unlink {l} w v =
      omega (
        arith,
        w.left c.side s.stand v.stands,
        kept_missing st v.missing,
        kept_missing w.store (w.missing since s.missed v.rest v.missing),
        length-append v.rest (removal_of l ∷ []),
      )

cost_count : (t : Tree) → cost t + 3 ≡ 4 * tree_count t
unfolding cost tree_count
cost_count (leaf a e) = refl
cost_count (cut a k l r) = omega (arith, cost_count l, cost_count r)

-- the tour of a tree is at most four moves for each record
pub tour_count : (side : Cut → Bool) (t : Option Tree) (s : Stand) → tour_left side t s ≤ 4 * count_of t
tour_count side none s = omega arith
tour_count side (some t) s = go (eqb s.cursor NONE)
  where
    go : (b : Bool) → cond b 0 (suc (tree_left side t s)) ≤ 4 * count_of (some t)
    go true = omega arith
    go false = omega (arith, left_cost side t s, cost_count t)

-- so what is left is bounded by the records held and the removals since the submission
pub left_counted : {t : Option Tree} {q : List Free} {changes removals : ℕ} {c : Choice} {as_of since : ℕ} {Then : Entry → Type 0} {s : Progress}
    → (v : Search c as_of since Then t q changes removals s) → search_left v ≤ 4 * count_of t + step_moves * (removals - since)
unfolding search_left
left_counted {t} {c = c} {s = s} v = omega (arith, tour_count c.side t s.stand, v.missing.counted, v.missing.later)
