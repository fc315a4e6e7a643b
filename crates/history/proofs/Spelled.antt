-- The rows, the root and the head leave no choice of tree and queue: two relations over the same ones have the same (`tree_same`, `queue_same`).
use Prim.Native.Nat.{ℕ, ◌*◌, ◌<◌}
use mathlib.Core.Path.{◌≡◌, sym, ap, ◌∙◌}
use mathlib.Core.List.{List}
use mathlib.Core.Option.{Option, none, some}
use native.Mathlib.Omega.{arith}
use Rattle.stations.specs.Counts.{counts_at}
use Rattle.points.specs.Word.{NONE}
use Rattle.rows.specs.Row.{row_at}
use Rattle.table.specs.Table.{Table}
use Rattle.trees.specs.Tree.{Tree, Has, Shape}
use Rattle.trees.proofs.Path.{shape_frame}
use Rattle.trees.proofs.QueueLaws.{linked_frame, queue_unique}
use Rattle.trees.proofs.Room.{queue_rows}
use Rattle.trees.proofs.ShapeLaws.{shape_unique}
use Rattle.history.specs.View.{word_row, SameRows}
use Rattle.history.specs.Related.{Related}
use Rattle.history.proofs.AuditRows.{value_of, value_word}

module _ {v w : List ℕ} {t u : Table} (a : Related v t) (b : Related w u) (places : u.places ≡ t.places) (rows : SameRows v w (2 * t.places)) where
  -- the two heaps agree: a row of words is that of one value
  heaps : (i : ℕ) → i < 2 * t.places → b.heap i ≡ a.heap i
  heaps i l =
      let e : 2 * u.places ≡ 2 * t.places = ap (λ (p : ℕ). 2 * p) places in
      let same : word_row (b.heap i) ≡ word_row (a.heap i) = sym (b.reads i (omega (arith, e))) ∙ ap (λ (n : ℕ). row_at w n i) e ∙ rows.row i l ∙ a.reads i l in
      sym (value_word (b.heap i)) ∙ ap value_of same ∙ value_word (a.heap i)

  module _ (root : (counts_at w).root ≡ (counts_at v).root) (head : (counts_at w).head ≡ (counts_at v).head) where
    pub tree_same : b.tree ≡ a.tree
    tree_same =
        shape_unique a.heap b.tree a.tree (λ i m e. omega (arith, e, b.store.inside i m, b.store.fits)) (λ i m e. omega (arith, e, a.store.inside i m, a.store.fits))
        (frame b.tree b.store.shape (λ i m. b.store.inside i m)) a.store.shape (sym b.counted.root ∙ root ∙ a.counted.root)
      where
        frame : (x : Option Tree) → Shape b.heap x → ((i : ℕ) → Has x i → i < 2 * u.places) → Shape a.heap x
        frame none s f = tt
        frame (some x) s f = shape_frame b.heap a.heap NONE x (λ i m. sym (heaps i (omega (arith, f i m, places)))) s

    pub queue_same : b.queue ≡ a.queue
    queue_same =
        queue_unique a.heap b.queue a.queue (queue_rows b.store) (queue_rows a.store)
        (linked_frame b.heap a.heap b.queue (λ i m. sym (heaps i (omega (arith, b.store.free i m, places)))) b.store.linked) a.store.linked
        (sym b.counted.head ∙ head ∙ a.counted.head)
