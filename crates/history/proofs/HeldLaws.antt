-- The records on the leaves linked from the root are those of the tree (`held_entries`), no two with one point (`entries_once`).
use Prim.Native.Nat.{ℕ, zero, suc, ◌*◌, ◌≤◌, ◌<◌}
use mathlib.Core.Path.{◌≡◌, refl, sym, ap, ap₂, ◌∙◌}
use mathlib.Core.Logic.{inl, inr}
use mathlib.Core.List.Memᴰ
use mathlib.Core.List.{List, [], ◌∷◌, ◌++◌, map, map-append}
use mathlib.Core.Option.{Option, none, some}
use native.Mathlib.Omega.{arith}
use lib.ListN.{length}
use Rattle.points.specs.Word.{NONE}
use Rattle.stations.specs.Common.{least_since}
use Rattle.rows.proofs.RowLaws.{row_at_outside}
use Rattle.table.specs.Record.{Record, Once}
use Rattle.table.specs.Table.{Table, all_changes}
use Rattle.trees.specs.Row.{Entry, Heap}
use Rattle.trees.specs.Tree.{Tree, leaf, cut, top, top_of, TreeHas, TreeShape, tree_size, tree_entries, entries_of, Different}
use Rattle.trees.specs.Store.{Store}
use Rattle.trees.proofs.ShapeLaws.{entries_different}
use Rattle.calls.specs.Held.{held_below, held_in}
use Rattle.history.specs.Index.{record_of as held_record}
use Rattle.history.specs.View.{Reads}
use Rattle.history.specs.Related.{record_of, Related}
use Rattle.history.proofs.RelatedLaws.{related_rows, word_root}

-- ---- the records below a row of the tree

held_tree : (words : List ℕ) (rows : ℕ) (h : Heap) → Reads words rows h → (n parent : ℕ) (t : Tree) → TreeShape h parent t → ((i : ℕ) → TreeHas t i → i < rows) → tree_size t ≤ n
    → map held_record (held_below words rows n (top t)) ≡ map record_of (tree_entries t)
unfolding held_below tree_entries tree_size
held_tree words rows h w zero parent (leaf a e) s f l = absurd (omega arith)
held_tree words rows h w zero parent (cut a k t o) s f l = absurd (omega arith)
held_tree words rows h w (suc n) parent (leaf a e) s f l = rw (w a (f a refl), s)
held_tree words rows h w (suc n) parent (cut a k t o) s f l =
    rw (w a (f a (inl refl)), s.0)
    (map-append held_record (held_below words rows n (top t)) (held_below words rows n (top o))
    ∙ ap₂ (λ (x y : List Record). x ++ y) (held_tree words rows h w n a t s.1 (λ i m. f i (inr (inl m))) (omega arith)) (held_tree words rows h w n a o s.2 (λ i m. f i (inr (inr m))) (omega arith))
    ∙ sym (map-append record_of (tree_entries t) (tree_entries o)))

-- nothing is held below no row
held_nowhere : (words : List ℕ) (rows n : ℕ) → rows ≤ NONE → held_below words rows n NONE ≡ []
unfolding held_below
held_nowhere words rows zero l = refl
held_nowhere words rows (suc n) l = rw (row_at_outside words rows NONE l)

-- The records held are those of the tree, in the same order.
pub held_entries : {words : List ℕ} {t : Table} (r : Related words t) → map held_record (held_in words) ≡ map record_of (entries_of r.tree)
unfolding held_in
held_entries {words} {t} r = rw (related_rows r, word_root r) (go r.tree r.store)
  where
    go : (tree : Option Tree) → Store t.places r.heap tree r.queue (all_changes t) (length t.removals) (least_since words)
        → map held_record (held_below words (2 * t.places) (2 * t.places) (top_of tree)) ≡ map record_of (entries_of tree)
    go none st = rw (held_nowhere words (2 * t.places) (2 * t.places) st.fits)
    go (some tree) st = held_tree words (2 * t.places) r.heap r.reads (2 * t.places) NONE tree st.shape st.inside (omega (arith, st.all))

-- ---- each once

-- entries with different points are records with different points
pub different_once : (es : List Entry) → Different es → Once (map record_of es)
different_once [] d = tt
different_once (e ∷ es) d = (
  λ q m f. let w = Memᴰ.of_map record_of es m in d.0 w.0 w.1 (ap (λ (x : Record). x.point) w.2 ∙ sym f),
  different_once es d.1,
)

-- No two records of the tree have one point.
pub entries_once : {words : List ℕ} {t : Table} (r : Related words t) → Once (map record_of (entries_of r.tree))
entries_once r = different_once (entries_of r.tree) (entries_different r.tree r.store)
