-- The audit is exact: for every content of the words it says yes (`audit_of`) exactly if Rules 6.6 holds (`Audited`), and that
-- holds of words that are related to a table, so after every history.
use Prim.Native.Nat.{ℕ, ◌+◌, ◌*◌, ◌≤◌, ◌<◌, min}
use mathlib.Core.Path.{◌≡◌, refl, sym, ◌∙◌, ap, subst}
use mathlib.Core.Logic.{◌≢◌, ◌↔◌, ◌⊎◌, inl, inr}
use mathlib.Core.Bool.{Bool, true, false, cond, ◌&&◌, ◌||◌, false≢true, and-eq-true_iff}
use mathlib.Core.List.{List}
use mathlib.Core.Option.{Option, none, some}
use native.Mathlib.Omega.{arith}
use lib.Dec.{eqb}
use lib.ListN.{length}
use borrow.Author.Tests.{eqb-true, eq-eqb}
use Rattle.points.specs.declared.scale.Scale.{Scale}
use Rattle.words.specs.Layout.{most_rows}
use Rattle.stations.specs.Counts.{counts_at}
use Rattle.points.specs.Word.{NONE}
use Rattle.rows.specs.declared.row.Row.{Row as WordRow}
use Rattle.rows.specs.declared.row.Row.TheVariants.{Bad, Spare, Removed, Leaf, Cut}
use Rattle.rows.specs.Row.{row_at}
use Rattle.stations.specs.Common.{opened_in, least_since, is_opened, rows_in, Refused, Opened, Opening}
use Rattle.stations.proofs.OpeningLaws.{opened_tells}
use Rattle.trees.specs.Row.{Row, spare_row, removed_row, leaf_row, cut_row, Heap}
use Rattle.trees.specs.Tree.{Tree, top, top_of, Has, Shape, Routed, Distinct, size_of, count_of}
use Rattle.trees.specs.Queue.{Free, head_of, tail_of, Linked, InQueue, Once}
use Rattle.trees.proofs.Entries.{size_count}
use Rattle.table.specs.Table.{Table}
use Rattle.calls.specs.declared.tree.Count.{Count}
use Rattle.calls.specs.declared.queue.Queued.{Queued}
use Rattle.calls.specs.Sum.{plus, tree_rows}
use Rattle.calls.specs.Tree.{links_up, row_sound, scan, root_sound, tree_in}
use Rattle.calls.specs.Queue.{walk_queue, queued_at_head, queue_in}
use Rattle.calls.specs.Whole.{whole_queue, all_rows}
use Rattle.calls.specs.Audit.{audit_of}
use Rattle.history.specs.View.{word_row, Reads}
use Rattle.history.specs.Related.{Related}
use Rattle.history.specs.Audited.{InOrder, Audited}
use Rattle.history.proofs.RelatedLaws.{rows_in_lem}
use Rattle.history.proofs.AuditRows.{heap_of, reads_inside, plus_min}
use Rattle.history.proofs.AuditDistinct.{forked, tree_distinct}
use Rattle.history.proofs.AuditOnce.{linked_once, is_free, queue_free, rows_apart}
use Rattle.history.proofs.AuditCount.{rows_each, rows_all}
use Rattle.history.proofs.AuditScan.{Sound, scan_tells, scan_holds, IsLeaf, leaves_below, scan_counts}
use Rattle.history.proofs.AuditGrow.{grown}
use Rattle.history.proofs.AuditClimb.{climbs_route, climb_has, top_links, row_holds}
use Rattle.history.proofs.AuditLeaves.{leaves_counted, rows_counted}
use Rattle.history.proofs.AuditOrder.{Ordered, ordered_tells, ordered_holds}
use Rattle.history.proofs.AuditPass.{pass_all, all_at, all_last, all_rows_lem, all_tells, all_holds}
use Rattle.history.proofs.AuditQueue.{Lined, walk_tells, walk_holds}

-- ---- the parts of an audit that says yes

-- the tree, or none, that the rows linked from the root form
record Planted (words : List ℕ) (rows number : ℕ) : Type 0 where
  tree : Option Tree
  root : (counts_at words).root ≡ top_of tree
  shape : Shape (heap_of words rows) tree
  reads : (i : ℕ) → Has tree i → row_at words rows i ≡ word_row (heap_of words rows i)
  routed : Routed tree
  distinct : Distinct tree
  counted : number ≡ min (size_of tree) NONE

-- the tree of the root link, by whether it is none
planted_of : (words : List ℕ) (rows : ℕ) → rows ≤ most_rows → Sound words rows (counts_at words).root rows → (t : Option Tree) → (counts_at words).root ≡ top_of t
    → Shape (heap_of words rows) t → ((i : ℕ) → Has t i → row_at words rows i ≡ word_row (heap_of words rows i)) → Routed t → Distinct t
    → (n : ℕ) → n ≡ length (leaves_below words rows rows) → Planted words rows (tree_rows n)
planted_of words rows few s t e u w r d n c = record {
  tree = t;
  root = e;
  shape = u;
  reads = w;
  routed = r;
  distinct = d;
  counted = rows_counted t n (c ∙ leaves_counted words rows (heap_of words rows) t u w d
      (λ i m. reads_inside words rows i (heap_of words rows i) (w i m)) (λ i l y. has i l (row_at words rows i) refl y (s i l)));
}
  where
    has : (i : ℕ) → i < rows → (row : WordRow) → row_at words rows i ≡ row → IsLeaf row → row_sound words rows (counts_at words).root i row ≡ true → Has t i
    has i l Bad f y z = absurd (false≢true z)
    has i l (Spare next freed) f y z = absurd (omega (arith, y))
    has i l (Removed next freed added point curve) f y z = absurd (omega (arith, y))
    has i l (Leaf over added point curve) f y z =
        climb_has words rows (heap_of words rows) t u w (counts_at words).root point e rows i over (λ x. absurd (omega arith)) z
    has i l (Cut over k left right) f y z = absurd (omega (arith, y))

tree_tells : (words : List ℕ) → rows_in words ≤ most_rows → (tree_in words).sound ≡ true → Planted words (rows_in words) (tree_rows (tree_in words).leaves)
unfolding tree_in
tree_tells words few y =
    let both = (and-eq-true_iff leaves.sound (root_sound (counts_at words).root (row_at words (rows_in words) (counts_at words).root))).0 y in
    go (eqb (counts_at words).root NONE) refl (scan_tells words (rows_in words) (counts_at words).root (rows_in words) both.0) both.1
  where
    leaves : Count
    leaves = scan words (rows_in words) (counts_at words).root (rows_in words)

    many : Sound words (rows_in words) (counts_at words).root (rows_in words) → leaves.leaves ≡ length (leaves_below words (rows_in words) (rows_in words))
    many s = scan_counts words (rows_in words) (counts_at words).root (rows_in words) few s

    go : (b : Bool) → eqb (counts_at words).root NONE ≡ b → Sound words (rows_in words) (counts_at words).root (rows_in words)
        → (b || links_up NONE (row_at words (rows_in words) (counts_at words).root)) ≡ true
        → Planted words (rows_in words) (tree_rows leaves.leaves)
    go true e s z =
        planted_of words (rows_in words) few s none (eqb-true (counts_at words).root NONE e) tt (λ i m. absurd m) tt tt leaves.leaves (many s)
    go false e s z =
        let w = grown words (rows_in words) (counts_at words).root few s (counts_at words).root z in
        let r = climbs_route words (rows_in words) (counts_at words).root s few (heap_of words (rows_in words)) NONE w.tree w.shape w.reads w.forked in
        planted_of words (rows_in words) few s (some w.tree) (sym w.from) w.shape w.reads r.0
        (tree_distinct (heap_of words (rows_in words)) NONE w.tree w.shape w.forked
        (λ m. absurd (omega (arith, reads_inside words (rows_in words) NONE (heap_of words (rows_in words) NONE) (w.reads NONE m)))))
        leaves.leaves (many s)

-- the free rows' queue
record InLine (words : List ℕ) (rows number : ℕ) : Type 0 where
  queue : List Free
  head : (counts_at words).head ≡ head_of queue
  tail : 1 ≤ length queue → (counts_at words).tail ≡ tail_of queue
  linked : Linked (heap_of words rows) queue
  reads : (i : ℕ) → InQueue queue i → row_at words rows i ≡ word_row (heap_of words rows i)
  once : Once queue
  order : InOrder queue (counts_at words).removals (least_since words)
  counted : number ≡ min (length queue) NONE

queue_of : (words : List ℕ) (rows : ℕ) (end : Queued) → rows ≤ most_rows → Lined words rows (least_since words) (queued_at_head words) end → end.sound ≡ true
    → end.last ≡ (counts_at words).tail → end.number ≡ (counts_at words).removals → InLine words rows end.rows
queue_of words rows end few w s t n =
    let q : List Free = w.queue in
    let there : (i : ℕ) → InQueue q i → i ≢ NONE =
    λ i m e. absurd (omega (arith, reads_inside words rows i (heap_of words rows i) (w.reads i m))) in
    let sound : (pass_all (least_since words) (queued_at_head words) q).sound ≡ true = ap (λ (x : Queued). x.sound) (sym w.walked) ∙ s in
    let last : (pass_all (least_since words) (queued_at_head words) q).number ≡ (counts_at words).removals = ap (λ (x : Queued). x.number) (sym w.walked) ∙ n in
    record {
      queue = q;
      head = sym w.head;
      tail = λ k. sym t ∙ ap (λ (x : Queued). x.last) w.walked ∙ all_last (least_since words) (queued_at_head words) q w.head k;
      linked = w.linked;
      reads = w.reads;
      once = linked_once (heap_of words rows) q there w.linked;
      order = ordered_tells (least_since words) q (counts_at words).removals
          (subst (λ m. Ordered (least_since words) (least_since words) false q m) last (all_tells (least_since words) (queued_at_head words) q sound).1);
      counted = omega (arith, ap (λ (x : Queued). x.rows) w.walked, all_rows_lem (least_since words) (queued_at_head words) q 0 refl);
    }

queue_tells : (words : List ℕ) → rows_in words ≤ most_rows → whole_queue words (queue_in words) ≡ true → InLine words (rows_in words) (queue_in words).rows
unfolding queue_in
queue_tells words few s =
    let end : Queued = walk_queue words (rows_in words) (least_since words) (rows_in words) (queued_at_head words) in
    let a = (and-eq-true_iff ((end.sound && eqb end.at NONE) && eqb end.last (counts_at words).tail) (eqb end.number (counts_at words).removals)).0 s in
    let b = (and-eq-true_iff (end.sound && eqb end.at NONE) (eqb end.last (counts_at words).tail)).0 a.0 in
    let c = (and-eq-true_iff end.sound (eqb end.at NONE)).0 b.0 in
    queue_of words (rows_in words) end few
    (walk_tells words (rows_in words) (least_since words) (rows_in words) (queued_at_head words) c.0 (eqb-true end.at NONE c.1)) c.0
    (eqb-true end.last (counts_at words).tail b.1) (eqb-true end.number (counts_at words).removals a.1)

-- ---- an audit that says yes

-- a tree has an odd number of rows, so the queue is not empty
free_left : (places : ℕ) (t : Option Tree) (n : ℕ) → 1 ≤ places → size_of t + n ≡ 2 * places → 1 ≤ n
free_left places none n p e = omega arith
free_left places (some t) n p e = omega (arith, size_count t)

-- a tree and a queue that together have so many rows
audited_of : (words : List ℕ) (places limit : ℕ) (scale : Scale) (n m : ℕ) → opened_in words ≡ Opened places limit scale → Planted words (2 * places) n → InLine words (2 * places) m
    → plus n m ≡ 2 * places → Audited words
audited_of words places limit scale n m o t q e =
    let rows : ℕ = 2 * places in
    let h : Heap = heap_of words rows in
    let w = opened_tells words places limit scale o in
    let inside : (i : ℕ) → Has t.tree i → i < rows = λ i u. reads_inside words rows i (h i) (t.reads i u) in
    let free : (i : ℕ) → InQueue q.queue i → i < rows = λ i u. reads_inside words rows i (h i) (q.reads i u) in
    let apart = rows_apart h t.tree q.queue t.shape q.linked in
    let all : size_of t.tree + length q.queue ≡ rows = omega (arith, plus_min n m, t.counted, q.counted, w.places_most, e) in
    let each = rows_each rows t.tree q.queue t.distinct q.once inside free apart all in
    let not_empty = free_left places t.tree (length q.queue) w.places_least all in
    record {
      places = places;
      limit = limit;
      scale = scale;
      opened = o;
      heap = h;
      tree = t.tree;
      queue = q.queue;
      reads = λ r l. elim (each r l) [ inl u ↦ t.reads r u | inr u ↦ q.reads r u ];
      root = t.root;
      shape = t.shape;
      routed = t.routed;
      head = q.head;
      tail = q.tail not_empty;
      linked = q.linked;
      inside = inside;
      free = free;
      each = each;
      apart = apart;
      distinct = t.distinct;
      once = q.once;
      order = q.order;
    }

-- an opened slice
audited : (words : List ℕ) (places limit : ℕ) (scale : Scale) → opened_in words ≡ Opened places limit scale → all_rows words (tree_in words) (queue_in words) ≡ true → Audited words
audited words places limit scale o y =
    let rows = rows_in_lem words places limit scale o in
    let few : rows_in words ≤ most_rows = omega (arith, rows, (opened_tells words places limit scale o).places_most) in
    let a = (and-eq-true_iff ((tree_in words).sound && whole_queue words (queue_in words)) (eqb (plus (tree_rows (tree_in words).leaves) (queue_in words).rows) (rows_in words))).0 y in
    let b = (and-eq-true_iff (tree_in words).sound (whole_queue words (queue_in words))).0 a.0 in
    audited_of words places limit scale (tree_rows (tree_in words).leaves) (queue_in words).rows o
    (subst (λ r. Planted words r (tree_rows (tree_in words).leaves)) rows (tree_tells words few b.0))
    (subst (λ r. InLine words r (queue_in words).rows) rows (queue_tells words few b.1))
    (eqb-true (plus (tree_rows (tree_in words).leaves) (queue_in words).rows) (rows_in words) a.1 ∙ rows)

-- where the audit says yes the rule holds
pub audit_sound : (words : List ℕ) → audit_of words ≡ true → Audited words
unfolding audit_of
audit_sound words y = go (opened_in words) refl y
  where
    go : (x : Opening) → opened_in words ≡ x → cond (is_opened x) (all_rows words (tree_in words) (queue_in words)) false ≡ true → Audited words
    go Refused e y = absurd (false≢true y)
    go (Opened places limit scale) e y = audited words places limit scale e y

-- ---- words of which the rule holds

-- a free row is sound, and no leaf
free_sound : (words : List ℕ) (rows root r : ℕ) (row : Row) → is_free row ≡ true → (row_sound words rows root r (word_row row) ≡ true) × ¬ IsLeaf (word_row row)
free_sound words rows root r (spare_row next n) y = (refl, λ e. omega (arith, e))
free_sound words rows root r (removed_row next n e) y = (refl, λ e. omega (arith, e))
free_sound words rows root r (leaf_row parent e) y = absurd (false≢true y)
free_sound words rows root r (cut_row parent k left right) y = absurd (false≢true y)

-- the rows of the tree are sound
has_sound : (words : List ℕ) (rows : ℕ) → rows ≤ most_rows → (h : Heap) (t : Option Tree) → Shape h t → ((i : ℕ) → Has t i → row_at words rows i ≡ word_row (h i)) → Routed t
    → Distinct t → size_of t ≤ rows → (i : ℕ) → Has t i → row_sound words rows (top_of t) i (row_at words rows i) ≡ true
has_sound words rows few h none u w r d l i m = absurd m
has_sound words rows few h (some t) u w r d l i m = row_holds words rows h t few u w r (forked t d) l i m

root_sound_lem : (words : List ℕ) (rows : ℕ) (h : Heap) (t : Option Tree) → Shape h t → ((i : ℕ) → Has t i → row_at words rows i ≡ word_row (h i))
    → root_sound (top_of t) (row_at words rows (top_of t)) ≡ true
root_sound_lem words rows h none u w = refl
root_sound_lem words rows h (some t) u w = go (eqb (top t) NONE)
  where
    go : (b : Bool) → (b || links_up NONE (row_at words rows (top t))) ≡ true
    go true = refl
    go false = top_links words rows h NONE t u w

-- the tree, where every row is in it or free
tree_holds : (words : List ℕ) (h : Heap) (t : Option Tree) → rows_in words ≤ most_rows → (counts_at words).root ≡ top_of t → Shape h t → Routed t → Distinct t
    → Reads words (rows_in words) h → ((i : ℕ) → Has t i → i < rows_in words) → ((i : ℕ) → i < rows_in words → Has t i ⊎ (is_free (h i) ≡ true)) → size_of t ≤ rows_in words
    → tree_in words ≡ record { leaves = count_of t; sound = true }
unfolding tree_in
tree_holds words h t few e u r d w b each l =
    let rows : ℕ = rows_in words in
    let reads : (i : ℕ) → Has t i → row_at words rows i ≡ word_row (h i) = λ i m. w i (b i m) in
    let sound : Sound words rows (top_of t) rows = λ i k. elim (each i k) [
      | inl m ↦ has_sound words rows few h t u reads r d l i m
      | inr f ↦ subst (λ x. row_sound words rows (top_of t) i x ≡ true) (sym (w i k)) (free_sound words rows (top_of t) i (h i) f).0
    ] in
    let many : (scan words rows (top_of t) rows).leaves ≡ count_of t =
    scan_counts words rows (top_of t) rows few sound
    ∙ leaves_counted words rows h t u reads d b (λ i k y. elim (each i k) [
      | inl m ↦ m
      | inr f ↦ absurd ((free_sound words rows (top_of t) i (h i) f).1 (subst IsLeaf (w i k) y))
    ]) in
    rw (e, scan_holds words rows (top_of t) rows sound, root_sound_lem words rows h t u reads, many) refl

-- the line behind the queue
whole_of : (words : List ℕ) (l : Queued) → l.sound ≡ true → l.at ≡ NONE → l.last ≡ (counts_at words).tail → l.number ≡ (counts_at words).removals → whole_queue words l ≡ true
whole_of words l s a t n = rw (s, eq-eqb l.at NONE a, eq-eqb l.last (counts_at words).tail t, eq-eqb l.number (counts_at words).removals n) refl

queue_holds : (words : List ℕ) (h : Heap) (q : List Free) → rows_in words ≤ most_rows → (counts_at words).head ≡ head_of q → (counts_at words).tail ≡ tail_of q → 1 ≤ length q → Linked h q
    → ((i : ℕ) → InQueue q i → row_at words (rows_in words) i ≡ word_row (h i)) → length q ≤ rows_in words → InOrder q (counts_at words).removals (least_since words)
    → (whole_queue words (queue_in words) ≡ true) × ((queue_in words).rows ≡ min (length q) NONE)
unfolding queue_in
queue_holds words h q few e t k s w l o =
    let there : (i : ℕ) → InQueue q i → i ≢ NONE = λ i m x. absurd (omega (arith, reads_inside words (rows_in words) i (h i) (w i m))) in
    let walked = walk_holds words (rows_in words) (least_since words) (rows_in words) h (queued_at_head words) q s w there (sym e) l in
    let end : Queued = pass_all (least_since words) (queued_at_head words) q in
    let sound = all_holds (least_since words) (queued_at_head words) q (counts_at words).removals refl (ordered_holds (least_since words) q (counts_at words).removals o) in
    let last : end.last ≡ (counts_at words).tail = all_last (least_since words) (queued_at_head words) q (sym e) k ∙ sym t in
    let rows : end.rows ≡ min (length q) NONE = omega (arith, all_rows_lem (least_since words) (queued_at_head words) q 0 refl) in
    subst (λ (x : Queued). (whole_queue words x ≡ true) × (x.rows ≡ min (length q) NONE)) (sym walked)
    (whole_of words end sound.0 (all_at (least_since words) (queued_at_head words) q (sym e)) last sound.1, rows)

-- where the rule holds the audit says yes
pub audit_complete : {words : List ℕ} → Audited words → audit_of words ≡ true
unfolding audit_of
audit_complete {words} a =
    let rows = rows_in_lem words a.places a.limit a.scale a.opened in
    let few : rows_in words ≤ most_rows = omega (arith, rows, (opened_tells words a.places a.limit a.scale a.opened).places_most) in
    let all : size_of a.tree + length a.queue ≡ rows_in words =
    rows_all (2 * a.places) a.tree a.queue a.distinct a.once a.inside a.free a.apart a.each ∙ sym rows in
    let not_empty = free_left a.places a.tree (length a.queue) (opened_tells words a.places a.limit a.scale a.opened).places_least (all ∙ rows) in
    let reads : Reads words (rows_in words) a.heap = subst (λ n. Reads words n a.heap) (sym rows) a.reads in
    let each : (i : ℕ) → i < rows_in words → Has a.tree i ⊎ (is_free (a.heap i) ≡ true) =
    λ i l. elim (a.each i (omega (arith, rows))) [ inl m ↦ inl m | inr m ↦ inr (queue_free a.heap a.queue i a.linked m) ] in
    let t = tree_holds words a.heap a.tree few a.root a.shape a.routed a.distinct reads (λ i m. omega (arith, rows, a.inside i m)) each (omega arith) in
    let q = queue_holds words a.heap a.queue few a.head a.tail not_empty a.linked (λ i m. reads i (omega (arith, rows, a.free i m)))
    (omega arith) a.order in
    let tree : ℕ = tree_rows (count_of a.tree) in
    let sum : plus tree (queue_in words).rows ≡ rows_in words =
    omega (arith, plus_min tree (queue_in words).rows, rows_counted a.tree (count_of a.tree) refl, q.1, all) in
    rw (a.opened, t) ((and-eq-true_iff (whole_queue words (queue_in words)) (eqb (plus tree (queue_in words).rows) (rows_in words))).1
    (q.0, eq-eqb (plus tree (queue_in words).rows) (rows_in words) sum))

-- the audit says yes exactly if the rule holds
pub audit_exact : (words : List ℕ) → (audit_of words ≡ true) ↔ Audited words
audit_exact words = (audit_sound words, audit_complete)

-- ---- after every history

-- the rule holds of words that are related to a table
pub audit_related : {words : List ℕ} {t : Table} → Related words t → Audited words
audit_related {words} {t} r =
    let s = r.store in
    let o = s.queue in
    record {
      places = t.places;
      limit = t.limit;
      scale = t.scale;
      opened = r.opened;
      heap = r.heap;
      tree = r.tree;
      queue = r.queue;
      reads = r.reads;
      root = r.counted.root;
      shape = s.shape;
      routed = s.routed;
      head = r.counted.head;
      tail = r.counted.tail;
      linked = s.linked;
      inside = s.inside;
      free = s.free;
      each = s.each;
      apart = s.apart;
      distinct = s.distinct;
      once = s.once;
      order = record { spare = o.ready; awaited = o.awaited; parts = o.parts; counted = o.counted ∙ sym r.counted.removals; past = o.past };
    }
