-- The links and records that a related slice keeps are in range: root, head, tail, cursors and missed rows are none or rows of the index, and
-- every record held has its point and curve in range.
use Prim.Native.Nat.{ℕ, ◌*◌, ◌≤◌, ◌<◌}
use mathlib.Core.Path.{◌≡◌, refl, subst}
use mathlib.Core.Logic.{◌⊎◌, inl, inr}
use mathlib.Core.Bool.{true}
use mathlib.Core.List.{List, [], ◌∷◌}
use mathlib.Core.Option.{Option, none, some}
use native.Mathlib.Omega.{arith}
use lib.ListN.{length}
use Rattle.points.specs.declared.point.Point.{Point}
use Rattle.points.specs.Number.{in_range_by}
use Rattle.points.specs.Word.{NONE}
use Rattle.words.specs.Range.{link_in, curve_in}
use Rattle.rows.specs.Row.{in_rows}
use Rattle.words.proofs.RangeLaws.{link_none, link_row}
use Rattle.table.specs.Table.{Table}
use Rattle.trees.specs.Row.{Entry, Heap}
use Rattle.trees.specs.Tree.{Tree, top, top_of, Holds}
use Rattle.trees.specs.Queue.{Free, head_of, tail_of, InQueue, Removal}
use Rattle.trees.specs.Search.{Missing}
use Rattle.trees.specs.Stand.{Standing}
use Rattle.trees.specs.Route.{Walking}
use Rattle.trees.specs.Store.{Store}
use Rattle.trees.proofs.Path.{has_top}
use Rattle.trees.proofs.QueueLaws.{tail_in}
use Rattle.trees.proofs.MissingLaws.{missing_in}
use Rattle.trees.proofs.Room.{queue_not_empty}
use Rattle.trees.proofs.RouteLaws.{on_route_has}
use Rattle.trees.proofs.ShapeLaws.{held_leaf}
use Rattle.history.specs.View.{word_row}
use Rattle.history.specs.Related.{Related}
use Rattle.history.proofs.RelatedLaws.{related_rule}
use Rattle.history.proofs.Effects.{reads_in}
use Rattle.history.proofs.RowLinks.{LeafIn, leaf_tells}

-- none, or a row of the index
abbrev pub Link : ℕ → ℕ → Type 0
Link rows x = (x ≡ NONE) ⊎ (x < rows)

-- it passes the check of a link
pub link_in_lem : (rows x : ℕ) → Link rows x → link_in rows x ≡ true
link_in_lem rows x (inl e) = rw e (link_none rows)
link_in_lem rows x (inr l) = link_row rows x l

module _ {places : ℕ} {h : Heap} {tree : Option Tree} {q : List Free} {changes removals released : ℕ} (s : Store places h tree q changes removals released) where
  -- ---- links into the tree

  -- the cursor of a search
  pub standing_link : (x : ℕ) → Standing tree x → Link (2 * places) x
  standing_link x (inl e) = inl e
  standing_link x (inr m) = inr (s.inside x m)

  -- the cursor of another call
  pub walking_link : (p : Point) (x : ℕ) → Walking tree p x → Link (2 * places) x
  walking_link p x (inl e) = inl e
  walking_link p x (inr m) = inr (s.inside x (on_route_has tree p x m))

  -- ---- links into the queue

  -- the first row that a search has not looked at
  pub missed_link : (since missed : ℕ) (rs : List Removal) → Missing q removals since missed rs → Link (2 * places) missed
  missed_link since missed [] m = inl m.first
  missed_link since missed (x ∷ rs) m = inr (rw m.first (s.free x.row (missing_in m)))

  -- the first and the last row
  pub head_inside : 1 ≤ places → head_of q < 2 * places
  head_inside l = go q (queue_not_empty s l) s.free
    where
      go : (q : List Free) → 1 ≤ length q → ((i : ℕ) → InQueue q i → i < 2 * places) → head_of q < 2 * places
      go [] n f = absurd (omega arith)
      go (x ∷ q) n f = f x.row (inl refl)

  pub tail_inside : 1 ≤ places → tail_of q < 2 * places
  tail_inside l = go q (queue_not_empty s l) s.free
    where
      go : (q : List Free) → 1 ≤ length q → ((i : ℕ) → InQueue q i → i < 2 * places) → tail_of q < 2 * places
      go [] n f = absurd (omega arith)
      go (x ∷ q) n f = f (tail_of (x ∷ q)) (tail_in x q)

-- the root link
pub root_link : {places : ℕ} {h : Heap} {q : List Free} {changes removals released : ℕ} (tree : Option Tree) → Store places h tree q changes removals released → Link (2 * places) (top_of tree)
root_link none s = inl refl
root_link (some t) s = inr (s.inside (top t) (has_top t))

-- ---- records

-- Every record held has its point and curve in range, as the row of its leaf has them.
pub held_ranged : {words : List ℕ} {t : Table} (r : Related words t) (e : Entry) → Holds r.tree e → (in_range_by t.scale.rule e.point ≡ true) × (curve_in e.curve ≡ true)
held_ranged {words} {t} r e m =
    let w = held_leaf r.tree e r.store.shape m in
    let l : w.0 < 2 * t.places = r.store.inside w.0 w.2 in
    let i : in_rows t.scale.rule (2 * t.places) (word_row (r.heap w.0)) ≡ true = rw (related_rule r) at (reads_in words (2 * t.places) r.heap w.0 l r.reads) in
    let k : LeafIn t.scale.rule (2 * t.places) w.1 e = leaf_tells t.scale.rule (2 * t.places) w.1 e (subst (λ row. in_rows t.scale.rule (2 * t.places) (word_row row) ≡ true) w.3 i) in
    (k.point_in, k.curve_in_lem)
