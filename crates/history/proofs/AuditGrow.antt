-- Where every row is sound, the rows linked from a row without a parent form a tree (`grow`): the rows above a row differ from it, since each has
-- one parent link, so there are fewer of them than rows.
use Prim.Native.Nat.{ℕ, zero, suc, ◌+◌, ◌≤◌, ◌<◌}
use mathlib.Core.Path.{◌≡◌, refl, sym, ◌∙◌, ap, subst}
use mathlib.Core.Logic.{◌≢◌, ◌⊎◌, inl, inr}
use mathlib.Core.Bool.{true, ◌&&◌, not, false≢true, and-eq-true_iff}
use mathlib.Core.List.{List, [], ◌∷◌}
use native.Mathlib.Omega.{arith}
use lib.Dec.{eqb}
use lib.ListN.{length}
use borrow.Author.Tests.{eqb-true, eqb-false, not-true}
use Rattle.points.specs.declared.point.Point.{Point}
use Rattle.points.specs.declared.cut.Cut.{Cut as PointCut}
use Rattle.points.specs.Word.{NONE}
use Rattle.rows.specs.declared.row.Row.{Row as WordRow}
use Rattle.rows.specs.declared.row.Row.TheVariants.{Bad, Spare, Removed, Leaf, Cut}
use Rattle.rows.specs.Row.{row_at}
use Rattle.trees.specs.Row.{leaf_row, cut_row, parent_of}
use Rattle.trees.specs.Tree.{Tree, leaf, cut, top, TreeHas, TreeShape}
use Rattle.calls.specs.Tree.{links_up, row_sound}
use Rattle.history.specs.View.{word_row}
use Rattle.history.proofs.AuditRows.{value_of, heap_of, reads_inside, TreeReads}
use Rattle.history.proofs.AuditDistinct.{Forked}
use Rattle.history.proofs.AuditScan.{Sound}
use Rattle.history.proofs.Pigeonhole.{In, Different, at_most}

module _ (words : List ℕ) (rows : ℕ) where
  abbrev pub up : ℕ → ℕ
  up r = parent_of (heap_of words rows r)

  -- a leaf or a cut is a row, and has that parent link
  pub links_up_lem : (parent r : ℕ) → links_up parent (row_at words rows r) ≡ true → (up r ≡ parent) × (r < rows)
  unfolding heap_of
  links_up_lem parent r y = go (row_at words rows r) refl y
    where
      go : (row : WordRow) → row_at words rows r ≡ row → links_up parent row ≡ true → (parent_of (value_of (row_at words rows r)) ≡ parent) × (r < rows)
      go Bad e y = absurd (false≢true y)
      go (Spare next freed) e y = absurd (false≢true y)
      go (Removed next freed added point curve) e y = absurd (false≢true y)
      go (Leaf over added point curve) e y = (
        ap (λ x. parent_of (value_of x)) e ∙ eqb-true over parent y,
        reads_inside words rows r (leaf_row over (record { point = point; curve = curve; added = added })) e,
      )
      go (Cut over k left right) e y = (ap (λ x. parent_of (value_of x)) e ∙ eqb-true over parent y, reads_inside words rows r (cut_row over k left right) e)

  -- ---- the rows above

  first : List ℕ → ℕ
  first [] = NONE
  first (x ∷ l) = x

  -- each row's parent link is the next row, the last one's none
  abbrev Chain : List ℕ → Type 0
  Chain [] = Unit {0}
  Chain (x ∷ l) = (up x ≡ first l) × Chain l

  -- so it is none or one of the rows after the first
  chain_up : (r : ℕ) (above : List ℕ) → Chain (r ∷ above) → (x : ℕ) → In (r ∷ above) x → (up x ≡ NONE) ⊎ In above (up x)
  unfolding first
  chain_up r [] c x (inl e) = inl (ap up e ∙ c.0)
  chain_up r [] c x (inr m) = absurd m
  chain_up r (y ∷ l) c x (inl e) = inr (inl (ap up e ∙ c.0))
  chain_up r (y ∷ l) c x (inr m) = elim (chain_up y l c.1 x m) [ inl e ↦ inl e | inr u ↦ inr (inr u) ]

  -- a row whose parent link is the first is not among them
  chain_new : (r : ℕ) (above : List ℕ) → Chain (r ∷ above) → Different (r ∷ above) → r ≢ NONE → (x : ℕ) → up x ≡ r → ¬ In (r ∷ above) x
  chain_new r above c d n x e m = elim (chain_up r above c x m) [ inl f ↦ n (sym e ∙ f) | inr u ↦ d.0 (subst (In above) e u) ]

  -- ---- the tree

  -- a tree of these rows, from row r on
  pub record Grows (parent r : ℕ) : Type 0 where
    pub tree : Tree
    pub from : top tree ≡ r
    pub shape : TreeShape (heap_of words rows) parent tree
    pub reads : TreeReads words rows (heap_of words rows) tree
    pub forked : Forked tree

  grow_leaf : (parent r over added : ℕ) (point : Point) (curve : ℕ) → row_at words rows r ≡ Leaf over added point curve → over ≡ parent → Grows parent r
  unfolding heap_of
  grow_leaf parent r over added point curve e o = record {
    tree = leaf r (record { point = point; curve = curve; added = added });
    from = refl;
    shape = ap value_of e ∙ ap (λ x. leaf_row x (record { point = point; curve = curve; added = added })) o;
    reads = λ i m. rw (m, e) refl;
    forked = tt;
  }

  grow_cut : (parent r over : ℕ) (k : PointCut) (left right : ℕ) → row_at words rows r ≡ Cut over k left right → over ≡ parent → left ≢ right → Grows r left → Grows r right
      → Grows parent r
  unfolding heap_of
  grow_cut parent r over k left right e o d a b =
      let rl : (i : ℕ) → TreeHas (cut r k a.tree b.tree) i → row_at words rows i ≡ word_row (heap_of words rows i) = λ i m. elim m [
        | inl f ↦ rw (f, e) refl
        | inr u ↦ elim u [ inl v ↦ a.reads i v | inr v ↦ b.reads i v ]
      ] in
      record {
        tree = cut r k a.tree b.tree;
        from = refl;
        shape = (rw (e, a.from, b.from, o) refl, a.shape, b.shape);
        reads = rl;
        forked = (λ f. d (sym a.from ∙ f ∙ b.from), a.forked, b.forked);
      }

  grow : (root : ℕ) → rows ≤ 8192 → Sound words rows root rows → (n parent r : ℕ) (above : List ℕ) → links_up parent (row_at words rows r) ≡ true → Chain (r ∷ above)
      → Different (r ∷ above) → ((i : ℕ) → In (r ∷ above) i → i < rows) → length above + n ≡ rows → Grows parent r
  unfolding first
  grow root few s zero parent r above y c d b e = absurd (omega (arith, at_most rows (r ∷ above) d b))
  grow root few s (suc n) parent r above y c d b e = go (row_at words rows r) refl y (s r (b r (inl refl))) (grow root few s n)
    where
      go : (row : WordRow) → row_at words rows r ≡ row → links_up parent row ≡ true → row_sound words rows root r row ≡ true
          → ((parent r : ℕ) (above : List ℕ) → links_up parent (row_at words rows r) ≡ true → Chain (r ∷ above) → Different (r ∷ above)
          → ((i : ℕ) → In (r ∷ above) i → i < rows) → length above + n ≡ rows → Grows parent r)
          → Grows parent r
      go Bad f y t ih = absurd (false≢true y)
      go (Spare next freed) f y t ih = absurd (false≢true y)
      go (Removed next freed added point curve) f y t ih = absurd (false≢true y)
      go (Leaf over added point curve) f y t ih = grow_leaf parent r over added point curve f (eqb-true over parent y)
      go (Cut over k left right) f y t ih =
          let p = (and-eq-true_iff (not (eqb left right)) (links_up r (row_at words rows left) && links_up r (row_at words rows right))).0 t in
          let q = (and-eq-true_iff (links_up r (row_at words rows left)) (links_up r (row_at words rows right))).0 p.1 in
          let there : r ≢ NONE = λ x. absurd (omega (arith, b r (inl refl))) in
          let below : (x : ℕ) → links_up r (row_at words rows x) ≡ true → Grows r x = λ x z.
          let w = links_up_lem r x z in
          ih r x (r ∷ above) z (w.0, c) (chain_new r above c d there x w.0, d)
          (λ i m. elim m [ inl g ↦ rw g w.1 | inr u ↦ b i u ]) (omega arith) in
          grow_cut parent r over k left right f (eqb-true over parent y) (eqb-false left right (not-true (eqb left right) p.0)) (below left q.0) (below right q.1)

  -- the tree of a row without a parent
  pub grown : (root : ℕ) → rows ≤ 8192 → Sound words rows root rows → (r : ℕ) → links_up NONE (row_at words rows r) ≡ true → Grows NONE r
  unfolding first
  grown root few s r y =
      let w = links_up_lem NONE r y in
      grow root few s rows NONE r [] y (w.0, tt) (λ m. m, tt) (λ i m. elim m [ inl g ↦ rw g w.1 | inr u ↦ absurd u ]) (omega arith)
