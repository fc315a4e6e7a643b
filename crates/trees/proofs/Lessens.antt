-- The moves left to a search when another station puts one subtree for another and moves a cursor: an insert adds at most four (`lessens_insert`), an
-- unlink none (`lessens_unlink`).
use Prim.Native.Nat.{ℕ, ◌+◌, ◌≤◌}
use mathlib.Core.Path.{◌≡◌, refl, sym, ◌∙◌, ap}
use mathlib.Core.Logic.{◌≢◌, ◌⊎◌, inl, inr}
use mathlib.Core.Bool.{Bool, true, false, not, cond}
use mathlib.Core.Option.{some}
use native.Mathlib.Omega.{arith}
use borrow.Author.Tests.{eq-eqb, ne_eqb}
use Rattle.points.specs.declared.cut.Cut.{Cut}
use Rattle.points.specs.Word.{NONE}
use Rattle.trees.specs.Row.{Entry}
use Rattle.trees.specs.Tree.{Tree, leaf, top, TreeHas, TreeDistinct}
use Rattle.trees.specs.Stand.{Phase, Down, Up, Stand, Standing}
use Rattle.trees.specs.Measure.{cost, if_down, tree_left, tour_left}
use Rattle.trees.proofs.Path.{Path, root, at, fill, plug, PathHas, has_top, has_here, has_path, top_fill, has_fill, distinct_split}
use Rattle.trees.proofs.Spot.{Rows}
use Rattle.trees.proofs.Routes.{Moved, Either}
use Rattle.trees.proofs.Left.{if_down_lem, rest_of, rest_near, rest_far, left_top, left_plug}

if_le : (phase : Phase) (c n m : ℕ) → n ≤ c + m → if_down phase n ≤ c + if_down phase m
if_le Down c n m l = l
if_le Up c n m l = omega arith

near_or_far : (x b : Bool) → (x ≡ b) ⊎ (x ≡ not b)
near_or_far true true = inl refl
near_or_far true false = inr refl
near_or_far false true = inr refl
near_or_far false false = inl refl

same_stand : {s s' : Stand} → (s'.cursor ≡ s.cursor) × (s'.phase ≡ s.phase) → s' ≡ s
same_stand f = λ i. record { cursor = f.0 i; phase = f.1 i }

cost_fill : (b : Bool) (a : ℕ) (k : Cut) (t o : Tree) → cost (fill b a k t o) ≡ 3 + cost t + cost o
unfolding cost
cost_fill true a k t o = refl
cost_fill false a k t o = omega arith

-- a cut with its children named the other way round
fill_turn : (b : Bool) (a : ℕ) (k : Cut) (t o : Tree) → fill (not b) a k o t ≡ fill b a k t o
fill_turn true a k t o = refl
fill_turn false a k t o = refl

module _ (side : Cut → Bool) where
  -- t' put for t, and a cursor moved: at most c moves more
  pub record Lessens (c : ℕ) (t t' : Tree) (s s' : Stand) : Type 0 where
    pub has : TreeHas t s.cursor → TreeHas t' s'.cursor
    pub left : TreeHas t s.cursor → tree_left side t' s' ≤ c + tree_left side t s
    pub costs : cost t' ≤ c + cost t

  -- the same of the whole tour, from any stand
  pub lessens_tour : (c : ℕ) {t t' : Tree} {s s' : Stand} → Lessens c t t' s s' → Rows t → Rows t' → (s.cursor ≡ NONE → s'.cursor ≡ NONE) → Standing (some t) s.cursor
      → tour_left side (some t') s' ≤ c + tour_left side (some t) s
  lessens_tour c {s' = s'} w rs rs' still (inl e) = rw (eq-eqb s'.cursor NONE (still e), cond) (omega arith)
  lessens_tour c {s = s} {s'} w rs rs' still (inr m) =
      rw (ne_eqb s.cursor NONE (rs s.cursor m), ne_eqb s'.cursor NONE (rs' s'.cursor (w.has m)), cond) (omega (arith, w.left m))

  -- ---- one cut of the path

  -- the moves left to a search that stands on it
  left_cut : (b : Bool) (a : ℕ) (k : Cut) (t o : Tree) (s : Stand) → s.cursor ≡ a → tree_left side (fill b a k t o) s ≡ if_down s.phase (3 + cost t + cost o)
  left_cut b a k t o s e = left_top side (fill b a k t o) s (e ∙ sym (top_fill b a k t o)) ∙ ap (if_down s.phase) (cost_fill b a k t o)

  -- and in its other child
  left_other : (b : Bool) (a : ℕ) (k : Cut) (t o : Tree) (s : Stand) → TreeDistinct (fill b a k t o) → TreeHas o s.cursor
      → tree_left side (fill b a k t o) s ≡ tree_left side o s + rest_of side (at (not b) a k t root)
  left_other b a k t o s di m =
      let turn = fill_turn b a k t o in
      sym (ap (λ (z : Tree). tree_left side z s) turn) ∙ left_plug side (at (not b) a k t root) o s (rw turn di) m

  rest_le : (b : Bool) (c a : ℕ) (k : Cut) (t t' : Tree) → cost t' ≤ c + cost t → rest_of side (at b a k t' root) ≤ c + rest_of side (at b a k t root)
  rest_le b c a k t t' l = elim (near_or_far (side k) b) [
    | inl y ↦ omega (arith, rest_near side b a k t root y, rest_near side b a k t' root y)
    | inr y ↦ omega (arith, rest_far side b a k t root y, rest_far side b a k t' root y)
  ]

  lessens_fill : (c : ℕ) (b : Bool) (a : ℕ) (k : Cut) (o t t' : Tree) (s s' : Stand) → TreeDistinct (fill b a k t o) → TreeDistinct (fill b a k t' o)
      → (s.cursor ≡ a → s' ≡ s) → (TreeHas o s.cursor → s' ≡ s) → Lessens c t t' s s' → Lessens c (fill b a k t o) (fill b a k t' o) s s'
  lessens_fill c b a k o t t' s s' di di' on in-other w =
      let frame : Path = at b a k o root in
      record {
        has = λ m. elim (has_fill b a k t o s.cursor m) [
          | inl e ↦ rw (on e) (has_path frame t' s.cursor (inl e))
          | inr (inl n) ↦ has_here frame t' s'.cursor (w.has n)
          | inr (inr n) ↦ rw (in-other n) (has_path frame t' s.cursor (inr (inl n)))
        ];
        left = λ m. elim (has_fill b a k t o s.cursor m) [
          | inl e ↦ rw (on e) (omega (
            arith,
            left_cut b a k t o s e,
            left_cut b a k t' o s e,
            if_le s.phase c (3 + cost t' + cost o) (3 + cost t + cost o) (omega (arith, w.costs)),
          ))
          | inr (inl n) ↦ omega (arith, w.left n, left_plug side frame t s di n, left_plug side frame t' s' di' (w.has n))
          | inr (inr n) ↦ rw (in-other n) (omega (arith, left_other b a k t o s di n, left_other b a k t' o s di' n, rest_le (not b) c a k t t' w.costs))
        ];
        costs = omega (arith, w.costs, cost_fill b a k t o, cost_fill b a k t' o);
      }

  -- and all of them
  lessens_plug : (c : ℕ) (path : Path) (t t' : Tree) (s s' : Stand) → TreeDistinct (plug path t) → TreeDistinct (plug path t')
      → (PathHas path s.cursor → s' ≡ s) → Lessens c t t' s s' → Lessens c (plug path t) (plug path t') s s'
  lessens_plug c root t t' s s' di di' same w = w
  lessens_plug c (at b a k o path) t t' s s' di di' same w =
      lessens_plug c path (fill b a k t o) (fill b a k t' o) s s' di di' (λ n. same (inr (inr n)))
      (lessens_fill c b a k o t t' s s' (distinct_split path (fill b a k t o) di).0 (distinct_split path (fill b a k t' o) di').0
      (λ e. same (inl e)) (λ m. same (inr (inl m))) w)

  -- ---- the changes

  -- a cut g put above the leaf x, with one leaf more: four moves more
  pub lessens_insert : (path : Path) (x : ℕ) (d : Entry) (b : Bool) (g : ℕ) (k : Cut) (y : ℕ) (new : Entry) → TreeDistinct (plug path (leaf x d))
      → TreeDistinct (plug (at b g k (leaf x d) path) (leaf y new))
      → (s s' : Stand) → Moved (λ i. i ≡ x) g s s' → s'.phase ≡ s.phase
      → Lessens 4 (plug path (leaf x d)) (plug (at b g k (leaf x d) path) (leaf y new)) s s'
  unfolding cost
  lessens_insert path x d b g k y new di di' s s' mv ph =
      let whole : Tree = fill b g k (leaf y new) (leaf x d) in
      let cf : cost whole ≡ 5 = cost_fill b g k (leaf y new) (leaf x d) in
      lessens_plug 4 path (leaf x d) whole s s' di di' (λ n. same_stand (mv.off (λ z. (distinct_split path (leaf x d) di).2 s.cursor z n))) record {
        has = λ u. rw (mv.on u) (has_path (at b g k (leaf x d) root) (leaf y new) g (inl refl));
        left = λ u. omega (
          arith,
          left_cut b g k (leaf y new) (leaf x d) s' (mv.on u),
          left_top side (leaf x d) s u,
          ap (λ (z : Phase). if_down z 5) ph,
          if_le s.phase 4 5 1 (omega arith),
        );
        costs = omega (arith, cf);
      }

  -- a leaf a and the cut g above it taken out: no more moves, where the search that stood on the far child lands on the way up
  module _ (b : Bool) (g : ℕ) (k : Cut) (o : Tree) (path : Path) (a : ℕ) (d : Entry) (dis : TreeDistinct (plug (at b g k o path) (leaf a d)))
      (s s' : Stand) (mv : Moved (Either a g) (top o) s s') (ph : s.cursor ≢ a → s'.phase ≡ s.phase) (up : s.cursor ≡ a → side k ≡ not b → s'.phase ≡ Up) where
    abbrev old : Tree
    old = fill b g k (leaf a d) o

    still : TreeHas o s.cursor ⊎ PathHas path s.cursor → s' ≡ s
    still h =
        let di = distinct_split (at b g k o path) (leaf a d) dis in
        same_stand (mv.off (elim [
          | inl y ↦ elim h [ inl n ↦ di.2 s.cursor y (inr (inl n)) | inr n ↦ di.2 s.cursor y (inr (inr n)) ]
          | inr y ↦ elim h [ inl n ↦ di.1.0 (rw y at n) | inr n ↦ di.1.1 (rw y at n) ]
        ]))

    from_leaf : s.cursor ≡ a → tree_left side o s' ≤ tree_left side old s
    from_leaf e =
        let f = left_plug side (at b g k o root) (leaf a d) s (distinct_split path old dis).0 e in
        let t = left_top side o s' (mv.on (inl e)) in
        elim (near_or_far (side k) b) [
          | inl y ↦ omega (arith, f, t, rest_near side b g k o root y, if_down_lem side s'.phase (cost o))
          | inr y ↦ omega (arith, t, ap (λ (z : Phase). if_down z (cost o)) (up e y))
        ]

    from_cut : s.cursor ≡ g → tree_left side o s' ≤ tree_left side old s
    from_cut e =
        let z : s'.phase ≡ s.phase = ph (λ y. (distinct_split (at b g k o path) (leaf a d) dis).2 a refl (inl (sym y ∙ e))) in
        omega (
          arith,
          left_top side o s' (mv.on (inr e)),
          left_cut b g k (leaf a d) o s e,
          ap (λ (p : Phase). if_down p (cost o)) z,
          if_le s.phase 0 (cost o) (3 + cost (leaf a d) + cost o) (omega arith),
        )

    from_other : TreeHas o s.cursor → tree_left side o s' ≤ tree_left side old s
    from_other m = omega (arith, left_other b g k (leaf a d) o s (distinct_split path old dis).0 m, ap (tree_left side o) (still (inl m)))

    pub lessens_unlink : TreeDistinct (plug path o) → Lessens 0 (plug (at b g k o path) (leaf a d)) (plug path o) s s'
    lessens_unlink dis' =
        lessens_plug 0 path old o s s' dis dis' (λ n. still (inr n)) record {
          has = λ u. elim (has_fill b g k (leaf a d) o s.cursor u) [
            | inl y ↦ rw (mv.on (inr y)) (has_top o)
            | inr (inl y) ↦ rw (mv.on (inl y)) (has_top o)
            | inr (inr n) ↦ rw (still (inl n)) n
          ];
          left = λ u. elim (has_fill b g k (leaf a d) o s.cursor u) [ inl y ↦ omega (arith, from_cut y) | inr (inl y) ↦ omega (arith, from_leaf y) | inr (inr n) ↦ omega (arith, from_other n) ];
          costs = omega (arith, cost_fill b g k (leaf a d) o);
        }
