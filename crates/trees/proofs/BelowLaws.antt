-- What lies below each side of a cut, in terms of paths, and that every change keeps the marks of the records there.
use Prim.Native.Nat.{ℕ}
use mathlib.Core.Path.{◌≡◌, refl}
use mathlib.Core.Logic.{◌⊎◌, inl, inr}
use mathlib.Core.Bool.{Bool, true, false, not}
use Rattle.points.specs.declared.cut.Cut.{Cut}
use Rattle.trees.specs.Row.{Entry}
use Rattle.trees.specs.Tree.{Tree, leaf, cut, TreeHolds}
use Rattle.trees.specs.Below.{TreeBelow, Marks, TreeCovered, TreeHasCut, TreeGrows}
use Rattle.trees.proofs.Path.{Path, root, at, fill, plug, PathSide, holds_fill, holds_here, holds_path}

-- what is below a cut of a part of the tree is below it in the whole
pub below_here : (path : Path) (t : Tree) (x : ℕ) (side : Bool) (e : Entry) → TreeBelow t x side e → TreeBelow (plug path t) x side e
below_here root t x side e m = m
below_here (at true a k o path) t x side e m = below_here path (cut a k t o) x side e (inr (inl m))
below_here (at false a k o path) t x side e m = below_here path (cut a k o t) x side e (inr (inr m))

-- on the other side of a cut
pub below_other : (b : Bool) (a : ℕ) (k : Cut) (t s : Tree) (e : Entry) → TreeHolds s e → TreeBelow (fill b a k t s) a (not b) e
below_other true a k t s e m = inl (refl, m)
below_other false a k t s e m = inl (refl, m)

-- on its own side, and below a cut of the other side
below_own : (b : Bool) (a : ℕ) (k : Cut) (t s : Tree) (e : Entry) → TreeHolds t e → TreeBelow (fill b a k t s) a b e
below_own true a k t s e m = inl (refl, m)
below_own false a k t s e m = inl (refl, m)

below_in_other : (b : Bool) (a : ℕ) (k : Cut) (t s : Tree) (x : ℕ) (side : Bool) (e : Entry) → TreeBelow s x side e → TreeBelow (fill b a k t s) x side e
below_in_other true a k t s x side e m = inr (inr m)
below_in_other false a k t s x side e m = inr (inl m)

-- below a cut with t on the side b and s on the other: on one of the two sides of the cut itself, or below a cut of t or s
below_fill : (b : Bool) (a : ℕ) (k : Cut) (t s : Tree) (x : ℕ) (side : Bool) (e : Entry) → TreeBelow (fill b a k t s) x side e
    → ((x ≡ a) × (side ≡ b) × TreeHolds t e) ⊎ (((x ≡ a) × (side ≡ not b) × TreeHolds s e) ⊎ (TreeBelow t x side e ⊎ TreeBelow s x side e))
below_fill true a k t s x true e (inl u) = inl (u.0, refl, u.1)
below_fill true a k t s x false e (inl u) = inr (inl (u.0, refl, u.1))
below_fill true a k t s x side e (inr (inl u)) = inr (inr (inl u))
below_fill true a k t s x side e (inr (inr u)) = inr (inr (inr u))
below_fill false a k t s x true e (inl u) = inr (inl (u.0, refl, u.1))
below_fill false a k t s x false e (inl u) = inl (u.0, refl, u.1)
below_fill false a k t s x side e (inr (inl u)) = inr (inr (inr u))
below_fill false a k t s x side e (inr (inr u)) = inr (inr (inl u))

-- a cut that something is below is one of the tree's
below_cut : (t : Tree) (x : ℕ) (side : Bool) (e : Entry) → TreeBelow t x side e → TreeHasCut t x
below_cut (leaf a d) x side e m = absurd m
below_cut (cut a k l r) x side e (inl m) = inl m.0
below_cut (cut a k l r) x side e (inr (inl m)) = inr (inl (below_cut l x side e m))
below_cut (cut a k l r) x side e (inr (inr m)) = inr (inr (below_cut r x side e m))

-- e is below a cut of the path or beside it, and not at its end
abbrev PathBelow : Path → ℕ → Bool → Entry → Type 0
PathBelow root x side e = ⊥
PathBelow (at b a k o path) x side e =
    ((x ≡ a) × (side ≡ not b) × TreeHolds o e) ⊎ (TreeBelow o x side e ⊎ ((PathSide path x side × TreeHolds o e) ⊎ PathBelow path x side e))

-- below a cut of the whole: below a cut of the part, or in the part and so below each cut of the path, or not in the part
below_split : (path : Path) (t : Tree) (x : ℕ) (side : Bool) (e : Entry) → TreeBelow (plug path t) x side e
    → TreeBelow t x side e ⊎ ((PathSide path x side × TreeHolds t e) ⊎ PathBelow path x side e)
below_split root t x side e m = inl m
below_split (at b a k o path) t x side e m = elim (below_split path (fill b a k t o) x side e m) [
  | inl n ↦ elim (below_fill b a k t o x side e n) [
    | inl u ↦ inr (inl (inl (u.0, u.1), u.2))
    | inr (inl u) ↦ inr (inr (inl u))
    | inr (inr (inl u)) ↦ inl u
    | inr (inr (inr u)) ↦ inr (inr (inr (inl u)))
  ]
  | inr (inl n) ↦ elim (holds_fill b a k t o e n.1) [ inl u ↦ inr (inl (inr n.0, u)) | inr u ↦ inr (inr (inr (inr (inl (n.0, u))))) ]
  | inr (inr n) ↦ inr (inr (inr (inr (inr n))))
]

-- and from each of the last two back
below_side : (path : Path) (t : Tree) (x : ℕ) (side : Bool) (e : Entry) → PathSide path x side → TreeHolds t e → TreeBelow (plug path t) x side e
below_side root t x side e m h = absurd m
below_side (at b a k o path) t x side e (inl m) h = below_here path (fill b a k t o) x side e (rw (m.0, m.1) (below_own b a k t o e h))
below_side (at b a k o path) t x side e (inr m) h = below_side path (fill b a k t o) x side e m (holds_here (at b a k o root) t e h)

below_path : (path : Path) (t : Tree) (x : ℕ) (side : Bool) (e : Entry) → PathBelow path x side e → TreeBelow (plug path t) x side e
below_path root t x side e m = absurd m
below_path (at b a k o path) t x side e (inl m) = below_here path (fill b a k t o) x side e (rw (m.0, m.1) (below_other b a k t o e m.2))
below_path (at b a k o path) t x side e (inr (inl m)) = below_here path (fill b a k t o) x side e (below_in_other b a k t o x side e m)
below_path (at b a k o path) t x side e (inr (inr (inl m))) = below_side path (fill b a k t o) x side e m.0 (holds_path (at b a k o root) t e (inl m.1))
below_path (at b a k o path) t x side e (inr (inr (inr m))) = below_path path (fill b a k t o) x side e m

-- where no mark is lost, each record keeps its own
pub covered_grows : {marks marks' : Marks} (t : Tree) → TreeGrows marks marks' t → TreeCovered marks t → TreeCovered marks' t
covered_grows t g c x side e m = g x (below_cut t x side e m) side e.point (c x side e m)

-- a new leaf beside an old one, where the new cut has both their marks, and each cut above that of the new one
pub covered_insert : {marks marks' : Marks} (path : Path) (e : ℕ) (d : Entry) (own : Bool) (b : ℕ) (k : Cut) (a : ℕ) (new : Entry)
    → TreeCovered marks (plug path (leaf e d)) → TreeGrows marks marks' (plug path (leaf e d))
    → marks' b own new.point ≡ true → marks' b (not own) d.point ≡ true
    → ((x : ℕ) (side : Bool) → PathSide path x side → marks x side new.point ≡ true)
    → TreeCovered marks' (plug path (fill own b k (leaf a new) (leaf e d)))
covered_insert {marks} {marks'} path e d own b k a new c g here there passed x side f m =
    elim (below_split path (fill own b k (leaf a new) (leaf e d)) x side f m) [
      | inl n ↦ elim (below_fill own b k (leaf a new) (leaf e d) x side f n) [
        | inl u ↦ rw (u.0, u.1, u.2) here
        | inr (inl u) ↦ rw (u.0, u.1, u.2) there
        | inr (inr (inl u)) ↦ absurd u
        | inr (inr (inr u)) ↦ absurd u
      ]
      | inr (inl n) ↦ elim (holds_fill own b k (leaf a new) (leaf e d) f n.1) [
        | inl u ↦ g x (below_cut (plug path (leaf e d)) x side d (below_side path (leaf e d) x side d n.0 refl)) side f.point (rw u (passed x side n.0))
        | inr u ↦ old (below_side path (leaf e d) x side f n.0 u)
      ]
      | inr (inr n) ↦ old (below_path path (leaf e d) x side f n)
    ]
  where
    old : TreeBelow (plug path (leaf e d)) x side f → marks' x side f.point ≡ true
    old n = covered_grows (plug path (leaf e d)) g c x side f n

-- a leaf and the cut above it taken out: what is below a cut now was below it before
pub covered_unlink : {marks marks' : Marks} (b : Bool) (g : ℕ) (k : Cut) (o : Tree) (path : Path) (a : ℕ) (d : Entry)
    → TreeCovered marks (plug (at b g k o path) (leaf a d)) → TreeGrows marks marks' (plug path o) → TreeCovered marks' (plug path o)
covered_unlink b g k o path a d c w x side e m =
    let n : PathBelow (at b g k o path) x side e = elim (below_split path o x side e m) [
      | inl u ↦ inr (inl u)
      | inr (inl u) ↦ inr (inr (inl u))
      | inr (inr u) ↦ inr (inr (inr u))
    ] in
    w x (below_cut (plug path o) x side e m) side e.point (c x side e (below_path (at b g k o path) (leaf a d) x side e n))
