-- The marks on the sides of cuts, as crates above cite them: an add passes only sides that have its mark (`pass_begin`, `pass_down`), by which an
-- insert leaves every record with its marks (`covers` of `Inserted` and `Unlinked`), so that a side without the mark of a target has no candidate
-- of it (`closed_covered`).
use Prim.Native.Nat.{ℕ}
use mathlib.Core.Path.{◌≡◌, refl, sym, ◌∙◌, subst}
use mathlib.Core.Logic.{◌⊎◌, inl, inr}
use mathlib.Core.Bool.{Bool, true, false, cond, true≢false}
use mathlib.Core.List.{List}
use mathlib.Core.Option.{Option, none, some}
use lib.Dec.{eqb}
use borrow.Author.Tests.{eqb-false}
use Rattle.points.specs.declared.point.Point.{Point}
use Rattle.points.specs.declared.cut.Cut.{Cut}
use Rattle.points.specs.Cut.{goes_left}
use Rattle.points.specs.Word.{NONE}
use Rattle.trees.specs.Row.{cut_row, Heap}
use Rattle.trees.specs.Tree.{Tree, cut, top, top_of}
use Rattle.trees.specs.Queue.{Free}
use Rattle.trees.specs.Store.{Store}
use Rattle.trees.specs.Route.{Walking, stands_at}
use Rattle.trees.specs.Choice.{Choice}
use Rattle.trees.specs.Below.{Closed, Marks, Covered, TreePassed, Passed, Passing, Grows}
use Rattle.trees.proofs.Path.{plug}
use Rattle.trees.proofs.Spot.{Good, Spot, spot, spot_cut}
use Rattle.trees.proofs.Routes.{passed_has, passed_route, passed_top, passed_down, passed_grows}
use Rattle.trees.proofs.BelowLaws.{covered_grows}
use Rattle.trees.proofs.ReadLaws.{store_good}

-- a side that does not have the mark of a target has none of its candidates, where every candidate has the marks of the target
pub closed_covered : (marks : Marks) (c : Choice) (target : Point) (t : Option Tree)
    → ((x : ℕ) (side : Bool) (p : Point) → c.candidate p ≡ true → marks x side p ≡ marks x side target)
    → Covered marks t → Closed (λ x side. marks x side target) c t
closed_covered marks c target t same covered x side e off below candidate =
    true≢false (sym (covered x side e below) ∙ same x side e.point candidate ∙ off)

-- where no mark is lost, the records keep theirs
pub cover_grows : (marks marks' : Marks) (t : Option Tree) → Grows marks marks' t → Covered marks t → Covered marks' t
cover_grows marks marks' none g c = λ x side e n. absurd n
cover_grows marks marks' (some t) g c = covered_grows t g c

-- and so does an add
pub pass_grows : (marks marks' : Marks) (t : Option Tree) (p : Point) (x : ℕ) → Grows marks marks' t → Passing marks t p x → Passing marks' t p x
pass_grows marks marks' t p x g (inl e) = inl e
pass_grows marks marks' none p x g (inr o) = absurd o
pass_grows marks marks' (some t) p x g (inr o) = inr (passed_grows marks marks' t p x g o)

-- submission: the cursor is the root link, and nothing is above it
pub pass_begin : (marks : Marks) (t : Option Tree) (p : Point) → Passing marks t p (top_of t)
pass_begin marks none p = inl refl
pass_begin marks (some t) p = inr (passed_top marks t p)

-- an add that has marked its way is a walk
pub pass_walks : (marks : Marks) (t : Option Tree) (p : Point) (x : ℕ) → Passing marks t p x → Walking t p x
pass_walks marks t p x (inl e) = inl e
pass_walks marks none p x (inr o) = absurd o
pass_walks marks (some t) p x (inr o) = inr (passed_route marks t p x o)

-- where the add stands: at no row in the empty tree, else on its way, marked down to there
pub pass_stands : (marks : Marks) (t : Option Tree) (p : Point) (x : ℕ) → Passing marks t p x → ((t ≡ none) × (stands_at t x ≡ NONE)) ⊎ Passed marks t p (stands_at t x)
pass_stands marks none p x (inl e) = inl (refl, rw e)
pass_stands marks none p x (inr o) = absurd o
pass_stands marks (some t) p x w = inr (go (eqb x NONE) refl w)
  where
    go : (b : Bool) → eqb x NONE ≡ b → Passing marks (some t) p x → TreePassed marks t p (cond b (top t) x)
    go true f w = passed_top marks t p
    go false f (inl e) = absurd (eqb-false x NONE f e)
    go false f (inr o) = o

-- the way down from a cut that has the mark
pass_cut : {h : Heap} {t : Tree} {x parent : ℕ} {k : Cut} {l r : ℕ} (marks : Marks) (p : Point) → Good h t → h x ≡ cut_row parent k l r
    → marks x (goes_left k p) p ≡ true → TreePassed marks t p x → TreePassed marks t p (cond (goes_left k p) l r)
pass_cut {h} {t} {x} {parent} {k} {l} {r} marks p g reads mark o =
    let s : Spot t x = spot (passed_has marks t p x o) in
    let w = spot_cut g s reads in
    let whole : plug s.path (cut x k w.0 w.1) ≡ t = w.2 in
    let down = passed_down marks s.path x k w.0 w.1 p (rw whole g.distinct) mark (rw whole o) in
    let to : cond (goes_left k p) (top w.0) (top w.1) ≡ cond (goes_left k p) l r = rw (w.3, w.4) in
    subst (λ (z : ℕ). TreePassed marks t p z) to (rw whole at down)

-- `down` of an add at a cut that has its mark on its side
pub pass_down : {places : ℕ} {h : Heap} {q : List Free} {changes removals released : ℕ} (marks : Marks) (t : Option Tree) (p : Point) {x parent : ℕ} {k : Cut} {l r : ℕ}
    → Store places h t q changes removals released → h x ≡ cut_row parent k l r → marks x (goes_left k p) p ≡ true
    → Passed marks t p x → Passed marks t p (cond (goes_left k p) l r)
pass_down marks none p s reads mark o = absurd o
pass_down marks (some t) p s reads mark o = pass_cut marks p (store_good s) reads mark o
