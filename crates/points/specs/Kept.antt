-- Lists kept in the order of a choice: what a search for several records keeps, and what the plain table gives it. The elements are of any type; each has a
-- point, and `over` says whether the first of two elements is chosen over the second, by their points (`Ordered`).
use Rattle.std.specs.Prelude.{ℕ, zero, suc, ◌≤◌, ◌≡◌, ◌⊎◌, Bool, true, false, cond, List, [], ◌∷◌, leb, length}
use Rattle.std.proofs.Math.Option.{Option, none, some}
use Rattle.points.specs.declared.point.Point.{Point}

-- ## What is kept

-- the first n of a list
unfoldable pub firsts : {A : Type 0} → ℕ → List A → List A
firsts zero list = []
firsts (suc n) [] = []
firsts (suc n) (x ∷ list) = x ∷ firsts n list

-- the last of a list
abbrev pub last_of : {A : Type 0} → List A → Option A
last_of [] = none
last_of (x ∷ []) = some x
last_of (x ∷ (y ∷ list)) = last_of (y ∷ list)

-- one element or none as a list: what is kept where one is asked for
abbrev pub list_of : {A : Type 0} → Option A → List A
list_of none = []
list_of (some x) = x ∷ []

-- an element put into its place in a list that is in order; a list that has its point already is left as it is
unfoldable pub placed : {A : Type 0} → (A → A → Bool) → A → List A → List A
placed over x [] = x ∷ []
placed over x (y ∷ list) = cond (over y x) (y ∷ placed over x list) (cond (over x y) (x ∷ (y ∷ list)) (y ∷ list))

-- the elements of a list in order, one for each point
unfoldable pub in_order : {A : Type 0} → (A → A → Bool) → List A → List A
in_order over [] = []
in_order over (x ∷ list) = placed over x (in_order over list)

-- the last of those kept, once as many are kept as are asked for; none before
unfoldable pub bound_of : {A : Type 0} → ℕ → List A → Option A
bound_of most kept = cond (leb most (length kept)) (last_of kept) none

-- an element, where there is one, put among those kept, of which no more stay than are asked for
unfoldable pub gathered : {A : Type 0} → (A → A → Bool) → ℕ → List A → Option A → List A
gathered over most kept none = kept
gathered over most kept (some x) = firsts most (placed over x kept)

-- ## That it is right

-- two elements are compared by their points alone: none is chosen over one with its own point, and of two with different points one is chosen
pub record Ordered {A : Type 0} (point : A → Point) (over : A → A → Bool) : Type 0 where
  pub irreflexive : (x y : A) → point x ≡ point y → over x y ≡ false
  pub transitive : (x y z : A) → over x y ≡ true → over y z ≡ true → over x z ≡ true
  pub total : (x y : A) → ¬ (point x ≡ point y) → over x y ≡ false → over y x ≡ true

-- elements compared by a choice between points
abbrev pub by_point : {A : Type 0} → (A → Point) → (Point → Point → Bool) → A → A → Bool
by_point point over x y = over (point x) (point y)

-- each of them is so
abbrev pub Each : {A : Type 0} → (A → Type 0) → List A → Type 0
Each Is [] = Unit {0}
Each Is (x ∷ list) = Is x × Each Is list

-- x is chosen over each of them
abbrev pub OverAll : {A : Type 0} → (A → A → Bool) → A → List A → Type 0
OverAll over x [] = Unit {0}
OverAll over x (y ∷ list) = (over x y ≡ true) × OverAll over x list

-- each of them is chosen over x
abbrev pub AllOver : {A : Type 0} → (A → A → Bool) → List A → A → Type 0
AllOver over [] x = Unit {0}
AllOver over (y ∷ list) x = (over y x ≡ true) × AllOver over list x

-- each is chosen over all that come after it
abbrev pub Sorted : {A : Type 0} → (A → A → Bool) → List A → Type 0
Sorted over [] = Unit {0}
Sorted over (x ∷ list) = OverAll over x list × Sorted over list

-- p is the point of one of them
abbrev pub HasPoint : {A : Type 0} → (A → Point) → List A → Point → Type 0
HasPoint point [] p = ⊥
HasPoint point (x ∷ list) p = (p ≡ point x) ⊎ HasPoint point list p

-- there is a bound, and x is not chosen over it
abbrev pub Beaten : {A : Type 0} → (A → A → Bool) → A → Option A → Type 0
Beaten over x none = ⊥
Beaten over x (some b) = over x b ≡ false

-- x is kept, or as many are kept as are asked for and each of them is chosen over x
abbrev pub Decided : {A : Type 0} → (A → Point) → (A → A → Bool) → ℕ → List A → A → Type 0
Decided point over most kept x = HasPoint point kept (point x) ⊎ ((most ≤ length kept) × AllOver over kept x)

-- those kept are the first `most` of the candidates: candidates, in order, no more than are asked for, and every other candidate comes after all of them,
-- which then are as many as are asked for
pub record Right {A : Type 0} (point : A → Point) (over : A → A → Bool) (most : ℕ) (Candidate : A → Type 0) (kept : List A) : Type 0 where
  pub found : Each Candidate kept
  pub sorted : Sorted over kept
  pub within : length kept ≤ most
  pub others : (x : A) → Candidate x → Decided point over most kept x
