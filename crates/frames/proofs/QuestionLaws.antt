-- What the answers to questions 13 to 15 say of the bytes, and what is read by them. Assumes nothing.
use mathlib.Core.Path.{◌≡◌, refl}
use mathlib.Core.Bool.{Bool, true, false}
use mathlib.Core.List.{List}
use Prim.Native.Nat.{ℕ, ◌+◌, ◌≤◌}
use lib.ListN.{length}
use lib.Dec.{leb}
use borrow.Author.Tests.{leb-true, eq-eqb, ne_eqb}
use Rattle.std.specs.Prelude.{Ok, Err, ◌≢◌}
use Rattle.points.proofs.Tests.{and_r}
use Rattle.frames.specs.declared.shape.Kind.{Kind}
use Rattle.frames.specs.declared.refusal.FrameRefusal.{FrameRefusal}
use Rattle.frames.specs.declared.refusal.FrameRefusal.TheVariants.{NoKind, WrongLength}
use Rattle.frames.specs.Shape as shape
use Rattle.frames.specs.Kind.{kind_number}
use Rattle.frames.specs.Read.{length_in, kind_in, is_whole, has_kind, kind_asked, own_length, frame_in, read_rest}
use Rattle.frames.proofs.KindLaws.{kind_found, kind_refused}

-- all the bytes that the length counts are there
pub whole_there : (rest : List ℕ) → is_whole rest ≡ true → shape.size_of (length_in rest) ≤ length rest
unfolding is_whole
whole_there rest e = leb-true (shape.size_of (length_in rest)) (length rest) (and_r (leb 2 (length rest)) (leb (shape.size_of (length_in rest)) (length rest)) e)

-- question 14 refuses with its number, and finds the kind of the frame
asked_refused : (rest : List ℕ) (refusal : FrameRefusal) → kind_asked rest ≡ Err refusal → (has_kind rest ≡ false) × (refusal ≡ NoKind)
unfolding kind_asked has_kind
asked_refused rest refusal e = go (leb 2 (length_in rest)) refl
  where
    go : (b : Bool) → leb 2 (length_in rest) ≡ b → (has_kind rest ≡ false) × (refusal ≡ NoKind)
    go true b = let r = kind_refused (kind_in rest) refusal (rw b at e) in (rw (b, r.is), r.refusal_lem)
    go false b = (rw b, cc (rw b at e))

pub asked_found : (rest : List ℕ) (kind : Kind) → kind_asked rest ≡ Ok kind → (has_kind rest ≡ true) × (kind_number kind ≡ kind_in rest)
unfolding kind_asked has_kind
asked_found rest kind e = go (leb 2 (length_in rest)) refl
  where
    go : (b : Bool) → leb 2 (length_in rest) ≡ b → (has_kind rest ≡ true) × (kind_number kind ≡ kind_in rest)
    go true b = let f = kind_found (kind_in rest) kind (rw b at e) in (rw (b, f.is), f.number)
    go false b = absurd (cc (rw b at e))

-- what is read where question 14 or 15 is the first that fails, and where none does
pub read_refused : (rest : List ℕ) (at : ℕ) (refusal : FrameRefusal) → is_whole rest ≡ true → kind_asked rest ≡ Err refusal → read_rest rest at ≡ Err refusal
unfolding read_rest
read_refused rest at refusal w e = let a = asked_refused rest refusal e in rw (w, a.0, a.1)

pub read_wrong : (rest : List ℕ) (at : ℕ) (kind : Kind) → is_whole rest ≡ true → kind_asked rest ≡ Ok kind
    → length_in rest ≢ shape.length_of (kind_number kind) → read_rest rest at ≡ Err WrongLength
unfolding read_rest own_length
read_wrong rest at kind w e n =
    let a = asked_found rest kind e in
    simp (w, a.0, ne_eqb (length_in rest) (shape.length_of (kind_in rest)) (rw a.1 at n))

pub read_found : (rest : List ℕ) (at : ℕ) (kind : Kind) → is_whole rest ≡ true → kind_asked rest ≡ Ok kind
    → length_in rest ≡ shape.length_of (kind_number kind)
    → read_rest rest at ≡ Ok (frame_in (kind_number kind) rest, at + shape.size_of (shape.length_of (kind_number kind)))
unfolding read_rest own_length
read_found rest at kind w e l =
    let a = asked_found rest kind e in
    let own = rw a.1 at l in
    rw (a.1) (simp (w, a.0, eq-eqb (length_in rest) (shape.length_of (kind_in rest)) own) (λ i. Ok (frame_in (kind_in rest) rest, at + shape.size_of (own i))))
