-- A number that is a kind is one by name, and any other is question 14 (`kind_found`, `kind_refused`). Assumes nothing.
use mathlib.Core.Path.{◌≡◌, refl, sym, ap, ◌∙◌}
use mathlib.Core.Bool.{Bool, true, false}
use Prim.Native.Nat.{ℕ}
use Rattle.std.specs.Prelude.{Ok, Err}
use Rattle.points.proofs.Tests.{no! }
use Rattle.frames.specs.declared.shape.Kind.{Kind}
use Rattle.frames.specs.declared.shape.Kind.TheVariants.{Open, Submit, Step, Take, Run, OpenScaled, OpenRuled, Withdraw}
use Rattle.frames.specs.declared.refusal.FrameRefusal.{FrameRefusal}
use Rattle.frames.specs.declared.refusal.FrameRefusal.TheVariants.{NoKind}
use Rattle.frames.specs.Shape as shape
use Rattle.frames.specs.Kind.{kind_number, kind_of}
use Rattle.frames.proofs.ShapeLaws.{row, by_kind}

-- a kind by name, with its number
record Named (k : ℕ) : Type 0 where
  kind : Kind
  is : kind_of k ≡ Ok kind
  number : kind_number kind ≡ k

named : (k : ℕ) → shape.is_kind k ≡ true → Named k
unfolding kind_of
named k is =
    by_kind Named
    (record { kind = Open; is = refl; number = refl })
    (record { kind = Submit; is = refl; number = refl })
    (record { kind = Step; is = refl; number = refl })
    (record { kind = Take; is = refl; number = refl })
    (record { kind = Run; is = refl; number = refl })
    (record { kind = OpenScaled; is = refl; number = refl })
    (record { kind = OpenRuled; is = refl; number = refl })
    (record { kind = Withdraw; is = refl; number = refl })
    k is

-- a number that is none
unnamed : (k : ℕ) → shape.is_kind k ≡ false → kind_of k ≡ Err NoKind
unfolding kind_of
unnamed k is =
    let P : ℕ → Type 0 = λ n. shape.is_kind n ≡ false → kind_of n ≡ Err NoKind in
    row P k shape.kind_open (λ e. no! (sym e)) (λ n1.
    row P k shape.kind_submit (λ e. no! (sym e)) (λ n2.
    row P k shape.kind_step (λ e. no! (sym e)) (λ n3.
    row P k shape.kind_take (λ e. no! (sym e)) (λ n4.
    row P k shape.kind_run (λ e. no! (sym e)) (λ n5.
    row P k shape.kind_open_scaled (λ e. no! (sym e)) (λ n6.
    row P k shape.kind_open_ruled (λ e. no! (sym e)) (λ n7.
    row P k shape.kind_withdraw (λ e. no! (sym e)) (λ n8.
    λ e. rw (n1, n2, n3, n4, n5, n6, n7, n8))))))))) is

-- what a number says where a kind is found
pub record Found (k : ℕ) (kind : Kind) : Type 0 where
  pub is : shape.is_kind k ≡ true
  pub number : kind_number kind ≡ k

pub kind_found : (k : ℕ) (kind : Kind) → kind_of k ≡ Ok kind → Found k kind
kind_found k kind e = go (shape.is_kind k) refl
  where
    go : (b : Bool) → shape.is_kind k ≡ b → Found k kind
    go true is = let n = named k is in record { is = is; number = ap kind_number (cc (n.is, e)) ∙ n.number }
    go false is = absurd (cc (unnamed k is, e))

-- and where none is
pub record Refused (k : ℕ) (refusal : FrameRefusal) : Type 0 where
  pub is : shape.is_kind k ≡ false
  pub refusal_lem : refusal ≡ NoKind

pub kind_refused : (k : ℕ) (refusal : FrameRefusal) → kind_of k ≡ Err refusal → Refused k refusal
kind_refused k refusal e = go (shape.is_kind k) refl
  where
    go : (b : Bool) → shape.is_kind k ≡ b → Refused k refusal
    go true is = let n = named k is in absurd (cc (n.is, e))
    go false is = record { is = is; refusal_lem = cc (unnamed k is, e) }
