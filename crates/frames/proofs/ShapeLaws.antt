-- The kinds: what holds of each of them holds of every number that is a kind (`by_kind`), and they are 1 to 8 (`kinds_are`). Assumes nothing.
use mathlib.Core.Path.{◌≡◌, refl, sym, subst}
use mathlib.Core.Bool.{Bool, true, false, ◌&&◌}
use Prim.Native.Nat.{ℕ, zero, suc, ◌<◌}
use native.Mathlib.Omega.{arith}
use lib.Dec.{eqb, leb}
use borrow.Author.Tests.{eqb-true, ne_eqb, le-leb, lt-leb}
use Rattle.points.proofs.Tests.{no! }
use Rattle.frames.specs.Shape as shape

-- a number is this kind, or the rows below it are looked at
pub row : (P : ℕ → Type 0) (k kind : ℕ) → P kind → (eqb k kind ≡ false → P k) → P k
row P k kind holds below = go (eqb k kind) refl
  where
    go : (b : Bool) → eqb k kind ≡ b → P k
    go true e = subst P (sym (eqb-true k kind e)) holds
    go false e = below e

-- what holds of each kind holds of every number that is one
pub by_kind : (P : ℕ → Type 0) → P shape.kind_open → P shape.kind_submit → P shape.kind_step → P shape.kind_take → P shape.kind_run → P shape.kind_open_scaled
    → P shape.kind_open_ruled → P shape.kind_withdraw → (k : ℕ) → shape.is_kind k ≡ true → P k
by_kind P a b c d e f g h k is =
    row P k shape.kind_open a (λ n1.
    row P k shape.kind_submit b (λ n2.
    row P k shape.kind_step c (λ n3.
    row P k shape.kind_take d (λ n4.
    row P k shape.kind_run e (λ n5.
    row P k shape.kind_open_scaled f (λ n6.
    row P k shape.kind_open_ruled g (λ n7.
    row P k shape.kind_withdraw h (λ n8.
    no! (rw (n1, n2, n3, n4, n5, n6, n7, n8) at is)))))))))

-- no kind is beyond 8
beyond : (k : ℕ) → 8 < k → shape.is_kind k ≡ (leb 1 k && leb k 8)
beyond k h =
    simp (
      other shape.kind_open (omega arith),
      other shape.kind_submit (omega arith),
      other shape.kind_step (omega arith),
      other shape.kind_take (omega arith),
      other shape.kind_run (omega arith),
      other shape.kind_open_scaled (omega arith),
      other shape.kind_open_ruled (omega arith),
      other shape.kind_withdraw h,
      le-leb 1 k (omega arith),
      lt-leb k 8 h,
    )
  where
    other : (kind : ℕ) → kind < k → eqb k kind ≡ false
    other kind l = ne_eqb k kind (λ e. absurd (omega (arith, e)))

-- Rules 7.1, question 14: a kind, "1 to 8"
pub kinds_are : (k : ℕ) → shape.is_kind k ≡ (leb 1 k && leb k 8)
kinds_are zero = refl
kinds_are (suc zero) = refl
kinds_are (suc (suc zero)) = refl
kinds_are (suc (suc (suc zero))) = refl
kinds_are (suc (suc (suc (suc zero)))) = refl
kinds_are (suc (suc (suc (suc (suc zero))))) = refl
kinds_are (suc (suc (suc (suc (suc (suc zero)))))) = refl
kinds_are (suc (suc (suc (suc (suc (suc (suc zero))))))) = refl
kinds_are (suc (suc (suc (suc (suc (suc (suc (suc zero)))))))) = refl
kinds_are (suc (suc (suc (suc (suc (suc (suc (suc (suc k))))))))) = beyond (suc (suc (suc (suc (suc (suc (suc (suc (suc k))))))))) (omega arith)
