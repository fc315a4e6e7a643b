-- Numbers of any range as stored words: storing then loading gives a number back (`loaded_stored`), loading then storing a word (`stored_loaded`), and a
-- number is in range exactly if its word is at most high − low (`within_stored`, `within_loaded`). One argument serves coordinates and sums.
-- Assumes nothing.
use mathlib.Core.Path.{◌≡◌, refl, sym, ap, ◌∙◌}
use mathlib.Core.Bool.{Bool, true, false}
use Prim.Native.Nat.{ℕ, suc, ◌+◌, ◌≤◌, ◌<◌}
use native.Mathlib.Omega.{arith}
use borrow.Author.Tests.{leb-true, le-leb, lt-leb}
use lib.Dec.{leb}
use lib.IntN.{ℤ, pos, ◌+ℤ◌}
use lib.Signed.{le_z}
use Rattle.points.specs.declared.point.Range.{Range}
use Rattle.points.specs.Point.{within_range}
use Rattle.points.specs.Word.{NONE, outside, stored_in, loaded_in, span_in}
use Rattle.points.proofs.Tests.{leb_cong}
use Rattle.points.proofs.IntegerLaws.{raise, Near, near_add, near_raise, near_more, near_less, near_lt, raise_add, raise_inj, le_z_raise, apart_raise}
use Rattle.points.proofs.PointLaws.{Sound, Within, within, within_true}

-- a range whose greatest number is below the one that is in no range
module _ {b : ℕ} (r : Range) (s : Sound b r) (small : b ≤ 2147483648) (top : raise b r.high < 2147483647 + b) where
  pub span_raise : span_in r + raise b r.low ≡ raise b r.high
  unfolding span_in
  span_raise = omega (arith, apart_raise r.high r.low s.high s.low, s.order)

  pub span_le : span_in r < NONE
  span_le = omega (arith, span_raise)

  -- a number of the range as its word
  stored_plain : (x : ℤ) → Within b r x → stored_in r x + raise b r.low ≡ raise b x
  unfolding stored_in
  stored_plain x w = rw (within_true r x s w) (omega (arith, apart_raise x r.low w.near s.low, w.from))

  pub stored_le : (x : ℤ) → within_range r x ≡ true → stored_in r x ≤ span_in r
  stored_le x e = let w = within r x s e in omega (arith, stored_plain x w, span_raise, w.to)

  -- the greatest number of the range has the greatest word
  pub stored_high : stored_in r r.high ≡ span_in r
  unfolding stored_in span_in
  stored_high = rw (within_true r r.high s (record { near = s.high; from = s.order; to = omega arith }))

  -- the test of a word
  loaded_test : (w : ℕ) → le_z (r.low +ℤ pos w) r.high ≡ leb w (span_in r)
  loaded_test w =
      let n : Near (suc w) (pos w) = record { near = omega arith } in
      le_z_raise (r.low +ℤ pos w) r.high (near_add r.low (pos w) s.low n) (near_more (b + suc w) (omega arith) s.high)
      ∙ (λ i. leb (raise_add r.low (pos w) s.low n i) (near_raise r.high s.high (suc w) i))
      ∙ leb_cong (raise b r.low + (w + suc w)) (raise b r.high + suc w) w (span_in r) (λ h. omega (arith, span_raise)) (λ h. omega (arith, span_raise))

  pub loaded_is : (w : ℕ) → w ≤ span_in r → loaded_in r w ≡ r.low +ℤ pos w
  unfolding loaded_in
  loaded_is w h = rw (loaded_test w ∙ le-leb w (span_in r) h)

  pub record Loaded (w : ℕ) : Type 0 where
    pub near : Near b (r.low +ℤ pos w)
    pub raised : raise b (r.low +ℤ pos w) ≡ raise b r.low + w

  pub loaded : (w : ℕ) → w ≤ span_in r → Loaded w
  loaded w h =
      let z = r.low +ℤ pos w in
      let n : Near (suc w) (pos w) = record { near = omega arith } in
      let f = near_add r.low (pos w) s.low n in
      let e = raise_add r.low (pos w) s.low n in
      let g = near_less (suc w) z f (omega (arith, e)) (omega (arith, e, span_raise, near_lt r.high s.high)) in
      record { near = g; raised = omega (arith, e, near_raise z g (suc w)) }

  loaded_within : (w : ℕ) → w ≤ span_in r → Within b r (loaded_in r w)
  loaded_within w h =
      let l = loaded w h in
      rw (loaded_is w h) (record { near = l.near; from = omega (arith, l.raised); to = omega (arith, l.raised, span_raise) })

  -- storing then loading, and loading then storing
  pub loaded_stored : (x : ℤ) → within_range r x ≡ true → loaded_in r (stored_in r x) ≡ x
  loaded_stored x e =
      let w = within r x s e in
      let h = stored_le x e in
      let l = loaded (stored_in r x) h in
      loaded_is (stored_in r x) h ∙ raise_inj (r.low +ℤ pos (stored_in r x)) x l.near w.near (omega (arith, l.raised, stored_plain x w))

  pub stored_loaded : (w : ℕ) → w ≤ span_in r → stored_in r (loaded_in r w) ≡ w
  stored_loaded w h =
      let l = loaded w h in
      omega (arith, stored_plain (loaded_in r w) (loaded_within w h), ap (raise b) (loaded_is w h), l.raised)

  -- in range exactly if the word is at most the span
  pub within_stored : (x : ℤ) → within_range r x ≡ leb (stored_in r x) (span_in r)
  unfolding stored_in
  within_stored x = go (within_range r x) refl
    where
      go : (t : Bool) → within_range r x ≡ t → within_range r x ≡ leb (stored_in r x) (span_in r)
      go true e = e ∙ sym (le-leb (stored_in r x) (span_in r) (stored_le x e))
      go false e = e ∙ sym (rw e (lt-leb NONE (span_in r) (omega (arith, span_le))))

  pub within_loaded : (w : ℕ) → within_range r (loaded_in r w) ≡ leb w (span_in r)
  unfolding loaded_in
  within_loaded w = go (leb w (span_in r)) refl
    where
      never : (t : Bool) → within_range r outside ≡ t → t ≡ false
      never true e = absurd (omega (arith, (within r outside s e).to))
      never false e = refl

      go : (t : Bool) → leb w (span_in r) ≡ t → within_range r (loaded_in r w) ≡ leb w (span_in r)
      go true e = within_true r (loaded_in r w) s (loaded_within w (leb-true w (span_in r) e)) ∙ sym e
      go false e = rw (loaded_test w ∙ e) (never (within_range r outside) refl) ∙ sym e
