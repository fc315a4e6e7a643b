-- Parts of a slice as a function lends them, `&words[b..b + n]` and `&mut words[b..b + n]`, where b is worked out to be a.
-- Assumes nothing.
use mathlib.Core.Path.{◌≡◌}
use mathlib.Core.List.{List, ◌++◌}
use Prim.Native.Nat.{ℕ, ◌+◌, ◌-◌, ◌≤◌, ◌<◌}
use native.Mathlib.Nat.{add-sub_cancel_left}
use native.Mathlib.Omega.{arith}
use borrow.Author.Tests.{le-leb, lt-leb}
use lib.ListN.{length, take, drop}
use Rattle.words.specs.Words.{part, splice}
use Rattle.words.specs.Part.{put_part}

-- the part that is read
pub part_lent : (w : List ℕ) (a b n : ℕ) → b ≡ a → take (b + n - b) (drop b w) ≡ part w a n
part_lent w a b n e = rw (add-sub_cancel_left b n, e)

-- the slice after the part was written
pub splice_lent : (w v e : List ℕ) (b n : ℕ) → v ≡ e → take b w ++ (v ++ drop (b + n - b) (drop b w)) ≡ splice w e b n
splice_lent w v e b n f = rw (add-sub_cancel_left b n, f)

-- words that fit are written, and words that do not are not
pub part_fits : (w e : List ℕ) (a : ℕ) → a + length e ≤ length w → put_part w e a ≡ splice w e a (length e)
unfolding put_part
part_fits w e a h = rw (le-leb (a + length e) (length w) h)

pub part_past : (w e : List ℕ) (a : ℕ) → length w < a + length e → put_part w e a ≡ w
unfolding put_part
part_past w e a h = rw (lt-leb (a + length e) (length w) h)

-- the slice after n words were written that are worked out to be e
pub part_put : (w v e : List ℕ) (a b n : ℕ) → v ≡ e → b ≡ a → length e ≡ n → a + n ≤ length w → put_part w v b ≡ splice w e a n
part_put w v e a b n f g h fits = rw (f, g, ← h) (part_fits w e a (omega arith))
