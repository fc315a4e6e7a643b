-- Single words: what is put is read back, every other word stays, and two slices with the same words are one.
-- Assumes nothing.
use mathlib.Core.Path.{◌≡◌}
use mathlib.Core.List.{List}
use Prim.Native.Nat.{ℕ, suc, ◌≤◌, ◌<◌}
use native.Mathlib.Numerals.{add-one}
use borrow.Author.Tests.{lt-ltb}
use lib.ListN.{length, length-set, get_or-eq_default}
use lib.Seq.{set_out, set-set, set_comm, set-get_or, get_or-set_same, get_or-set_other, ext_get_or}
use Rattle.points.specs.Word.{NONE}
use Rattle.words.specs.Words.{get, put, more}

pub get_outside : (w : List ℕ) (i : ℕ) → length w ≤ i → get w i ≡ 0
unfolding get
get_outside w i h = get_or-eq_default w 0 h

pub put_outside : (w : List ℕ) (i v : ℕ) → length w ≤ i → put w i v ≡ w
unfolding put
put_outside w i v h = set_out w i v h

pub length_put : (w : List ℕ) (i v : ℕ) → length (put w i v) ≡ length w
unfolding put
length_put w i v = length-set w i v

-- what is put is read back
pub get_put_same : (w : List ℕ) (i v : ℕ) → i < length w → get (put w i v) i ≡ v
unfolding get put
get_put_same w i v h = get_or-set_same w i v 0 h

-- every other word stays
pub get_put_other : (w : List ℕ) (i j v : ℕ) → ¬ (j ≡ i) → get (put w i v) j ≡ get w j
unfolding get put
get_put_other w i j v n = get_or-set_other w i j v 0 n

-- to put what is there changes nothing
pub put_get : (w : List ℕ) (i : ℕ) → put w i (get w i) ≡ w
unfolding get put
put_get w i = set-get_or w i 0

-- of two writes of a word the last stays
pub put_put : (w : List ℕ) (i u v : ℕ) → put (put w i u) i v ≡ put w i v
unfolding put
put_put w i u v = set-set w i u v

-- writes of two words may be made in either order
pub put_swap : (w : List ℕ) (i j u v : ℕ) → ¬ (i ≡ j) → put (put w i u) j v ≡ put (put w j v) i u
unfolding put
put_swap w i j u v n = set_comm w i j u v n

-- two slices of one length with the same words are one
pub words_same : (v w : List ℕ) → length v ≡ length w → ((k : ℕ) → k < length v → get v k ≡ get w k) → v ≡ w
unfolding get
words_same v w e h = ext_get_or 0 v w e h

-- one more, below the greatest word
pub more_is : (x : ℕ) → x < NONE → more x ≡ suc x
unfolding more
more_is x l = rw (lt-ltb x NONE l) (add-one x)
