-- Agreement of slices, and writes that touch some words alone. Two slices that agree somewhere agree there again after the same
-- write; a write to one region is not seen in another (`elsewhere`).
-- Assumes nothing.
use mathlib.Core.Path.{◌≡◌, refl, sym, ap, ◌∙◌}
use mathlib.Core.Bool.{Bool, true, false, cond, true≢false, false≢true}
use mathlib.Core.List.{List}
use Prim.Native.Nat.{ℕ, ◌+◌, ◌-◌, ◌≤◌, ◌<◌}
use native.Mathlib.Omega.{arith}
use native.Mathlib.Decide.{ℕ_discrete, dec_lt}
use borrow.Author.Tests.{ltb-true}
use lib.Dec.{ltb}
use lib.ListN.{length, get_or}
use Rattle.words.specs.Layout.{stations, station_size, at_station, at_row}
use Rattle.words.specs.Words.{get, put, part, splice}
use Rattle.words.specs.Agree.{Off, Apart, Agree, Only, Region, in_common, in_station, in_row, start_of, size_of, AgreeIn, OnlyIn}
use Rattle.words.proofs.Splice.{part_same, length_splice, splice_before, splice_inside, splice_after}
use Rattle.words.proofs.WordLaws.{length_put, get_put_same, get_put_other, put_outside}

pub agree_refl : (w : List ℕ) (a n : ℕ) → Agree w w a n
agree_refl w a n = record { lengths = refl; words = λ k h l. refl }

pub agree_turn : {v w : List ℕ} {a n : ℕ} → Agree v w a n → Agree w v a n
agree_turn g = record { lengths = sym g.lengths; words = λ k h l. sym (g.words k h l) }

pub agree_trans : {u v w : List ℕ} {a n : ℕ} → Agree u v a n → Agree v w a n → Agree u w a n
agree_trans g h = record { lengths = g.lengths ∙ h.lengths; words = λ k p q. g.words k p q ∙ h.words k p q }

-- slices that agree on some words agree on fewer
pub agree_within : {v w : List ℕ} {a n : ℕ} → Agree v w a n → (b m : ℕ) → a ≤ b → b + m ≤ a + n → Agree v w b m
agree_within g b m p q = record { lengths = g.lengths; words = λ k h l. g.words k (omega arith) (omega arith) }

-- and have the same part there
pub part_agree : {v w : List ℕ} {a n : ℕ} → Agree v w a n → part v a n ≡ part w a n
unfolding get
part_agree {v} {w} {a} {n} g = part_same v w a n g.lengths g.words

pub only_refl : (w : List ℕ) (a n : ℕ) → Only w w a n
only_refl w a n = record { lengths = refl; others = λ k h. refl }

pub only_trans : {u v w : List ℕ} {a n : ℕ} → Only u v a n → Only v w a n → Only u w a n
only_trans g h = record { lengths = g.lengths ∙ h.lengths; others = λ k o. g.others k o ∙ h.others k o }

-- a write to some words is one to more
pub only_within : {v w : List ℕ} {a n : ℕ} → Only v w a n → (b m : ℕ) → b ≤ a → a + n ≤ b + m → Only v w b m
only_within g b m p q = record { lengths = g.lengths; others = λ k o. g.others k (λ h l. o (omega arith) (omega arith)) }

-- what is written elsewhere is not seen
pub only_apart : {v w : List ℕ} {a n : ℕ} → Only v w a n → (b m : ℕ) → Apart b m a n → Agree v w b m
only_apart g b m p = record { lengths = g.lengths; words = λ k h l. g.others k (p k h l) }

-- one word
pub put_only : (w : List ℕ) (i x : ℕ) → Only (put w i x) w i 1
put_only w i x = record { lengths = length_put w i x; others = λ k o. get_put_other w i k x (λ e. o (omega arith) (omega arith)) }

pub put_agree : {v w : List ℕ} {a n : ℕ} → Agree v w a n → (i x : ℕ) → Agree (put v i x) (put w i x) a n
put_agree {v} {w} {a} {n} g i x = record {
  lengths = length_put v i x ∙ g.lengths ∙ sym (length_put w i x);
  words = λ k h l. go k h l (ℕ_discrete k i) (dec_lt i (length v));
}
  where
    go : (k : ℕ) → a ≤ k → k < a + n → Dec (k ≡ i) → Dec (i < length v) → get (put v i x) k ≡ get (put w i x) k
    go k h l (yes e) (yes r) = rw e (get_put_same v i x r ∙ sym (get_put_same w i x (omega (arith, g.lengths))))
    go k h l (yes e) (no r) = rw (put_outside v i x (omega arith), put_outside w i x (omega (arith, g.lengths))) (g.words k h l)
    go k h l (no e) r = get_put_other v i k x e ∙ g.words k h l ∙ sym (get_put_other w i k x e)

-- several words
pub splice_only : (w e : List ℕ) (a n : ℕ) → a + n ≤ length w → length e ≡ n → Only (splice w e a n) w a n
unfolding get
splice_only w e a n room size = record { lengths = length_splice w e a n room size; others = λ k o. go k o (dec_lt k a) }
  where
    go : (k : ℕ) → Off a n k → Dec (k < a) → get_or (splice w e a n) k 0 ≡ get_or w k 0
    go k o (yes h) = splice_before w e a n room size k h
    go k o (no h) = past (dec_lt k (a + n))
      where
        past : Dec (k < a + n) → get_or (splice w e a n) k 0 ≡ get_or w k 0
        past (yes l) = absurd (o (omega arith) l)
        past (no l) = splice_after w e a n room size k (omega arith)

pub splice_agree : {v w : List ℕ} {a n : ℕ} → Agree v w a n → (e : List ℕ) (b m : ℕ) → b + m ≤ length v → length e ≡ m → Agree (splice v e b m) (splice w e b m) a n
unfolding get
splice_agree {v} {w} {a} {n} g e b m room size = record {
  lengths = length_splice v e b m room size ∙ g.lengths ∙ sym (length_splice w e b m room' size);
  words = λ k h l. go k h l (dec_lt k b) (dec_lt k (b + m));
}
  where
    room' : b + m ≤ length w
    room' = omega (arith, g.lengths)

    go : (k : ℕ) → a ≤ k → k < a + n → Dec (k < b) → Dec (k < b + m) → get_or (splice v e b m) k 0 ≡ get_or (splice w e b m) k 0
    go k h l (yes p) q = splice_before v e b m room size k p ∙ g.words k h l ∙ sym (splice_before w e b m room' size k p)
    go k h l (no p) (yes q) =
        let here : k ≡ b + (k - b) = omega arith in
        ap (λ i. get_or (splice v e b m) i 0) here
        ∙ splice_inside v e b m room size (k - b) (omega arith)
        ∙ sym (ap (λ i. get_or (splice w e b m) i 0) here ∙ splice_inside w e b m room' size (k - b) (omega arith))
    go k h l (no p) (no q) = splice_after v e b m room size k (omega arith) ∙ g.words k h l ∙ sym (splice_after w e b m room' size k (omega arith))

-- a write that is made only if a test passes
pub cond_only : {w x : List ℕ} {a n : ℕ} (b : Bool) → (b ≡ true → Only x w a n) → Only (cond b x w) w a n
cond_only true f = f refl
cond_only {w} {x} {a} {n} false f = only_refl w a n

pub cond_agree : {v w x y : List ℕ} {a n : ℕ} (b d : Bool) → b ≡ d → (b ≡ true → Agree x y a n) → Agree v w a n → Agree (cond b x v) (cond d y w) a n
cond_agree true true e f g = f refl
cond_agree true false e f g = absurd (true≢false e)
cond_agree false true e f g = absurd (false≢true e)
cond_agree false false e f g = g

-- two regions have no word in common
pub regions_apart : (x y : Region) → ¬ (x ≡ y) → Apart (start_of x) (size_of x) (start_of y) (size_of y)
unfolding start_of size_of at_station at_row
regions_apart in_common in_common n k h l h' l' = n refl
regions_apart in_common (in_station t) n k h l h' l' = omega arith
regions_apart in_common (in_row t) n k h l h' l' = omega arith
regions_apart (in_station s) in_common n k h l h' l' = omega arith
regions_apart (in_station s) (in_station t) n k h l h' l' = go (ltb s stations) (ltb t stations) l l'
  where
    other : ¬ (s ≡ t)
    other e = n (ap in_station e)

    go : (p q : Bool) → k < at_station s + cond p station_size 0 → k < at_station t + cond q station_size 0 → ⊥
    go true true l l' = omega (arith, other)
    go true false l l' = omega arith
    go false q l l' = omega arith
regions_apart (in_station s) (in_row t) n k h l h' l' = go (ltb s stations) refl l
  where
    go : (p : Bool) → ltb s stations ≡ p → k < at_station s + cond p station_size 0 → ⊥
    go true e l = omega (arith, ltb-true s stations e)
    go false e l = omega arith
regions_apart (in_row r) in_common n k h l h' l' = omega arith
regions_apart (in_row r) (in_station t) n k h l h' l' = go (ltb t stations) refl l'
  where
    go : (p : Bool) → ltb t stations ≡ p → k < at_station t + cond p station_size 0 → ⊥
    go true e l' = omega (arith, ltb-true t stations e)
    go false e l' = omega arith
regions_apart (in_row r) (in_row t) n k h l h' l' = omega (arith, other)
  where
    other : ¬ (r ≡ t)
    other e = n (ap in_row e)

-- regions that differ
pub common_station : (s : ℕ) → ¬ (in_common ≡ in_station s)
common_station s e = let z : ◌≡◌ {A = ℕ} 0 1 = cc in omega arith

pub common_row : (r : ℕ) → ¬ (in_common ≡ in_row r)
common_row r e = let z : ◌≡◌ {A = ℕ} 0 1 = cc in omega arith

pub station_common : (s : ℕ) → ¬ (in_station s ≡ in_common)
station_common s e = let z : ◌≡◌ {A = ℕ} 0 1 = cc in omega arith

pub station_row : (s r : ℕ) → ¬ (in_station s ≡ in_row r)
station_row s r e = let z : ◌≡◌ {A = ℕ} 0 1 = cc in omega arith

pub row_common : (r : ℕ) → ¬ (in_row r ≡ in_common)
row_common r e = let z : ◌≡◌ {A = ℕ} 0 1 = cc in omega arith

pub row_station : (r s : ℕ) → ¬ (in_row r ≡ in_station s)
row_station r s e = let z : ◌≡◌ {A = ℕ} 0 1 = cc in omega arith

pub station_station : (s t : ℕ) → ¬ (s ≡ t) → ¬ (in_station s ≡ in_station t)
station_station s t n e = n (cc)

pub row_row : (q r : ℕ) → ¬ (q ≡ r) → ¬ (in_row q ≡ in_row r)
row_row q r n e = n (cc)

-- where nothing is written
pub only_none : (w : List ℕ) (x : Region) → OnlyIn w w x
only_none w x = only_refl w (start_of x) (size_of x)

pub agree_none : (w : List ℕ) (x : Region) → AgreeIn w w x
agree_none w x = agree_refl w (start_of x) (size_of x)

-- what is written in one region is not seen in another
pub elsewhere : {v w : List ℕ} (x y : Region) → OnlyIn v w x → ¬ (y ≡ x) → AgreeIn v w y
elsewhere x y g n = only_apart g (start_of y) (size_of y) (regions_apart y x n)
