-- Places taken: the least of the removals and the since words is a lower bound of each and the greatest such, and the number of
-- places taken is a matter of these words and the records held (`taken_words`).
-- Assumes nothing.
use mathlib.Core.Path.{◌≡◌, refl}
use mathlib.Core.List.{List}
use Prim.Native.Nat.{ℕ, zero, suc, ◌+◌, ◌-◌, ◌≤◌, ◌<◌, min}
use native.Mathlib.Omega.{arith}
use Rattle.words.specs.Layout.{stations}
use Rattle.words.specs.Agree.{in_common, AgreeIn}
use Rattle.stations.specs.Counts.{counts_at}
use Rattle.stations.specs.Track.{track_at}
use Rattle.stations.specs.Common.{least_four, least_since, awaiting_in, taken_in}
use Rattle.stations.proofs.Eight.{below_eight}
use Rattle.stations.proofs.CountLaws.{counts_agree}
use Rattle.stations.proofs.TrackLaws.{track_agree}

-- the least of a number and the since words of four stations
record Four (w : List ℕ) (s n m : ℕ) : Type 0 where
  number : m ≤ n
  one : m ≤ (track_at w s).since
  two : m ≤ (track_at w (s + 1)).since
  three : m ≤ (track_at w (s + 2)).since
  four : m ≤ (track_at w (s + 3)).since

four_least : (w : List ℕ) (s n : ℕ) → Four w s n (least_four w s n)
unfolding least_four
four_least w s n = record { number = omega arith; one = omega arith; two = omega arith; three = omega arith; four = omega arith }

four_greatest : (w : List ℕ) (s n m : ℕ) → Four w s n m → m ≤ least_four w s n
unfolding least_four
four_greatest w s n m f = omega (arith, f.number, f.one, f.two, f.three, f.four)

module _ (w : List ℕ) where
  first : Four w 0 (counts_at w).removals (least_four w 0 (counts_at w).removals)
  first = four_least w 0 (counts_at w).removals

  second : Four w 4 (least_four w 0 (counts_at w).removals) (least_since w)
  unfolding least_since
  second = four_least w 4 (least_four w 0 (counts_at w).removals)

  -- at most the removals
  pub least_removals : least_since w ≤ (counts_at w).removals
  least_removals = omega (arith, first.number, second.number)

  -- at most the since word of each station
  pub least_since_lem : (s : ℕ) → s < stations → least_since w ≤ (track_at w s).since
  least_since_lem =
      let f = first in
      let g = second in
      below_eight (λ s. least_since w ≤ (track_at w s).since) (omega (arith, f.one, g.number)) (omega (arith, f.two, g.number))
      (omega (arith, f.three, g.number)) (omega (arith, f.four, g.number)) g.one g.two g.three g.four

  -- and no number above it is
  pub least_greatest : (m : ℕ) → m ≤ (counts_at w).removals → ((s : ℕ) → s < stations → m ≤ (track_at w s).since) → m ≤ least_since w
  unfolding least_since
  least_greatest m h f =
      let below : m ≤ least_four w 0 (counts_at w).removals = four_greatest w 0 (counts_at w).removals m
      (record { number = h; one = f 0 (omega arith); two = f 1 (omega arith); three = f 2 (omega arith); four = f 3 (omega arith) })
      in
      four_greatest w 4 (least_four w 0 (counts_at w).removals) m
      (record { number = below; one = f 4 (omega arith); two = f 5 (omega arith); three = f 6 (omega arith); four = f 7 (omega arith) })

  -- what is awaiting, and what is taken
  pub awaiting_is : awaiting_in w ≡ (counts_at w).removals - least_since w
  unfolding awaiting_in
  awaiting_is = refl

  pub taken_is : taken_in w ≡ (counts_at w).held + awaiting_in w
  unfolding taken_in
  taken_is = refl

-- the least so far: of the removals and the since words of the first n stations
abbrev pub least_below : List ℕ → ℕ → ℕ
least_below w zero = (counts_at w).removals
least_below w (suc n) = min (least_below w n) (track_at w n).since

-- slices with the same removals and since words have the same awaiting
pub awaiting_words : (v w : List ℕ) → (counts_at v).removals ≡ (counts_at w).removals → ((s : ℕ) → s < stations → (track_at v s).since ≡ (track_at w s).since) → awaiting_in v ≡ awaiting_in w
unfolding awaiting_in least_since least_four
awaiting_words v w e f =
    rw (e, f 0 (omega arith), f 1 (omega arith), f 2 (omega arith), f 3 (omega arith), f 4 (omega arith), f 5 (omega arith), f 6 (omega arith), f 7 (omega arith))

-- and, with the same records held, the same places taken
pub taken_words : (v w : List ℕ) → (counts_at v).held ≡ (counts_at w).held → (counts_at v).removals ≡ (counts_at w).removals → ((s : ℕ) → s < stations → (track_at v s).since ≡ (track_at w s).since)
    → taken_in v ≡ taken_in w
unfolding taken_in
taken_words v w h e f = rw (h, awaiting_words v w e f)

pub taken_in_agree : {v w : List ℕ} → AgreeIn v w in_common → taken_in v ≡ taken_in w
taken_in_agree {v} {w} g =
    let c = counts_agree g in
    taken_words v w (λ i. (c i).held) (λ i. (c i).removals) (λ s l i. (track_agree g s i).since)
