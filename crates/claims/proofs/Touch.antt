-- Demand 3, what an event may touch: `submission_touches`, `taking_touches`, `withdrawal_touches` and `step_touches`, for every content of the words and no history.
-- Demand 3: "Two slices alike in length, common record and the station's own get the same result and the same words there from a submission or taking, and no other
-- word changes; a step may need and change at most six rows besides."
-- The common record has 96 words, each station's 64; then come 2 × places rows of sixteen words each (Rules 6.4).
use Prim.Native.Nat.{ℕ, ◌+◌, ◌*◌, ◌≤◌, ◌<◌}
use mathlib.Core.Path.{◌≡◌}
use mathlib.Core.Logic.{◌⊎◌, inl, inr}
use mathlib.Core.List.{List, [], Memᴰ}
use native.Mathlib.Omega.{arith}
use native.Mathlib.Decide.{dec_lt}
use borrow.Author.Tests.{lt-ltb, le-ltb}
use lib.ListN.{length}
use Rattle.claims.specs.Definitions.{Point, get, in_station, rows_in, submit_of, step_of, take_of, take_words, withdraw_of}
use Rattle.words.specs.Layout.{at_station, at_row}
use Rattle.words.specs.Agree.{start_of, size_of}
use Rattle.history.specs.Touch.{AgreeOn, KeepsOthers, Leaves}
use Rattle.history.proofs.TouchSubmit.{submit_touch}
use Rattle.history.proofs.TouchTake.{take_touch}
use Rattle.history.proofs.Touch.{withdraw_touch, touch}

-- the word k is of the common record, of the record of station s, one of the eight, or of one of these rows
abbrev pub Among : ℕ → List ℕ → ℕ → Type 0
Among s rows k =
    (k < 96)
    ⊎ (((s < 8) × (96 + 64 * s ≤ k) × (k < 96 + 64 * s + 64)) ⊎ ((r : ℕ) × Memᴰ r rows × (608 + 16 * r ≤ k) × (k < 608 + 16 * r + 16)))

-- two slices of one length that agree there; `get` reads a word, and 0 where there is none
pub record Alike (v w : List ℕ) (s : ℕ) (rows : List ℕ) : Type 0 where
  pub lengths : length v ≡ length w
  pub words : (k : ℕ) → Among s rows k → get v k ≡ get w k

-- from v and w an event left v' and w': these are alike again, and each kept every other word and its length
pub record Touches (v w v' w' : List ℕ) (s : ℕ) (rows : List ℕ) : Type 0 where
  pub alike : Alike v' w' s rows
  pub first_length : length v' ≡ length v
  pub first_keeps : (k : ℕ) → ¬ Among s rows k → get v' k ≡ get v k
  pub second_length : length w' ≡ length w
  pub second_keeps : (k : ℕ) → ¬ Among s rows k → get w' k ≡ get w k

-- ---- the same by regions: sizes and offsets are computed here, so that the claims can speak in plain numbers

station_size : (s : ℕ) → s < 8 → size_of (in_station s) ≡ 64
unfolding start_of size_of at_station at_row
station_size s l = rw (lt-ltb s 8 l)

no_station_size : (s : ℕ) → 8 ≤ s → size_of (in_station s) ≡ 0
unfolding start_of size_of at_station at_row
no_station_size s l = rw (le-ltb s 8 l)

-- a word of a station's region is among these
station_among : (s : ℕ) (rows : List ℕ) (k : ℕ) → start_of (in_station s) ≤ k → k < start_of (in_station s) + size_of (in_station s) → Among s rows k
unfolding start_of size_of at_station at_row
station_among s rows k l m = go (dec_lt s 8)
  where
    go : Dec (s < 8) → Among s rows k
    go (yes h) = inr (inl (h, l, omega (arith, station_size s h)))
    go (no h) = absurd (omega (arith, no_station_size s (omega arith)))

agree_on : {v w : List ℕ} {s : ℕ} {rows : List ℕ} → Alike v w s rows → AgreeOn v w s rows
unfolding start_of size_of at_station at_row
agree_on {v} {w} {s} {rows} a = record {
  common = record { lengths = a.lengths; words = λ k l m. a.words k (inl (omega arith)) };
  station = record { lengths = a.lengths; words = λ k l m. a.words k (station_among s rows k l m) };
  row = λ r h. record { lengths = a.lengths; words = λ k l m. a.words k (inr (inr (r, h, l, m))) };
}

alike : {v w : List ℕ} {s : ℕ} {rows : List ℕ} → AgreeOn v w s rows → Alike v w s rows
unfolding start_of size_of at_station at_row
alike {v} {w} {s} {rows} a = record { lengths = a.common.lengths; words = go }
  where
    go : (k : ℕ) → Among s rows k → get v k ≡ get w k
    go k (inl l) = a.common.words k (omega arith) (omega arith)
    go k (inr (inl x)) = a.station.words k x.1 (omega (arith, x.2, station_size s x.0))
    go k (inr (inr x)) = (a.row x.0 x.1).words k x.2 x.3

keeps : {v v' : List ℕ} {s : ℕ} {rows : List ℕ} → KeepsOthers v v' s rows → (k : ℕ) → ¬ Among s rows k → get v' k ≡ get v k
unfolding start_of size_of at_station at_row
keeps {s = s} {rows} x k n =
    x.others k (λ l m. n (inl (omega arith))) (λ l m. n (station_among s rows k l m)) (λ r h l m. n (inr (inr (r, h, l, m))))

touches : {v w v' w' : List ℕ} {s : ℕ} {rows : List ℕ} → Leaves v w v' w' s rows → Touches v w v' w' s rows
touches x = record { alike = alike x.agree; first_length = x.first.lengths; first_keeps = keeps x.first; second_length = x.second.lengths; second_keeps = keeps x.second }

-- ---- the claims

-- Rules 5.1, of a submission: the same result, the slices alike there again, and every other word kept
pub submission_touches : (v w : List ℕ) (s kind : ℕ) (p : Point) (c : ℕ) → Alike v w s []
    → ((submit_of v s kind p c).number ≡ (submit_of w s kind p c).number) × Touches v w (submit_of v s kind p c).words (submit_of w s kind p c).words s []
submission_touches v w s kind p c a = let x = submit_touch v w s kind p c (agree_on a) in (x.0, touches x.1)

-- Rules 5.1, of a taking: its result is its number, or its answer
pub taking_touches : (v w : List ℕ) (s : ℕ) → Alike v w s [] → (take_of v s ≡ take_of w s) × Touches v w (take_words v s) (take_words w s) s []
taking_touches v w s a = let x = take_touch v w s (agree_on a) in (x.0, touches x.1)

-- Rules 5.3: a withdrawal needs and changes no row at all.
pub withdrawal_touches : (v w : List ℕ) (s : ℕ) → Alike v w s []
    → ((withdraw_of v s).number ≡ (withdraw_of w s).number) × Touches v w (withdraw_of v s).words (withdraw_of w s).words s []
withdrawal_touches v w s a = let x = withdraw_touch v w s (agree_on a) in (x.0, touches x.1)

-- Rules 5.2: for each slice and step there are at most six rows, each one of the rows of the index, such that this holds with them added to the two records, "against every
-- slice that agrees with it there".
pub step_touches : (v : List ℕ) (s : ℕ)
    → (rows : List ℕ) × (length rows ≤ 6) × ((r : ℕ) → Memᴰ r rows → r < rows_in v)
    × ((w : List ℕ) → Alike v w s rows → ((step_of v s).number ≡ (step_of w s).number) × Touches v w (step_of v s).words (step_of w s).words s rows)
step_touches v s =
    let x = touch v s in
    (x.0, x.1, x.2, λ w a. let y = x.3 w (agree_on a) in (y.0, touches y.1))
