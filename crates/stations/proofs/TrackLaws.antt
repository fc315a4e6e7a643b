-- The track of a station's call: what is written is read back (`track_back`), the tracks of other stations stay (`track_other`), and tracks are a matter of
-- the common record alone (`track_agree`).
-- Assumes nothing.
use mathlib.Core.Path.{◌≡◌, refl, ◌∙◌}
use mathlib.Core.Bool.{Bool, true, false, cond}
use mathlib.Core.List.{List}
use Prim.Native.Nat.{ℕ}
use native.Mathlib.Omega.{arith}
use lib.ListN.{length}
use Rattle.words.specs.Layout.{common_size, at_cursor, at_phase, at_since, at_missed}
use Rattle.words.specs.Words.{get, put}
use Rattle.words.specs.Agree.{Agree, Only, in_common, start_of, size_of, AgreeIn, OnlyIn}
use Rattle.words.proofs.WordLaws.{length_put, get_put_same, get_put_other, put_get}
use Rattle.words.proofs.AgreeLaws.{agree_within, only_trans, only_within, put_only, put_agree, cond_only}
use Rattle.stations.specs.declared.track.Track.{Track}
use Rattle.stations.specs.Station.{has_station}
use Rattle.stations.specs.Track.{nowhere, track_at, put_track}
use Rattle.stations.proofs.StationLaws.{There, there_tells, there_length, there_agree, read_same}

-- ---- what is read

-- slices with the same four words of a station have the same track
track_four : (v w : List ℕ) (s : ℕ) → length v ≡ length w
    → (There v s → get v (at_cursor s) ≡ get w (at_cursor s))
    → (There v s → get v (at_phase s) ≡ get w (at_phase s))
    → (There v s → get v (at_since s) ≡ get w (at_since s))
    → (There v s → get v (at_missed s) ≡ get w (at_missed s))
    → track_at v s ≡ track_at w s
unfolding track_at
track_four v w s e a b c d = read_same nowhere v w s e (λ t i. record { cursor = a t i; phase = b t i; since = c t i; missed = d t i })

-- so slices that agree on the words of the eight tracks have
pub track_words : {v w : List ℕ} (s : ℕ) → Agree v w (at_cursor 0) 32 → track_at v s ≡ track_at w s
unfolding at_cursor at_phase at_since at_missed
track_words {v} {w} s g =
    track_four v w s g.lengths (λ t. g.words (at_cursor s) (omega arith) (omega (arith, t.station))) (λ t. g.words (at_phase s) (omega arith) (omega (arith, t.station)))
    (λ t. g.words (at_since s) (omega arith) (omega (arith, t.station))) (λ t. g.words (at_missed s) (omega arith) (omega (arith, t.station)))

-- and slices that agree in the common record
pub track_agree : {v w : List ℕ} → AgreeIn v w in_common → (s : ℕ) → track_at v s ≡ track_at w s
unfolding start_of size_of at_cursor
track_agree g s = track_words s (agree_within g (at_cursor 0) 32 (omega arith) (omega arith))

-- the track of a station that is not there
pub track_absent : (w : List ℕ) (s : ℕ) → has_station w s ≡ false → track_at w s ≡ nowhere
unfolding track_at
track_absent w s absent = rw absent

-- ---- the track written
module _ (w : List ℕ) (s : ℕ) (track : Track) where
  abbrev one : List ℕ
  one = put w (at_cursor s) track.cursor

  abbrev two : List ℕ
  two = put one (at_phase s) track.phase

  abbrev three : List ℕ
  three = put two (at_since s) track.since

  abbrev four : List ℕ
  four = put three (at_missed s) track.missed

  length_two : length two ≡ length w
  length_two = length_put one (at_phase s) track.phase ∙ length_put w (at_cursor s) track.cursor

  length_four : length four ≡ length w
  length_four = length_put three (at_missed s) track.missed ∙ length_put two (at_since s) track.since ∙ length_two

  -- words of the tracks are
  pub put_track_words : Only (put_track w s track) w (at_cursor 0) 32
  unfolding put_track at_cursor at_phase at_since at_missed
  put_track_words = cond_only (has_station w s) (λ e. go (there_tells w s e))
    where
      go : There w s → Only four w (at_cursor 0) 32
      go t =
          only_trans (only_within (put_only three (at_missed s) track.missed) (at_cursor 0) 32 (omega arith) (omega (arith, t.station)))
          (only_trans (only_within (put_only two (at_since s) track.since) (at_cursor 0) 32 (omega arith) (omega (arith, t.station)))
          (only_trans (only_within (put_only one (at_phase s) track.phase) (at_cursor 0) 32 (omega arith) (omega (arith, t.station)))
          (only_within (put_only w (at_cursor s) track.cursor) (at_cursor 0) 32 (omega arith) (omega (arith, t.station)))))

  pub put_track_only : OnlyIn (put_track w s track) w in_common
  unfolding start_of size_of at_cursor
  put_track_only = only_within put_track_words 0 common_size (omega arith) (omega arith)

  pub length_put_track : length (put_track w s track) ≡ length w
  length_put_track = put_track_words.lengths

  -- and read back
  pub track_back : has_station w s ≡ true → track_at (put_track w s track) s ≡ track
  unfolding track_at put_track at_cursor at_phase at_since at_missed
  track_back here =
      let t = there_tells w s here in
      rw (here, there_length four w s length_four ∙ here)
      (λ i. record { cursor = cursor t i; phase = phase t i; since = since t i; missed = get_put_same three (at_missed s) track.missed (omega (arith, t.station, t.long, length_put two (at_since s) track.since, length_two)) i })
    where
      cursor : There w s → get four (at_cursor s) ≡ track.cursor
      cursor t =
          get_put_other three (at_missed s) (at_cursor s) track.missed (λ e. omega arith)
          ∙ get_put_other two (at_since s) (at_cursor s) track.since (λ e. omega arith)
          ∙ get_put_other one (at_phase s) (at_cursor s) track.phase (λ e. omega arith)
          ∙ get_put_same w (at_cursor s) track.cursor (omega (arith, t.station, t.long))

      phase : There w s → get four (at_phase s) ≡ track.phase
      phase t =
          get_put_other three (at_missed s) (at_phase s) track.missed (λ e. omega arith)
          ∙ get_put_other two (at_since s) (at_phase s) track.since (λ e. omega arith)
          ∙ get_put_same one (at_phase s) track.phase (omega (arith, t.station, t.long, length_put w (at_cursor s) track.cursor))

      since : There w s → get four (at_since s) ≡ track.since
      since t =
          get_put_other three (at_missed s) (at_since s) track.missed (λ e. omega arith)
          ∙ get_put_same two (at_since s) track.since (omega (arith, t.station, t.long, length_two))

  -- while the tracks of other stations stay
  pub track_other : (u : ℕ) → ¬ (u ≡ s) → track_at (put_track w s track) u ≡ track_at w u
  unfolding put_track at_cursor at_phase at_since at_missed
  track_other u d = go (has_station w s) refl
    where
      others : There w s → (k : ℕ) → ¬ (k ≡ at_cursor s) → ¬ (k ≡ at_phase s) → ¬ (k ≡ at_since s) → ¬ (k ≡ at_missed s) → get four k ≡ get w k
      others t k a b c e =
          get_put_other three (at_missed s) k track.missed e ∙ get_put_other two (at_since s) k track.since c
          ∙ get_put_other one (at_phase s) k track.phase b ∙ get_put_other w (at_cursor s) k track.cursor a

      same : There w s → track_at four u ≡ track_at w u
      same t =
          track_four four w u length_four
          (λ y. others t (at_cursor u) (λ e. d (omega arith)) (λ e. omega (arith, t.station, y.station)) (λ e. omega (arith, t.station, y.station)) (λ e. omega (arith, t.station, y.station)))
          (λ y. others t (at_phase u) (λ e. omega (arith, t.station, y.station)) (λ e. d (omega arith)) (λ e. omega (arith, t.station, y.station)) (λ e. omega (arith, t.station, y.station)))
          (λ y. others t (at_since u) (λ e. omega (arith, t.station, y.station)) (λ e. omega (arith, t.station, y.station)) (λ e. d (omega arith)) (λ e. omega (arith, t.station, y.station)))
          (λ y. others t (at_missed u) (λ e. omega (arith, t.station, y.station)) (λ e. omega (arith, t.station, y.station)) (λ e. omega (arith, t.station, y.station)) (λ e. d (omega arith)))

      go : (b : Bool) → has_station w s ≡ b → track_at (cond b four w) u ≡ track_at w u
      go true e = same (there_tells w s e)
      go false e = refl

  -- of a station that is not there nothing is written
  pub put_track_absent : has_station w s ≡ false → put_track w s track ≡ w
  unfolding put_track
  put_track_absent absent = rw absent

pub put_track_agree : {v w : List ℕ} {a n : ℕ} → Agree v w a n → (s : ℕ) (track : Track) → Agree (put_track v s track) (put_track w s track) a n
unfolding put_track
put_track_agree g s track = there_agree s g (λ t. put_agree (put_agree (put_agree (put_agree g (at_cursor s) track.cursor) (at_phase s) track.phase) (at_since s) track.since) (at_missed s) track.missed)

-- a track that is written as it was changes nothing
pub track_same : (w : List ℕ) (s : ℕ) → put_track w s (track_at w s) ≡ w
unfolding put_track track_at
track_same w s = go (has_station w s) refl
  where
    go : (b : Bool) → has_station w s ≡ b → put_track w s (track_at w s) ≡ w
    go true e = rw e (rw (put_get w (at_cursor s), put_get w (at_phase s), put_get w (at_since s), put_get w (at_missed s)))
    go false e = rw e
