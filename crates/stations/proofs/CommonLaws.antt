-- The check of the common record: it passes exactly where every field is in range (`common_tells`, `common_of`), and it is a matter
-- of the record's words alone (`common_sound_agree`).
-- Assumes nothing.
use mathlib.Core.Path.{◌≡◌, refl, ap}
use mathlib.Core.Bool.{Bool, true, false, cond, ◌&&◌, false≢true}
use mathlib.Core.Logic.{◌⊎◌, inl, inr}
use mathlib.Core.List.{List}
use Prim.Native.Nat.{ℕ, ◌*◌, ◌≤◌, ◌<◌}
use native.Mathlib.Omega.{arith}
use borrow.Author.Tests.{leb-true, ltb-true, eqb-true, le-leb, lt-leb, lt-ltb, eq-eqb}
use lib.Dec.{eqb, leb, ltb}
use lib.ListN.{length}
use Rattle.points.specs.Word.{NONE}
use Rattle.points.proofs.Tests.{and_l, and_r, and_i}
use Rattle.words.specs.Layout.{stations, records}
use Rattle.words.specs.Agree.{in_common, AgreeIn}
use Rattle.words.specs.Range.{link_in}
use Rattle.words.proofs.RangeLaws.{or_true, or_right}
use Rattle.stations.specs.declared.track.Track.{Track}
use Rattle.stations.specs.Counts.{counts_at}
use Rattle.stations.specs.Counter.{counter_at, greatest_counter}
use Rattle.stations.specs.Track.{track_at}
use Rattle.stations.specs.Common.{places_at, limit_at, counts_in, counters_in, since_in, track_in, eight, tracks_in, common_sound}
use Rattle.stations.proofs.Eight.{eight_tells, eight_of, eight_same}
use Rattle.stations.proofs.OpeningLaws.{places_agree, limit_agree}
use Rattle.stations.proofs.CountLaws.{counts_agree}
use Rattle.stations.proofs.TrackLaws.{track_agree}
use Rattle.stations.proofs.CounterLaws.{greatest_most, greatest_least, greatest_agree}

-- ---- what the checks say

-- a since word is none or at most the removals
pub since_tells : (removals x : ℕ) → since_in removals x ≡ true → (x ≡ NONE) ⊎ (x ≤ removals)
unfolding since_in
since_tells removals x e = go (or_true (eqb x NONE) (leb x removals) e)
  where
    go : (eqb x NONE ≡ true) ⊎ (leb x removals ≡ true) → (x ≡ NONE) ⊎ (x ≤ removals)
    go (inl f) = inl (eqb-true x NONE f)
    go (inr f) = inr (leb-true x removals f)

pub since_none : (removals x : ℕ) → x ≡ NONE → since_in removals x ≡ true
unfolding since_in
since_none removals x e = rw (eq-eqb x NONE e)

pub since_some : (removals x : ℕ) → x ≤ removals → since_in removals x ≡ true
unfolding since_in
since_some removals x h = or_right (eqb x NONE) (le-leb x removals h)

-- what counts, root, head and tail in range are
pub record SoundCounts (w : List ℕ) (rows : ℕ) : Type 0 where
  pub changes : (counts_at w).changes ≤ stations * limit_at w
  pub held : (counts_at w).held ≤ places_at w
  pub removals : (counts_at w).removals ≤ (counts_at w).changes
  pub root : link_in rows (counts_at w).root ≡ true
  pub head : (counts_at w).head < rows
  pub tail : (counts_at w).tail < rows

-- what a track in range is
pub record SoundTrack (rows removals : ℕ) (track : Track) : Type 0 where
  pub cursor : link_in rows track.cursor ≡ true
  pub phase : track.phase ≤ 1
  pub since : since_in removals track.since ≡ true
  pub missed : link_in rows track.missed ≡ true

-- what a common record in range has
pub record SoundCommon (w : List ℕ) (rows : ℕ) : Type 0 where
  pub there : records ≤ length w
  pub counts : SoundCounts w rows
  pub counters : (s : ℕ) → s < stations → counter_at w s ≤ limit_at w
  pub tracks : (s : ℕ) → s < stations → SoundTrack rows (counts_at w).removals (track_at w s)

counts_tells : (w : List ℕ) (rows : ℕ) → counts_in w rows ≡ true → SoundCounts w rows
unfolding counts_in
counts_tells w rows e =
    let a = leb (counts_at w).changes (stations * limit_at w) in
    let b = leb (counts_at w).held (places_at w) in
    let c = leb (counts_at w).removals (counts_at w).changes in
    let d = link_in rows (counts_at w).root in
    let h = ltb (counts_at w).head rows in
    let five = and_l ((((a && b) && c) && d) && h) (ltb (counts_at w).tail rows) e in
    let four = and_l (((a && b) && c) && d) h five in
    let three = and_l ((a && b) && c) d four in
    let two = and_l (a && b) c three in
    record {
      changes = leb-true _ _ (and_l a b two);
      held = leb-true _ _ (and_r a b two);
      removals = leb-true _ _ (and_r (a && b) c three);
      root = and_r ((a && b) && c) d four;
      head = ltb-true _ _ (and_r (((a && b) && c) && d) h five);
      tail = ltb-true _ _ (and_r ((((a && b) && c) && d) && h) (ltb (counts_at w).tail rows) e);
    }

counts_of : (w : List ℕ) (rows : ℕ) → SoundCounts w rows → counts_in w rows ≡ true
unfolding counts_in
counts_of w rows c =
    and_i (and_i (and_i (and_i (and_i (le-leb _ _ c.changes) (le-leb _ _ c.held)) (le-leb _ _ c.removals)) c.root) (lt-ltb _ _ c.head))
    (lt-ltb _ _ c.tail)

counters_tells : (w : List ℕ) → counters_in w ≡ true → (s : ℕ) → s < stations → counter_at w s ≤ limit_at w
unfolding counters_in
counters_tells w e s l = omega (arith, greatest_most w stations s l, leb-true (greatest_counter w stations) (limit_at w) e)

counters_of : (w : List ℕ) → ((s : ℕ) → s < stations → counter_at w s ≤ limit_at w) → counters_in w ≡ true
unfolding counters_in
counters_of w f = le-leb _ _ (greatest_least w stations (limit_at w) f)

module _ (rows removals : ℕ) (track : Track) where
  track_tells : track_in rows removals track ≡ true → SoundTrack rows removals track
  unfolding track_in
  track_tells e =
      let a = link_in rows track.cursor in
      let b = leb track.phase 1 in
      let c = since_in removals track.since in
      let d = link_in rows track.missed in
      let two = and_l ((a && b) && c) d e in
      let one = and_l (a && b) c two in
      record { cursor = and_l a b one; phase = leb-true track.phase 1 (and_r a b one); since = and_r (a && b) c two; missed = and_r ((a && b) && c) d e }

  track_of : SoundTrack rows removals track → track_in rows removals track ≡ true
  unfolding track_in
  track_of t = and_i (and_i (and_i t.cursor (le-leb track.phase 1 t.phase)) t.since) t.missed

-- ---- the check passes exactly on such a record
module _ (w : List ℕ) (rows : ℕ) where
  -- the test of a station's track
  abbrev track : ℕ → Bool
  track s = track_in rows (counts_at w).removals (track_at w s)

  pub common_tells : common_sound w rows ≡ true → SoundCommon w rows
  unfolding common_sound tracks_in
  common_tells e = go (leb records (length w)) refl e
    where
      go : (b : Bool) → leb records (length w) ≡ b → cond b ((counts_in w rows && counters_in w) && eight track) false ≡ true → SoundCommon w rows
      go true f h =
          let two = and_l (counts_in w rows && counters_in w) (eight track) h in
          record {
            there = leb-true records (length w) f;
            counts = counts_tells w rows (and_l (counts_in w rows) (counters_in w) two);
            counters = counters_tells w (and_r (counts_in w rows) (counters_in w) two);
            tracks = λ s l. track_tells rows (counts_at w).removals (track_at w s) (eight_tells track (and_r (counts_in w rows && counters_in w) (eight track) h) s l);
          }
      go false f h = absurd (false≢true h)

  pub common_of : SoundCommon w rows → common_sound w rows ≡ true
  unfolding common_sound tracks_in
  common_of c =
      rw (le-leb records (length w) c.there)
      (and_i (and_i (counts_of w rows c.counts) (counters_of w c.counters))
      (eight_of track (λ s l. track_of rows (counts_at w).removals (track_at w s) (c.tracks s l))))

  -- it does not where the slice is too short
  pub common_short : length w < records → common_sound w rows ≡ false
  unfolding common_sound
  common_short h = rw (lt-leb records (length w) h)

-- ---- slices that agree on the common record get the same check
pub common_sound_agree : {v w : List ℕ} → AgreeIn v w in_common → (rows : ℕ) → common_sound v rows ≡ common_sound w rows
unfolding common_sound counts_in counters_in tracks_in
common_sound_agree {v} {w} g rows =
    rw (g.lengths, counts_agree g, places_agree g, limit_agree g, greatest_agree g stations)
    (ap (λ b. cond (leb records (length w)) ((counts && counters_in w) && b) false)
    (eight_same (λ s. track_in rows (counts_at w).removals (track_at v s)) (track w rows) (λ s l. ap (track_in rows (counts_at w).removals) (track_agree g s))))
  where
    counts : Bool
    counts = counts_in w rows
