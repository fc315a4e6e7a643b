-- Nobody is left standing on a row that an unlink frees, and a station that stands at neither row and does not begin to miss rows is left as it is.
-- Assumes nothing.
use Prim.Native.Nat.{ℕ}
use mathlib.Core.Path.{◌≡◌, refl, ap, ◌∙◌}
use mathlib.Core.Bool.{Bool, true, false, not, ◌&&◌, ◌||◌, true≢false, false≢true}
use mathlib.Core.List.{List}
use lib.Dec.{eqb}
use Rattle.points.specs.declared.point.Point.{Point}
use Rattle.points.specs.Word.{NONE}
use borrow.Author.Tests.{not-true, eq-eqb}
use Rattle.points.proofs.Tests.{and_l, and_r}
use Rattle.stations.specs.declared.track.Track.{Track}
use Rattle.stations.specs.Target.{target_at}
use Rattle.stations.specs.Track.{track_at, put_track}
use Rattle.stations.proofs.TrackLaws.{track_same}
use Rattle.calls.specs.declared.unlink.Around.{Around}
use Rattle.calls.specs.Unlink.{cursor_after, phase_after, missed_after, track_after, station_moved, stays}

or_true : (b : Bool) → (b || true) ≡ true
or_true true = refl
or_true false = refl

or_off : (b c : Bool) → (b || c) ≡ false → b ≡ false
or_off false c e = refl
or_off true c e = absurd (true≢false e)

-- no since, or a row that is missed already
misses : (b c : Bool) → (b || not c) ≡ true → (not b && c) ≡ false
misses true c e = refl
misses false true e = absurd (false≢true e)
misses false false e = refl

module _ (a : Around) where
  -- a cursor on the leaf moves to the other child
  pub cursor_on_leaf : (cursor : ℕ) → cursor ≡ a.at → cursor_after a cursor ≡ a.side
  unfolding cursor_after
  cursor_on_leaf cursor e = rw (eq-eqb cursor a.at e)

  -- a cursor on the cut moves to the other child too
  pub cursor_on_cut : (cursor : ℕ) → cursor ≡ a.over → cursor_after a cursor ≡ a.side
  unfolding cursor_after
  cursor_on_cut cursor e = rw (eq-eqb cursor a.over e, or_true (eqb cursor a.at))

  -- a track that stays is as it was
  pub track_stays : (target : Point) (track : Track) → stays a track ≡ true → track_after a target track ≡ track
  unfolding stays track_after cursor_after phase_after missed_after
  track_stays target track e =
      let c : ℕ = track.cursor in
      let off : (eqb c a.at || eqb c a.over) ≡ false = not-true _ (and_l (not (eqb c a.at || eqb c a.over)) _ e) in
      let leaf : eqb c a.at ≡ false = or_off (eqb c a.at) (eqb c a.over) off in
      let old = misses (eqb track.since NONE) (eqb track.missed NONE) (and_r (not (eqb c a.at || eqb c a.over)) _ e) in
      rw (off, leaf, old) refl

-- so the words of a station whose track stays do
pub station_stays : (words : List ℕ) (s : ℕ) (a : Around) → stays a (track_at words s) ≡ true → station_moved words s a ≡ words
unfolding station_moved
station_stays words s a e = ap (put_track words s) (track_stays a (target_at words s) (track_at words s) e) ∙ track_same words s
