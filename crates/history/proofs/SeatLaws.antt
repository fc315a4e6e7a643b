-- A call that writes the seat of one station, and neither counts nor rows, keeps the relation with a table that differs in that station
-- alone (`related_seat`). The removals awaited become no more.
use Prim.Native.Nat.{ℕ, ◌*◌, ◌≤◌, ◌<◌}
use mathlib.Core.Path.{◌≡◌, refl, ap}
use mathlib.Core.Logic.{◌≢◌, ◌⊎◌, inl, inr}
use mathlib.Core.Bool.{Bool, true, false}
use mathlib.Core.List.{List}
use native.Mathlib.Omega.{arith}
use lib.Dec.{eqb}
use borrow.Author.Tests.{eqb-true, eqb-false}
use Rattle.words.specs.Layout.{stations}
use Rattle.stations.specs.Counter.{counter_at}
use Rattle.stations.specs.Counts.{counts_at}
use Rattle.stations.specs.Track.{track_at}
use Rattle.stations.specs.Common.{least_since}
use Rattle.table.specs.Table.{Station, Table, with_stations}
use Rattle.history.specs.View.{Seat, seat_at, seat_put, marks_in, SameRows, Written}
use Rattle.history.specs.Related.{Says, Marking, Related}
use Rattle.stations.proofs.TakenLaws.{least_removals, least_since_lem, least_greatest}
use Rattle.history.proofs.SaysLaws.{says_kept, written_removals, related_written}

-- the station that is put, and another
pub seat_cases : (seats : ℕ → Seat) (s : ℕ) (x : Seat) (u : ℕ) → ((u ≡ s) × (seat_put seats s x u ≡ x)) ⊎ ((u ≢ s) × (seat_put seats s x u ≡ seats u))
unfolding seat_put
seat_cases seats s x u = go (eqb u s) refl
  where
    go : (b : Bool) → eqb u s ≡ b → ((u ≡ s) × (seat_put seats s x u ≡ x)) ⊎ ((u ≢ s) × (seat_put seats s x u ≡ seats u))
    go true e = inl (eqb-true u s e, rw (e, seat_put))
    go false e = inr (eqb-false u s e, rw (e, seat_put))

-- ---- the removals that are awaited

module _ {words words' : List ℕ} {seats : ℕ → Seat} (w : Written words words' (counts_at words) (counter_at words) seats) where
  -- where each seat has a since word no less than the least one, that is no less
  pub least_written : ((u : ℕ) → u < stations → least_since words ≤ (seats u).track.since) → least_since words ≤ least_since words'
  unfolding seat_at
  least_written f = least_greatest words' (least_since words) (omega (arith, least_removals words, written_removals w))
      (λ u l. let e : (track_at words' u).since ≡ (seats u).track.since = ap (λ (z : Seat). z.track.since) (w.seated u l) in omega (arith, f u l))

module _ (words words' : List ℕ) (t : Table) (f : ℕ → Station) (s : ℕ) (x : Seat) (r : Related words t)
    (w : Written words words' (counts_at words) (counter_at words) (seat_put (λ u. seat_at words u) s x)) (same : SameRows words words' (2 * t.places))
    (later : least_since words ≤ x.track.since) (others : (u : ℕ) → u ≢ s → f u ≡ t.stations u) (says : Says t r.tree r.queue x (f s))
    (marking : Marking (marks_in words) r.tree x.track.cursor (f s)) where
  pub put_since : (u : ℕ) → u < stations → least_since words ≤ (seat_put (λ v. seat_at words v) s x u).track.since
  unfolding seat_at
  put_since u l = elim (seat_cases (λ v. seat_at words v) s x u) [ inl c ↦ rw c.1 later | inr c ↦ rw c.1 (least_since_lem words u l) ]

  pub put_says : (u : ℕ) → u < stations → Says (with_stations t f) r.tree r.queue (seat_put (λ v. seat_at words v) s x u) (f u)
  put_says u l = elim (seat_cases (λ v. seat_at words v) s x u) [
    | inl c ↦ rw (c.1, c.0) (says_kept t (with_stations t f) refl refl refl r.tree r.queue x (f s) says)
    | inr c ↦ rw (c.1, others u c.0) (says_kept t (with_stations t f) refl refl refl r.tree r.queue (seat_at words u) (t.stations u) (r.seats u l))
  ]

  pub put_marking : (u : ℕ) → u < stations → Marking (marks_in words) r.tree (seat_put (λ v. seat_at words v) s x u).track.cursor (f u)
  put_marking u l = elim (seat_cases (λ v. seat_at words v) s x u) [
    | inl c ↦ rw (c.1, c.0) marking
    | inr c ↦ rw (c.1, others u c.0) (r.marking u l)
  ]

  unfoldable pub related_seat : Related words' (with_stations t f)
  related_seat =
      related_written r w same (record { places = refl; limit = refl; scale = refl; held = refl; counters = refl; removals = refl }) (least_written w put_since) put_says put_marking
