-- A taking: a related slice refuses or gives what the table does, and stays related (`related_takes`).
use Rattle.std.specs.Prelude.{None, Ok, Err}
use Prim.Native.Nat.{ℕ, ◌<◌}
use mathlib.Core.Path.{◌≡◌, refl, sym, ap, ◌∙◌}
use mathlib.Core.Bool.{Bool, true, false}
use mathlib.Core.List.{List}
use mathlib.Core.Option.{Option, some}
use native.Mathlib.Omega.{arith}
use lib.Dec.{ltb}
use borrow.Author.Tests.{ltb-true, lt-ltb, eq-eqb, ne_eqb}
use Rattle.words.specs.Refusal.{number_of}
use Rattle.words.specs.declared.refusal.Refusal.{Refusal}
use Rattle.words.specs.declared.refusal.Refusal.TheVariants.{NoStation, NothingWaits}
use Rattle.words.specs.Layout.{stations}
use Rattle.stations.specs.Station.{emptied, state_at, put_state}
use Rattle.stations.specs.Answer.{answer_at, waiting_at}
use Rattle.stations.proofs.WaitingLaws.{waiting_given, waiting_nothing}
use Rattle.table.specs.Call.{Answer}
use Rattle.table.specs.Table.{Station, idle, unfinished, waiting, Table, put, with_stations}
use Rattle.table.specs.Event.{refuse, take_at, take}
use Rattle.table.proofs.Sound.{Sound}
use Rattle.table.proofs.Simulation.{Matches}
use Rattle.calls.specs.Take.{take_of, take_words}
use Rattle.history.specs.Index.{word_index}
use Rattle.history.specs.View.{Seat, seat_at, marks_in}
use Rattle.history.specs.Related.{Waits, Related}
use Rattle.history.proofs.Effects.{take_written, take_rows}
use Rattle.history.proofs.RelatedLaws.{related_rule, related_passes, related_idle, related_busy, related_waits}
use Rattle.history.proofs.LeastLaws.{least_up}
use Rattle.history.proofs.SaysLaws.{seat_put_agrees, says_put, marking_put, written_since, written_removals, related_written}

-- ---- what is given

-- a station in another state than 2 has nothing waiting
take_nothing : {words : List ℕ} {t : Table} (s : ℕ) → Related words t → s < stations → (n : ℕ) → ¬ (n ≡ 2) → (state_at words s).word ≡ n → take_of words s ≡ Err NothingWaits
unfolding take_of
take_nothing {words} s r l n d e =
    let f : waiting_at words s ≡ None = waiting_nothing words s (ne_eqb (state_at words s).word 2 (λ g. d (sym e ∙ g))) in
    rw (related_passes r, lt-ltb s stations l, f)

-- an answer that waits is given
take_answer : {words : List ℕ} {t : Table} (s : ℕ) (a : Answer) → Related words t → s < stations → t.stations s ≡ waiting a → take_of words s ≡ Ok (answer_at words s)
unfolding take_of seat_at
take_answer {words} {t} s a r l e =
    let w : Waits t.scale.rule (seat_at words s) a = related_waits r l e in
    let f = waiting_given words s (eq-eqb (state_at words s).word 2 w.state) (rw (related_rule r) w.sound) in
    rw (related_passes r, lt-ltb s stations l, f)

-- ---- what is left

-- the station is idle, and nothing else changes
take_left : {words : List ℕ} {t : Table} (s : ℕ) (a : Answer) (r : Related words t) → s < stations → t.stations s ≡ waiting a
    → Related (put_state words s (emptied (state_at words s))) (with_stations t (put t.stations s idle))
unfolding seat_at
take_left {words} {t} s a r l e =
    let w = take_written words t.places t.limit t.scale r.opened s l in
    let x : Seat = record { track = (seat_at words s).track; target = (seat_at words s).target; state = 0; call = (seat_at words s).call; answer = (seat_at words s).answer } in
    related_written r w (take_rows words t.places t.limit t.scale r.opened s l) (record { places = refl; limit = refl; scale = refl; held = refl; counters = refl; removals = refl })
    (least_up (put_state words s (emptied (state_at words s))) words (omega (arith, written_removals w)) (λ u k.
    omega (arith, written_since w u k, seat_put_agrees (λ (y : Seat). y.track.since) (λ v. seat_at words v) s x refl u)))
    (says_put t (with_stations t (put t.stations s idle)) refl refl refl r.tree r.queue (λ u. seat_at words u) t.stations r.seats s x idle
    (record { state = refl; quiet = (related_waits r l e).quiet }))
    (marking_put (marks_in words) r.tree (λ u. seat_at words u) t.stations r.marking s x idle tt)

-- ---- the taking

module _ {words : List ℕ} {t : Table} (s : ℕ) where
  -- a taking that both refuse alike
  refused_taking : (refusal : Refusal) → take_of words s ≡ Err refusal → take t s ≡ refuse (number_of refusal) t → Related words t → Matches word_index Related (word_index.take words s) (take t s)
  unfolding take_words
  refused_taking refusal e f r = rw (e, f) (record { number = refl; given = refl; next = r })

  -- a taking that gives the waiting answer
  given_taking : (a : Answer) → s < stations → t.stations s ≡ waiting a → Related words t → Matches word_index Related (word_index.take words s) (take t s)
  unfolding take_words take take_at seat_at
  given_taking a l e r =
      rw (take_answer s a r l e, lt-ltb s stations l, e) (record { number = refl; given = ap {B = Option Answer} some (related_waits r l e).answer; next = take_left s a r l e })

-- A taking is refused alike or gives the same answer, and leaves the station idle on both sides.
pub related_takes : {words : List ℕ} {t : Table} (s : ℕ) → Sound t → Related words t → Matches word_index Related (word_index.take words s) (take t s)
unfolding take take_at take_of seat_at
related_takes {words} {t} s h r = go (ltb s stations) refl
  where
    at : s < stations → (x : Station) → t.stations s ≡ x → Matches word_index Related (word_index.take words s) (take t s)
    at l idle e = refused_taking s NothingWaits (take_nothing s r l 0 (omega arith) (related_idle r l e).state) (rw (lt-ltb s stations l, e)) r
    at l (unfinished i c o) e = refused_taking s NothingWaits (take_nothing s r l 1 (omega arith) (related_busy r l e).state) (rw (lt-ltb s stations l, e)) r
    at l (waiting a) e = given_taking s a l e r

    go : (b : Bool) → ltb s stations ≡ b → Matches word_index Related (word_index.take words s) (take t s)
    go true q = at (ltb-true s stations q) (t.stations s) refl
    go false q = refused_taking s NoStation (rw (related_passes r, q)) (rw q) r
