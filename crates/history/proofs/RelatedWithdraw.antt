-- A withdrawal: a related slice refuses as the table does, or answers 11, and stays related (`related_withdraws`).
use Prim.Native.Nat.{ℕ, ◌<◌}
use mathlib.Core.Path.{◌≡◌, refl, sym, ◌∙◌, ap, subst}
use mathlib.Core.Bool.{Bool, true, false}
use mathlib.Core.List.{List}
use mathlib.Core.Option.{Option}
use native.Mathlib.Omega.{arith}
use lib.Dec.{ltb}
use borrow.Author.Tests.{eq-eqb, ne_eqb, lt-ltb, ltb-true}
use Rattle.words.specs.Layout.{stations}
use Rattle.points.specs.Number.{in_range_by}
use Rattle.stations.specs.Station.{state_at}
use Rattle.stations.specs.Call.{call_at}
use Rattle.stations.specs.Answer.{answer_sound}
use Rattle.stations.proofs.SoundLaws.{answer_of_lem}
use Rattle.calls.specs.Reply.{done, refused}
use Rattle.table.specs.Call.{Call, point_of, Answer, answer, withdrawn_answer}
use Rattle.table.specs.Table.{Station, idle, unfinished, waiting, Table, put, with_stations}
use Rattle.table.specs.Event.{refuse}
use Rattle.table.proofs.Sound.{Sound}
use Rattle.table.proofs.Retract.{retract_at, retract}
use Rattle.table.proofs.Simulation.{Matches}
use Rattle.calls.specs.Withdraw.{withdrawn_answer as said_of, withdrawn_words, withdraw_of}
use Rattle.history.specs.Index.{answer_of, word_index}
use Rattle.history.specs.View.{seat_at}
use Rattle.history.specs.Related.{Related}
use Rattle.history.proofs.RelatedLaws.{related_passes, removals_word, related_idle, related_busy, related_waits}
use Rattle.history.proofs.RelatedSound.{related_sound}
use Rattle.history.proofs.Outcome.{Next}
use Rattle.history.proofs.OwnSeat.{next_answered}

-- ---- an unfinished call

module _ {words : List ℕ} {t : Table} {s i : ℕ} {c : Call} {o : Option Answer} (h : Sound t) (l : s < stations) (q : t.stations s ≡ unfinished i c o) (r : Related words t) where
  pub point_is : (call_at words s).point ≡ point_of c
  unfolding seat_at
  point_is = (related_busy r l q).point

  said_sound : answer_sound t.scale.rule (said_of (call_at words s)) ≡ true
  said_sound =
      answer_of_lem t.scale.rule (said_of (call_at words s)) (record { code = refl; point = ap (in_range_by t.scale.rule) point_is ∙ (related_busy r l q).ranged; curve = omega arith; square = omega arith })

  said_is : answer_of (said_of (call_at words s)) ≡ withdrawn_answer c
  unfolding withdrawn_answer
  said_is = ap (λ p. answer 11 p 0 0) point_is

  -- it is answered, and no other search has more left
  pub withdrawn_next : Next r s (withdrawn_words words s (call_at words s)) (with_stations t (put t.stations s (waiting (withdrawn_answer c))))
  withdrawn_next =
      subst (λ a. Next r s (withdrawn_words words s (call_at words s)) (with_stations t (put t.stations s (waiting a)))) said_is
      (next_answered s l r (said_of (call_at words s)) (omega (arith, removals_word r h)) said_sound)

  pub withdrawal_done : withdraw_of words s ≡ done (withdrawn_words words s (call_at words s))
  unfolding withdraw_of seat_at
  withdrawal_done = rw (related_passes r, lt-ltb s stations l, eq-eqb (state_at words s).word 1 (related_busy r l q).state, related_sound h r l q)

-- ---- any station

module _ {words : List ℕ} {t : Table} (s : ℕ) (h : Sound t) (r : Related words t) where
  abbrev Agreeing : Type 0
  Agreeing = Matches word_index Related (word_index.withdraw words s) (retract t s)

  refused_alike : (n : ℕ) → withdraw_of words s ≡ refused n words → retract t s ≡ refuse n t → Agreeing
  refused_alike n e f = rw (e, f) (record { number = refl; given = refl; next = r })

  quiet_refused : s < stations → (k : ℕ) → ¬ (k ≡ 1) → (state_at words s).word ≡ k → withdraw_of words s ≡ refused 10 words
  unfolding withdraw_of
  quiet_refused l k n e = rw (related_passes r, lt-ltb s stations l, ne_eqb (state_at words s).word 1 (λ z. n (sym e ∙ z)))

  -- A withdrawal is refused alike or answers 11, whatever is set down.
  pub related_withdraws : Agreeing
  unfolding retract retract_at withdraw_of seat_at
  related_withdraws = go (ltb s stations) refl
    where
      at : s < stations → (x : Station) → t.stations s ≡ x → Agreeing
      at l idle e = refused_alike 10 (quiet_refused l 0 (λ z. omega (arith, z)) (related_idle r l e).state) (rw (lt-ltb s stations l, e))
      at l (waiting a) e = refused_alike 10 (quiet_refused l 2 (λ z. omega (arith, z)) (related_waits r l e).state) (rw (lt-ltb s stations l, e))
      at l (unfinished i c o) e = rw (withdrawal_done h l e r, lt-ltb s stations l, e) (record { number = refl; given = refl; next = (withdrawn_next h l e r).related })

      go : (b : Bool) → ltb s stations ≡ b → Agreeing
      go true q = at (ltb-true s stations q) (t.stations s) refl
      go false q = refused_alike 5 (rw (related_passes r, q)) (rw q)
