-- Everybody finishes where nobody submits (`everybody`): no more than 8 × (8 × places + 1) steps are dealt to stations with an unfinished call. Each stretch
-- of more than 8 × places answers one of the eight, a withdrawal ends another call, and no other call becomes unfinished.
use Prim.Native.Nat.{ℕ, zero, suc, ◌+◌, ◌*◌, ◌≤◌, ◌<◌}
use mathlib.Core.Path.{◌≡◌, refl, sym, ap, ◌∙◌, subst}
use mathlib.Core.Bool.{Bool, true, false, true≢false, false≢true, cond}
use mathlib.Core.List.{List, [], ◌∷◌}
use native.Mathlib.Omega.{arith}
use native.Mathlib.Decide.{dec_lt, ℕ_discrete}
use borrow.Author.Tests.{eq-eqb, ne_eqb}
use Rattle.points.specs.declared.scale.Scale.{Scale}
use Rattle.words.specs.Layout.{stations}
use Rattle.stations.specs.Station.{is_unfinished, state_at}
use Rattle.table.specs.Table.{Station, idle, unfinished, waiting, Table, busy}
use Rattle.table.specs.Event.{Event, submission, single_step, taking, withdrawal, accept}
use Rattle.table.specs.History.{reply, answered}
use Rattle.table.proofs.Eager.{own}
use Rattle.table.proofs.Settled.{take_busy, retract_busy, retract_ends, answer_busy}
use Rattle.table.proofs.Simulation.{finished, answer_step}
use Rattle.calls.specs.Open.{open_of}
use Rattle.calls.specs.Step.{step_of}
use Rattle.calls.specs.Withdraw.{withdraw_of}
use Rattle.history.specs.Index.{word_index}
use Rattle.history.specs.View.{seat_at}
use Rattle.history.specs.Related.{Related}
use Rattle.history.specs.After.{after}
use Rattle.history.specs.Somebody.{dealt_step, dealt_steps, NobodySubmits}
use Rattle.history.proofs.RelatedLaws.{related_idle, related_busy, related_waits}
use Rattle.history.proofs.RelatedTake.{related_takes}
use Rattle.history.proofs.RelatedWithdraw.{related_withdraws}
use Rattle.history.proofs.Refused.{submit_refused, withdraw_refused}
use Rattle.history.proofs.Demand3.{accepted, stills, answers}
use Rattle.history.proofs.Reached.{Stands, settled_stands, event_stands, history_related, still_alike}
use Rattle.history.proofs.Solo.{outside_state}
use Rattle.history.proofs.Reseated.{take_reseats}
use Rattle.history.proofs.MovesLeft.{sum_to, sum_le, sum_less, sum_most, potential_most, all_moves}
use Rattle.history.proofs.Somebody.{Within, Fallen, reseats_within, step_falls}
use Rattle.trees.specs.Measure.{step_moves}

-- ---- the stations with an unfinished call

-- the words say that a station's call is unfinished exactly if the table does
pub unfinished_same : {words : List ℕ} {t : Table} → Related words t → (s : ℕ) → s < stations → is_unfinished (state_at words s) ≡ busy (t.stations s)
unfolding busy seat_at
unfinished_same {words} {t} r s l = go (t.stations s) refl
  where
    go : (x : Station) → t.stations s ≡ x → is_unfinished (state_at words s) ≡ busy x
    go idle e = ne_eqb (state_at words s).word 1 (λ z. let y = (related_idle r l e).state in omega arith)
    go (waiting a) e = ne_eqb (state_at words s).word 1 (λ z. let y = (related_waits r l e).state in omega arith)
    go (unfinished i c o) e = eq-eqb (state_at words s).word 1 (related_busy r l e).state

-- how many there are
unfoldable unfinished_count : List ℕ → ℕ
unfolding sum_to
unfinished_count words = sum_to 8 (λ u. dealt_step words (single_step u))

at_most_one : (words : List ℕ) (s : ℕ) → dealt_step words (single_step s) ≤ 1
at_most_one words s = go (is_unfinished (state_at words s))
  where
    go : (b : Bool) → cond b 1 0 ≤ 1
    go true = omega arith
    go false = omega arith

count_most : (words : List ℕ) → unfinished_count words ≤ 8
unfolding unfinished_count
count_most words = sum_most 8 1 (λ u. dealt_step words (single_step u)) (λ u l. at_most_one words u)

-- where there are none no step counts
count_none : (words : List ℕ) (s : ℕ) → unfinished_count words ≡ 0 → is_unfinished (state_at words s) ≡ false
unfolding unfinished_count
count_none words s z = go (dec_lt s 8) (is_unfinished (state_at words s)) refl
  where
    go : Dec (s < stations) → (b : Bool) → is_unfinished (state_at words s) ≡ b → b ≡ false
    go d false u = refl
    go (no g) true u = absurd (true≢false (sym u ∙ outside_state words s (omega arith)))
    go (yes l) true u =
        let one : 1 + 0 ≤ dealt_step words (single_step s) = rw u (omega arith) in
        let all = sum_less 8 s 1 (λ u. dealt_step words (single_step u)) (λ u. 0) l (λ u k. omega arith) one in
        absurd (omega (arith, all, z))

module _ {v w : List ℕ} {t u : Table} (a : Related v t) (b : Related w u) (fewer : (x : ℕ) → busy (u.stations x) ≡ true → busy (t.stations x) ≡ true) where
  -- a station that is busy now was busy before
  each_le : (x : ℕ) → x < stations → dealt_step w (single_step x) ≤ dealt_step v (single_step x)
  each_le x l = rw (unfinished_same a x l, unfinished_same b x l) (go (busy (u.stations x)) (busy (t.stations x)) (fewer x))
    where
      go : (p q : Bool) → (p ≡ true → q ≡ true) → cond p 1 0 ≤ cond q 1 0
      go true true f = omega arith
      go true false f = absurd (false≢true (f refl))
      go false q f = omega arith

  count_le : unfinished_count w ≤ unfinished_count v
  unfolding unfinished_count
  count_le = sum_le 8 (λ x. dealt_step v (single_step x)) (λ x. dealt_step w (single_step x)) each_le

  -- and one of them no longer is
  count_less : (s : ℕ) → s < stations → busy (t.stations s) ≡ true → busy (u.stations s) ≡ false → 1 + unfinished_count w ≤ unfinished_count v
  unfolding unfinished_count
  count_less s l p q =
      sum_less 8 s 1 (λ x. dealt_step v (single_step x)) (λ x. dealt_step w (single_step x)) l each_le (rw (unfinished_same a s l, unfinished_same b s l, p, q) (omega arith))

-- ---- what each event does to their number

module _ {words : List ℕ} {places limit : ℕ} {scale : Scale} (w : Stands words places limit scale) (s : ℕ) where
  take_count : unfinished_count (reply word_index words (taking s)).next ≤ unfinished_count words
  unfolding reply
  take_count = count_le w.related (related_takes s w.sound w.related).next (λ x. take_busy w.table s x)

  withdrawn_count : (withdraw_of words s).number ≡ 0 → 1 + unfinished_count (withdraw_of words s).words ≤ unfinished_count words
  withdrawn_count z =
      let t = w.table in
      let m = related_withdraws s w.sound w.related in
      let b = retract_ends t s (sym m.number ∙ z) in
      count_less w.related m.next (λ x. retract_busy t s x) s b.0 b.1 b.2

  still_count : answered word_index words (single_step s) ≡ false → unfinished_count (step_of words s).words ≤ unfinished_count words
  still_count e =
      let v = settled_stands w in
      let t = v.0.table in
      let next : Related (step_of words s).words t = rw (still_alike t s) at (stills s v.0.sound v.1 v.0.related e).next in
      count_le v.0.related next (λ x f. f)

  answer_count : answered word_index words (single_step s) ≡ true → 1 + unfinished_count (step_of words s).words ≤ unfinished_count words
  unfolding busy
  answer_count e =
      let v = settled_stands w in
      let t = v.0.table in
      let m = answers s v.0.sound v.1 v.0.related e in
      let f : Table = finished t s m.call m.set in
      let step = answer_step t s m.identity m.call m.set m.station m.is in
      let left = answer_busy t (own t (single_step s) true) s (accept f) step refl in
      count_less v.0.related m.matches.next (λ x g. (left x g).0) s m.station (ap busy m.is) (rests (busy (f.stations s)) (left s))
    where
      rests : (b : Bool) → {A : Type 0} → (b ≡ true → A × (¬ (s ≡ s))) → b ≡ false
      rests false g = refl
      rests true g = absurd ((g refl).1 refl)

-- ---- the run

-- the steps, five times, that answer the calls of so many stations one after the other
unfoldable drained : ℕ → ℕ → ℕ
drained places zero = 0
drained places (suc k) = step_moves + all_moves places + drained places k

-- with n left to the first of them
abbrev drained_from : ℕ → ℕ → ℕ → ℕ
drained_from places n zero = 0
drained_from places n (suc k) = step_moves + n + drained places k

all_drained : (places k : ℕ) → drained_from places (all_moves places) k ≡ drained places k
unfolding drained
all_drained places zero = refl
all_drained places (suc k) = refl

-- what is left to all stations together is at most the most of all eight
most_within : {words : List ℕ} {places limit : ℕ} {scale : Scale} → Stands words places limit scale → Within words places limit scale (all_moves places)
most_within a = record { stands = a; few = omega (arith, potential_most a.related a.sound, a.places_same) }

-- a step that does not answer, before others
still_few : {words : List ℕ} {places limit : ℕ} {scale : Scale} {n : ℕ} (s k rest : ℕ) → unfinished_count words ≤ k → (f : Fallen words places limit scale n s) → step_moves * rest ≤ drained_from places f.fewer k
    → step_moves * (dealt_step words (single_step s) + rest) ≤ drained_from places n k
still_few {words} s zero rest l f h = rw (count_none words s (omega (arith, l))) (omega (arith, h))
still_few s (suc k) rest l f h = omega (arith, h, f.counted)

-- the calls of k stations
dealt_few : (run : List Event) {words : List ℕ} {places limit : ℕ} {scale : Scale} {n : ℕ} → Within words places limit scale n → NobodySubmits words run → (k : ℕ) → unfinished_count words ≤ k
    → step_moves * dealt_steps words run ≤ drained_from places n k
unfolding dealt_steps reply
dealt_few [] w f k l = omega arith
dealt_few (submission s kind p c ∷ run) {words} w f k l =
    let same = submit_refused words s kind p c f.0 in
    let rest : NobodySubmits words run = rw same at f.1 in
    rw same (omega (arith, dealt_few run w rest k l))
dealt_few (taking s ∷ run) {words} w f k l =
    let a = w.stands in
    let v = reseats_within w (event_stands (taking s) a) s (take_reseats words a.table.places a.table.limit a.table.scale a.related.opened s) in
    omega (arith, dealt_few run v f.1 k (omega (arith, take_count a s, l)))
dealt_few (withdrawal s ∷ run) {words} {places} {limit} {scale} {n} w f k l = go (λ m v j. dealt_few run v f.1 j) (ℕ_discrete (withdraw_of words s).number 0) k l
  where
    go : ((m : ℕ) → Within (withdraw_of words s).words places limit scale m → (j : ℕ) → unfinished_count (withdraw_of words s).words ≤ j → step_moves * dealt_steps (withdraw_of words s).words run ≤ drained_from places m j)
        → Dec ((withdraw_of words s).number ≡ 0) → (k : ℕ) → unfinished_count words ≤ k → step_moves * (0 + dealt_steps (withdraw_of words s).words run) ≤ drained_from places n k
    go rest (no z) k l =
        let same = withdraw_refused words s z in
        omega (arith, rest n (subst (λ (x : List ℕ). Within x places limit scale n) (sym same) w) k (rw same l))
    go rest (yes z) zero l = absurd (omega (arith, withdrawn_count w.stands s z, l))
    go rest (yes z) (suc k) l =
        omega (arith, rest (all_moves places) (most_within (event_stands (withdrawal s) w.stands)) k (omega (arith, withdrawn_count w.stands s z, l)), all_drained places k)
dealt_few (single_step s ∷ run) {words} {places} {limit} {scale} {n} w f k l = go (λ m v j. dealt_few run v f.1 j) (answered word_index words (single_step s)) refl k l
  where
    go : ((m : ℕ) → Within (step_of words s).words places limit scale m → (j : ℕ) → unfinished_count (step_of words s).words ≤ j → step_moves * dealt_steps (step_of words s).words run ≤ drained_from places m j)
        → (b : Bool) → answered word_index words (single_step s) ≡ b → (k : ℕ) → unfinished_count words ≤ k
        → step_moves * (dealt_step words (single_step s) + dealt_steps (step_of words s).words run) ≤ drained_from places n k
    go rest false e k l =
        let x = step_falls s w e in
        still_few s k (dealt_steps (step_of words s).words run) l x (rest x.fewer x.within k (omega (arith, still_count w.stands s e, l)))
    go rest true e zero l = absurd (omega (arith, answer_count w.stands s e, l))
    go rest true e (suc k) l =
        omega (arith, rest (all_moves places) (most_within (event_stands (single_step s) w.stands)) k (omega (arith, answer_count w.stands s e, l)), all_drained places k, at_most_one words s)

-- After every history, where nobody submits, at most 8 × (8 × places + 1) steps are dealt to stations with an unfinished call.
pub everybody : (words : List ℕ) (places limit : ℕ) (scale : Scale) → (open_of words places limit scale).number ≡ 0 → (evs run : List Event)
    → NobodySubmits (after evs (open_of words places limit scale).words) run → dealt_steps (after evs (open_of words places limit scale).words) run ≤ 8 * (8 * places + 1)
unfolding drained
everybody words places limit scale e evs run f =
    let a = accepted words places limit scale e in
    let v : Stands (after evs (open_of words places limit scale).words) places limit scale = rw a.opens (history_related words places limit scale a evs) in
    omega (arith, dealt_few run (most_within v) f 8 (count_most (after evs (open_of words places limit scale).words)))
