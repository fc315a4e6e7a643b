-- What the steps of a station's nearest that do not answer may still take together (`Allows`): what is left to its search, and what others may still spend
-- on it. A step of its own takes five (`own_allows`); no other event makes it more: a record that is added puts four of what may be spent into the tour, a
-- removal five into a look.
use Prim.Native.Nat.{ℕ, ◌+◌, ◌*◌, ◌-◌, ◌≤◌, ◌<◌}
use mathlib.Core.Path.{◌≡◌, refl, sym, ap, ◌∙◌, subst}
use mathlib.Core.Logic.{◌≢◌, inl, inr}
use mathlib.Core.Bool.{Bool, true, false, true≢false, false≢true}
use mathlib.Core.List.{List}
use mathlib.Core.Option.{Option, none, some}
use native.Mathlib.Omega.{arith}
use native.Mathlib.Decide.{dec_lt}
use lib.ListN.{length}
use Rattle.points.specs.declared.scale.Scale.{Scale}
use Rattle.words.specs.Layout.{stations}
use Rattle.stations.specs.Counts.{counts_at}
use Rattle.points.specs.declared.point.Point.{Point}
use Rattle.stations.specs.Station.{is_unfinished, state_at}
use Rattle.stations.specs.Call.{call_at}
use Rattle.table.specs.Call.{Call, add, remove, contains, nearest, Answer, withdrawn_answer}
use Rattle.table.specs.Table.{Station, idle, unfinished, waiting, Table, busy, put, with_stations}
use Rattle.table.specs.Event.{single_step}
use Rattle.table.specs.History.{answered}
use Rattle.table.proofs.Eager.{unsettled, Settled}
use Rattle.table.proofs.Removals.{since_of}
use Rattle.table.proofs.Simulation.{finished}
use Rattle.table.proofs.Sound.{Sound}
use Rattle.table.proofs.Stations.{put_other}
use Rattle.table.proofs.Taken.{search_places}
use Rattle.table.proofs.Retract.{retract}
use Rattle.table.proofs.Reached.{sound_wait}
use Rattle.table.proofs.Settled.{retract_ends}
use Rattle.trees.specs.Measure.{step_moves}
use Rattle.calls.specs.Step.{step_of}
use Rattle.calls.specs.Withdraw.{withdraw_of, withdrawn_words}
use Rattle.history.specs.Index.{word_index}
use Rattle.history.specs.View.{Seat, seat_at, SameRows}
use Rattle.history.specs.Related.{Busy, Related}
use Rattle.history.specs.WaitFree.{most_own_moves}
use Rattle.history.proofs.Outcome.{LeftSays, left_at, spent_by, Outcome, goes_on, ends, Next}
use Rattle.history.proofs.Readings.{nearest_search, nearest_unsettled}
use Rattle.history.proofs.Refused.{step_refused}
use Rattle.history.proofs.RelatedLaws.{related_idle, related_busy, related_waits}
use Rattle.history.proofs.Spelled.{tree_same, queue_same}
use Rattle.history.proofs.StepOutcome.{left_most, step_outcome}
use Rattle.history.proofs.Demand3.{ends_answered, finished_sound, quiet_state}
use Rattle.history.proofs.Reached.{Stands, settled_stands, finished_alike}
use Rattle.history.proofs.Reseated.{Reseats}
use Rattle.history.proofs.Solo.{outside_state}
use Rattle.history.proofs.StepNumbers.{quiet_refused}
use Rattle.history.proofs.RelatedWithdraw.{withdrawn_next, withdrawal_done, related_withdraws}
use Rattle.history.proofs.MovesLeft.{left_here}
use Rattle.calls.specs.Reply.{Reply}

-- ---- the search of a station

-- where the words say that station s has an unfinished nearest, the table says so
record Seeking (t : Table) (s : ℕ) : Type 0 where
  i : ℕ
  p : Point
  o : Option Answer
  is : t.stations s ≡ unfinished i (nearest p) o

module _ {words : List ℕ} {t : Table} (r : Related words t) (s : ℕ) (l : s < stations) where
  seeking : (seat_at words s).state ≡ 1 → (seat_at words s).call.kind ≡ 4 → Seeking t s
  seeking one four = go (t.stations s) refl
    where
      go : (x : Station) → t.stations s ≡ x → Seeking t s
      go idle q = absurd (omega (arith, one, (related_idle r l q).state))
      go (waiting a) q = absurd (omega (arith, one, (related_waits r l q).state))
      go (unfinished i (add p c) o) q = absurd (omega (arith, four, (related_busy r l q).kind))
      go (unfinished i (remove p) o) q = absurd (omega (arith, four, (related_busy r l q).kind))
      go (unfinished i (contains p) o) q = absurd (omega (arith, four, (related_busy r l q).kind))
      go (unfinished i (nearest p) o) q = record { i = i; p = p; o = o; is = q }

  module _ {i : ℕ} {p : Point} {o : Option Answer} (q : t.stations s ≡ unfinished i (nearest p) o) where
    -- what was spent on it, by the table
    pub spent_here : spent_by (counts_at words) (seat_at words s).track
        ≡ 4 * (length t.held + (length t.removals - since_of i t.removals)) + step_moves * (length t.removals - since_of i t.removals)
    spent_here =
        let held : (counts_at words).held ≡ length t.held = r.counted.held ∙ r.number in
        let removals : (counts_at words).removals ≡ length t.removals = r.counted.removals in
        let since : (seat_at words s).track.since ≡ since_of i t.removals = (related_busy r l q).works.since in
        (λ j. 4 * (held j + (removals j - since j)) + step_moves * (removals j - since j))

    -- never more than there is
    spent_most : Sound t → spent_by (counts_at words) (seat_at words s).track ≤ most_own_moves t.places
    spent_most h = omega (arith, spent_here, search_places t h s i (nearest p) o l q (nearest_search p))

-- station s has an unfinished nearest, whose steps that do not answer take at most n together
pub record Allows (words : List ℕ) (places limit : ℕ) (scale : Scale) (s n : ℕ) : Type 0 where
  pub stands : Stands words places limit scale
  pub one : (seat_at words s).state ≡ 1
  pub four : (seat_at words s).call.kind ≡ 4
  pub few : left_at stands.related.tree stands.related.queue (seat_at words s) + most_own_moves places ≤ n + spent_by (counts_at words) (seat_at words s).track

pub same_allows : {words words' : List ℕ} {places limit : ℕ} {scale : Scale} {s n : ℕ} → words' ≡ words → Allows words places limit scale s n → Allows words' places limit scale s n
same_allows {words} {words'} {places} {limit} {scale} {s} {n} e w = subst (λ (x : List ℕ). Allows x places limit scale s n) (sym e) w

-- where rows, counts and the seat of station s stay
still_allows : {words words' : List ℕ} {places limit : ℕ} {scale : Scale} {s n : ℕ} (w : Allows words places limit scale s n) → Stands words' places limit scale → SameRows words words' (2 * w.stands.table.places)
    → counts_at words' ≡ counts_at words → seat_at words' s ≡ seat_at words s → Allows words' places limit scale s n
still_allows {words} {words'} {places} {limit} {scale} {s} {n} w b rows counts seat =
    let a = w.stands in
    let p : b.table.places ≡ a.table.places = b.places_same ∙ sym a.places_same in
    let root : (counts_at words').root ≡ (counts_at words).root = (λ i. (counts i).root) in
    let head : (counts_at words').head ≡ (counts_at words).head = (λ i. (counts i).head) in
    let tree = tree_same a.related b.related p rows root head in
    let queue = queue_same a.related b.related p rows root head in
    let left : left_at b.related.tree b.related.queue (seat_at words' s) ≡ left_at a.related.tree a.related.queue (seat_at words s) = (λ j. left_at (tree j) (queue j) (seat j)) in
    let spent : spent_by (counts_at words') (seat_at words' s).track ≡ spent_by (counts_at words) (seat_at words s).track = (λ j. spent_by (counts j) (seat j).track) in
    record { stands = b; one = ap (λ (x : Seat). x.state) seat ∙ w.one; four = ap (λ (x : Seat). x.call.kind) seat ∙ w.four; few = omega (arith, w.few, left, spent) }

-- the first moments of nearest calls allow as much
pub settled_allows : {words : List ℕ} {places limit : ℕ} {scale : Scale} {s n : ℕ} → Allows words places limit scale s n → (v : Allows words places limit scale s n) × Settled v.stands.table
unfolding still_allows
settled_allows w = let b = settled_stands w.stands in (still_allows w b.0 (record { row = λ i l. refl; marks = λ x side q. refl }) refl refl, b.1)

-- ---- a step of its own

pub own_allows : {words : List ℕ} {places limit : ℕ} {scale : Scale} {s n : ℕ} → s < stations → (w : Allows words places limit scale s n) → Settled w.stands.table → answered word_index words (single_step s) ≡ false
    → (m : ℕ) × (step_moves + m ≤ n) × Allows (step_of words s).words places limit scale s m
own_allows {words} {places} {limit} {scale} {s} {n} l w settled still =
    by k.o k.is (step_outcome s k.i here (nearest k.p) k.o w.stands.sound settled l k.is (record { related = r; left = rw k.is (b.works, omega (arith, left_here r s l b b.works)) }))
  where
    t : Table
    t = w.stands.table

    r : Related words t
    r = w.stands.related

    here : ℕ
    here = left_at r.tree r.queue (seat_at words s)

    k : Seeking t s
    k = seeking r s l w.one w.four

    b : Busy t r.tree r.queue (seat_at words s) k.i (nearest k.p) k.o
    b = related_busy r l k.is

    by : (o : Option Answer) (q : t.stations s ≡ unfinished k.i (nearest k.p) o) → Outcome r s (nearest k.p) o here (step_of words s)
        → (m : ℕ) × (step_moves + m ≤ n) × Allows (step_of words s).words places limit scale s m
    by o q (ends e x) = absurd (true≢false (sym (ends_answered words t s k.i (nearest k.p) o w.stands.sound l q e x.related) ∙ still))
    by o q (goes_on e m f z d) =
        let v : LeftSays t z.related.tree z.related.queue (seat_at (step_of words s).words s) (unfinished k.i (nearest k.p) o) m = rw q at z.left in
        let next = related_busy z.related l q in
        let most = spent_most r s l q w.stands.sound in (
          n - step_moves,
          omega (arith, f, w.few, most, w.stands.places_same),
          record {
            stands = record { table = t; sound = w.stands.sound; related = z.related; places_same = w.stands.places_same; limit_same = w.stands.limit_same; scale_same = w.stands.scale_same };
            one = next.state;
            four = next.kind;
            few = omega (arith, f, w.few, left_here z.related s l next v.0, v.1, most, w.stands.places_same, spent_here r s l q, spent_here z.related s l q);
          },
        )

-- ---- an answer at another station

-- where its nearest stays at station s, what others spent is what it has more left
next_allows : {words words' : List ℕ} {places limit : ℕ} {scale : Scale} {s u n : ℕ} {t' : Table} → s < stations → s ≢ u → (w : Allows words places limit scale s n) → Settled w.stands.table
    → Next w.stands.related u words' t' → Sound t' → (t'.places ≡ w.stands.table.places) × (t'.limit ≡ w.stands.table.limit) × (t'.scale ≡ w.stands.table.scale)
    → t'.stations s ≡ w.stands.table.stations s → Allows words' places limit scale s n
next_allows {words} {words'} {places} {limit} {scale} {s} {u} {n} {t'} l away w settled x sound alike same = go k.o k.is
  where
    t : Table
    t = w.stands.table

    k : Seeking t s
    k = seeking w.stands.related s l w.one w.four

    go : (o : Option Answer) → t.stations s ≡ unfinished k.i (nearest k.p) o → Allows words' places limit scale s n
    go none q = absurd (true≢false (sym (nearest_unsettled k.i k.p) ∙ ap unsettled (sym q) ∙ settled s l))
    go (some a) q =
        let b = related_busy x.related l (same ∙ q) in
        record {
          stands = record { table = t'; sound = sound; related = x.related; places_same = alike.0 ∙ w.stands.places_same; limit_same = alike.1 ∙ w.stands.limit_same; scale_same = alike.2 ∙ w.stands.scale_same };
          one = b.state;
          four = b.kind;
          few = omega (arith, w.few, x.beside s l away k.i k.p a q);
        }

-- ---- a step of another station

-- the other stations stay when a call ends
finished_other : (t : Table) (s : ℕ) (c : Call) (o : Option Answer) (u : ℕ) → u ≢ s → (finished t s c o).stations u ≡ t.stations u
unfolding finished
finished_other t s c none u d = put_other t.stations s u _ d
finished_other t s c (some a) u d = put_other t.stations s u _ d

module _ {words : List ℕ} {places limit : ℕ} {scale : Scale} {s n : ℕ} (u : ℕ) (l : s < stations) (away : s ≢ u) (w : Allows words places limit scale s n) (settled : Settled w.stands.table) where
  abbrev t : Table
  t = w.stands.table

  abbrev r : Related words t
  r = w.stands.related

  step_allows : (j : ℕ) (c : Call) (o : Option Answer) (m : ℕ) → u < stations → t.stations u ≡ unfinished j c o → Outcome r u c o m (step_of words u) → Allows (step_of words u).words places limit scale s n
  step_allows j c o m h q (goes_on e x f z d) =
      let k = seeking r s l w.one w.four in
      let b = related_busy z.related l k.is in
      let seat = d.others s l away in
      let left : left_at z.related.tree z.related.queue (seat_at (step_of words u).words s) ≡ left_at r.tree r.queue (seat_at words s) = (λ y. left_at (d.tree y) (d.queue y) (seat y)) in
      record {
        stands = record { table = t; sound = w.stands.sound; related = z.related; places_same = w.stands.places_same; limit_same = w.stands.limit_same; scale_same = w.stands.scale_same };
        one = b.state;
        four = b.kind;
        few = omega (arith, w.few, left, spent_here r s l k.is, spent_here z.related s l k.is);
      }
  step_allows j c o m h q (ends e x) =
      next_allows l away w settled x (finished_sound t u j c o w.stands.sound h q) (finished_alike t u c o) (finished_other t u c o s away)

  pub other_allows : Allows (step_of words u).words places limit scale s n
  other_allows = go (is_unfinished (state_at words u)) refl (dec_lt u 8)
    where
      at : u < stations → is_unfinished (state_at words u) ≡ true → (x : Station) → t.stations u ≡ x → Allows (step_of words u).words places limit scale s n
      at h f idle q = absurd (true≢false (sym f ∙ quiet_state u h idle q tt r))
      at h f (waiting a) q = absurd (true≢false (sym f ∙ quiet_state u h (waiting a) q tt r))
      at h f (unfinished j c o) q =
          let most : ℕ = step_moves * t.places in
          step_allows j c o most h q (step_outcome u j most c o w.stands.sound settled h q (record { related = r; left = rw q (left_most u j c o w.stands.sound h q r) }))

      go : (b : Bool) → is_unfinished (state_at words u) ≡ b → Dec (u < stations) → Allows (step_of words u).words places limit scale s n
      go false f d = same_allows (step_refused words u (quiet_refused u r f)) w
      go true f (yes h) = at h f (t.stations u) refl
      go true f (no g) = absurd (true≢false (sym f ∙ outside_state words u (omega arith)))

-- ---- other events

-- a submission or a taking, which is not that of a station with an unfinished call
pub reseats_allows : {words words' : List ℕ} {places limit : ℕ} {scale : Scale} {s n : ℕ} → s < stations → (w : Allows words places limit scale s n) → Stands words' places limit scale → (u : ℕ)
    → Reseats words words' (2 * w.stands.table.places) u → Allows words' places limit scale s n
reseats_allows l w b u (inl e) = same_allows e w
reseats_allows {words} {s = s} l w b u (inr c) =
    let away : s ≢ u = λ z. c.rests (subst (λ (x : ℕ). (seat_at words x).state ≡ 1) z w.one) in
    still_allows w b c.same c.counts (c.others s l away)

-- a withdrawal by another station
pub withdraw_allows : {words : List ℕ} {places limit : ℕ} {scale : Scale} {s n : ℕ} (u : ℕ) → s < stations → s ≢ u → (w : Allows words places limit scale s n) → Settled w.stands.table
    → (withdraw_of words u).number ≡ 0 → Allows (withdraw_of words u).words places limit scale s n
unfolding busy
withdraw_allows {words} {places} {limit} {scale} {s} {n} u l away w settled z = go (t.stations u) refl ends.1
  where
    t : Table
    t = w.stands.table

    ends : (u < stations) × (busy (t.stations u) ≡ true) × (busy ((retract t u).next.stations u) ≡ false)
    ends = retract_ends t u (sym (related_withdraws u w.stands.sound w.stands.related).number ∙ z)

    go : (x : Station) → t.stations u ≡ x → busy (t.stations u) ≡ true → Allows (withdraw_of words u).words places limit scale s n
    go idle q b = absurd (false≢true (sym (ap busy q) ∙ b))
    go (waiting a) q b = absurd (false≢true (sym (ap busy q) ∙ b))
    go (unfinished j c o) q b =
        let h = w.stands.sound in
        let e : (withdraw_of words u).words ≡ withdrawn_words words u (call_at words u) = ap (λ (x : Reply). x.words) (withdrawal_done h ends.0 q w.stands.related) in
        let sound : Sound (with_stations t (put t.stations u (waiting (withdrawn_answer c)))) = sound_wait t u (withdrawn_answer c) ends.0 h in
        same_allows e (next_allows l away w settled (withdrawn_next h ends.0 q w.stands.related) sound (refl, refl, refl) (put_other t.stations u s (waiting (withdrawn_answer c)) away))
