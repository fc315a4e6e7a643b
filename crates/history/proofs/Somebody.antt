-- Somebody always finishes (`somebody`): among more than 8 × places steps dealt to stations with an unfinished call, whatever submissions, takings and
-- refused events fall between them, one answers. A step that does not answer changes neither tree nor queue, and takes five from what is left to all
-- stations together.
use Prim.Native.Nat.{ℕ, ◌+◌, ◌*◌, ◌≤◌, ◌<◌}
use mathlib.Core.Path.{◌≡◌, refl, sym, ◌∙◌, subst}
use mathlib.Core.Logic.{inl, inr}
use mathlib.Core.Bool.{Bool, true, false, true≢false}
use mathlib.Core.List.{List, [], ◌∷◌}
use mathlib.Core.Option.{Option}
use native.Mathlib.Omega.{arith}
use native.Mathlib.Decide.{dec_lt}
use Rattle.points.specs.declared.scale.Scale.{Scale}
use Rattle.words.specs.Layout.{stations}
use Rattle.stations.specs.Counts.{counts_at}
use Rattle.stations.specs.Station.{is_unfinished, state_at}
use Rattle.table.specs.Call.{Call, Answer}
use Rattle.table.specs.Table.{Station, idle, unfinished, waiting, Table}
use Rattle.table.specs.Event.{Event, submission, single_step, taking, withdrawal}
use Rattle.table.specs.History.{reply, answered}
use Rattle.table.proofs.Eager.{Settled}
use Rattle.calls.specs.Open.{open_of}
use Rattle.calls.specs.Step.{step_of}
use Rattle.history.specs.Index.{word_index}
use Rattle.history.specs.View.{seat_at, SameRows}
use Rattle.history.specs.Related.{Related}
use Rattle.history.specs.After.{after}
use Rattle.history.specs.Somebody.{most_unanswered, dealt_step, dealt_steps, Undisturbed, SomeAnswered}
use Rattle.history.proofs.Outcome.{Outcome, goes_on, ends}
use Rattle.history.proofs.Refused.{step_refused, withdraw_refused}
use Rattle.history.proofs.Spelled.{tree_same, queue_same}
use Rattle.history.proofs.StepOutcome.{step_outcome}
use Rattle.history.proofs.Demand3.{accepted, ends_answered, quiet_state}
use Rattle.history.proofs.Reached.{Stands, settled_stands, event_stands, history_related}
use Rattle.history.proofs.Solo.{outside_state}
use Rattle.history.proofs.StepNumbers.{quiet_refused}
use Rattle.history.proofs.Reseated.{Reseats, submit_reseats, take_reseats}
use Rattle.history.proofs.MovesLeft.{moves_left, left_same, rest_here, most_here, potential, potential_most, potential_less, potential_kept, all_moves}
use Rattle.trees.specs.Measure.{step_moves}

-- the words stand, with at most n left to all stations together
pub record Within (words : List ℕ) (places limit : ℕ) (scale : Scale) (n : ℕ) : Type 0 where
  pub stands : Stands words places limit scale
  pub few : potential stands.related ≤ n

-- the same words, however they are related: so the first moments of nearest calls leave as much
same_within : {words : List ℕ} {places limit : ℕ} {scale : Scale} {n : ℕ} → Within words places limit scale n → Stands words places limit scale → Within words places limit scale n
same_within {words} w b =
    let a = w.stands in
    let same : SameRows words words (2 * a.table.places) = record { row = λ i l. refl; marks = λ x side q. refl } in
    let p : b.table.places ≡ a.table.places = b.places_same ∙ sym a.places_same in
    let tree = tree_same a.related b.related p same refl refl in
    let queue = queue_same a.related b.related p same refl refl in
    record { stands = b; few = omega (arith, potential_kept a.related b.related p tree queue (λ x l. refl), w.few) }

-- a submission or a taking leaves as much
pub reseats_within : {words words' : List ℕ} {places limit : ℕ} {scale : Scale} {n : ℕ} (w : Within words places limit scale n) → Stands words' places limit scale → (s : ℕ) → Reseats words words' (2 * w.stands.table.places) s
    → Within words' places limit scale n
reseats_within {words} {words'} {places} {limit} {scale} {n} w b s (inl e) = subst (λ (x : List ℕ). Within x places limit scale n) (sym e) w
reseats_within {words} {words'} w b s (inr c) =
    let a = w.stands in
    let p : b.table.places ≡ a.table.places = b.places_same ∙ sym a.places_same in
    let root : (counts_at words').root ≡ (counts_at words).root = (λ i. (c.counts i).root) in
    let head : (counts_at words').head ≡ (counts_at words).head = (λ i. (c.counts i).head) in
    let tree = tree_same a.related b.related p c.same root head in
    let queue = queue_same a.related b.related p c.same root head in
    let own : moves_left b.table.places b.related.tree b.related.queue (seat_at words' s) ≤ moves_left a.table.places a.related.tree a.related.queue (seat_at words s) =
    omega (arith, most_here b.related s c.station b.sound, rest_here a.related s c.station c.rests, p) in
    record { stands = b; few = omega (arith, potential_less a.related b.related p tree queue s 0 c.station c.others (omega (arith, own)), w.few) }

-- a step that does not answer: five less are left where it was dealt to a station with an unfinished call
pub record Fallen (words : List ℕ) (places limit : ℕ) (scale : Scale) (n s : ℕ) : Type 0 where
  pub fewer : ℕ
  pub within : Within (step_of words s).words places limit scale fewer
  pub counted : step_moves * dealt_step words (single_step s) + fewer ≤ n

module _ {words : List ℕ} {places limit : ℕ} {scale : Scale} {n : ℕ} (s : ℕ) (l : s < stations) (w : Within words places limit scale n) (settled : Settled w.stands.table)
    (still : answered word_index words (single_step s) ≡ false) where
  abbrev t : Table
  t = w.stands.table

  abbrev r : Related words t
  r = w.stands.related

  abbrev here : ℕ
  here = moves_left t.places r.tree r.queue (seat_at words s)

  goes_on_lem : (i : ℕ) (c : Call) (o : Option Answer) → t.stations s ≡ unfinished i c o → Outcome r s c o here (step_of words s) → (m : ℕ) × (step_moves + m ≤ n) × Within (step_of words s).words places limit scale m
  goes_on_lem i c o q (ends e x) = absurd (true≢false (sym (ends_answered words t s i c o w.stands.sound l q e x.related) ∙ still))
  goes_on_lem i c o q (goes_on e m f z d) =
      let own : moves_left t.places z.related.tree z.related.queue (seat_at (step_of words s).words s) ≤ m = (left_same z.related s l c q m).1 (rw q at z.left) in
      let all = potential_less r z.related refl d.tree d.queue s step_moves l d.others (omega (arith, own, f)) in (
        potential z.related,
        omega (arith, all, w.few),
        record { stands = record { table = t; sound = w.stands.sound; related = z.related; places_same = w.stands.places_same; limit_same = w.stands.limit_same; scale_same = w.stands.scale_same }; few = omega arith },
      )

  -- the station has an unfinished call
  dealt_falls : is_unfinished (state_at words s) ≡ true → (m : ℕ) × (step_moves + m ≤ n) × Within (step_of words s).words places limit scale m
  dealt_falls u = go (t.stations s) refl
    where
      go : (x : Station) → t.stations s ≡ x → (m : ℕ) × (step_moves + m ≤ n) × Within (step_of words s).words places limit scale m
      go idle q = absurd (true≢false (sym u ∙ quiet_state s l idle q tt r))
      go (waiting a) q = absurd (true≢false (sym u ∙ quiet_state s l (waiting a) q tt r))
      go (unfinished i c o) q =
          goes_on_lem i c o q (step_outcome s i here c o w.stands.sound settled l q (record { related = r; left = rw q ((left_same r s l c q here).0 (omega arith)) }))

pub step_falls : {words : List ℕ} {places limit : ℕ} {scale : Scale} {n : ℕ} (s : ℕ) → Within words places limit scale n → answered word_index words (single_step s) ≡ false → Fallen words places limit scale n s
unfolding same_within
step_falls {words} {places} {limit} {scale} {n} s w still = go (is_unfinished (state_at words s)) refl (dec_lt s 8)
  where
    go : (b : Bool) → is_unfinished (state_at words s) ≡ b → Dec (s < stations) → Fallen words places limit scale n s
    go false u d = record {
      fewer = n;
      within = subst (λ (x : List ℕ). Within x places limit scale n) (sym (step_refused words s (quiet_refused s w.stands.related u))) w;
      counted = rw u (omega arith);
    }
    go true u (no g) = absurd (true≢false (sym u ∙ outside_state words s (omega arith)))
    go true u (yes l) =
        let v = settled_stands w.stands in
        let f = dealt_falls s l (same_within w v.0) v.1 still u in
        record { fewer = f.0; within = f.2; counted = rw u (omega (arith, f.1)) }

-- ---- the run

-- where five times the number of such steps is more than what is left to all stations together, one answers
dealt_answers : (run : List Event) {words : List ℕ} {places limit : ℕ} {scale : Scale} {n : ℕ} → Within words places limit scale n → Undisturbed words run → n < step_moves * dealt_steps words run → SomeAnswered words run
unfolding dealt_steps reply
dealt_answers [] w d l = absurd (omega arith)
dealt_answers (submission s kind p c ∷ run) {words} w d l =
    let a = w.stands in
    inr (dealt_answers run (reseats_within w (event_stands (submission s kind p c) a) s (submit_reseats words a.table.places a.table.limit a.table.scale a.related.opened s kind p c)) d.1 (omega arith))
dealt_answers (taking s ∷ run) {words} w d l =
    let a = w.stands in
    inr (dealt_answers run (reseats_within w (event_stands (taking s) a) s (take_reseats words a.table.places a.table.limit a.table.scale a.related.opened s)) d.1 (omega arith))
dealt_answers (withdrawal s ∷ run) {words} w d l =
    let same = withdraw_refused words s d.0 in
    let more : _ < step_moves * (0 + dealt_steps words run) = rw same at l in
    inr (rw same (dealt_answers run w (rw same at d.1) (omega arith)))
dealt_answers (single_step s ∷ run) {words} {places} {limit} {scale} {n} w d l = go (λ k v j. dealt_answers run v d.1 j) (answered word_index words (single_step s)) refl
  where
    go : ((k : ℕ) → Within (step_of words s).words places limit scale k → k < step_moves * dealt_steps (step_of words s).words run → SomeAnswered (step_of words s).words run)
        → (b : Bool) → answered word_index words (single_step s) ≡ b → SomeAnswered words (single_step s ∷ run)
    go rest true e = inl e
    go rest false e = let f = step_falls s w e in inr (rest f.fewer f.within (omega (arith, f.counted)))

-- After every history, more than 8 × places steps dealt to stations with an unfinished call, with whatever submissions, takings and refused events
-- between them, answer a call.
pub somebody : (words : List ℕ) (places limit : ℕ) (scale : Scale) → (open_of words places limit scale).number ≡ 0 → (evs run : List Event)
    → Undisturbed (after evs (open_of words places limit scale).words) run
    → most_unanswered places < dealt_steps (after evs (open_of words places limit scale).words) run → SomeAnswered (after evs (open_of words places limit scale).words) run
somebody words places limit scale e evs run d l =
    let a = accepted words places limit scale e in
    let v : Stands (after evs (open_of words places limit scale).words) places limit scale = rw a.opens (history_related words places limit scale a evs) in
    dealt_answers run {n = all_moves places} (record { stands = v; few = omega (arith, potential_most v.related v.sound, v.places_same) }) d (omega arith)

-- Rules 8.4, by the greater figure.
pub somebody_finishes : (words : List ℕ) (places limit : ℕ) (scale : Scale) → (open_of words places limit scale).number ≡ 0 → (evs run : List Event)
    → Undisturbed (after evs (open_of words places limit scale).words) run
    → 8 * 32 * (16 * places + 64) ≤ dealt_steps (after evs (open_of words places limit scale).words) run → SomeAnswered (after evs (open_of words places limit scale).words) run
somebody_finishes words places limit scale e evs run d l = somebody words places limit scale e evs run d (omega arith)
