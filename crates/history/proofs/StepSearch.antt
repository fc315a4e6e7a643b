-- A step of a nearest call: it goes on, or it ends with the answer that was set down for it (`search_outcome`).
use Prim.Native.Nat.{ℕ, ◌+◌, ◌*◌, ◌≤◌, ◌<◌}
use mathlib.Core.Path.{◌≡◌, refl, sym, ◌∙◌, ap, subst}
use mathlib.Core.Logic.{◌⊎◌, inl, inr}
use mathlib.Core.Bool.{Bool, true, false, false≢true}
use mathlib.Core.List.{List, map, Memᴰ}
use mathlib.Core.Option.{some}
use native.Mathlib.Omega.{arith}
use lib.ListN.{length}
use Rattle.words.specs.Layout.{stations}
use Rattle.stations.specs.Scale.{scale_at}
use Rattle.stations.specs.Track.{track_at}
use Rattle.points.specs.declared.point.Point.{Point}
use Rattle.points.specs.declared.scale.Scale.{Scale}
use Rattle.points.specs.Scale.{factors_in}
use Rattle.points.specs.Number.{in_range_by}
use Rattle.points.proofs.NumberLaws.{in_range_by_lem}
use Rattle.words.specs.Rule.{rule_at}
use Rattle.points.specs.Word.{NONE}
use Rattle.stations.specs.declared.answer.Answer.{Answer as WordAnswer}
use Rattle.stations.specs.Common.{least_since}
use Rattle.stations.specs.Call.{call_at}
use Rattle.stations.specs.Answer.{answer_sound}
use Rattle.stations.proofs.TakenLaws.{least_removals, least_since_lem}
use Rattle.table.specs.Record.{nearest_of}
use Rattle.table.specs.Call.{nearest, Answer, nearest_answer}
use Rattle.table.specs.Table.{Station, unfinished, waiting, Table, put, all_changes}
use Rattle.table.proofs.Sound.{Sound}
use Rattle.table.proofs.Stations.{put_same, put_other}
use Rattle.table.proofs.Simulation.{finished}
use Rattle.trees.specs.Row.{Entry}
use Rattle.trees.specs.Tour.{Progress}
use Rattle.trees.specs.Search.{Search, Nearest}
use Rattle.trees.specs.Measure.{search_left, step_moves}
use Rattle.trees.proofs.ChoiceOf.{choice_of}
use Rattle.trees.proofs.SearchLaws.{search_finish}
use Rattle.calls.specs.declared.aim.Aim.{Aim}
use Rattle.calls.specs.declared.progress.Progress.{Progress as WordProgress}
use Rattle.calls.specs.Answer.{answered_words}
use Rattle.calls.specs.Reply.{done, ask}
use Rattle.calls.specs.Search.{seek, aim_at, progress_at, is_finished, found_answer, kept_words, pick_words, search_words, search_to, search_of}
use Rattle.history.specs.Index.{answer_of}
use Rattle.history.specs.View.{Seat, seat_at, progress_of, answered_seat}
use Rattle.history.specs.Related.{record_of, Busy, Searching, Waits, Says, Related}
use Rattle.history.proofs.RelatedLaws.{related_is_open, related_rule, removals_word}
use Rattle.history.proofs.Effects.{answer_written, answer_rows, kept_written, kept_rows}
use Rattle.history.proofs.Outcome.{LeftSays, Left, Aside, Outcome, goes_on, ends, beside_still, Next}
use Rattle.history.proofs.ProgressWords.{view_of}
use Rattle.history.proofs.SeekLaws.{Seeks, seek_five, seek_keeps}
use Rattle.history.proofs.SaysLaws.{seat_put_same, seat_put_other, related_written}
use Rattle.history.proofs.SeatLaws.{related_seat}
use Rattle.history.proofs.FoundAnswer.{found_is, found_sound}

-- the seat of a search that goes on
abbrev kept_seat : Seat → WordProgress → Seat
kept_seat seat g = record {
  track = record { cursor = g.cursor; phase = g.phase; since = seat.track.since; missed = g.missed };
  target = seat.target;
  state = seat.state;
  call = record { kind = seat.call.kind; point = seat.call.point; curve = seat.call.curve; asof = seat.call.asof; best = g.best };
  answer = seat.answer;
}

module _ {words : List ℕ} {t : Table} {s i : ℕ} {p : Point} {a : Answer} (h : Sound t) (l : s < stations) (q : t.stations s ≡ unfinished i (nearest p) (some a)) (r : Related words t)
    (work : Searching t r.tree r.queue (seat_at words s) i p (some a)) where
  busy : Busy t r.tree r.queue (seat_at words s) i (nearest p) (some a)
  busy = subst (λ (x : Station). Says t r.tree r.queue (seat_at words s) x) q (r.seats s l)

  -- what the call looks for, by the factors of the opening, which are the table's
  abbrev aim : Aim
  aim = aim_at words (call_at words s)

  scale_is : scale_at words ≡ t.scale
  scale_is = (related_is_open r).scale_word

  -- the records held at the submission
  abbrev entries : List Entry
  entries = work.entries

  -- what holds of the progress of the call's search before its moves and after them
  abbrev Sought : WordProgress → ℕ → Type 0
  Sought g m = Seeks (rule_at words) aim (track_at words s).since (λ e. Memᴰ e entries) r.tree r.queue (all_changes t) (length t.removals) g m

  -- the search of one scale and target as that of others that are the same, with the moves left
  abbrev Sighted : Scale → Point → Progress → ℕ → Type 0
  Sighted c x g m =
      (v : Search (choice_of c x) (call_at words s).asof (track_at words s).since (λ e. Memᴰ e entries) r.tree r.queue (all_changes t) (length t.removals) g)
      × (search_left v ≤ m)

  -- before the step
  begins : (n : ℕ) → search_left work.search ≤ n → Sought (progress_at words s (call_at words s)) n
  unfolding seat_at progress_at
  begins n f =
      let y = subst (λ (c : Scale). Sighted c p (progress_of (seat_at words s)) n) (sym scale_is) (work.search, f) in
      let z = subst (λ (x : Point). Sighted (scale_at words) x (progress_of (seat_at words s)) n) (sym busy.point) y in
      record { fit = record { sound = refl; phase = busy.phase; best = rw (related_rule r) busy.kept }; search = z.0; left = z.1 }

  module _ (g : WordProgress) (m : ℕ) (v : Sought g m) where
    -- it goes on
    sighted : Sighted t.scale p (view_of g) m
    unfolding seat_at
    sighted =
        subst (λ (c : Scale). Sighted c p (view_of g) m) scale_is (subst (λ (x : Point). Sighted (scale_at words) x (view_of g) m) busy.point (v.search, v.left))

    kept_works : Searching t r.tree r.queue (kept_seat (seat_at words s) g) i p (some a)
    unfolding seat_at
    kept_works = record { since = work.since; aimed = work.aimed; entries = work.entries; once = work.once; ranged = work.ranged; search = sighted.0; answer = work.answer }

    kept_busy : Busy t r.tree r.queue (kept_seat (seat_at words s) g) i (nearest p) (some a)
    kept_busy = record {
      state = busy.state;
      kind = busy.kind;
      point = busy.point;
      curve = busy.curve;
      ranged = busy.ranged;
      fits = busy.fits;
      asof = busy.asof;
      kept = rw (related_rule r) at v.fit.best;
      phase = v.fit.phase;
      works = kept_works;
    }

    kept_seat_lem : seat_at (kept_words words s g) s ≡ kept_seat (seat_at words s) g
    unfolding seat_at
    kept_seat_lem = (kept_written words t.places t.limit t.scale r.opened s l g (in_range_by_lem (rule_at words) g.best.point v.fit.best)).seated s l ∙ seat_put_same (λ u. seat_at words u) s (kept_seat (seat_at words s) g)

    kept_related : Related (kept_words words s g) t
    unfolding seat_at
    kept_related =
        related_seat words (kept_words words s g) t t.stations s (kept_seat (seat_at words s) g) r (kept_written words t.places t.limit t.scale r.opened s l g (in_range_by_lem (rule_at words) g.best.point v.fit.best))
        (kept_rows words t.places t.limit t.scale r.opened s l g) (least_since_lem words s l) (λ u n. refl)
        (subst (λ (x : Station). Says t r.tree r.queue (kept_seat (seat_at words s) g) x) (sym q) kept_busy) (rw q tt)

    kept_left : Left (kept_words words s g) t s m
    unfolding kept_works kept_related related_seat related_written
    kept_left = record {
      related = kept_related;
      left = subst (λ (x : Station). LeftSays t r.tree r.queue (seat_at (kept_words words s g) s) x m) (sym q)
          (subst (λ (z : Seat). LeftSays t r.tree r.queue z (unfinished i (nearest p) (some a)) m) (sym kept_seat_lem) (kept_works, sighted.1));
    }

    -- and nothing else moves
    kept_aside : Aside r kept_left.related s
    unfolding kept_related kept_left related_seat related_written seat_at
    kept_aside = record {
      tree = refl;
      queue = refl;
      others = λ u k n. (kept_written words t.places t.limit t.scale r.opened s l g (in_range_by_lem (rule_at words) g.best.point v.fit.best)).seated u k ∙ seat_put_other (λ z. seat_at words z) s u (kept_seat (seat_at words s) g) n;
    }

    -- it ends
    module _ (f : is_finished g ≡ true) where
      nearest_found : Nearest (choice_of (scale_at words) (call_at words s).point) (λ e. Memᴰ e entries) (view_of g).best
      nearest_found = search_finish r.tree r.store v.search f

      target_ranged : in_range_by t.scale.rule (call_at words s).point ≡ true
      unfolding seat_at
      target_ranged = ap (in_range_by t.scale.rule) busy.point ∙ busy.ranged

      scale_ranged : factors_in (scale_at words) ≡ true
      scale_ranged = ap factors_in scale_is ∙ (related_is_open r).factors

      found_ranged : answer_sound t.scale.rule (found_answer aim g.best) ≡ true
      found_ranged = found_sound aim g.best entries nearest_found t.scale.rule (ap (λ (c : Scale). c.rule) scale_is) scale_ranged target_ranged (rw (related_rule r) at v.fit.best) work.ranged

      -- the answer that was set down
      found_set : answer_of (found_answer aim g.best) ≡ a
      unfolding seat_at
      found_set =
          found_is aim g.best entries nearest_found work.once
          ∙ ap (λ (c : Scale). nearest_answer c (call_at words s).point (nearest_of c (call_at words s).point (map record_of entries))) scale_is
          ∙ ap (λ (x : Point). nearest_answer t.scale x (nearest_of t.scale x (map record_of entries))) busy.point ∙ sym work.answer

      -- no removal is numbered as high as none
      least_none : least_since words ≤ NONE
      least_none =
          omega (arith, least_removals words, r.counted.removals, removals_word r h)

      ended_waits : Waits t.scale.rule (answered_seat (seat_at words s) (found_answer aim g.best)) a
      ended_waits = record { state = refl; sound = found_ranged; answer = found_set; quiet = record { cursor = refl; phase = refl; since = refl; missed = refl } }

      ended_related : Related (answered_words words s (found_answer aim g.best)) (finished t s (nearest p) (some a))
      unfolding finished
      ended_related =
          let x : WordAnswer = found_answer aim g.best in
          related_seat words (answered_words words s x) t (put t.stations s (waiting a)) s (answered_seat (seat_at words s) x) r
          (answer_written words t.places t.limit t.scale r.opened s l x t.scale.rule found_ranged) (answer_rows words t.places t.limit t.scale r.opened s l x) least_none
          (λ u n. put_other t.stations s u (waiting a) n)
          (subst (λ (y : Station). Says t r.tree r.queue (answered_seat (seat_at words s) x) y) (sym (put_same t.stations s (waiting a))) ended_waits)
          (rw (put_same t.stations s (waiting a)) tt)

      -- no other search has more left
      ended_next : Next r s (answered_words words s (found_answer aim g.best)) (finished t s (nearest p) (some a))
      unfolding ended_related related_seat related_written
      ended_next =
          let w = answer_written words t.places t.limit t.scale r.opened s l (found_answer aim g.best) t.scale.rule found_ranged in
          record { related = ended_related; beside = beside_still r ended_related s refl refl w.counted (λ u k d. w.seated u k ∙ seat_put_other (λ z. seat_at words z) s u _ d) }

    -- what the step writes after its moves
    outcome_of : (n : ℕ) → (step_moves + m ≤ n) ⊎ (is_finished g ≡ true) → Outcome r s (nearest p) (some a) n (search_to words s aim g)
    unfolding search_words
    outcome_of n d =
        subst (λ (b : Bool). Outcome r s (nearest p) (some a) n (ask b 11 words (done (search_words words s aim g)))) (sym v.fit.sound) (go (is_finished g) refl d)
      where
        go : (b : Bool) → is_finished g ≡ b → (step_moves + m ≤ n) ⊎ (is_finished g ≡ true)
            → Outcome r s (nearest p) (some a) n (done (pick_words b (answered_words words s (found_answer aim g.best)) (kept_words words s g)))
        go true f d = ends refl (ended_next f)
        go false f (inl k) = goes_on refl m k kept_left kept_aside
        go false f (inr e) = absurd (false≢true (sym f ∙ e))

-- The step of an unfinished nearest call whose answer is set down: its moves, and then it is kept for the next step with less left, or ends with
-- that answer.
pub search_outcome : {words : List ℕ} {t : Table} {s i n : ℕ} {p : Point} {a : Answer} → Sound t → s < stations → t.stations s ≡ unfinished i (nearest p) (some a) → (r : Left words t s n)
    → Outcome r.related s (nearest p) (some a) n (search_of words (2 * t.places) s (call_at words s))
unfolding search_of seat_at progress_at
search_outcome {words} {t} {s} {i} {n} {p} {a} h l q r =
    let z : LeftSays t r.related.tree r.related.queue (seat_at words s) (unfinished i (nearest p) (some a)) n =
    subst (λ (x : Station). LeftSays t r.related.tree r.related.queue (seat_at words s) x n) q r.left in
    go z.0 z.1 (is_finished sought) refl
  where
    start : WordProgress
    start = progress_at words s (call_at words s)

    aimed : Aim
    aimed = aim_at words (call_at words s)

    sought : WordProgress
    sought = seek words (2 * t.places) aimed start

    go : (work : Searching t r.related.tree r.related.queue (seat_at words s) i p (some a)) → search_left work.search ≤ n → (b : Bool) → is_finished sought ≡ b
        → Outcome r.related s (nearest p) (some a) n (search_to words s aimed sought)
    go work few true e =
        let held : Entry → Type 0 = (λ d. Memᴰ d work.entries) in
        let v = seek_keeps r.related.store words r.related.reads r.related.covered aimed (track_at words s).since held start n (begins h l q r.related work n few) in
        outcome_of h l q r.related work sought n v n (inr e)
    go work few false e =
        let held : Entry → Type 0 = (λ d. Memᴰ d work.entries) in
        let x = seek_five r.related.store words r.related.reads r.related.covered aimed (track_at words s).since held start n e (begins h l q r.related work n few) in
        outcome_of h l q r.related work sought x.0 x.2 n (inl x.1)
