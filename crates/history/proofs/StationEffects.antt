-- What the calls of one station write: a submission, a taking, an answer, a search and a walk that go on. Each leaves the counts, the rows and
-- the seats of the other stations.
use Prim.Native.Nat.{ℕ, ◌*◌, ◌<◌}
use mathlib.Core.Path.{◌≡◌, ap, ◌∙◌}
use mathlib.Core.Bool.{true, cond}
use mathlib.Core.List.{List}
use lib.Dec.{eqb}
use lib.ListN.{length}
use Rattle.points.specs.declared.point.Point.{Point}
use Rattle.points.specs.declared.scale.Scale.{Scale}
use Rattle.points.specs.Point.{in_range}
use Rattle.points.specs.Rule.{plain_rule}
use Rattle.points.proofs.NumberLaws.{in_range_by_lem}
use Rattle.points.specs.Word.{NONE}
use Rattle.words.specs.Layout.{stations}
use Rattle.words.specs.Agree.{in_common, in_station, AgreeIn, OnlyIn}
use Rattle.words.proofs.AgreeLaws.{only_trans, common_station, elsewhere}
use Rattle.stations.specs.declared.answer.Answer.{Answer}
use Rattle.stations.specs.declared.track.Track.{Track}
use Rattle.stations.specs.Common.{Opened, opened_in}
use Rattle.stations.specs.Counter.{counter_at}
use Rattle.stations.specs.Counts.{counts_at}
use Rattle.stations.specs.Station.{has_station, submitted, answered, emptied, state_at, put_state}
use Rattle.stations.specs.Target.{target_at}
use Rattle.stations.specs.Track.{nowhere, standing, track_at, put_track}
use Rattle.stations.specs.Call.{no_best, put_best, put_call}
use Rattle.stations.specs.Answer.{answer_sound, put_answer}
use Rattle.stations.proofs.OpeningLaws.{opened_station}
use Rattle.stations.proofs.StationLaws.{there_length, put_state_only, put_best_only, put_call_only, put_answer_only}
use Rattle.stations.proofs.CountLaws.{counts_agree}
use Rattle.stations.proofs.TrackLaws.{track_agree, track_back, put_track_only}
use Rattle.stations.proofs.TargetLaws.{target_at_agree}
use Rattle.stations.proofs.RecordLaws.{call_at_put_state, answer_at-put_state, state_at-put_best, answer_at-put_best, call_at_put_answer, answer_at-put_call}
use Rattle.stations.proofs.ReadBackLaws.{state_at-put_state_same, call_at_put_best, answer_at-put_answer_same, call_at_put_call_same}
use Rattle.stations.proofs.SoundLaws.{no_best_point, answer_tells}
use Rattle.stations.proofs.FieldLaws.{rule_put_track, target_put_track}
use Rattle.calls.specs.declared.progress.Progress.{Progress}
use Rattle.calls.specs.Answer.{let_go, answered_words}
use Rattle.calls.specs.Submit.{call_for, since_for, begun_track, begun_words, submitted_words}
use Rattle.calls.specs.Search.{kept_track, kept_words}
use Rattle.calls.specs.Walk.{walked_words}
use Rattle.history.specs.View.{seat_at, with_track, seat_put, SameRows, Written, answered_seat}
use Rattle.history.proofs.Frame.{seat_of, common_stations}
use Rattle.history.proofs.OwnEffects.{Own, own_trans, own_station, own_rows, own_written, own_track, own_aimed, aimed_only, rule_aimed, track_aimed, target_aimed}

module _ (words : List ℕ) (places limit : ℕ) (scale : Scale) (o : opened_in words ≡ Opened places limit scale) (s : ℕ) (l : s < stations) where
  here : has_station words s ≡ true
  here = opened_station words places limit scale o s l

  still : (v : List ℕ) → length v ≡ length words → has_station v s ≡ true
  still v e = there_length v words s e ∙ here

  -- submission: first the station's record, then its words in the common record
  module _ (kind : ℕ) (p : Point) (c : ℕ) where
    abbrev called : List ℕ
    called = put_call words s (call_for (counts_at words).changes kind p c)

    abbrev asked : List ℕ
    asked = put_state called s (submitted (state_at words s))

    asked_only : OnlyIn asked words (in_station s)
    asked_only = only_trans (put_state_only called s (submitted (state_at words s))) (put_call_only words s (call_for (counts_at words).changes kind p c))

    asked_common : AgreeIn asked words in_common
    asked_common = elsewhere (in_station s) in_common asked_only (common_station s)

    abbrev begun : List ℕ
    begun = put_track asked s (begun_track (counts_at asked) kind)

    begun_only : OnlyIn begun asked in_common
    begun_only = put_track_only asked s (begun_track (counts_at asked) kind)

    own_submit : Own (submitted_words words s kind p c) words s
    unfolding submitted_words begun_words
    own_submit = own_trans (own_aimed begun s kind p) (own_trans (own_track asked s (begun_track (counts_at asked) kind)) (own_station s asked_only))

    pub submit_written : in_range p ≡ true → Written words (submitted_words words s kind p c) (counts_at words) (counter_at words)
        (seat_put (λ u. seat_at words u) s
        (record {
          track = record { cursor = (counts_at words).root; phase = 0; since = since_for (counts_at words).removals kind; missed = NONE };
          target = cond (eqb kind 4) p (seat_at words s).target;
          state = 1;
          call = call_for (counts_at words).changes kind p c;
          answer = (seat_at words s).answer;
        }))
    unfolding submitted_words begun_words begun_track call_for seat_at
    submit_written r =
        let call = call_for (counts_at words).changes kind p c in
        let aim : target_at begun s ≡ target_at words s = target_put_track asked s (begun_track (counts_at asked) kind) s ∙ target_at_agree asked_common s in
        let reads = common_stations (rule_aimed begun s kind p ∙ rule_put_track asked s (begun_track (counts_at asked) kind)) (only_trans (aimed_only begun s kind p) begun_only) s in
        let there : has_station called s ≡ true = still called (put_call_only words s call).lengths in
        own_written (submitted_words words s kind p c) words s _ own_submit
        (seat_of (submitted_words words s kind p c) s _
        (track_aimed begun s kind p
        ∙ track_back asked s (begun_track (counts_at asked) kind) (still asked asked_only.lengths)
        ∙ ap (λ counts. begun_track counts kind) (counts_agree asked_common))
        (target_aimed begun s kind p (still begun (begun_only.lengths ∙ asked_only.lengths)) r ∙ ap (cond (eqb kind 4) p) aim)
        (ap (λ x. x.word) (reads.state ∙ state_at-put_state_same called s there (submitted (state_at words s))))
        (reads.call ∙ call_at_put_state called s (submitted (state_at words s)) ∙ call_at_put_call_same words s here call r (in_range_by_lem plain_rule no_best.point (no_best_point plain_rule)))
        (reads.answer ∙ answer_at-put_state called s (submitted (state_at words s)) ∙ answer_at-put_call words s call))

    pub submit_rows : SameRows words (submitted_words words s kind p c) (2 * places)
    submit_rows = own_rows own_submit (2 * places)

  -- taking
  abbrev empty : List ℕ
  empty = put_state words s (emptied (state_at words s))

  own_take : Own empty words s
  own_take = own_station s (put_state_only words s (emptied (state_at words s)))

  pub take_written : Written words empty (counts_at words) (counter_at words)
      (seat_put (λ u. seat_at words u) s
      (record { track = (seat_at words s).track; target = (seat_at words s).target; state = 0; call = (seat_at words s).call; answer = (seat_at words s).answer }))
  unfolding seat_at
  take_written =
      let common : AgreeIn empty words in_common = elsewhere (in_station s) in_common (put_state_only words s (emptied (state_at words s))) (common_station s) in
      own_written empty words s _ own_take
      (seat_of empty s _ (track_agree common s) (target_at_agree common s) (ap (λ x. x.word) (state_at-put_state_same words s here (emptied (state_at words s))))
      (call_at_put_state words s (emptied (state_at words s)))
      (answer_at-put_state words s (emptied (state_at words s))))

  pub take_rows : SameRows words empty (2 * places)
  take_rows = own_rows own_take (2 * places)

  -- an answer
  module _ (a : Answer) where
    abbrev told : List ℕ
    told = put_answer words s a

    abbrev waits : List ℕ
    waits = put_state told s (answered (state_at words s))

    waits_only : OnlyIn waits words (in_station s)
    waits_only = only_trans (put_state_only told s (answered (state_at words s))) (put_answer_only words s a)

    own_answer : Own (answered_words words s a) words s
    unfolding answered_words let_go
    own_answer = own_trans (own_track waits s nowhere) (own_station s waits_only)

    pub answer_written : (rule : ℕ) → answer_sound rule a ≡ true → Written words (answered_words words s a) (counts_at words) (counter_at words)
        (seat_put (λ u. seat_at words u) s (answered_seat (seat_at words s) a))
    unfolding answered_words let_go seat_at
    answer_written rule e =
        let common : AgreeIn waits words in_common = elsewhere (in_station s) in_common waits_only (common_station s) in
        let reads = common_stations (rule_put_track waits s nowhere) (put_track_only waits s nowhere) s in
        let there : has_station told s ≡ true = still told (put_answer_only words s a).lengths in
        own_written (answered_words words s a) words s _ own_answer
        (seat_of (answered_words words s a) s _ (track_back waits s nowhere (still waits waits_only.lengths)) (target_put_track waits s nowhere s ∙ target_at_agree common s)
        (ap (λ x. x.word) (reads.state ∙ state_at-put_state_same told s there (answered (state_at words s))))
        (reads.call ∙ call_at_put_state told s (answered (state_at words s)) ∙ call_at_put_answer words s a)
        (reads.answer ∙ answer_at-put_state told s (answered (state_at words s)) ∙ answer_at-put_answer_same words s here a (in_range_by_lem rule a.point (answer_tells rule a e).point)))

    pub answer_rows : SameRows words (answered_words words s a) (2 * places)
    answer_rows = own_rows own_answer (2 * places)

  -- a search goes on
  module _ (p : Progress) where
    abbrev chosen : List ℕ
    chosen = put_best words s p.best

    abbrev kept : Track
    kept = kept_track p (track_at words s)

    own_kept : Own (kept_words words s p) words s
    unfolding kept_words
    own_kept = own_trans (own_track chosen s kept) (own_station s (put_best_only words s p.best))

    pub kept_written : in_range p.best.point ≡ true → Written words (kept_words words s p) (counts_at words) (counter_at words)
        (seat_put (λ u. seat_at words u) s
        (record {
          track = record { cursor = p.cursor; phase = p.phase; since = (seat_at words s).track.since; missed = p.missed };
          target = (seat_at words s).target;
          state = (seat_at words s).state;
          call = record { kind = (seat_at words s).call.kind; point = (seat_at words s).call.point; curve = (seat_at words s).call.curve; asof = (seat_at words s).call.asof; best = p.best };
          answer = (seat_at words s).answer;
        }))
    unfolding kept_words kept_track seat_at
    kept_written e =
        let only = put_best_only words s p.best in
        let common : AgreeIn chosen words in_common = elsewhere (in_station s) in_common only (common_station s) in
        let reads = common_stations (rule_put_track chosen s kept) (put_track_only chosen s kept) s in
        own_written (kept_words words s p) words s _ own_kept
        (seat_of (kept_words words s p) s _ (track_back chosen s kept (still chosen only.lengths)) (target_put_track chosen s kept s ∙ target_at_agree common s)
        (ap (λ x. x.word) (reads.state ∙ state_at-put_best words s p.best))
        (reads.call ∙ call_at_put_best words s here p.best e)
        (reads.answer ∙ answer_at-put_best words s p.best))

    pub kept_rows : SameRows words (kept_words words s p) (2 * places)
    kept_rows = own_rows own_kept (2 * places)

  -- a walk goes on
  module _ (to : ℕ) where
    abbrev stands : Track
    stands = standing to 0 (track_at words s)

    pub walk_written : Written words (walked_words words s to) (counts_at words) (counter_at words) (seat_put (λ u. seat_at words u) s (with_track (seat_at words s) (standing to 0 (seat_at words s).track)))
    unfolding walked_words seat_at
    walk_written =
        let reads = common_stations (rule_put_track words s stands) (put_track_only words s stands) s in
        own_written (walked_words words s to) words s _ (own_track words s stands)
        (seat_of (walked_words words s to) s _ (track_back words s stands here) (target_put_track words s stands s) (ap (λ x. x.word) reads.state) reads.call reads.answer)

    pub walk_rows : SameRows words (walked_words words s to) (2 * places)
    unfolding walked_words
    walk_rows = own_rows (own_track words s stands) (2 * places)
