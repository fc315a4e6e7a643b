-- Submission: questions 4 to 9 (Rules 7.7). It reads and writes the common record and the station's alone (Rules 5.1).
use Rattle.std.specs.Prelude.{ℕ, Bool, cond, ◌||◌, not, List, eqb, ltb}
use Rattle.words.specs.Layout.{stations}
use Rattle.words.specs.Rule.{rule_at}
use Rattle.words.specs.Refusal.{not_opened, no_station, not_idle, no_kind, bad_point, bad_curve}
use Rattle.points.specs.declared.point.Point.{Point}
use Rattle.points.specs.Number.{in_range_by}
use Rattle.points.specs.Word.{NONE}
use Rattle.stations.specs.declared.counts.Counts.{Counts}
use Rattle.stations.specs.declared.track.Track.{Track}
use Rattle.stations.specs.declared.call.Call.{Call}
use Rattle.words.specs.Range.{curve_in}
use Rattle.stations.specs.Common.{opened_in, is_opened}
use Rattle.stations.specs.Counts.{counts_at}
use Rattle.stations.specs.Track.{put_track}
use Rattle.stations.specs.Station.{is_idle, submitted, state_at, put_state}
use Rattle.stations.specs.Target.{put_target}
use Rattle.stations.specs.Call.{no_best, put_call, add_kind, nearest_kind, kind_in}
use Rattle.calls.specs.Reply.{Reply, done, ask}

-- question 9: for an add the curve is in range; "other kinds disregard the curve" (Rules 7.7)
abbrev pub curve_fits : ℕ → ℕ → Bool
curve_fits kind curve = not (eqb kind add_kind) || curve_in curve

-- the call as it is kept: the changes at its submission, and no best yet
unfoldable pub call_for : ℕ → ℕ → Point → ℕ → Call
call_for changes kind point curve = record { kind = kind; point = point; curve = cond (eqb kind add_kind) curve 0; asof = changes; best = no_best }

-- since: the removals at the submission of a nearest, none for another call
abbrev pub since_for : ℕ → ℕ → ℕ
since_for removals kind = cond (eqb kind nearest_kind) removals NONE

-- the call stands at the root and goes down; nothing is missed
unfoldable pub begun_track : Counts → ℕ → Track
begun_track counts kind = record { cursor = counts.root; phase = 0; since = since_for counts.removals kind; missed = NONE }

unfoldable pub begun_words : List ℕ → ℕ → ℕ → List ℕ
begun_words words s kind = put_track words s (begun_track (counts_at words) kind)

-- the target of a nearest, for the steps that take leaves from the tree meanwhile; another call leaves it
unfoldable pub aimed_words : List ℕ → ℕ → ℕ → Point → List ℕ
aimed_words words s kind point = cond (eqb kind nearest_kind) (put_target words s point) words

unfoldable pub submitted_words : List ℕ → ℕ → ℕ → Point → ℕ → List ℕ
submitted_words words s kind point curve =
    aimed_words (begun_words (put_state (put_call words s (call_for (counts_at words).changes kind point curve)) s (submitted (state_at words s))) s kind) s kind point

unfoldable pub submit_of : List ℕ → ℕ → ℕ → Point → ℕ → Reply
submit_of words s kind point curve =
    ask (is_opened (opened_in words)) not_opened words
    (ask (ltb s stations) no_station words
    (ask (is_idle (state_at words s)) not_idle words
    (ask (kind_in kind) no_kind words
    (ask (in_range_by (rule_at words) point) bad_point words (ask (curve_fits kind curve) bad_curve words (done (submitted_words words s kind point curve)))))))

-- ---- for the code: the questions as one number (`submit_settled` of `proofs/Questions` says that it is the same)

-- the first of questions 7 to 9 that the call fails under the rule, or 0
unfoldable pub call_question : ℕ → ℕ → Point → ℕ → ℕ
call_question rule kind point curve = cond (kind_in kind) (cond (in_range_by rule point) (cond (curve_fits kind curve) 0 bad_curve) bad_point) no_kind

-- the first of questions 4 to 9 that the submission fails, or 0
unfoldable pub submit_question : List ℕ → ℕ → ℕ → Point → ℕ → ℕ
submit_question words s kind point curve =
    cond (is_opened (opened_in words)) (cond (ltb s stations) (cond (is_idle (state_at words s)) (call_question (rule_at words) kind point curve) not_idle) no_station) not_opened
