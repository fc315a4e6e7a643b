-- Opening: questions 1, 2, 20, 17 and 3 (Rules 7.3); it begins with "no record held, every row spare, every station idle and no change counted" (Rules 7.4).
use Rattle.std.specs.Prelude.{ℕ, zero, suc, ◌+◌, ◌*◌, ◌-◌, cond, List, length, leb, ltb}
use Rattle.words.specs.Refusal.{bad_places, bad_limit, short_slice, bad_factor, bad_rule}
use Rattle.points.specs.declared.scale.Scale.{Scale}
use Rattle.points.specs.Rule.{rule_in}
use Rattle.points.specs.Scale.{factors_in}
use Rattle.points.specs.Word.{NONE}
use Rattle.words.specs.Layout.{stations, words_for}
use Rattle.stations.specs.declared.counts.Counts.{Counts}
use Rattle.stations.specs.Common.{places_in, limit_in, records_cleared, put_opening}
use Rattle.stations.specs.Counts.{put_counts}
use Rattle.stations.specs.Track.{nowhere, put_track}
use Rattle.rows.specs.declared.row.Row.TheVariants.{Spare}
use Rattle.rows.specs.Row.{put_row}
use Rattle.calls.specs.Reply.{Reply, done, ask}

-- no call at the first n stations
unfoldable pub tracks_cleared : ℕ → List ℕ → List ℕ
tracks_cleared zero words = words
tracks_cleared (suc n) words = put_track (tracks_cleared n words) n nowhere

-- the first n of so many rows are spare, each linked to the next, the last to none
unfoldable pub rows_spare : ℕ → ℕ → List ℕ → List ℕ
rows_spare rows zero words = words
rows_spare rows (suc n) words = put_row (rows_spare rows n words) n (Spare (cond (ltb (n + 1) rows) (n + 1) NONE) 0)

-- nothing is counted, the tree is empty, and all the rows are in the queue
unfoldable pub new_counts : ℕ → Counts
new_counts places = record { changes = 0; held = 0; root = NONE; head = 0; tail = 2 * places - 1; removals = 0 }

-- mark, places, limit, scale and counts
unfoldable pub head_words : ℕ → ℕ → Scale → List ℕ → List ℕ
head_words places limit scale words = put_counts (put_opening words places limit scale) (new_counts places)

-- the words of a new history; words beyond stay
unfoldable pub opened_words : List ℕ → ℕ → ℕ → Scale → List ℕ
opened_words words places limit scale =
    rows_spare (2 * places) (2 * places) (tracks_cleared stations (head_words places limit scale (records_cleared words)))

unfoldable pub open_of : List ℕ → ℕ → ℕ → Scale → Reply
open_of words places limit scale =
    ask (places_in places) bad_places words
    (ask (limit_in limit) bad_limit words
    (ask (rule_in scale.rule) bad_rule words
    (ask (factors_in scale) bad_factor words (ask (leb (words_for places) (length words)) short_slice words (done (opened_words words places limit scale))))))

-- ---- for the code: the questions as one number (`open_settled` of `proofs/Questions` says that it is the same)

-- the first of questions 1, 2, 20, 17 and 3 that the opening fails, or 0
unfoldable pub open_question : List ℕ → ℕ → ℕ → Scale → ℕ
open_question words places limit scale =
    cond (places_in places)
    (cond (limit_in limit)
    (cond (rule_in scale.rule) (cond (factors_in scale) (cond (leb (words_for places) (length words)) 0 short_slice) bad_factor) bad_rule) bad_limit)
    bad_places
