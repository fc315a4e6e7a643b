-- The work of one step of a nearest call: five moves, or a look and three where a row was missed, and an answer where nothing is left. What it asks of
-- rows is Rules 7.15.
use Rattle.std.specs.Prelude.{ℕ, Bool, true, false, cond, ◌&&◌, List, eqb}
use Rattle.stations.specs.Answer.{code_none, code_nearest}
use Rattle.words.specs.Refusal.{unsound}
use Rattle.points.specs.Square.{square_of}
use Rattle.points.specs.Word.{NONE}
use Rattle.stations.specs.declared.call.Best.{Best}
use Rattle.stations.specs.declared.call.Call.{Call}
use Rattle.stations.specs.declared.answer.Answer.{Answer}
use Rattle.rows.specs.Grades.{slot_of}
use Rattle.stations.specs.declared.track.Track.{Track}
use Rattle.stations.specs.Scale.{scale_at}
use Rattle.stations.specs.Track.{track_at, put_track}
use Rattle.stations.specs.Call.{put_best}
use Rattle.calls.specs.declared.aim.Aim.{Aim}
use Rattle.calls.specs.declared.progress.Progress.{Progress}
use Rattle.calls.specs.Reply.{Reply, done, ask}
use Rattle.calls.specs.Answer.{answer, answered_words}
use Rattle.calls.specs.Look.{look}
use Rattle.calls.specs.Tour.{toured}

-- the moves of a step: five where no row was missed, else three, after the look
abbrev pub tours_of : ℕ → ℕ
tours_of missed = cond (eqb missed NONE) 5 3

unfoldable pub seek : List ℕ → ℕ → Aim → Progress → Progress
seek words rows aim p = toured words rows (slot_of aim.point) aim (tours_of p.missed) (look words rows aim p)

-- what a call looks for, by the factors of the opening
abbrev pub aim_at : List ℕ → Call → Aim
aim_at words call = record { point = call.point; asof = call.asof; scale = scale_at words }

-- where the search of station s stands
unfoldable pub progress_at : List ℕ → ℕ → Call → Progress
progress_at words s call =
    record { cursor = (track_at words s).cursor; phase = (track_at words s).phase; missed = (track_at words s).missed; best = call.best; sound = true }

-- nothing is left to look at
abbrev pub is_finished : Progress → Bool
is_finished p = eqb p.cursor NONE && eqb p.missed NONE

-- 8 with the best and its square, or 9 (Rules 2.8)
unfoldable pub found_answer : Aim → Best → Answer
found_answer aim best =
    cond (eqb best.curve 0) (answer code_none aim.point 0 0)
    (answer code_nearest best.point best.curve (square_of aim.scale aim.point best.point))

-- the search is kept for its next step
unfoldable pub kept_track : Progress → Track → Track
kept_track p track = record { cursor = p.cursor; phase = p.phase; since = track.since; missed = p.missed }

unfoldable pub kept_words : List ℕ → ℕ → Progress → List ℕ
kept_words words s p = put_track (put_best words s p.best) s (kept_track p (track_at words s))

abbrev pub pick_words : Bool → List ℕ → List ℕ → List ℕ
pick_words true x y = x
pick_words false x y = y

unfoldable pub search_words : List ℕ → ℕ → Aim → Progress → List ℕ
search_words words s aim p = pick_words (is_finished p) (answered_words words s (found_answer aim p.best)) (kept_words words s p)

abbrev pub search_to : List ℕ → ℕ → Aim → Progress → Reply
search_to words s aim p = ask p.sound unsound words (done (search_words words s aim p))

unfoldable pub search_of : List ℕ → ℕ → ℕ → Call → Reply
search_of words rows s call = search_to words s (aim_at words call) (seek words rows (aim_at words call) (progress_at words s call))
