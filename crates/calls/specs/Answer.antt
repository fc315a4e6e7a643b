-- An answer is written: it waits at the station, whose call stands nowhere in the tree any more and holds no place back.
use Rattle.std.specs.Prelude.{ℕ, List}
use Rattle.points.specs.declared.point.Point.{Point}
use Rattle.stations.specs.declared.answer.Answer.{Answer}
use Rattle.stations.specs.Station.{answered, state_at, put_state}
use Rattle.stations.specs.Track.{nowhere, put_track}
use Rattle.stations.specs.Answer.{put_answer}

-- an answer by its four parts
abbrev pub answer : ℕ → Point → ℕ → ℕ → Answer
answer code point curve square = record { code = code; point = point; curve = curve; square = square }

-- the call of station s stands nowhere
unfoldable pub let_go : List ℕ → ℕ → List ℕ
let_go words s = put_track words s nowhere

-- the answer waits at station s
unfoldable pub answered_words : List ℕ → ℕ → Answer → List ℕ
answered_words words s a = let_go (put_state (put_answer words s a) s (answered (state_at words s))) s
