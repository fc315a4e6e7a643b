-- The track of a station's call in the common record: where the call stands in the tree (cursor and phase), the removals at its submission (since), and the
-- first removed record that its search has missed.
use Rattle.std.specs.Prelude.{ℕ, cond, List}
use Rattle.points.specs.Word.{NONE}
use Rattle.words.specs.Layout.{at_cursor, at_phase, at_since, at_missed}
use Rattle.words.specs.Words.{get, put}
use Rattle.stations.specs.declared.track.Track.{Track}
use Rattle.stations.specs.Station.{has_station}

-- no call stands anywhere, and no place is held back
abbrev pub nowhere : Track
nowhere = record { cursor = NONE; phase = 0; since = NONE; missed = NONE }

-- the track of station s; nowhere where there is no such station
unfoldable pub track_at : List ℕ → ℕ → Track
track_at words s =
    cond (has_station words s)
    (record { cursor = get words (at_cursor s); phase = get words (at_phase s); since = get words (at_since s); missed = get words (at_missed s) })
    nowhere

-- the words with that track written
unfoldable pub put_track : List ℕ → ℕ → Track → List ℕ
put_track words s track =
    cond (has_station words s)
    (put (put (put (put words (at_cursor s) track.cursor) (at_phase s) track.phase) (at_since s) track.since) (at_missed s) track.missed)
    words

-- a track with another cursor and phase
abbrev pub standing : ℕ → ℕ → Track → Track
standing cursor phase track = record { cursor = cursor; phase = phase; since = track.since; missed = track.missed }
