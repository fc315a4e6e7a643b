-- The common record: question 4, the ranges of its fields, and the places taken.
use Rattle.std.specs.Prelude.{ℕ, zero, suc, ◌+◌, ◌-◌, ◌*◌, min, List, Bool, true, false, cond, ◌&&◌, ◌||◌, length, eqb, leb, ltb}
use Rattle.points.specs.declared.scale.Scale.{Scale}
use Rattle.points.specs.Rule.{rule_in}
use Rattle.points.specs.Scale.{factors_in}
use Rattle.points.specs.Word.{NONE}
use Rattle.words.specs.Layout.{stations, records, most_places, most_limit, words_for, at_mark, at_places, at_limit}
use Rattle.words.specs.Words.{get, put}
use Rattle.words.specs.Range.{link_in}
use Rattle.stations.specs.declared.track.Track.{Track}
use Rattle.stations.specs.Counts.{counts_at}
use Rattle.stations.specs.Scale.{scale_at, put_scale}
use Rattle.stations.specs.Counter.{greatest_counter}
use Rattle.stations.specs.Track.{track_at}

-- ---- question 4

-- the mark that opening writes
abbrev pub mark : ℕ
mark = 1279683401

-- places 1 to 4,096
unfoldable pub places_in : ℕ → Bool
places_in places = leb 1 places && leb places most_places

-- change limit 1 to 500,000,000
unfoldable pub limit_in : ℕ → Bool
limit_in limit = leb 1 limit && leb limit most_limit

-- the first word, and the places and the change limit of the opening
unfoldable pub mark_at : List ℕ → ℕ
mark_at words = get words at_mark

unfoldable pub places_at : List ℕ → ℕ
places_at words = get words at_places

unfoldable pub limit_at : List ℕ → ℕ
limit_at words = get words at_limit

-- Rules 7.1, question 4: "Are the mark that opening writes, places, limit, rule and factors in range, and length enough for them all there?"
unfoldable pub open_in : ℕ → ℕ → ℕ → Scale → ℕ → Bool
open_in first places limit scale size =
    ((((eqb first mark && places_in places) && limit_in limit) && rule_in scale.rule) && factors_in scale) && leb (words_for places) size

-- what question 4 says of a slice: the refusal, or its places, limit and scale
pub data Opening : Type 0 where
  Refused : Opening
  Opened : ℕ → ℕ → Scale → Opening

unfoldable pub opened_in : List ℕ → Opening
opened_in words =
    cond (open_in (mark_at words) (places_at words) (limit_at words) (scale_at words) (length words)) (Opened (places_at words) (limit_at words) (scale_at words)) Refused

-- question 4, as a test
abbrev pub is_opened : Opening → Bool
is_opened Refused = false
is_opened (Opened places limit scale) = true

-- the rows of an opened slice, twice its places; none where the places are out of range
unfoldable pub rows_in : List ℕ → ℕ
rows_in words = cond (leb (places_at words) most_places) (2 * places_at words) 0

-- ---- what opening writes of the records

-- zero in the first n words
unfoldable pub cleared : ℕ → List ℕ → List ℕ
cleared zero words = words
cleared (suc n) words = put (cleared n words) n 0

-- zero in every word of the common record and of the stations
unfoldable pub records_cleared : List ℕ → List ℕ
records_cleared words = cleared records words

-- mark, places, limit and scale
unfoldable pub put_opening : List ℕ → ℕ → ℕ → Scale → List ℕ
put_opening words places limit scale = put_scale (put (put (put words at_mark mark) at_places places) at_limit limit) scale

-- ---- the ranges of the fields (Rules 7.10)

-- no counter is above the limit
unfoldable pub counters_in : List ℕ → Bool
counters_in words = leb (greatest_counter words stations) (limit_at words)

-- counts, root, head and tail are in range; the changes are those of eight stations
unfoldable pub counts_in : List ℕ → ℕ → Bool
counts_in words rows =
    ((((leb (counts_at words).changes (stations * limit_at words) && leb (counts_at words).held (places_at words))
    && leb (counts_at words).removals (counts_at words).changes)
    && link_in rows (counts_at words).root)
    && ltb (counts_at words).head rows)
    && ltb (counts_at words).tail rows

-- a since word: none, or at most the removals
unfoldable pub since_in : ℕ → ℕ → Bool
since_in removals x = eqb x NONE || leb x removals

-- a track: cursor and missed row are links, the phase 0 or 1
unfoldable pub track_in : ℕ → ℕ → Track → Bool
track_in rows removals track = ((link_in rows track.cursor && leb track.phase 1) && since_in removals track.since) && link_in rows track.missed

-- a test passes for each of the eight stations
abbrev pub eight : (ℕ → Bool) → Bool
eight test = ((((((test 0 && test 1) && test 2) && test 3) && test 4) && test 5) && test 6) && test 7

-- the eight tracks are in range
unfoldable pub tracks_in : List ℕ → ℕ → ℕ → Bool
tracks_in words rows removals = eight (λ s. track_in rows removals (track_at words s))

-- the records are there, and every field of the common record is in range, for an index of so many rows
unfoldable pub common_sound : List ℕ → ℕ → Bool
common_sound words rows = cond (leb records (length words)) ((counts_in words rows && counters_in words) && tracks_in words rows (counts_at words).removals) false

-- ---- places taken

-- the least of a number and the since words of four stations from s on
unfoldable pub least_four : List ℕ → ℕ → ℕ → ℕ
least_four words s n = min (min (min (min n (track_at words s).since) (track_at words (s + 1)).since) (track_at words (s + 2)).since) (track_at words (s + 3)).since

-- the least of the removals and the eight since words
unfoldable pub least_since : List ℕ → ℕ
least_since words = least_four words 4 (least_four words 0 (counts_at words).removals)

-- the removals that an unfinished nearest still holds back
unfoldable pub awaiting_in : List ℕ → ℕ
awaiting_in words = (counts_at words).removals - least_since words

-- places taken (Rules 3.6): the records held, and the removals that still hold their place
unfoldable pub taken_in : List ℕ → ℕ
taken_in words = (counts_at words).held + awaiting_in words
