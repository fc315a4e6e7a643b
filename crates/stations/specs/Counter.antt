-- The counter of a station in the common record: the changes that the station has made since opening (Rules 3.2).
use Rattle.std.specs.Prelude.{ℕ, zero, suc, max, cond, List}
use Rattle.words.specs.Layout.{at_counter}
use Rattle.words.specs.Words.{get, put, more}
use Rattle.stations.specs.Station.{has_station}

-- the counter of station s; 0 where there is no such station
unfoldable pub counter_at : List ℕ → ℕ → ℕ
counter_at words s = cond (has_station words s) (get words (at_counter s)) 0

-- the greatest counter of the first n stations
unfoldable pub greatest_counter : List ℕ → ℕ → ℕ
greatest_counter words zero = 0
greatest_counter words (suc n) = max (greatest_counter words n) (counter_at words n)

-- the words with one more change counted for station s
unfoldable pub change_counted : List ℕ → ℕ → List ℕ
change_counted words s = cond (has_station words s) (put words (at_counter s) (more (get words (at_counter s)))) words
