-- A taking: questions 4, 5 and 12 (Rules 7.17). It writes one word.
use Rattle.std.specs.Prelude.{ℕ, cond, List, ltb, Option, None, Some, Result, Ok, Err}
use Rattle.words.specs.Layout.{stations}
use Rattle.stations.specs.Common.{opened_in, is_opened}
use Rattle.stations.specs.Station.{emptied, state_at, put_state}
use Rattle.stations.specs.Answer.{waiting_at}
use Rattle.stations.specs.declared.answer.Answer.{Answer}
use Rattle.words.specs.declared.refusal.Refusal.{Refusal}
use Rattle.words.specs.declared.refusal.Refusal.TheVariants.{NothingWaits, NoStation, NotOpened}

-- what a taking by a station with this waiting gives
abbrev pub taking_of : Option Answer → Result Answer Refusal
taking_of None = Err NothingWaits
taking_of (Some a) = Ok a

-- question 5, then 12
abbrev pub station_taking : List ℕ → ℕ → Result Answer Refusal
station_taking words s = cond (ltb s stations) (taking_of (waiting_at words s)) (Err NoStation)

-- the first question that fails, or the answer
unfoldable pub take_of : List ℕ → ℕ → Result Answer Refusal
take_of words s = cond (is_opened (opened_in words)) (station_taking words s) (Err NotOpened)

-- a taking "leaves the station idle" (Rules 2.3); a refusal leaves every word (Rules 7.2)
abbrev pub emptied_words : List ℕ → ℕ → Result Answer Refusal → List ℕ
emptied_words words s (Err refusal) = words
emptied_words words s (Ok a) = put_state words s (emptied (state_at words s))

unfoldable pub take_words : List ℕ → ℕ → List ℕ
take_words words s = emptied_words words s (take_of words s)
