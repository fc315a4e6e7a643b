-- The questions of each call, in the order of Rules 7, each with its number; and the first that is answered no (Rules 7.1).
use Rattle.std.specs.Prelude.{ℕ, Bool, true, false, List, [], ◌∷◌, leb, ltb, length}
use Rattle.points.specs.declared.point.Point.{Point}
use Rattle.points.specs.declared.scale.Scale.{Scale}
use Rattle.points.specs.Number.{in_range_by}
use Rattle.points.specs.Rule.{rule_in}
use Rattle.words.specs.Rule.{rule_at}
use Rattle.points.specs.Scale.{factors_in}
use Rattle.words.specs.Layout.{words_for, stations}
use Rattle.stations.specs.Common.{places_in, limit_in, opened_in, is_opened}
use Rattle.stations.specs.Station.{is_idle, is_unfinished, state_at}
use Rattle.stations.specs.Call.{kind_in}
use Rattle.stations.specs.Answer.{waiting_at}
use Rattle.calls.specs.Submit.{curve_fits}
use Rattle.calls.specs.Step.{records_sound}
use Rattle.calls.specs.Needs.{rows_sound}
use Rattle.calls.specs.Run.{is_given}

-- a question: whether it is answered yes, and its number
pub record Question : Type 0 where
  pub yes : Bool
  pub number : ℕ

abbrev pub asked : Bool → ℕ → Question
asked passes number = record { yes = passes; number = number }

abbrev pub or_else : Bool → ℕ → ℕ → ℕ
or_else true number rest = rest
or_else false number rest = number

-- the number of the first question that is answered no; 0 where all are answered yes
unfoldable pub first_no : List Question → ℕ
first_no [] = 0
first_no (q ∷ qs) = or_else q.yes q.number (first_no qs)

-- opening (Rules 7.3)
abbrev pub open_questions : List ℕ → ℕ → ℕ → Scale → List Question
open_questions words places limit scale =
    asked (places_in places) 1 ∷ (asked (limit_in limit) 2 ∷ (asked (rule_in scale.rule) 20 ∷ (asked (factors_in scale) 17 ∷ (asked (leb (words_for places) (length words)) 3 ∷ []))))

-- every other call that names a station (Rules 7.5, 7.6)
abbrev pub station_questions : List ℕ → ℕ → List Question → List Question
station_questions words s rest = asked (is_opened (opened_in words)) 4 ∷ (asked (ltb s stations) 5 ∷ rest)

-- submission (Rules 7.7)
abbrev pub submit_questions : List ℕ → ℕ → ℕ → Point → ℕ → List Question
submit_questions words s kind p c =
    station_questions words s (asked (is_idle (state_at words s)) 6 ∷ (asked (kind_in kind) 7 ∷ (asked (in_range_by (rule_at words) p) 8 ∷ (asked (curve_fits kind c) 9 ∷ []))))

-- step (Rules 7.8): question 11 is asked first of the two records, then of the rows that the step needs (Rules 7.11 to 7.15)
abbrev pub step_questions : List ℕ → ℕ → List Question
step_questions words s =
    station_questions words s
    (asked (is_unfinished (state_at words s)) 10 ∷ (asked (records_sound words s) 11 ∷ (asked (rows_sound words s) 11 ∷ [])))

-- withdrawal (Rules 7.9): 11 of the two records alone, since it needs no row
abbrev pub withdraw_questions : List ℕ → ℕ → List Question
withdraw_questions words s = station_questions words s (asked (is_unfinished (state_at words s)) 10 ∷ (asked (records_sound words s) 11 ∷ []))

-- taking (Rules 7.17)
abbrev pub take_questions : List ℕ → ℕ → List Question
take_questions words s = station_questions words s (asked (is_given (waiting_at words s)) 12 ∷ [])

-- a report and an audit name no station: question 4, of the slice alone (Rules 7.5)
abbrev pub slice_questions : List ℕ → List Question
slice_questions words = asked (is_opened (opened_in words)) 4 ∷ []
