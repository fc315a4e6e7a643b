-- All that is read of a region, and that it is the same in slices that agree there (`reads_agree`) and after any write to another
-- region (`reads_unseen`): for every pair of common record, stations and rows.
-- Assumes nothing.
use mathlib.Core.Path.{◌≡◌}
use mathlib.Core.Bool.{Bool}
use mathlib.Core.List.{List}
use Prim.Native.Nat.{ℕ, ◌<◌}
use Rattle.words.specs.Agree.{Region, in_common, in_station, in_row, AgreeIn, OnlyIn}
use Rattle.words.specs.Rule.{rule_at}
use Rattle.rows.specs.Row.{row_at}
use Rattle.rows.specs.Grades.{admits}
use Rattle.stations.specs.Common.{opened_in, common_sound, taken_in}
use Rattle.stations.specs.Station.{state_at}
use Rattle.stations.specs.Call.{call_at}
use Rattle.stations.specs.Answer.{answer_at, waiting_at}
use Rattle.words.proofs.AgreeLaws.{elsewhere}
use Rattle.rows.proofs.RowLaws.{row_at_agree}
use Rattle.rows.proofs.GradeLaws.{admits_agree}
use Rattle.stations.proofs.OpeningLaws.{opened_in_agree}
use Rattle.stations.proofs.CommonLaws.{common_sound_agree}
use Rattle.stations.proofs.TakenLaws.{taken_in_agree}
use Rattle.stations.proofs.RecordLaws.{state_at_agree, call_at_agree, answer_at_agree, waiting_at_agree}

-- what is read of the common record is the same
pub record CommonReads (v w : List ℕ) : Type 0 where
  pub opened : opened_in v ≡ opened_in w
  pub sound : (rows : ℕ) → common_sound v rows ≡ common_sound w rows
  pub taken : taken_in v ≡ taken_in w

-- of a station
pub record StationReads (v w : List ℕ) (s : ℕ) : Type 0 where
  pub state : state_at v s ≡ state_at w s
  pub call : call_at v s ≡ call_at w s
  pub answer : answer_at v s ≡ answer_at w s
  pub waiting : waiting_at v s ≡ waiting_at w s

-- of a row: its fields, and the grades of its two sides
pub record RowReads (v w : List ℕ) (r : ℕ) : Type 0 where
  pub row : (rows : ℕ) → row_at v rows r ≡ row_at w rows r
  pub grades : (side : Bool) (k : ℕ) → k < 128 → admits v r side k ≡ admits w r side k

-- of a region
abbrev pub Reads : List ℕ → List ℕ → Region → Type 0
Reads v w in_common = CommonReads v w
Reads v w (in_station s) = StationReads v w s
Reads v w (in_row r) = RowReads v w r

-- slices of one rule that agree on a region read the same there
pub reads_agree : {v w : List ℕ} (x : Region) → rule_at v ≡ rule_at w → AgreeIn v w x → Reads v w x
reads_agree in_common e g = record { opened = opened_in_agree g; sound = common_sound_agree g; taken = taken_in_agree g }
reads_agree (in_station s) e g = record {
  state = state_at_agree s g;
  call = call_at_agree s g;
  answer = answer_at_agree s g;
  waiting = waiting_at_agree s e g;
}
reads_agree (in_row r) e g = record { row = λ rows. row_at_agree rows r e g; grades = λ side k h. admits_agree r side k h g }

-- what is written in one region is not read in another, where the rule is as it was, which no write outside of the common record changes (`rule_unseen`)
pub reads_unseen : {v w : List ℕ} (x y : Region) → rule_at v ≡ rule_at w → OnlyIn v w x → ¬ (y ≡ x) → Reads v w y
reads_unseen x y e g n = reads_agree y e (elsewhere x y g n)
