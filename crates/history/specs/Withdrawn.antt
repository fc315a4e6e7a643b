-- What a withdrawal that is accepted leaves (Rules 2.9, 2.10).
use Rattle.std.specs.Prelude.{ℕ, ◌≡◌, Bool, false, ◌&&◌, List, eqb, length}
use Rattle.std.proofs.Math.Option.{some}
use Rattle.stations.specs.Track.{track_at}
use Rattle.points.specs.Word.{NONE}
use Rattle.stations.specs.Station.{is_unfinished, state_at}
use Rattle.stations.specs.Call.{call_at}
use Rattle.table.specs.Call.{answer}
use Rattle.calls.specs.Take.{take_of}
use Rattle.calls.specs.Report.{report_of, places_told}
use Rattle.calls.specs.Held.{held_in}
use Rattle.calls.specs.Withdraw.{withdraw_of}
use Rattle.history.specs.Index.{given_by}

-- the station has an unfinished nearest
abbrev pub is_searching : List ℕ → ℕ → Bool
is_searching words s = is_unfinished (state_at words s) && eqb (call_at words s).kind 4

pub record Withdrawn (words : List ℕ) (s : ℕ) : Type 0 where
  pub accepted : (withdraw_of words s).number ≡ 0
  -- a taking would give 11 with the point of the call, curve 0 and square 0
  pub gives : given_by (take_of (withdraw_of words s).words s) ≡ some (answer 11 (call_at words s).point 0 0)
  -- the station's since word, from which on removals keep their places, is none
  pub since : (track_at (withdraw_of words s).words s).since ≡ NONE
  -- where no other station has an unfinished nearest, the places taken are the records held
  pub alone : ((u : ℕ) → ¬ (u ≡ s) → is_searching words u ≡ false)
      → places_told (report_of (withdraw_of words s).words) ≡ length (held_in (withdraw_of words s).words)
