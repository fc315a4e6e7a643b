-- A step: questions 4, 5, 10 and 11 (Rules 7.8). All that it needs is read and checked before anything is written (Rules 8.1).
use Rattle.std.specs.Prelude.{ℕ, Bool, cond, ◌&&◌, List, eqb, ltb}
use Rattle.words.specs.Layout.{stations}
use Rattle.words.specs.Rule.{rule_at}
use Rattle.words.specs.Refusal.{not_opened, no_station, not_unfinished, unsound}
use Rattle.stations.specs.Counts.{counts_at}
use Rattle.stations.specs.declared.call.Call.{Call}
use Rattle.stations.specs.Common.{opened_in, common_sound, is_opened, rows_in}
use Rattle.stations.specs.Station.{is_unfinished, state_at}
use Rattle.stations.specs.Call.{call_at, call_sound, nearest_kind}
use Rattle.calls.specs.Reply.{Reply, pick_reply, ask}
use Rattle.calls.specs.Search.{search_of}
use Rattle.calls.specs.Walk.{walk_of}

-- the fields of the common record and of the station's call are in range (Rules 7.10)
unfoldable pub records_sound : List ℕ → ℕ → Bool
records_sound words s = common_sound words (rows_in words) && call_sound (rule_at words) (call_at words s) (counts_at words).changes

-- the work of a nearest, and of any other call
abbrev pub work_of : List ℕ → ℕ → ℕ → Call → Reply
work_of words rows s call = pick_reply (eqb call.kind nearest_kind) (search_of words rows s call) (walk_of words rows s call)

-- the questions about the unfinished call of station s, and then the reply
abbrev pub ask_unfinished : List ℕ → ℕ → Reply → Reply
ask_unfinished words s reply =
    ask (is_opened (opened_in words)) not_opened words
    (ask (ltb s stations) no_station words (ask (is_unfinished (state_at words s)) not_unfinished words (ask (records_sound words s) unsound words reply)))

unfoldable pub step_of : List ℕ → ℕ → Reply
step_of words s = ask_unfinished words s (work_of words (rows_in words) s (call_at words s))

-- ---- for the code: what `Turn` asks, with the rows and the call given

-- the fields of the two records are in range, with the rows and the call given
unfoldable pub fields_sound : List ℕ → ℕ → Call → Bool
fields_sound words rows call = common_sound words rows && call_sound (rule_at words) call (counts_at words).changes

-- the number of the first question that fails, or 0, with the rows and the call given (`first_told` of `proofs/Questions` says that it is what `Turn` tells)
unfoldable pub first_failed : List ℕ → ℕ → ℕ → Call → ℕ
first_failed words rows s call =
    cond (is_opened (opened_in words))
    (cond (ltb s stations) (cond (is_unfinished (state_at words s)) (cond (fields_sound words rows call) 0 unsound) not_unfinished) no_station)
    not_opened
