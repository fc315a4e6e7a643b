-- The questions of a step pass for an unfinished call, question 11's of the two records among them (`step_work`).
use Prim.Native.Nat.{ℕ, ◌*◌, ◌<◌}
use mathlib.Core.Path.{◌≡◌}
use mathlib.Core.Bool.{true}
use mathlib.Core.List.{List}
use mathlib.Core.Option.{Option}
use lib.Dec.{eqb}
use borrow.Author.Tests.{eq-eqb, lt-ltb}
use Rattle.words.specs.Layout.{stations}
use Rattle.stations.specs.Station.{state_at}
use Rattle.stations.specs.Call.{call_at}
use Rattle.table.specs.Call.{Call, Answer}
use Rattle.table.specs.Table.{unfinished, Table}
use Rattle.table.proofs.Sound.{Sound}
use Rattle.calls.specs.Step.{work_of, step_of}
use Rattle.history.specs.View.{seat_at}
use Rattle.history.specs.Related.{Related}
use Rattle.history.proofs.RelatedLaws.{related_passes, related_rows, related_busy}
use Rattle.history.proofs.RelatedSound.{related_sound}

-- A step of an unfinished call comes to its work.
pub step_work : {words : List ℕ} {t : Table} {s i : ℕ} {c : Call} {o : Option Answer} → Sound t → s < stations → t.stations s ≡ unfinished i c o → Related words t
    → step_of words s ≡ work_of words (2 * t.places) s (call_at words s)
unfolding step_of seat_at
step_work {words} {t} {s} h l q r =
    let e : eqb (state_at words s).word 1 ≡ true = eq-eqb (state_at words s).word 1 (related_busy r l q).state in
    rw (related_passes r, lt-ltb s stations l, e, related_sound h r l q, related_rows r)
