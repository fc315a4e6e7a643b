-- A related slice agrees with its table in all that demand 3 compares (`related_agrees`).
use Prim.Native.Nat.{ℕ}
use mathlib.Core.List.{List}
use Rattle.table.specs.Table.{Table}
use Rattle.table.specs.History.{Agree}
use Rattle.table.proofs.Sound.{Sound}
use Rattle.calls.specs.Report.{report_of}
use Rattle.history.specs.Index.{word_index}
use Rattle.history.specs.Related.{Related}
use Rattle.history.proofs.RelatedLaws.{related_passes, related_taken}
use Rattle.history.proofs.HeldLaws.{held_entries, entries_once}
use Rattle.history.proofs.RelatedTake.{related_takes}

-- The same records, each once; the same number of places taken; the same reply to a taking of every station number.
pub related_agrees : {words : List ℕ} {t : Table} → Sound t → Related words t → Agree word_index words t
unfolding report_of
related_agrees h r = record {
  records = rw (held_entries r) r.records;
  once = rw (held_entries r) (entries_once r);
  places = rw (related_passes r) (related_taken r h);
  accepted = λ s. (related_takes s h r).number;
  waiting = λ s. (related_takes s h r).given;
}
