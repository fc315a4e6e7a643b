-- The queue of an audit, walked from its head: spare rows, and then the removals that await release, in order.
use Rattle.std.specs.Prelude.{ℕ, zero, suc, ◌+◌, Bool, true, false, cond, ◌&&◌, ◌||◌, List, eqb, leb}
use Rattle.stations.specs.Counts.{counts_at}
use Rattle.points.specs.Word.{NONE}
use Rattle.rows.specs.declared.row.Row.{Row}
use Rattle.rows.specs.declared.row.Row.TheVariants.{Bad, Spare, Removed, Leaf, Cut}
use Rattle.rows.specs.Row.{row_at}
use Rattle.stations.specs.Common.{least_since, rows_in}
use Rattle.calls.specs.declared.queue.Queued.{Queued}
use Rattle.calls.specs.Sum.{plus}

-- a free row is passed
abbrev pub passed : Queued → Bool → ℕ → ℕ → Bool → Queued
passed l sound next number half = record { sound = l.sound && sound; at = next; last = l.at; rows = plus 1 l.rows; number = number; half = half }

-- no free row
abbrev pub broken : Queued → Queued
broken l = record { sound = false; at = NONE; last = l.last; rows = l.rows; number = l.number; half = l.half }

-- the row's removal is no longer awaited, and no awaited one was passed
abbrev pub no_longer : ℕ → Queued → ℕ → Bool
no_longer released l freed = leb freed released && eqb l.number released

-- a row whose number is at most that of the last removal that is no longer awaited is spare while no awaited one was passed; an awaited
-- removal has its leaf's row and then at most one row, the cut that was freed with it
abbrev pub pass_spare : ℕ → Queued → ℕ → ℕ → Queued
pass_spare released l next freed =
    passed l (no_longer released l freed || (eqb freed l.number && l.half)) next l.number false

abbrev pub pass_removed : ℕ → Queued → ℕ → ℕ → Queued
pass_removed released l next freed =
    cond (no_longer released l freed) (passed l true next l.number false) (passed l (eqb freed (l.number + 1)) next freed true)

-- any other row is no free one
abbrev pub pass_row : ℕ → Queued → Row → Queued
pass_row released l Bad = broken l
pass_row released l (Spare next freed) = pass_spare released l next freed
pass_row released l (Removed next freed added point curve) = pass_removed released l next freed
pass_row released l (Leaf parent added point curve) = broken l
pass_row released l (Cut parent cut left right) = broken l

-- one row on; the end stays
abbrev pub pass_next : List ℕ → ℕ → ℕ → Queued → Queued
pass_next words rows released l = cond (eqb l.at NONE) l (pass_row released l (row_at words rows l.at))

-- n rows on
unfoldable pub walk_queue : List ℕ → ℕ → ℕ → ℕ → Queued → Queued
walk_queue words rows released zero l = l
walk_queue words rows released (suc n) l = walk_queue words rows released n (pass_next words rows released l)

-- at the head of the queue, before its first row
abbrev pub queued_at_head : List ℕ → Queued
queued_at_head words = record { sound = true; at = (counts_at words).head; last = NONE; rows = 0; number = least_since words; half = false }

-- the whole queue
unfoldable pub queue_in : List ℕ → Queued
queue_in words = walk_queue words (rows_in words) (least_since words) (rows_in words) (queued_at_head words)
