-- The audit (Rules 6.6, 6.7): question 4, and then whether the rows linked from the root form a tree with its leaves on their sides, and every row lies
-- in the tree or in the queue, "once and in order of removal".
-- `tree_in` counts the leaves of the tree, `queue_in` walks the free rows; together they must be all the rows.
use Rattle.std.specs.Prelude.{ℕ, Bool, false, cond, List, Result, Ok, Err}
use Rattle.words.specs.declared.refusal.Refusal.{Refusal}
use Rattle.words.specs.declared.refusal.Refusal.TheVariants.{NotOpened}
use Rattle.stations.specs.Common.{opened_in, is_opened}
use Rattle.calls.specs.Tree.{tree_in}
use Rattle.calls.specs.Queue.{queue_in}
use Rattle.calls.specs.Whole.{all_rows}

-- whether the audit says yes; not to a slice that is not opened
unfoldable pub audit_of : List ℕ → Bool
audit_of words = cond (is_opened (opened_in words)) (all_rows words (tree_in words) (queue_in words)) false

-- question 4, and whether the audit says yes
unfoldable pub verdict_of : List ℕ → Result Bool Refusal
verdict_of words = cond (is_opened (opened_in words)) (Ok (all_rows words (tree_in words) (queue_in words))) (Err NotOpened)

-- whether a verdict says yes; not with a refusal
abbrev pub yes_told : Result Bool Refusal → Bool
yes_told (Ok sound) = sound
yes_told (Err refusal) = false
