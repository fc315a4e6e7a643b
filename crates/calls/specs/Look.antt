-- A search looks at the records that it missed: those which were removed since its submission, from the first of them on in the queue.
use Rattle.std.specs.Prelude.{ℕ, ◌&&◌, ◌||◌, List, eqb}
use Rattle.points.specs.Word.{NONE}
use Rattle.rows.specs.declared.row.Row.{Row}
use Rattle.rows.specs.declared.row.Row.TheVariants.{Bad, Spare, Removed, Leaf, Cut}
use Rattle.stations.specs.declared.call.Best.{Best}
use Rattle.rows.specs.Row.{row_at}
use Rattle.calls.specs.declared.aim.Aim.{Aim}
use Rattle.calls.specs.declared.progress.Progress.{Progress}
use Rattle.calls.specs.Link.{next_of, is_free}
use Rattle.calls.specs.Progress.{pick_progress, considered}

-- the record of a removed row is considered
abbrev pub look_best : Aim → Best → Row → Best
look_best aim best Bad = best
look_best aim best (Spare next freed) = best
look_best aim best (Removed next freed added point curve) = considered aim best added point curve
look_best aim best (Leaf parent added point curve) = best
look_best aim best (Cut parent cut left right) = best

-- past a spare row, the cut that was freed with a removed one
abbrev pub pass_spare : ℕ → Row → ℕ
pass_spare link Bad = link
pass_spare link (Spare next freed) = next
pass_spare link (Removed next freed added point curve) = link
pass_spare link (Leaf parent added point curve) = link
pass_spare link (Cut parent cut left right) = link

-- the first missed row, and the row after it, are looked at
abbrev pub look_at : Aim → Progress → Row → Row → Progress
look_at aim p row after = record {
  cursor = p.cursor;
  phase = p.phase;
  missed = pass_spare (next_of row) after;
  best = look_best aim p.best row;
  sound = (p.sound && is_free row) && (eqb (next_of row) NONE || is_free after);
}

-- the same at a link to the first missed row
abbrev pub look_from : List ℕ → ℕ → Aim → Progress → Progress
look_from words rows aim p = look_at aim p (row_at words rows p.missed) (row_at words rows (next_of (row_at words rows p.missed)))

-- one missed record is looked at, if there is any
unfoldable pub look : List ℕ → ℕ → Aim → Progress → Progress
look words rows aim p = pick_progress (eqb p.missed NONE) p (look_from words rows aim p)
