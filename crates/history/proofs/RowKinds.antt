-- The kind of a row, which new links do not change: what tells a cut from the rows that an insert and an unlink write.
use Prim.Native.Nat.{ℕ, ◌<◌}
use mathlib.Core.Path.{◌≡◌, refl}
use mathlib.Core.Bool.{Bool, true, false, cond}
use mathlib.Core.Option.{Option, none, some}
use native.Mathlib.Omega.{arith}
use lib.Dec.{eqb}
use Rattle.points.specs.Word.{NONE}
use Rattle.trees.specs.Row.{Entry, Row, spare_row, removed_row, leaf_row, cut_row, pick_row, next_of, set_parent, set_next, replace_child}
use Rattle.trees.specs.Queue.{Free, kept_row, free_row}
use Rattle.calls.specs.Link.{is_cut, with_parent, replaced}
use Rattle.rows.specs.declared.row.Row.TheVariants.{Cut}
use Rattle.history.specs.View.{word_row}

-- 0 spare, 1 removed, 2 leaf, 3 cut, as in the words
abbrev pub kind_at : Row → ℕ
kind_at (spare_row next n) = 0
kind_at (removed_row next n e) = 1
kind_at (leaf_row parent e) = 2
kind_at (cut_row parent k l r) = 3

pub kind_next : (x : ℕ) (row : Row) → kind_at (set_next x row) ≡ kind_at row
kind_next x (spare_row next n) = refl
kind_next x (removed_row next n e) = refl
kind_next x (leaf_row parent e) = refl
kind_next x (cut_row parent k l r) = refl

pub kind_parent : (x : ℕ) (row : Row) → kind_at (set_parent x row) ≡ kind_at row
kind_parent x (spare_row next n) = refl
kind_parent x (removed_row next n e) = refl
kind_parent x (leaf_row parent e) = refl
kind_parent x (cut_row parent k l r) = refl

pub kind_child : (old new : ℕ) (row : Row) → kind_at (replace_child old new row) ≡ kind_at row
kind_child old new (spare_row next n) = refl
kind_child old new (removed_row next n e) = refl
kind_child old new (leaf_row parent e) = refl
kind_child old new (cut_row parent k l r) = go (eqb l old)
  where
    go : (b : Bool) → kind_at (pick_row b (cut_row parent k new r) (cut_row parent k l new)) ≡ 3
    go true = refl
    go false = refl

-- a free row is spare or removed
pub kind_free : (next : ℕ) (f : Free) → kind_at (free_row next f) < 2
kind_free next f = go f.kept
  where
    go : (kept : Option Entry) → kind_at (kept_row next f.freed kept) < 2
    go none = omega arith
    go (some e) = omega arith

-- a cut has no next link
pub cut_next : (row : Row) → kind_at row ≡ 3 → next_of row ≡ NONE
cut_next (spare_row next n) e = absurd (omega (arith, e))
cut_next (removed_row next n d) e = absurd (omega (arith, e))
cut_next (leaf_row parent d) e = refl
cut_next (cut_row parent k l r) e = refl

-- a cut with another parent, or another child, is written as a cut
pub parent_cut : (x : ℕ) (row : Row) → kind_at row ≡ 3 → is_cut (with_parent x (word_row row)) ≡ true
parent_cut x (spare_row next n) e = absurd (omega (arith, e))
parent_cut x (removed_row next n d) e = absurd (omega (arith, e))
parent_cut x (leaf_row parent d) e = absurd (omega (arith, e))
parent_cut x (cut_row parent k l r) e = refl

pub child_cut : (old new : ℕ) (row : Row) → kind_at row ≡ 3 → is_cut (replaced old new (word_row row)) ≡ true
child_cut old new (spare_row next n) e = absurd (omega (arith, e))
child_cut old new (removed_row next n d) e = absurd (omega (arith, e))
child_cut old new (leaf_row parent d) e = absurd (omega (arith, e))
child_cut old new (cut_row parent k l r) e = go (eqb l old)
  where
    go : (b : Bool) → is_cut (cond b (Cut parent k new r) (Cut parent k l new)) ≡ true
    go true = refl
    go false = refl
