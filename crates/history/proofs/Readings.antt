-- Readings of single definitions of `table` and `trees` that the steps of a walk cite.
use Prim.Native.Nat.{ℕ, suc, ◌+◌, ◌<◌}
use mathlib.Core.Path.{◌≡◌, refl, ◌∙◌}
use mathlib.Core.Bool.{true, false, cond}
use mathlib.Core.List.{◌∷◌}
use mathlib.Core.Option.{none}
use native.Mathlib.Numerals.{add-one}
use lib.Dec.{eqb}
use Rattle.points.specs.declared.point.Point.{Point}
use Rattle.words.specs.Layout.{stations}
use Rattle.points.specs.Word.{NONE}
use Rattle.table.specs.Record.{without}
use Rattle.table.specs.Call.{add, remove, nearest, is_search, answer, is_change}
use Rattle.table.specs.Table.{Station, unfinished, Table, eight, put, searches, total, all_changes, changed}
use Rattle.table.proofs.Counters.{total_put}
use Rattle.table.proofs.Eager.{unsettled}
use Rattle.trees.specs.Row.{Heap}
use Rattle.trees.specs.Route.{down_row, down}
use Rattle.trees.specs.Stand.{Phase, Stand, pick_stand, move_cursor, after_insert, after_unlink, missed_after}

-- ---- table

pub nearest_search : (p : Point) → is_search (nearest p) ≡ true
unfolding is_search
nearest_search p = refl

-- a nearest call with nothing set down is unsettled
pub nearest_unsettled : (i : ℕ) (p : Point) → unsettled (unfinished i (nearest p) none) ≡ true
unfolding unsettled is_search
nearest_unsettled i p = refl

-- codes 1 and 5 are changes, others are none
pub added_change : (p : Point) (c : ℕ) → is_change (answer 1 p c 0) ≡ true
unfolding is_change
added_change p c = refl

pub removed_change : (p : Point) (c : ℕ) → is_change (answer 5 p c 0) ≡ true
unfolding is_change
removed_change p c = refl

pub plain_change : (code : ℕ) (p : Point) (c : ℕ) → eqb code 1 ≡ false → eqb code 5 ≡ false → is_change (answer code p c 0) ≡ false
unfolding is_change
plain_change code p c e f = rw (e, f)

-- the table after an addition by station s
abbrev pub added_table : Table → ℕ → Point → ℕ → Table
added_table t s p c = record {
  places = t.places;
  limit = t.limit;
  scale = t.scale;
  held = record { point = p; curve = c } ∷ t.held;
  counters = put t.counters s (t.counters s + 1);
  removals = t.removals;
  calls = t.calls;
  stations = t.stations;
}

pub changed_add : (t : Table) (s : ℕ) (p : Point) (c : ℕ) → changed t s (add p c) ≡ added_table t s p c
unfolding changed
changed_add t s p c = refl

-- the table after a removal by station s, with other stations
abbrev pub removed_table : Table → ℕ → Point → (ℕ → Station) → Table
removed_table t s p f = record {
  places = t.places;
  limit = t.limit;
  scale = t.scale;
  held = without p t.held;
  counters = put t.counters s (t.counters s + 1);
  removals = searches eight t.stations ∷ t.removals;
  calls = t.calls;
  stations = f;
}

pub changed_remove : (t : Table) (s : ℕ) (p : Point) → changed t s (remove p) ≡ removed_table t s p t.stations
unfolding changed
changed_remove t s p = refl

-- either counts one change
pub one_more : (t : Table) (s : ℕ) → s < stations → total eight (put t.counters s (t.counters s + 1)) ≡ suc (all_changes t)
one_more t s l = total_put t.counters s l ∙ add-one (all_changes t)

-- ---- trees: Route

pub down_row_lem : (h : Heap) (p : Point) (x : ℕ) → down h p x ≡ down_row (h x) p x
unfolding down
down_row_lem h p x = refl

-- ---- trees: Stands

pub insert_stand : (leaf cut : ℕ) (s : Stand) → after_insert leaf cut s ≡ pick_stand (eqb s.cursor leaf) (record { cursor = cut; phase = s.phase }) s
unfolding move_cursor
insert_stand leaf cut s = refl

pub unlink_stand : (leaf cut sibling : ℕ) (lands : Phase) (s : Stand)
    → after_unlink leaf cut sibling lands s
    ≡ pick_stand (eqb s.cursor leaf) (record { cursor = sibling; phase = lands }) (pick_stand (eqb s.cursor cut) (record { cursor = sibling; phase = s.phase }) s)
unfolding after_unlink move_cursor
unlink_stand leaf cut sibling lands s = refl

pub unlink_missed : (leaf missed : ℕ) → missed_after leaf missed ≡ cond (eqb missed NONE) leaf missed
unfolding missed_after
unlink_missed leaf missed = refl
