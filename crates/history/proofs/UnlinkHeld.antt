-- The records after an unlink: those of the tree are the table's without the record removed (`records_unlinked`), and as many (`number_unlinked`).
use Prim.Native.Nat.{ℕ}
use mathlib.Core.Path.{◌≡◌, sym, ap, ◌∙◌}
use mathlib.Core.Logic.{◌↔◌}
use mathlib.Core.List.{List, map, Memᴰ}
use mathlib.Core.Option.{Option, none, some}
use native.Mathlib.Omega.{arith}
use lib.ListN.{length}
use Rattle.table.specs.Record.{Record, Once, Same, curve_at, without}
use Rattle.table.proofs.Held.{curve_held, without_mem, without_length}
use Rattle.trees.specs.Row.{Entry, Heap}
use Rattle.trees.specs.Tree.{Tree, Holds, count_of, entries_of}
use Rattle.trees.specs.Queue.{Free}
use Rattle.trees.specs.Reads.{Leaf}
use Rattle.trees.specs.Unlink.{Unlinked}
use Rattle.trees.proofs.Entries.{holds_listed, listed_holds}
use Rattle.history.specs.Related.{record_of}

-- the entries listed are those held
entries_held : (tree : Option Tree) (e : Entry) → Memᴰ e (entries_of tree) ↔ Holds tree e
entries_held none e = (λ m. absurd (mathlib.Core.List.Memᴰ.not-nil m), λ m. absurd m)
entries_held (some tree) e = (listed_holds tree e, holds_listed tree e)

module _ {places : ℕ} {h h' : Heap} {tree : Option Tree} {queue : List Free} {changes removals released : ℕ} {l : Leaf} {sibling grand : ℕ}
    (w : Unlinked places h h' tree queue changes removals released l sibling grand) (held : List Record) (same : Same (map record_of (entries_of tree)) held) where
  -- the record that is removed was held
  pub was_held : Memᴰ (record_of l.entry) held
  was_held = (same (record_of l.entry)).0 (mathlib.Core.List.Memᴰ.map record_of ((entries_held tree l.entry).1 w.held))

  pub curve_removed : Once held → curve_at l.entry.point held ≡ some l.entry.curve
  curve_removed once = curve_held held once (record_of l.entry) was_held

  pub records_unlinked : Same (map record_of (entries_of w.tree)) (without l.entry.point held)
  records_unlinked r = (to, from)
    where
      to : Memᴰ r (map record_of (entries_of w.tree)) → Memᴰ r (without l.entry.point held)
      to m =
          let v = mathlib.Core.List.Memᴰ.of_map record_of (entries_of w.tree) m in
          let n = (w.holds v.0).0 ((entries_held w.tree v.0).0 v.1) in
          let old : Memᴰ r held = (same r).0 (mathlib.Core.List.Memᴰ.cast (sym v.2) (mathlib.Core.List.Memᴰ.map record_of ((entries_held tree v.0).1 n.0))) in
          (without_mem l.entry.point held r).1 (old, λ z. n.1 (ap (λ (x : Record). x.point) v.2 ∙ sym z))

      from : Memᴰ r (without l.entry.point held) → Memᴰ r (map record_of (entries_of w.tree))
      from m =
          let n = (without_mem l.entry.point held r).0 m in
          let v = mathlib.Core.List.Memᴰ.of_map record_of (entries_of tree) ((same r).1 n.0) in
          let new : Holds w.tree v.0 = (w.holds v.0).1 ((entries_held tree v.0).0 v.1, λ z. n.1 (sym z ∙ ap (λ (x : Record). x.point) v.2)) in
          mathlib.Core.List.Memᴰ.cast (sym v.2) (mathlib.Core.List.Memᴰ.map record_of ((entries_held w.tree v.0).1 new))

  pub number_unlinked : Once held → count_of tree ≡ length held → count_of w.tree ≡ length (without l.entry.point held)
  number_unlinked once e = omega (arith, w.count, without_length l.entry.point held l.entry.curve once (curve_removed once))
