-- The decision where a walk ends: the row there says whether the table holds the point (`decided_empty`, `decided_leaf`), and so the code that the
-- step answers is the table's (`add_decides`, `remove_decides`, `contains_decides`).
use Prim.Native.Nat.{ℕ, ◌*◌, ◌≤◌, ◌<◌}
use mathlib.Core.Path.{◌≡◌, refl, sym, ◌∙◌, ap, subst}
use mathlib.Core.Bool.{Bool, true, false, cond, ◌||◌}
use mathlib.Core.List.{List, Memᴰ}
use mathlib.Core.Option.{Option, none, some}
use native.Mathlib.Omega.{arith}
use native.Mathlib.Decide.{ℕ_discrete}
use lib.Dec.{eqb, leb}
use borrow.Author.Tests.{eq-eqb, ne_eqb, le-leb, lt-leb}
use Rattle.words.specs.Layout.{stations}
use Rattle.points.proofs.Tests.{and_i}
use Rattle.points.specs.declared.point.Point.{Point}
use Rattle.points.specs.Order.{same_point}
use Rattle.points.proofs.OrderLaws.{same_point_true, same_point_false}
use Rattle.rows.specs.declared.row.Row.{Row as WordRow}
use Rattle.rows.specs.declared.row.Row.TheVariants.{Bad}
use Rattle.stations.specs.Call.{call_at}
use Rattle.words.proofs.RangeLaws.{curve_tells}
use Rattle.stations.proofs.SoundLaws.{answer_of_lem}
use Rattle.table.specs.Record.{Record, curve_at}
use Rattle.table.specs.Call.{Call, add, remove, contains, answer, point_of}
use Rattle.table.specs.Table.{unfinished, Table, taken, answer_of}
use Rattle.table.proofs.Held.{curve_some, curve_held}
use Rattle.table.proofs.Sound.{Sound}
use Rattle.table.proofs.Answers.{add_held, add_spent, add_full, remove_absent, remove_spent, contains_held, contains_absent, finished_quiet}
use Rattle.trees.specs.Row.{Entry, leaf_row}
use Rattle.trees.specs.Tree.{Tree, Holds, entries_of}
use Rattle.trees.specs.Route.{OnRoute}
use Rattle.trees.proofs.ShapeLaws.{entries_held}
use Rattle.trees.proofs.RouteLaws.{on_route_has, walk_found}
use Rattle.calls.specs.Link.{holds_point, leaf_curve}
use Rattle.calls.specs.Answer.{answer as given, answered_words}
use Rattle.calls.specs.Insert.{insert_of}
use Rattle.calls.specs.Unlink.{unlink_of}
use Rattle.calls.specs.Walk.{code_of, code_at, plain_answer, conclude}
use Rattle.history.specs.View.{seat_at, word_row}
use Rattle.history.specs.Related.{record_of, kind_of, Busy, Related}
use Rattle.history.proofs.Readings.{plain_change}
use Rattle.words.specs.Rule.{rule_at}
use Rattle.history.proofs.Effects.{reads_in}
use Rattle.history.proofs.Outcome.{Outcome, ends, Next}
use Rattle.history.proofs.OwnSeat.{next_answered}
use Rattle.history.proofs.RowLinks.{LeafIn, leaf_tells}
use Rattle.history.proofs.RelatedLaws.{word_places, word_limit, removals_word, related_busy, related_taken}

-- ---- what the row says of the point

-- the table holds the point with the row's curve, or not at all
pub data Decided (t : Table) (p : Point) (row : WordRow) : Type 0 where
  there : holds_point p row ≡ true → leaf_curve row ≤ 999999 → curve_at p t.held ≡ some (leaf_curve row) → Decided t p row
  absent : holds_point p row ≡ false → curve_at p t.held ≡ none → Decided t p row

curve_absent : (p : Point) (rs : List Record) → ((q : Record) → Memᴰ q rs → ¬ (p ≡ q.point)) → curve_at p rs ≡ none
curve_absent p rs f = go (curve_at p rs) refl
  where
    go : (x : Option ℕ) → curve_at p rs ≡ x → curve_at p rs ≡ none
    go none e = e
    go (some c) e = absurd (f (record { point = p; curve = c }) (curve_some p rs c e) refl)

module _ {words : List ℕ} {t : Table} (sound : Sound t) (r : Related words t) (p : Point) where
  -- a held record is on a leaf
  record_held : (q : Record) → Memᴰ q t.held → (e : Entry) × Holds r.tree e × (record_of e ≡ q)
  record_held q m =
      let u = mathlib.Core.List.Memᴰ.of_map record_of (entries_of r.tree) ((r.records q).1 m) in
      (u.0, (entries_held r.tree u.0).0 u.1, u.2)

  -- in the empty tree
  pub decided_empty : r.tree ≡ none → Decided t p Bad
  decided_empty e =
      absent refl (curve_absent p t.held (λ q m f. let u = record_held q m in let z : Holds none u.0 = subst (λ (x : Option Tree). Holds x u.0) e u.1 in z))

  -- at a leaf on the way of the point
  pub decided_leaf : (x parent : ℕ) (e : Entry) → OnRoute r.tree p x → r.heap x ≡ leaf_row parent e → Decided t p (word_row (leaf_row parent e))
  decided_leaf x parent e o reads = go (same_point e.point p) refl
    where
      fits : LeafIn (rule_at words) (2 * t.places) parent e
      fits = leaf_tells (rule_at words) (2 * t.places) parent e (rw reads at (reads_in words (2 * t.places) r.heap x (r.store.inside x (on_route_has r.tree p x o)) r.reads))

      go : (b : Bool) → same_point e.point p ≡ b → Decided t p (word_row (leaf_row parent e))
      go true f =
          let same : e.point ≡ p = same_point_true e.point p f in
          let held : Holds r.tree e = (walk_found r.tree p x r.store o reads e same).1 refl in
          let m : Memᴰ (record_of e) t.held = (r.records (record_of e)).0 (mathlib.Core.List.Memᴰ.map record_of ((entries_held r.tree e).1 held)) in
          there f (curve_tells e.curve fits.curve_in_lem).1 (subst (λ (y : Point). curve_at y t.held ≡ some e.curve) same (curve_held t.held sound.once (record_of e) m))
      go false f =
          absent f (curve_absent p t.held (λ q m g.
          let u = record_held q m in
          let here : u.0.point ≡ p = ap (λ (y : Record). y.point) u.2 ∙ sym g in
          same_point_false e.point p f (sym (ap (λ (y : Entry). y.point) ((walk_found r.tree p x r.store o reads u.0 here).0 u.1)) ∙ here)))

-- ---- plain answers

module _ {words : List ℕ} {t : Table} {s i : ℕ} {c : Call} (sound : Sound t) (l : s < stations) (q : t.stations s ≡ unfinished i c none) (r : Related words t) where
  busy : Busy t r.tree r.queue (seat_at words s) i c none
  busy = related_busy r l q

  -- the code is worked out from the table's kind, point and counts
  code_is : (row : WordRow)
      → code_at words s (call_at words s) row ≡ code_of (kind_of c) (holds_point (point_of c) row) (eqb (t.counters s) t.limit) (leb t.places (taken t))
  unfolding code_at seat_at
  code_is row = rw (busy.kind, busy.point, r.counters s l, word_limit r, word_places r, related_taken r sound)

  -- a code that is no change is answered, with nothing else written
  plain_outcome : {n : ℕ} (at : ℕ) (row : WordRow) (code curve : ℕ) → code_at words s (call_at words s) row ≡ code → eqb code 1 ≡ false → eqb code 5 ≡ false
      → cond (eqb code 2 || eqb code 7) (leaf_curve row) 0 ≡ curve → 1 ≤ code → code ≤ 9 → curve ≤ 999999 → answer_of t s c ≡ answer code (point_of c) curve 0
      → Outcome r s c none n (conclude words (2 * t.places) s (call_at words s) at row)
  unfolding conclude plain_answer seat_at
  plain_outcome at row code curve is one five carries least most fits says =
      rw (is, one, five, carries, busy.point)
      (ends refl (subst (λ (u : Table). Next r s (answered_words words s (given code (point_of c) curve 0)) u)
      (sym (finished_quiet t s c (answer code (point_of c) curve 0) says (plain_change code (point_of c) curve one five)))
      (next_answered s l r (given code (point_of c) curve 0) (omega (arith, removals_word r sound))
      (answer_of_lem t.scale.rule (given code (point_of c) curve 0) (record { code = and_i (le-leb 1 code least) (ap (λ (b : Bool). b || eqb code 11) (le-leb code 9 most)); point = busy.ranged; curve = fits; square = omega arith })))))

-- ---- the decision of each call

-- an add (Rules 2.5)
pub add_decides : {words : List ℕ} {t : Table} {s i n v : ℕ} {p : Point} (at : ℕ) (row : WordRow) → Sound t → s < stations → t.stations s ≡ unfinished i (add p v) none → (r : Related words t) → Decided t p row
    → (holds_point p row ≡ false → curve_at p t.held ≡ none → ¬ (t.counters s ≡ t.limit) → ¬ (taken t ≡ t.places) → Outcome r s (add p v) none n (insert_of words (2 * t.places) s (call_at words s) at))
    → Outcome r s (add p v) none n (conclude words (2 * t.places) s (call_at words s) at row)
unfolding code_of conclude
add_decides {words} {t} {s} {i} {n} {v} {p} at row sound l q r (there h f e) k =
    plain_outcome sound l q r at row 2 (leaf_curve row) (code_is sound l q r row ∙ rw h) refl refl refl (omega arith) (omega arith) f (add_held t s p v (leaf_curve row) e)
add_decides {words} {t} {s} {i} {n} {v} {p} at row sound l q r (absent h e) k = spent (ℕ_discrete (t.counters s) t.limit)
  where
    full : ¬ (t.counters s ≡ t.limit) → Dec (taken t ≡ t.places) → Outcome r s (add p v) none n (conclude words (2 * t.places) s (call_at words s) at row)
    full d (yes f) =
        plain_outcome sound l q r at row 3 0 (code_is sound l q r row ∙ rw (h, ne_eqb (t.counters s) t.limit d, le-leb t.places (taken t) (omega arith)))
        refl refl refl (omega arith) (omega arith) (omega arith) (add_full t s p v e d f)
    full d (no f) =
        let c : code_at words s (call_at words s) row ≡ 1 = code_is sound l q r row ∙ rw (h, ne_eqb (t.counters s) t.limit d, lt-leb t.places (taken t) (omega (arith, f, sound.bounded))) in
        rw c (k h e d f)

    spent : Dec (t.counters s ≡ t.limit) → Outcome r s (add p v) none n (conclude words (2 * t.places) s (call_at words s) at row)
    spent (yes d) =
        plain_outcome sound l q r at row 4 0 (code_is sound l q r row ∙ rw (h, eq-eqb (t.counters s) t.limit d)) refl refl refl (omega arith) (omega arith) (omega arith) (add_spent t s p v e d)
    spent (no d) = full d (ℕ_discrete (taken t) t.places)

-- a remove (Rules 2.6)
pub remove_decides : {words : List ℕ} {t : Table} {s i n : ℕ} {p : Point} (at : ℕ) (row : WordRow) → Sound t → s < stations → t.stations s ≡ unfinished i (remove p) none → (r : Related words t) → Decided t p row
    → (holds_point p row ≡ true → ¬ (t.counters s ≡ t.limit) → Outcome r s (remove p) none n (unlink_of words (2 * t.places) s (call_at words s) at))
    → Outcome r s (remove p) none n (conclude words (2 * t.places) s (call_at words s) at row)
unfolding code_of conclude
remove_decides {words} {t} {s} {i} {n} {p} at row sound l q r (absent h e) k =
    plain_outcome sound l q r at row 6 0 (code_is sound l q r row ∙ rw h) refl refl refl (omega arith) (omega arith) (omega arith) (remove_absent t s p e)
remove_decides {words} {t} {s} {i} {n} {p} at row sound l q r (there h f e) k = spent (ℕ_discrete (t.counters s) t.limit)
  where
    spent : Dec (t.counters s ≡ t.limit) → Outcome r s (remove p) none n (conclude words (2 * t.places) s (call_at words s) at row)
    spent (yes d) =
        plain_outcome sound l q r at row 4 0 (code_is sound l q r row ∙ rw (h, eq-eqb (t.counters s) t.limit d)) refl refl refl (omega arith) (omega arith) (omega arith) (remove_spent t s p (leaf_curve row) e d)
    spent (no d) =
        let c : code_at words s (call_at words s) row ≡ 5 = code_is sound l q r row ∙ rw (h, ne_eqb (t.counters s) t.limit d) in
        rw c (k h d)

-- a contains (Rules 2.7)
pub contains_decides : {words : List ℕ} {t : Table} {s i n : ℕ} {p : Point} (at : ℕ) (row : WordRow) → Sound t → s < stations → t.stations s ≡ unfinished i (contains p) none → (r : Related words t) → Decided t p row
    → Outcome r s (contains p) none n (conclude words (2 * t.places) s (call_at words s) at row)
unfolding code_of
contains_decides {words} {t} {s} {i} {n} {p} at row sound l q r (there h f e) =
    plain_outcome sound l q r at row 7 (leaf_curve row) (code_is sound l q r row ∙ rw h) refl refl refl (omega arith) (omega arith) f (contains_held t s p (leaf_curve row) e)
contains_decides {words} {t} {s} {i} {n} {p} at row sound l q r (absent h e) =
    plain_outcome sound l q r at row 6 0 (code_is sound l q r row ∙ rw h) refl refl refl (omega arith) (omega arith) (omega arith) (contains_absent t s p e)
