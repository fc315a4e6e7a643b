-- The step of an unfinished add, remove or contains (`walk_outcome`): at a cut six rows down, with fewer leaves below; at a leaf or in the empty tree
-- the decision.
use Prim.Native.Nat.{ℕ, ◌+◌, ◌*◌, ◌≤◌, ◌<◌}
use mathlib.Core.Path.{◌≡◌, refl, sym, ◌∙◌, ap, subst}
use mathlib.Core.Logic.{◌≢◌, inl, inr}
use mathlib.Core.Bool.{true, false, false≢true, true≢false}
use mathlib.Core.List.{List}
use mathlib.Core.Option.{Option, none, some, none-ne-some}
use native.Mathlib.Omega.{arith}
use lib.Dec.{eqb}
use borrow.Author.Tests.{ne_eqb}
use Rattle.words.specs.Layout.{stations}
use Rattle.points.specs.declared.point.Point.{Point}
use Rattle.points.specs.declared.cut.Cut.{Cut}
use Rattle.points.specs.Word.{NONE}
use Rattle.points.proofs.OrderLaws.{same_point_true, same_point_false}
use Rattle.rows.specs.declared.row.Row.{Row as WordRow}
use Rattle.rows.specs.declared.row.Row.TheVariants.{Bad}
use Rattle.stations.specs.declared.call.Call.{Call as WordCall}
use Rattle.rows.specs.Row.{row_at}
use Rattle.rows.specs.Grades.{slot_of}
use Rattle.stations.specs.Call.{call_at}
use Rattle.words.proofs.RangeLaws.{or_right}
use Rattle.rows.proofs.RowLaws.{row_at_outside}
use Rattle.table.specs.Call.{Call, add, remove, contains, nearest, is_search, point_of}
use Rattle.table.specs.Table.{unfinished, Table}
use Rattle.table.proofs.Sound.{Sound}
use Rattle.table.proofs.Eager.{Settled}
use Rattle.trees.specs.Row.{Entry, Row, spare_row, removed_row, leaf_row, cut_row}
use Rattle.trees.specs.Tree.{Tree}
use Rattle.trees.specs.Queue.{Free}
use Rattle.trees.specs.Route.{OnRoute, Walking, stands_at, down_row}
use Rattle.trees.specs.Reads.{LeafAt, CutAt}
use Rattle.trees.specs.Measure.{walk_left, Descends, step_moves}
use Rattle.trees.specs.Below.{Marks, Passed}
use Rattle.trees.proofs.MarkLaws.{pass_stands}
use Rattle.trees.proofs.RouteLaws.{on_route_has, walk_stands, walk_down}
use Rattle.trees.proofs.ReadLaws.{read_row}
use Rattle.calls.specs.declared.walk.Way.{Way}
use Rattle.calls.specs.Reply.{done}
use Rattle.calls.specs.Walk.{down_from, down as down_words, way_of, marked_way, passed_words, walk_to, conclude, stands_at as stands_in, walk_from, walk_of, walked_words}
use Rattle.history.specs.View.{Seat, seat_at, word_row, marks_in}
use Rattle.history.specs.Related.{Works, Busy, Marking, Related}
use Rattle.history.proofs.RelatedLaws.{related_busy}
use Rattle.history.proofs.Outcome.{Left, Outcome, goes_on}
use Rattle.history.proofs.Readings.{nearest_search, down_row_lem}
use Rattle.history.proofs.OwnSeat.{left_tells, left_walks, aside_walks}
use Rattle.history.proofs.Marked.{way_come, related_marked}
use Rattle.history.proofs.StepInsert.{insert_outcome}
use Rattle.history.proofs.StepUnlink.{unlink_outcome}
use Rattle.history.proofs.Decision.{decided_empty, decided_leaf, add_decides, remove_decides, contains_decides}

-- ---- down

-- a row of the words leads where the row of the heap does
down_word : (p : Point) (x to : ℕ) (row : Row) → down_row row p x ≡ some to → down_from p x (word_row row) ≡ to
down_word p x to (spare_row next n) e = let z : ◌≡◌ {A = ℕ} 0 1 = cc in absurd (omega arith)
down_word p x to (removed_row next n d) e = let z : ◌≡◌ {A = ℕ} 0 1 = cc in absurd (omega arith)
down_word p x to (leaf_row parent d) e = cc
down_word p x to (cut_row parent k l r) e = cc

-- the row x, and one that is further down the way with no more leaves below
record Onward (tree : Option Tree) (p : Point) (x to : ℕ) : Type 0 where
  route : OnRoute tree p to
  fewer : walk_left tree to ≤ walk_left tree x

module _ {words : List ℕ} {t : Table} (r : Related words t) (p : Point) where
  abbrev next : ℕ → ℕ
  next x = down_words words (2 * t.places) p x

  -- one row down, as the heap says
  down_is : (x : ℕ) (o : OnRoute r.tree p x) → next x ≡ (walk_down r.tree p x r.store o).to
  unfolding down_words
  down_is x o =
      let d : Descends r.heap r.tree p x = walk_down r.tree p x r.store o in
      ap (λ (row : WordRow). down_from p x row) (r.reads x (r.store.inside x (on_route_has r.tree p x o))) ∙ down_word p x d.to (r.heap x) (sym (down_row_lem r.heap p x) ∙ d.is)

  goes_down : (x : ℕ) → OnRoute r.tree p x → Onward r.tree p x (next x)
  goes_down x o =
      let d : Descends r.heap r.tree p x = walk_down r.tree p x r.store o in
      rw (down_is x o) (record { route = d.route; fewer = elim d.stays_or_less [ inl u ↦ rw u.1 (omega arith) | inr u ↦ omega (arith, u.1) ] })

  -- from a cut there are fewer leaves below
  cut_down : (x : ℕ) → OnRoute r.tree p x → {parent left right : ℕ} {k : Cut} → r.heap x ≡ cut_row parent k left right → walk_left r.tree (next x) < walk_left r.tree x
  cut_down x o {parent} {left} {right} {k} reads =
      let d : Descends r.heap r.tree p x = walk_down r.tree p x r.store o in
      rw (down_is x o) (elim d.stays_or_less [
        | inl u ↦
            let e : cut_row parent k left right ≡ leaf_row u.0.parent u.0.entry = sym reads ∙ u.0.reads in
            let z : ◌≡◌ {A = ℕ} 0 1 = cc in
            absurd (omega arith)
        | inr u ↦ u.1
      ])

  -- six rows down from a cut
  six_down : (x : ℕ) → OnRoute r.tree p x → {parent left right : ℕ} {k : Cut} → r.heap x ≡ cut_row parent k left right
      → OnRoute r.tree p (way_of words (2 * t.places) p x).to × (walk_left r.tree (way_of words (2 * t.places) p x).to < walk_left r.tree x)
  unfolding way_of
  six_down x o reads =
      let a = goes_down x o in
      let b = goes_down (next x) a.route in
      let c = goes_down (next (next x)) b.route in
      let d = goes_down (next (next (next x))) c.route in
      let e = goes_down (next (next (next (next x)))) d.route in
      let f = goes_down (next (next (next (next (next x))))) e.route in
      (f.route, omega (arith, cut_down x o reads, b.fewer, c.fewer, d.fewer, e.fewer, f.fewer))

-- ---- what an add has marked

-- an add has marked its way down to row x
abbrev MarkedTo : Marks → Option Tree → Call → ℕ → Type 0
MarkedTo marks tree (add p c) x = Passed marks tree p x
MarkedTo marks tree (remove p) x = Unit {0}
MarkedTo marks tree (contains p) x = Unit {0}
MarkedTo marks tree (nearest p) x = Unit {0}

-- so it has where it stands
marked_here : (marks : Marks) (tree : Option Tree) (i : ℕ) (c : Call) (cursor : ℕ) → OnRoute tree (point_of c) (stands_at tree cursor) → Marking marks tree cursor (unfinished i c none)
    → MarkedTo marks tree c (stands_at tree cursor)
marked_here marks none i c cursor o m = absurd o
marked_here marks (some t) i (add p c) cursor o m = elim (pass_stands marks (some t) p cursor m) [ inl u ↦ absurd (none-ne-some t (sym u.0)) | inr u ↦ u ]
marked_here marks (some t) i (remove p) cursor o m = tt
marked_here marks (some t) i (contains p) cursor o m = tt
marked_here marks (some t) i (nearest p) cursor o m = tt

-- ---- where the walk ends

-- in the empty tree
at_empty : {words : List ℕ} {t : Table} {s i n : ℕ} (c : Call) → Sound t → Settled t → s < stations → t.stations s ≡ unfinished i c none → is_search c ≡ false → (r : Related words t) → r.tree ≡ none
    → Outcome r s c none n (conclude words (2 * t.places) s (call_at words s) NONE Bad)
at_empty (add p v) sound settled l q e r f = add_decides NONE Bad sound l q r (decided_empty sound r p f) (λ h a d g. insert_outcome sound settled l q r a d g none f tt tt)
at_empty (remove p) sound settled l q e r f = remove_decides NONE Bad sound l q r (decided_empty sound r p f) (λ h d. absurd (false≢true h))
at_empty (contains p) sound settled l q e r f = contains_decides NONE Bad sound l q r (decided_empty sound r p f)
at_empty (nearest p) sound settled l q e r f = absurd (true≢false (sym (nearest_search p) ∙ e))

-- at a leaf on the way
at_leaf : {words : List ℕ} {t : Table} {s i n : ℕ} (c : Call) → Sound t → Settled t → s < stations → t.stations s ≡ unfinished i c none → is_search c ≡ false → (r : Related words t)
    → (x parent : ℕ) (d : Entry) → OnRoute r.tree (point_of c) x → r.heap x ≡ leaf_row parent d → MarkedTo (marks_in words) r.tree c x
    → Outcome r s c none n (conclude words (2 * t.places) s (call_at words s) x (word_row (leaf_row parent d)))
at_leaf (add p v) sound settled l q e r x parent d o reads m =
    add_decides x (word_row (leaf_row parent d)) sound l q r (decided_leaf sound r p x parent d o reads)
    (λ h a g f. insert_outcome sound settled l q r a g f (some (record { row = x; parent = parent; entry = d })) (o, reads) (λ y. same_point_false d.point p h (sym y)) m)
at_leaf {n = n} (remove p) sound settled l q e r x parent d o reads m =
    remove_decides x (word_row (leaf_row parent d)) sound l q r (decided_leaf sound r p x parent d o reads)
    (λ h g. unlink_outcome x parent d sound settled l q r o reads (same_point_true d.point p h) g n)
at_leaf (contains p) sound settled l q e r x parent d o reads m = contains_decides x (word_row (leaf_row parent d)) sound l q r (decided_leaf sound r p x parent d o reads)
at_leaf (nearest p) sound settled l q e r x parent d o reads m = absurd (true≢false (sym (nearest_search p) ∙ e))

-- ---- the step

-- the walk of a call is on the way of its point
call_walks : (t : Table) (tree : Option Tree) (queue : List Free) (seat : Seat) (i : ℕ) (c : Call) → is_search c ≡ false → Works t tree queue seat i c none
    → Walking tree (point_of c) seat.track.cursor
call_walks t tree queue seat i (add p c) e w = w.walking
call_walks t tree queue seat i (remove p) e w = w.walking
call_walks t tree queue seat i (contains p) e w = w.walking
call_walks t tree queue seat i (nearest p) e w = absurd (true≢false (sym (nearest_search p) ∙ e))

module _ {words : List ℕ} {t : Table} {s i n : ℕ} {c : Call} (l : s < stations) (q : t.stations s ≡ unfinished i c none) (e : is_search c ≡ false) (r : Related words t) where
  -- the walk goes on to row `to`, in words that have gained marks alone
  goes_to : (to : ℕ) → OnRoute r.tree (point_of c) to → step_moves + step_moves * walk_left r.tree to ≤ n → (w : List ℕ) (v : Related w t) → v.tree ≡ r.tree → v.queue ≡ r.queue
      → ((u : ℕ) → u < stations → seat_at w u ≡ seat_at words u) → Marking (marks_in w) r.tree to (unfinished i c none) → Outcome r s c none n (done (walked_words w s to))
  goes_to to o few w v tree queue seats m =
      let there : to ≢ NONE = λ y. omega (arith, y, r.store.inside to (on_route_has r.tree (point_of c) to o), r.store.fits) in
      let on : OnRoute v.tree (point_of c) to = rw tree o in
      let marked : Marking (marks_in w) v.tree to (unfinished i c none) =
      subst (λ (x : Option Tree). Marking (marks_in w) x to (unfinished i c none)) (sym tree) m in
      let left : step_moves * walk_left v.tree to ≤ step_moves * walk_left r.tree to = rw tree (omega arith) in
      let a = aside_walks s l v to q e on marked (step_moves * walk_left r.tree to) there left in
      goes_on refl (step_moves * walk_left r.tree to) few (left_walks s l v to q e on marked (step_moves * walk_left r.tree to) there left)
      (record { tree = a.tree ∙ tree; queue = a.queue ∙ queue; others = λ u k d. a.others u k d ∙ seats u k })

-- what its way makes of the words: an add marks it, another call does not
passed_add : (words : List ℕ) (call : WordCall) (way : Way) (p : Point) → call.kind ≡ 1 → call.point ≡ p → passed_words words call way ≡ marked_way words way (slot_of p)
unfolding passed_words
passed_add words call way p k e = rw (k, e)

passed_other : (words : List ℕ) (call : WordCall) (way : Way) (kind : ℕ) → call.kind ≡ kind → eqb kind 1 ≡ false → passed_words words call way ≡ words
unfolding passed_words
passed_other words call way kind k e = rw (k, e)

-- it goes on to the end of its way, which an add has marked
goes_on_lem : {words : List ℕ} {t : Table} {s i n : ℕ} (c : Call) → s < stations → t.stations s ≡ unfinished i c none → is_search c ≡ false → (r : Related words t) (x : ℕ)
    → MarkedTo (marks_in words) r.tree c x → OnRoute r.tree (point_of c) (way_of words (2 * t.places) (point_of c) x).to
    → step_moves + step_moves * walk_left r.tree (way_of words (2 * t.places) (point_of c) x).to ≤ n
    → Outcome r s c none n
    (done (walked_words (passed_words words (call_at words s) (way_of words (2 * t.places) (point_of c) x)) s (way_of words (2 * t.places) (point_of c) x).to))
unfolding related_marked seat_at
goes_on_lem {words} {t} {s} (add p v) l q e r x m on few =
    let way : Way = way_of words (2 * t.places) p x in
    let come = way_come r p x m in
    let b = related_busy r l q in
    rw (passed_add words (call_at words s) way p b.kind b.point)
    (goes_to l q e r way.to on few (marked_way words way (slot_of p)) (related_marked r come.written come.reads come.grown) refl refl (λ u k. come.written.seated u k)
    (inr come.passed))
goes_on_lem {words} {t} {s} (remove p) l q e r x m on few =
    let way : Way = way_of words (2 * t.places) p x in
    rw (passed_other words (call_at words s) way 2 (related_busy r l q).kind refl) (goes_to l q e r way.to on few words r refl refl (λ u k. refl) tt)
goes_on_lem {words} {t} {s} (contains p) l q e r x m on few =
    let way : Way = way_of words (2 * t.places) p x in
    rw (passed_other words (call_at words s) way 3 (related_busy r l q).kind refl) (goes_to l q e r way.to on few words r refl refl (λ u k. refl) tt)
goes_on_lem (nearest p) l q e r x m on few = absurd (true≢false (sym (nearest_search p) ∙ e))

module _ {words : List ℕ} {t : Table} {s i n : ℕ} {c : Call} (sound : Sound t) (settled : Settled t) (l : s < stations) (q : t.stations s ≡ unfinished i c none) (e : is_search c ≡ false)
    (z : Left words t s n) where
  abbrev r : Related words t
  r = z.related

  busy : Busy t r.tree r.queue (seat_at words s) i c none
  busy = related_busy r l q

  -- the step from row x
  abbrev From : ℕ → Type 0
  From x = Outcome r s c none n (walk_from words (2 * t.places) s (call_at words s) x (row_at words (2 * t.places) x))

  from_none : r.tree ≡ none → From NONE
  from_none f = rw (row_at_outside words (2 * t.places) NONE r.store.fits) (at_empty c sound settled l q e r f)

  from_leaf : (x : ℕ) → OnRoute r.tree (point_of c) x → MarkedTo (marks_in words) r.tree c x → LeafAt r.heap r.tree x → From x
  from_leaf x o m a =
      rw (r.reads x (r.store.inside x (on_route_has r.tree (point_of c) x o)), a.reads, or_right (eqb x NONE) {b = true} refl)
      (at_leaf c sound settled l q e r x a.parent a.entry o a.reads m)

  from_cut : (x : ℕ) → OnRoute r.tree (point_of c) x → MarkedTo (marks_in words) r.tree c x → step_moves * walk_left r.tree x ≤ n → CutAt r.heap r.tree x → From x
  unfolding seat_at
  from_cut x o m few a =
      let to : ℕ = (way_of words (2 * t.places) (point_of c) x).to in
      let d = six_down r (point_of c) x o a.reads in
      let there : to ≢ NONE = λ y. omega (arith, y, r.store.inside to (on_route_has r.tree (point_of c) to d.0), r.store.fits) in
      rw (r.reads x (r.store.inside x (on_route_has r.tree (point_of c) x o)), a.reads)
      (subst (λ (y : Point). Outcome r s c none n (walk_to words s (call_at words s) (way_of words (2 * t.places) y x))) (sym busy.point)
      (rw (ne_eqb to NONE there) (goes_on_lem c l q e r x m d.0 (omega (arith, d.1)))))

  from_row : (x : ℕ) → OnRoute r.tree (point_of c) x → MarkedTo (marks_in words) r.tree c x → step_moves * walk_left r.tree x ≤ n → From x
  from_row x o m few = elim (read_row r.tree r.store (on_route_has r.tree (point_of c) x o)) [ inl a ↦ from_leaf x o m a | inr a ↦ from_cut x o m few a ]

  -- the row where the walk stands, in the words
  stands_word : stands_in words s ≡ stands_at r.tree (seat_at words s).track.cursor
  unfolding stands_in seat_at
  stands_word = rw r.counted.root

  from_cursor : From (stands_at r.tree (seat_at words s).track.cursor)
  from_cursor = elim (walk_stands r.tree (point_of c) (seat_at words s).track.cursor (call_walks t r.tree r.queue (seat_at words s) i c e busy.works)) [
    | inl u ↦ subst (λ (x : ℕ). From x) (sym u.1) (from_none u.0)
    | inr o ↦ from_row (stands_at r.tree (seat_at words s).track.cursor) o (marked_here (marks_in words) r.tree i c (seat_at words s).track.cursor o (rw q at (r.marking s l)))
        (left_tells t r.tree r.queue (seat_at words s) i c n e (rw q at z.left))
  ]

-- The step of an unfinished add, remove or contains: it goes on with less left, or ends as the table says.
pub walk_outcome : {words : List ℕ} {t : Table} {s i n : ℕ} {c : Call} → Sound t → Settled t → s < stations → t.stations s ≡ unfinished i c none → is_search c ≡ false → (z : Left words t s n)
    → Outcome z.related s c none n (walk_of words (2 * t.places) s (call_at words s))
unfolding walk_of
walk_outcome {words} {t} {s} {i} {n} {c} sound settled l q e z =
    subst (λ (x : ℕ). Outcome z.related s c none n (walk_from words (2 * t.places) s (call_at words s) x (row_at words (2 * t.places) x))) (sym (stands_word sound settled l q e z))
    (from_cursor sound settled l q e z)
