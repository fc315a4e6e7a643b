-- The rows of an insert, over the words: what it reads is what the heap says (`room_beside`, `room_alone`), that is sound, and what it writes reads
-- as the heap with a leaf and a cut more (`beside_writes`, `alone_writes`). The cut is that of the two points and parts them (`new_cut_parts`).
use Prim.Native.Nat.{ℕ, ◌+◌, ◌-◌, ◌*◌, ◌≤◌, ◌<◌}
use mathlib.Core.Path.{◌≡◌, refl, sym, ◌∙◌, ap, subst}
use mathlib.Core.Logic.{◌≢◌, ◌⊎◌, inl, inr}
use mathlib.Core.Bool.{Bool, true, false, not, ◌||◌}
use mathlib.Core.List.{List}
use mathlib.Core.Option.{none, some}
use native.Mathlib.Omega.{arith}
use lib.Dec.{eqb, ltb}
use borrow.Author.Tests.{eq-eqb, ne_eqb, lt-ltb}
use Rattle.points.specs.declared.scale.Scale.{Scale}
use Rattle.stations.specs.Counts.{counts_at}
use Rattle.points.specs.declared.point.Point.{Point}
use Rattle.points.specs.declared.cut.Cut.{Cut}
use Rattle.points.specs.Number.{in_range_by}
use Rattle.words.specs.Rule.{rule_at}
use Rattle.points.specs.Cut.{cut_of, goes_left}
use Rattle.points.specs.Word.{NONE, cut_in_range}
use Rattle.points.proofs.CutLaws.{cut_parts, cut_in_range_lem}
use Rattle.rows.specs.declared.row.Row.TheVariants.{Bad}
use Rattle.words.specs.Range.{curve_in}
use Rattle.rows.specs.Row.{row_at, put_row, in_rows}
use Rattle.words.proofs.RangeLaws.{or_right, link_none, link_row}
use Rattle.rows.proofs.RowLaws.{row_at_outside}
use Rattle.rows.proofs.GradeLaws.{begin_outside}
use Rattle.trees.specs.Row.{Entry, Row, spare_row, removed_row, leaf_row, cut_row, Heap, pick_row, parent_of, next_of, replace_child}
use Rattle.trees.specs.Tree.{Tree, Has, count_of}
use Rattle.trees.specs.Queue.{Free, head_of, InQueue}
use Rattle.trees.specs.Store.{Store}
use Rattle.trees.specs.Reads.{ParentCut, InsertApart}
use Rattle.trees.specs.Reads.{Leaf}
use Rattle.trees.specs.Insert.{new_cut, InsertBeside, InsertAlone}
use Rattle.trees.proofs.Insert.{next_free}
use Rattle.trees.proofs.Room.{room_two, room_one}
use Rattle.trees.proofs.ReadLaws.{read_above, link_head}
use Rattle.trees.proofs.WriteLaws.{insert_apart, insert_writes, insert_write}
use Rattle.calls.specs.declared.insert.Site.{Site}
use Rattle.calls.specs.Link.{next_of as next_in, links_to, leaf_point, replaced}
use Rattle.calls.specs.Insert.{site_at, site_sound, new_leaf, cut_with, new_side, new_cut as cut_in, put_cut, insert_rows}
use Rattle.history.specs.View.{word_row, Reads, heap_put}
use Rattle.history.proofs.Effects.{reads_in, put_none}
use Rattle.history.proofs.RowLinks.{LeafIn, leaf_tells, leaf_of, leaf_in, cut_of_lem, child_words, child_in}
use Rattle.history.proofs.RowWrites.{heap_wrote, Holding, put_row_lem, put_grades, put_nothing}

-- ---- rows of the words and of the heap

pub next_word : (row : Row) → next_in (word_row row) ≡ next_of row
next_word (spare_row next n) = refl
next_word (removed_row next n e) = refl
next_word (leaf_row parent e) = refl
next_word (cut_row parent k l r) = refl

-- the row at none
pub none_word : (words : List ℕ) (rows : ℕ) → rows ≤ NONE → row_at words rows NONE ≡ Bad
none_word words rows l = row_at_outside words rows NONE l

-- ---- beside a leaf

-- the rows that an insert beside the leaf l finds: two free rows a and b with a row behind them, all apart from the leaf and the cut above it
pub record Finds (places : ℕ) (h : Heap) (a b : ℕ) (l : Leaf) : Type 0 where
  pub next : next_of (h a) ≡ b
  pub behind : next_of (h b) ≢ NONE
  pub first_row : a < 2 * places
  pub second_row : b < 2 * places
  pub leaf_row_lem : l.row < 2 * places
  pub reads : h l.row ≡ leaf_row l.parent l.entry
  pub apart : InsertApart a b l.row l.parent
  pub above : (l.parent ≡ NONE) ⊎ ((cut : Cut) × (up left right : ℕ) × (l.parent < 2 * places) × (h l.parent ≡ cut_row up cut left right) × ((left ≡ l.row) ⊎ (right ≡ l.row)))

pub beside_finds : {places : ℕ} {h : Heap} {tree : Tree} {queue : List Free} {changes removals released : ℕ} (l : Leaf) → Store places h (some tree) queue changes removals released
    → count_of (some tree) + (removals - released) < places → Has (some tree) l.row → h l.row ≡ leaf_row l.parent l.entry
    → Finds places h (head_of queue) (next_of (h (head_of queue))) l
beside_finds {places} {h} {tree} {queue} l store site has leaf =
    let spare = room_two store site in
    let first_is : head_of queue ≡ spare.first.row = ap head_of spare.parts in
    let second_is : next_of (h (head_of queue)) ≡ spare.second.row =
    ap (λ (x : ℕ). next_of (h x)) first_is ∙ ap next_of spare.first_reads ∙ next_free spare.second.row spare.first in
    let third_is : next_of (h (next_of (h (head_of queue)))) ≡ spare.third.row =
    ap (λ (x : ℕ). next_of (h x)) second_is ∙ ap next_of spare.second_reads ∙ next_free spare.third.row spare.second in
    record {
      next = refl;
      behind = λ e. spare.third_there (sym third_is ∙ e);
      first_row = link_head store (omega (arith, store.inside l.row has));
      second_row = rw second_is (store.free spare.second.row (subst (λ (q : List Free). InQueue q spare.second.row) (sym spare.parts) (inr (inl refl))));
      leaf_row_lem = store.inside l.row has;
      reads = leaf;
      apart = rw (second_is, first_is) (insert_apart store spare has leaf);
      above = elim (read_above (some tree) store has) [
        | inl u ↦ inl (sym (ap parent_of leaf) ∙ u.0)
        | inr u ↦
            let c : ParentCut h (some tree) l.row l.parent = rw (ap parent_of leaf) at u.1 in
            inr (c.cut.key, c.cut.parent, c.cut.left, c.cut.right, store.inside l.parent c.has, c.cut.reads, c.links)
      ];
    }

-- what it reads, as the heap says
abbrev pub beside_site : List ℕ → ℕ → Heap → ℕ → ℕ → Leaf → Site
beside_site words rows h a b l = record {
  rule = rule_at words;
  first = a;
  front = word_row (h a);
  second = b;
  behind = word_row (h b);
  at = l.row;
  leaf = word_row (leaf_row l.parent l.entry);
  over = l.parent;
  cut = row_at words rows l.parent;
}

-- the new cut, in the words
cut_word : (site : Site) (point old : Point) → leaf_point site.leaf ≡ old → cut_in site point ≡ word_row (new_cut (cut_of site.rule point old) site.over point site.first site.at)
unfolding cut_in new_side
cut_word site point old e = rw e (go (cut_of site.rule point old) (goes_left (cut_of site.rule point old) point))
  where
    go : (k : Cut) (side : Bool)
        → cut_with site k side ≡ word_row (pick_row side (cut_row site.over k site.first site.at) (cut_row site.over k site.at site.first))
    go k true = refl
    go k false = refl

module _ (words : List ℕ) {places : ℕ} {h : Heap} {a b : ℕ} {l : Leaf} (w : Finds places h a b l) (reads : Reads words (2 * places) h) (fits : 2 * places ≤ NONE) where
  pub room_beside : (counts_at words).head ≡ a → site_at words (2 * places) l.row ≡ beside_site words (2 * places) h a b l
  unfolding site_at
  room_beside e = rw (e, reads a w.first_row, next_word (h a), w.next, ne_eqb l.row NONE (λ d. omega (arith, d, w.leaf_row_lem)), reads b w.second_row, reads l.row w.leaf_row_lem, w.reads)

  linked_beside : (eqb l.parent NONE || links_to l.row (row_at words (2 * places) l.parent)) ≡ true
  linked_beside = elim w.above [
    | inl e ↦ rw (eq-eqb l.parent NONE e)
    | inr u ↦ or_right (eqb l.parent NONE) (rw (reads l.parent u.4, u.5) (elim u.6 [
      | inl e ↦ rw (eq-eqb u.2 l.row e)
      | inr e ↦ or_right (eqb u.2 l.row) (eq-eqb u.3 l.row e)
    ]))
  ]

  pub sound_beside : site_sound (beside_site words (2 * places) h a b l) ≡ true
  unfolding site_sound
  sound_beside =
      rw (next_word (h a), w.next, next_word (h b), ne_eqb b NONE (λ d. omega (arith, d, w.second_row)), ne_eqb l.row NONE (λ d. omega (arith, d, w.leaf_row_lem)), ne_eqb (next_of (h b)) NONE w.behind, ne_eqb b a (λ d. w.apart.a≢b (sym d)))
      linked_beside

  -- the leaf as it is read is in range
  leaf_ranged : in_rows (rule_at words) (2 * places) (word_row (leaf_row l.parent l.entry)) ≡ true
  leaf_ranged = rw w.reads at (reads_in words (2 * places) h l.row w.leaf_row_lem reads)

  old : LeafIn (rule_at words) (2 * places) l.parent l.entry
  old = leaf_tells (rule_at words) (2 * places) l.parent l.entry leaf_ranged

  -- so the new cut parts its point from any other that is in range
  pub new_cut_parts : (p : Point) → in_range_by (rule_at words) p ≡ true → ¬ (p ≡ l.entry.point) → goes_left (cut_of (rule_at words) p l.entry.point) l.entry.point ≡ not (goes_left (cut_of (rule_at words) p l.entry.point) p)
  new_cut_parts p i = cut_parts (rule_at words) p l.entry.point i old.point_in

  -- and can be stored
  new_cut_in : (new : Entry) → in_range_by (rule_at words) new.point ≡ true → in_rows (rule_at words) (2 * places) (word_row (new_cut (cut_of (rule_at words) new.point l.entry.point) l.parent new.point a l.row)) ≡ true
  new_cut_in new i = go (goes_left k new.point)
    where
      k : Cut
      k = cut_of (rule_at words) new.point l.entry.point

      between : cut_in_range (rule_at words) k ≡ true
      between = cut_in_range_lem (rule_at words) new.point l.entry.point i old.point_in

      first_in : ltb a (2 * places) ≡ true
      first_in = lt-ltb a (2 * places) w.first_row

      row_in : ltb l.row (2 * places) ≡ true
      row_in = lt-ltb l.row (2 * places) w.leaf_row_lem

      go : (side : Bool) → in_rows (rule_at words) (2 * places) (word_row (pick_row side (cut_row l.parent k a l.row) (cut_row l.parent k l.row a))) ≡ true
      go true = cut_of_lem (rule_at words) (2 * places) l.parent k a l.row (record { link_in_lem = old.link_in_lem; cut_in_lem = between; left_in = first_in; right_in = row_in })
      go false = cut_of_lem (rule_at words) (2 * places) l.parent k l.row a (record { link_in_lem = old.link_in_lem; cut_in_lem = between; left_in = row_in; right_in = first_in })

  -- the rows written over a slice with the same rows
  pub beside_writes : {base : List ℕ} {limit : ℕ} {scale : Scale} (new : Entry) → rule_at words ≡ scale.rule → in_range_by (rule_at words) new.point ≡ true → curve_in new.curve ≡ true → Holding base base places limit scale h
      → (h' : Heap) × Holding base (insert_rows base (beside_site words (2 * places) h a b l) new.added new.point new.curve) places limit scale h'
      × InsertBeside h h' (cut_of (rule_at words) new.point l.entry.point) a b new l
  unfolding insert_rows new_leaf put_cut cut_in
  beside_writes {base} {limit} {scale} new e i c v = elim w.above [
    | inl z ↦ (
      h₃,
      put_nothing v₃ l.parent (replaced l.row b (row_at words (2 * places) l.parent)) z,
      insert_writes w.apart (heap_wrote h a (leaf_row b new)) (heap_wrote h₁ b cut) (heap_wrote h₂ l.row (leaf_row b l.entry)) (record { nothing = λ d j. refl; written = λ n. absurd (n z) }),
    )
    | inr u ↦
        let row : Row = replace_child l.row b (h l.parent) in
        let same : replaced l.row b (row_at words (2 * places) l.parent) ≡ word_row row =
        rw (reads l.parent u.4, u.5) (child_words l.row b u.1 u.0 u.2 u.3) in
        let ranged : in_rows scale.rule (2 * places) (word_row row) ≡ true =
        under row (rw u.5 (child_in (rule_at words) (2 * places) l.row b u.1 u.0 u.2 u.3 w.second_row (rw u.5 at (reads_in words (2 * places) h l.parent u.4 reads)))) in (
          heap_put h₃ l.parent row,
          put_row_lem v₃ l.parent (replaced l.row b (row_at words (2 * places) l.parent)) row same u.4 ranged,
          insert_writes w.apart (heap_wrote h a (leaf_row b new)) (heap_wrote h₁ b cut) (heap_wrote h₂ l.row (leaf_row b l.entry))
              (record { nothing = λ d j. absurd (omega (arith, d, u.4)); written = λ n. heap_wrote h₃ l.parent row }),
        )
  ]
    where
      -- what is in range by the rule of the words read is so by that of the words written
      under : (row : Row) → in_rows (rule_at words) (2 * places) (word_row row) ≡ true → in_rows scale.rule (2 * places) (word_row row) ≡ true
      under row f = rw e at f

      cut : Row
      cut = new_cut (cut_of (rule_at words) new.point l.entry.point) l.parent new.point a l.row

      h₁ : Heap
      h₁ = heap_put h a (leaf_row b new)

      h₂ : Heap
      h₂ = heap_put h₁ b cut

      h₃ : Heap
      h₃ = heap_put h₂ l.row (leaf_row b l.entry)

      w₁ : List ℕ
      w₁ = put_row base a (word_row (leaf_row b new))

      site : Site
      site = beside_site words (2 * places) h a b l

      w₂ : List ℕ
      w₂ = put_cut w₁ site new.point

      v₁ : Holding base w₁ places limit scale h₁
      v₁ = put_row_lem v a (word_row (leaf_row b new)) (leaf_row b new) refl w.first_row
          (under (leaf_row b new) (leaf_of (rule_at words) (2 * places) b new (record { link_in_lem = link_row (2 * places) b w.second_row; point_in = i; curve_in_lem = c })))

      cut_put : Holding base (put_row w₁ b (cut_in site new.point)) places limit scale h₂
      cut_put = put_row_lem v₁ b (cut_in site new.point) cut (cut_word site new.point l.entry.point refl) w.second_row (under cut (new_cut_in new i))

      cut_reads : row_at (put_row w₁ b (cut_in site new.point)) (2 * places) b ≡ cut_in site new.point
      cut_reads = cut_put.reads b w.second_row ∙ ap word_row (heap_wrote h₁ b cut).here ∙ sym (cut_word site new.point l.entry.point refl)

      v₂ : Holding base w₂ places limit scale h₂
      v₂ = put_grades cut_put b (new_side site new.point) new.point l.entry.point cut_reads

      v₃ : Holding base (put_row w₂ l.row (word_row (leaf_row b l.entry))) places limit scale h₃
      v₃ = put_row_lem v₂ l.row (word_row (leaf_row b l.entry)) (leaf_row b l.entry) refl w.leaf_row_lem
          (under (leaf_row b l.entry) (leaf_in (rule_at words) (2 * places) b l.parent l.entry (link_row (2 * places) b w.second_row) leaf_ranged))

-- ---- into the empty tree

-- the first free row is a row, with a row behind it
pub alone_finds : {places : ℕ} {h : Heap} {queue : List Free} {changes removals released : ℕ} → Store places h none queue changes removals released → removals - released < places
    → (head_of queue < 2 * places) × (next_of (h (head_of queue)) ≢ NONE)
alone_finds {places} {h} {queue} store site =
    let spare = room_one store site in
    let next_is : next_of (h (head_of queue)) ≡ spare.second.row =
    ap (λ (q : List Free). next_of (h (head_of q))) spare.parts ∙ ap next_of spare.first_reads ∙ next_free spare.second.row spare.first in
    (link_head store (omega arith), λ e. spare.second_there (sym next_is ∙ e))

-- what it reads, as the heap says: one free row, and no leaf
abbrev pub alone_site : ℕ → Heap → ℕ → Site
alone_site rule h a = record { rule = rule; first = a; front = word_row (h a); second = NONE; behind = Bad; at = NONE; leaf = Bad; over = NONE; cut = Bad }

module _ (words : List ℕ) (places : ℕ) (h : Heap) (a : ℕ) (first_row : a < 2 * places) (reads : Reads words (2 * places) h) (fits : 2 * places ≤ NONE) where
  pub room_alone : (counts_at words).head ≡ a → site_at words (2 * places) NONE ≡ alone_site (rule_at words) h a
  unfolding site_at
  room_alone e = rw (e, reads a first_row, none_word words (2 * places) fits, none_word words (2 * places) fits)

  pub sound_alone : next_of (h a) ≢ NONE → site_sound (alone_site (rule_at words) h a) ≡ true
  unfolding site_sound
  sound_alone n = rw (next_word (h a), ne_eqb (next_of (h a)) NONE n)

  -- no cut is written
  cut_nothing : {base w : List ℕ} {limit : ℕ} {scale : Scale} {h' : Heap} → Holding base w places limit scale h' → (p : Point) → Holding base (put_cut w (alone_site (rule_at words) h a) p) places limit scale h'
  unfolding put_cut
  cut_nothing {base} {w} v p =
      let same : put_cut w (alone_site (rule_at words) h a) p ≡ w = begin_outside (put_row w NONE (cut_in (alone_site (rule_at words) h a) p)) NONE _ _ _ (omega arith) ∙ put_none w (cut_in (alone_site (rule_at words) h a) p) in
      rw same v

  pub alone_writes : {base : List ℕ} {limit : ℕ} {scale : Scale} (new : Entry) → in_range_by scale.rule new.point ≡ true → curve_in new.curve ≡ true → Holding base base places limit scale h
      → (h' : Heap) × Holding base (insert_rows base (alone_site (rule_at words) h a) new.added new.point new.curve) places limit scale h' × InsertAlone h h' a new
  unfolding insert_rows new_leaf
  alone_writes {base} {limit} {scale} new i c v =
      let v₁ = put_row_lem v a (word_row (leaf_row NONE new)) (leaf_row NONE new) refl first_row
      (leaf_of scale.rule (2 * places) NONE new (record { link_in_lem = link_none (2 * places); point_in = i; curve_in_lem = c })) in (
        heap_put h a (leaf_row NONE new),
        put_nothing (put_nothing (cut_nothing v₁ new.point) NONE Bad refl) NONE Bad refl,
        insert_write (heap_wrote h a (leaf_row NONE new)),
      )
