-- The step of an add, a remove or a contains is refused exactly if something that it needs is not met (`walk_needs_lem`). Assumes nothing.
use mathlib.Core.Path.{◌≡◌, refl, sym, ap, ◌∙◌}
use mathlib.Core.Bool.{Bool, true, false, cond, not, ◌&&◌, ◌||◌, false≢true}
use mathlib.Core.List.{List, [], ◌∷◌, ◌++◌}
use Prim.Native.Nat.{ℕ, ◌≤◌, ◌<◌}
use native.Mathlib.Omega.{arith}
use borrow.Author.Tests.{ne_eqb, ltb-true}
use lib.Dec.{eqb, leb, ltb}
use native.Mathlib.Decide.{dec_lt}
use Rattle.points.specs.declared.point.Point.{Point}
use Rattle.points.specs.declared.cut.Cut.{Cut as PointCut}
use Rattle.points.specs.Cut.{goes_left}
use Rattle.points.specs.Word.{NONE, cut_in_range}
use Rattle.points.proofs.Tests.{and_l, and_r}
use Rattle.words.specs.Layout.{most_rows}
use Rattle.words.specs.Range.{link_in}
use Rattle.words.specs.Refusal.{unsound}
use Rattle.stations.specs.Answer.{code_added, code_removed}
use Rattle.stations.specs.declared.call.Call.{Call}
use Rattle.stations.specs.Counts.{counts_at}
use Rattle.rows.specs.declared.row.Row.{Row}
use Rattle.rows.specs.declared.row.Row.TheVariants.{Bad, Spare, Removed, Leaf, Cut}
use Rattle.words.specs.Rule.{rule_at}
use Rattle.rows.specs.Row.{in_rows, row_at}
use Rattle.rows.proofs.RowLaws.{in_rows_cut, row_sound, row_at_outside}
use Rattle.calls.specs.declared.insert.Site.{Site}
use Rattle.calls.specs.declared.unlink.Around.{Around}
use Rattle.calls.specs.declared.walk.Way.{Way}
use Rattle.calls.specs.Reply.{done, refused, ask, pick_reply}
use Rattle.calls.specs.Answer.{answered_words}
use Rattle.calls.specs.Link.{next_of, links_to, is_leaf, is_cut, is_tree, is_free}
use Rattle.calls.specs.Insert.{site_at, site_sound, insert_of}
use Rattle.calls.specs.Unlink.{around_at, around_sound, unlink_of}
use Rattle.calls.specs.Walk.{down_from, down, way_of, walk_to, code_at, plain_answer, conclude_as, conclude, stands_at, walk_of}
use Rattle.calls.specs.Needs.{Need, leaf_at, cut_over, free_before, free_last, met, all_met, unless, pick_needs, way_needs, site_needs, around_needs, answer_needs, walk_needs}
use Rattle.calls.proofs.Conjunctions.{and_false}

-- ---- the way down

module _ (words : List ℕ) (rows : ℕ) (most : rows ≤ most_rows) (point : Point) where
  abbrev tree : ℕ → Bool
  tree at = is_tree (row_at words rows at)

  -- a row that is read is below the rows
  below : (at : ℕ) → tree at ≡ true → at < rows
  below at e = go (dec_lt at rows)
    where
      go : Dec (at < rows) → at < rows
      go (yes h) = h
      go (no h) = absurd (false≢true (sym (ap is_tree (row_at_outside words rows at (omega arith))) ∙ e))

  -- the children of a cut that is read are rows
  child_below : (at parent : ℕ) (cut : PointCut) (left right : ℕ) → row_at words rows at ≡ Cut parent cut left right → (left < rows) × (right < rows)
  child_below at parent cut left right e =
      let h = sym (in_rows_cut (rule_at words) rows parent cut left right) ∙ ap (in_rows (rule_at words) rows) (sym e) ∙ row_sound words rows at (rw e refl) in
      let ahead = link_in rows parent && cut_in_range (rule_at words) cut in
      (ltb-true left rows (and_r ahead (ltb left rows) (and_l (ahead && ltb left rows) (ltb right rows) h)), ltb-true right rows (and_r (ahead && ltb left rows) (ltb right rows) h))

  -- the way goes on exactly from a row of the tree
  goes_on_lem : (at : ℕ) → not (eqb (down words rows point at) NONE) ≡ tree at
  unfolding down
  goes_on_lem at = go (row_at words rows at) refl
    where
      there : (x : ℕ) → x < rows → not (eqb x NONE) ≡ true
      there x l = ap not (ne_eqb x NONE (λ e. omega arith))

      side : (goes : Bool) (left right : ℕ) → left < rows → right < rows → not (eqb (cond goes left right) NONE) ≡ true
      side true left right l r = there left l
      side false left right l r = there right r

      go : (row : Row) → row_at words rows at ≡ row → not (eqb (down_from point at row) NONE) ≡ is_tree row
      go Bad e = refl
      go (Spare next freed) e = refl
      go (Removed next freed added p curve) e = refl
      go (Leaf parent added p curve) e = there at (below at (ap is_tree e))
      go (Cut parent cut left right) e = let c = child_below at parent cut left right e in side (goes_left cut point) left right c.0 c.1

  -- a row of the tree on the way has one before it
  comes_from : (at : ℕ) → tree (down words rows point at) ≡ true → tree at ≡ true
  comes_from at e = sym (goes_on_lem at) ∙ ap not (ne_eqb (down words rows point at) NONE (λ f. let l = below (down words rows point at) e in omega arith))

  -- so six rows of the tree are one, the last
  six : (a b c d e f : Bool) → (f ≡ true → e ≡ true) → (e ≡ true → d ≡ true) → (d ≡ true → c ≡ true) → (c ≡ true → b ≡ true) → (b ≡ true → a ≡ true)
      → f ≡ (a && (b && (c && (d && (e && (f && true))))))
  six a b c d e true h5 h4 h3 h2 h1 = all (h5 refl) (h4 (h5 refl)) (h3 (h4 (h5 refl))) (h2 (h3 (h4 (h5 refl)))) (h1 (h2 (h3 (h4 (h5 refl)))))
    where
      all : e ≡ true → d ≡ true → c ≡ true → b ≡ true → a ≡ true → true ≡ (a && (b && (c && (d && (e && (true && true))))))
      all p q r s t = rw (p, q, r, s, t) refl
  six a b c d e false h5 h4 h3 h2 h1 = none a b c d e
    where
      none : (a b c d e : Bool) → false ≡ (a && (b && (c && (d && (e && (false && true))))))
      none false b c d e = refl
      none true false c d e = refl
      none true true false d e = refl
      none true true true false e = refl
      none true true true true false = refl
      none true true true true true = refl

  way_needs_lem : (at : ℕ) → not (eqb (way_of words rows point at).to NONE) ≡ all_met words rows (way_needs (way_of words rows point at))
  unfolding way_of all_met
  way_needs_lem at =
      let one = down words rows point at in
      let two = down words rows point one in
      let three = down words rows point two in
      let four = down words rows point three in
      let five = down words rows point four in
      goes_on_lem five
      ∙ six (tree at) (tree one) (tree two) (tree three) (tree four) (tree five) (comes_from four) (comes_from three) (comes_from two) (comes_from one) (comes_from at)

-- ---- insert and unlink

-- only a free row has one after it
free_next : (row : Row) → not (eqb (next_of row) NONE) ≡ (is_free row && not (eqb (next_of row) NONE))
free_next Bad = refl
free_next (Spare next freed) = refl
free_next (Removed next freed added point curve) = refl
free_next (Leaf parent added point curve) = refl
free_next (Cut parent cut left right) = refl

-- nothing is asked, or all of these
met_unless : (words : List ℕ) (rows : ℕ) (b : Bool) (needs : List Need) → (b || all_met words rows needs) ≡ all_met words rows (unless b needs)
unfolding all_met
met_unless words rows true needs = refl
met_unless words rows false needs = refl

module _ (words : List ℕ) (rows at : ℕ) where
  site_needs_lem : site_sound (site_at words rows at) ≡ all_met words rows (site_needs (site_at words rows at))
  unfolding site_sound site_at all_met
  site_needs_lem =
      bools (free_next site.front) (free_next site.behind) none leaf differ top linked
      ∙ ap (λ (x : Bool). first && (none || (leaf && (second && (differ && x))))) (met_unless words rows top (cut_over site.over at ∷ []))
      ∙ ap (λ (x : Bool). first && x) (met_unless words rows none _)
    where
      site : Site
      site = site_at words rows at

      first : Bool
      first = met words rows (free_before site.first)

      second : Bool
      second = met words rows (free_before site.second)

      none : Bool
      none = eqb at NONE

      leaf : Bool
      leaf = is_leaf site.leaf

      differ : Bool
      differ = not (eqb site.second site.first)

      top : Bool
      top = eqb site.over NONE

      linked : Bool
      linked = links_to at site.cut

      bools : {x a y b : Bool} → x ≡ a → y ≡ b → (n l d o k : Bool)
          → (x && (n || (((l && y) && d) && (o || k)))) ≡ (a && (n || (l && (b && (d && (o || (k && true)))))))
      bools {x} {a} {y} {b} e f n l d o k = (λ i. e i && (n || (((l && f i) && d) && (o || k)))) ∙ go a n l b d o k
        where
          go : (a n l b d o k : Bool) → (a && (n || (((l && b) && d) && (o || k)))) ≡ (a && (n || (l && (b && (d && (o || (k && true)))))))
          go false n l b d o k = refl
          go true true l b d o k = refl
          go true false false b d o k = refl
          go true false true false d o k = refl
          go true false true true false o k = refl
          go true false true true true true k = refl
          go true false true true true false true = refl
          go true false true true true false false = refl

  around_needs_lem : (around_sound (around_at words rows at) && leb 1 (counts_at words).held) ≡ all_met words rows (around_needs (around_at words rows at))
  unfolding around_sound around_at all_met
  around_needs_lem =
      go last leaf held single linked differ sibling top above
      ∙ ap (λ (x : Bool). last && (leaf && (held && (single || (linked && (differ && (sibling && x))))))) (met_unless words rows top (cut_over a.above a.over ∷ []))
      ∙ ap (λ (x : Bool). last && (leaf && (held && x))) (met_unless words rows single _)
    where
      a : Around
      a = around_at words rows at

      last : Bool
      last = met words rows (free_last a.tail)

      leaf : Bool
      leaf = is_leaf a.leaf

      held : Bool
      held = leb 1 (counts_at words).held

      single : Bool
      single = eqb a.over NONE

      linked : Bool
      linked = links_to at a.cut

      differ : Bool
      differ = not (eqb a.side at)

      sibling : Bool
      sibling = is_tree a.other

      top : Bool
      top = eqb a.above NONE

      above : Bool
      above = links_to a.over a.grand

      go : (q l h s k d t o g : Bool)
          → (((q && l) && (s || (((k && d) && t) && (o || g)))) && h) ≡ (q && (l && (h && (s || (k && (d && (t && (o || (g && true)))))))))
      go false l h s k d t o g = refl
      go true false h s k d t o g = refl
      go true true false s k d t o g = and_false (s || (((k && d) && t) && (o || g)))
      go true true true true k d t o g = refl
      go true true true false false d t o g = refl
      go true true true false true false t o g = refl
      go true true true false true true false o g = refl
      go true true true false true true true true g = refl
      go true true true false true true true false true = refl
      go true true true false true true true false false = refl

-- ---- the step

module _ (words : List ℕ) (rows s : ℕ) (most : rows ≤ most_rows) (call : Call) where
  asked : (b : Bool) (after : List ℕ) → (ask b unsound words (done after)).number ≡ cond b 0 unsound
  asked true after = refl
  asked false after = refl

  -- the answer
  answer_needs_lem : (at : ℕ) (row : Row) (code : ℕ) → (conclude_as words rows s call at row code).number ≡ cond (all_met words rows (answer_needs words rows at code)) 0 unsound
  unfolding insert_of unlink_of all_met
  answer_needs_lem at row code = go (eqb code code_added) (eqb code code_removed)
    where
      go : (a r : Bool)
          → (pick_reply a (insert_of words rows s call at) (pick_reply r (unlink_of words rows s call at) (done (answered_words words s (plain_answer call code row))))).number
          ≡ cond (all_met words rows (pick_needs a (site_needs (site_at words rows at)) (pick_needs r (around_needs (around_at words rows at)) []))) 0 unsound
      go true r = asked (site_sound (site_at words rows at)) _ ∙ ap (λ (b : Bool). cond b 0 unsound) (site_needs_lem words rows at)
      go false true = asked (around_sound (around_at words rows at) && leb 1 (counts_at words).held) _ ∙ ap (λ (b : Bool). cond b 0 unsound) (around_needs_lem words rows at)
      go false false = refl

  -- at a row that is no cut
  end_needs : (at : ℕ) → (ask (eqb at NONE || is_leaf (row_at words rows at)) unsound words (conclude words rows s call at (row_at words rows at))).number
      ≡ cond (all_met words rows (unless (eqb at NONE) (leaf_at at ∷ []) ++ answer_needs words rows at (code_at words s call (row_at words rows at)))) 0 unsound
  unfolding conclude all_met
  end_needs at = go (eqb at NONE) (is_leaf row) refl
    where
      row : Row
      row = row_at words rows at

      code : ℕ
      code = code_at words s call row

      needs : List Need
      needs = answer_needs words rows at code

      go : (none leaf : Bool) → is_leaf row ≡ leaf
          → (ask (none || leaf) unsound words (conclude_as words rows s call at row code)).number ≡ cond (all_met words rows (unless none (leaf_at at ∷ []) ++ needs)) 0 unsound
      go true leaf e = answer_needs_lem at row code
      go false true e = rw e (answer_needs_lem at row code)
      go false false e = rw e refl

  pub walk_needs_lem : (walk_of words rows s call).number ≡ cond (all_met words rows (walk_needs words rows s call)) 0 unsound
  unfolding walk_of walk_needs
  walk_needs_lem = go (is_cut (row_at words rows at))
    where
      at : ℕ
      at = stands_at words s

      way : Way
      way = way_of words rows call.point at

      down_number : (b : Bool) (after : List ℕ) → (pick_reply b (refused unsound words) (done after)).number ≡ cond (not b) 0 unsound
      down_number true after = refl
      down_number false after = refl

      go : (c : Bool)
          → (pick_reply c (walk_to words s call way) (ask (eqb at NONE || is_leaf (row_at words rows at)) unsound words (conclude words rows s call at (row_at words rows at)))).number
          ≡ cond
          (all_met words rows
          (pick_needs c (way_needs way) (unless (eqb at NONE) (leaf_at at ∷ []) ++ answer_needs words rows at (code_at words s call (row_at words rows at)))))
          0
          unsound
      go true = down_number (eqb way.to NONE) _ ∙ ap (λ (b : Bool). cond b 0 unsound) (way_needs_lem words rows most call.point at)
      go false = end_needs at
