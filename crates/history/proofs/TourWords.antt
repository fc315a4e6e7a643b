-- `tour` over words is `tour` over the rows that they read as (`tour_words`).
use Prim.Native.Nat.{ℕ, ◌≤◌, ◌<◌}
use mathlib.Core.Path.{◌≡◌, refl, sym, ◌∙◌}
use mathlib.Core.Logic.{◌⊎◌, inl, inr}
use mathlib.Core.Bool.{Bool, true, false, cond, ◌&&◌}
use mathlib.Core.List.{List}
use mathlib.Core.Option.{none, some}
use native.Mathlib.Omega.{arith}
use lib.Dec.{eqb, ltb}
use borrow.Author.Tests.{eqb-false}
use Rattle.points.specs.declared.cut.Cut.{Cut}
use Rattle.points.specs.Cut.{goes_left}
use Rattle.points.specs.Word.{NONE, cut_in_range}
use Rattle.points.proofs.Tests.{and_l}
use Rattle.stations.specs.declared.call.Best.{Best as WordBest}
use Rattle.calls.specs.declared.aim.Aim.{Aim}
use Rattle.words.specs.Range.{link_in}
use Rattle.rows.specs.Row.{row_at, in_rows}
use Rattle.rows.specs.Grades.{admits}
use Rattle.trees.specs.Row.{Row, spare_row, removed_row, leaf_row, cut_row, Heap}
use Rattle.trees.specs.Tour.{considered, pick_progress, go_to, Opens, shut, tour_down, tour_parent, tour_above, tour_up, tour_row, tour}
use Rattle.trees.specs.Stand.{Down, Up}
use Rattle.trees.proofs.ChoiceOf.{choice_of}
use Rattle.calls.specs.declared.progress.Progress.{Progress as WordProgress}
use Rattle.calls.specs.Tour.{far_shut, from_near, tour_down as tour_word_down, tour_above as tour_word_parent, tour_up as tour_word_up, tour as tour_word}
use Rattle.calls.specs.Progress.{considered as considered_word, onward, strayed, pick_progress as pick_word_progress}
use Rattle.words.specs.Rule.{rule_at}
use Rattle.history.specs.View.{word_row, Reads, phase_of, best_of, opens_in}
use Rattle.history.proofs.Effects.{reads_in}
use Rattle.rows.proofs.RowLaws.{in_rows_cut}
use Rattle.words.proofs.RangeLaws.{link_tells}
use Rattle.history.proofs.ProgressWords.{view_of, Fit, Keeps, keeps_some, keeps_none, keeps_pick, keeps_onward, square_words, considered_words, considered_ranged}
use Rattle.history.proofs.LookWords.{leaf_in}

-- the parent link of a row of the tree is a link
cut_link : (rule rows parent : ℕ) (k : Cut) (l r : ℕ) → in_rows rule rows (word_row (cut_row parent k l r)) ≡ true → link_in rows parent ≡ true
cut_link rule rows parent k l r i =
    let a = link_in rows parent in
    let b = cut_in_range rule k in
    and_l a b (and_l (a && b) (ltb l rows) (and_l ((a && b) && ltb l rows) (ltb r rows) (sym (in_rows_cut rule rows parent k l r) ∙ i)))

module _ (words : List ℕ) (rows : ℕ) (h : Heap) (reads : Reads words rows h) (aim : Aim) (slot : ℕ) where
  abbrev opens : Opens
  opens = opens_in words slot

  -- the far side of a cut is shut for the words and for the rows alike
  shut_words : (k : Cut) (x : ℕ) (best : WordBest) → far_shut words slot aim best x k (goes_left k aim.point) ≡ shut (choice_of aim.scale aim.point) opens k x (best_of best)
  shut_words k x best = rw (square_words aim best)

  -- to a row in a phase, with the same best
  goes : (p : WordProgress) → Fit (rule_at words) p → (x n : ℕ) → n ≤ 1 → Keeps (rule_at words) (onward p x n p.best) (go_to x (phase_of n) p.missed (best_of p.best))
  goes p f x n l = keeps_onward (rule_at words) p x n p.best (best_of p.best) f l f.best refl

  -- phase down
  tour_down_lem : (x : Row) (p : WordProgress) → Fit (rule_at words) p → in_rows (rule_at words) rows (word_row x) ≡ true
      → Keeps (rule_at words) (tour_word_down words slot aim p (word_row x)) (tour_down (choice_of aim.scale aim.point) opens aim.asof x p.cursor p.missed (best_of p.best))
  tour_down_lem (spare_row next n) p f i = keeps_none (rule_at words) (strayed p)
  tour_down_lem (removed_row next n e) p f i = keeps_none (rule_at words) (strayed p)
  tour_down_lem (leaf_row parent e) p f i =
      let w = leaf_in (rule_at words) rows parent e i in
      keeps_onward (rule_at words) p p.cursor 1 (considered_word aim p.best e.added e.point e.curve) (considered (choice_of aim.scale aim.point) aim.asof (best_of p.best) e) f
      (omega arith) (considered_ranged (rule_at words) aim p.best e f.best w.point) (considered_words aim p.best e w.curve)
  tour_down_lem (cut_row parent k l r) p f i =
      let near : ℕ = cond (goes_left k aim.point) l r in
      let far : ℕ = cond (goes_left k aim.point) r l in
      let closed : Bool = shut (choice_of aim.scale aim.point) opens k p.cursor (best_of p.best) in
      rw (shut_words k p.cursor p.best)
      (keeps_pick (rule_at words) (admits words p.cursor (goes_left k aim.point) slot) (onward p near 0 p.best) (pick_word_progress closed (onward p p.cursor 1 p.best) (onward p far 0 p.best))
      (go_to near Down p.missed (best_of p.best))
      (pick_progress closed (go_to p.cursor Up p.missed (best_of p.best)) (go_to far Down p.missed (best_of p.best)))
      (λ e. goes p f near 0 (omega arith))
      (λ e. keeps_pick (rule_at words) closed (onward p p.cursor 1 p.best) (onward p far 0 p.best) (go_to p.cursor Up p.missed (best_of p.best)) (go_to far Down p.missed (best_of p.best))
      (λ g. goes p f p.cursor 1 (omega arith)) (λ g. goes p f far 0 (omega arith))))

  -- phase up, at the cut above
  tour_parent_lem : (x : Row) (p : WordProgress) (parent : ℕ) → Fit (rule_at words) p
      → Keeps (rule_at words) (tour_word_parent words slot aim p parent (word_row x)) (tour_parent (choice_of aim.scale aim.point) opens x parent p.cursor p.missed (best_of p.best))
  tour_parent_lem (spare_row next n) p parent f = keeps_none (rule_at words) (strayed p)
  tour_parent_lem (removed_row next n e) p parent f = keeps_none (rule_at words) (strayed p)
  tour_parent_lem (leaf_row above e) p parent f = keeps_none (rule_at words) (strayed p)
  tour_parent_lem (cut_row above k l r) p parent f =
      let near : ℕ = cond (goes_left k aim.point) l r in
      let far : ℕ = cond (goes_left k aim.point) r l in
      let closed : Bool = shut (choice_of aim.scale aim.point) opens k parent (best_of p.best) in
      let up = goes p f parent 1 (omega arith) in
      let over = goes p f far 0 (omega arith) in
      rw (shut_words k parent p.best)
      (keeps_pick (rule_at words) (eqb near p.cursor) (from_near p parent far closed) (pick_word_progress (eqb far p.cursor) (onward p parent 1 p.best) (strayed p))
      (pick_progress closed (go_to parent Up p.missed (best_of p.best)) (go_to far Down p.missed (best_of p.best)))
      (pick_progress (eqb far p.cursor) (go_to parent Up p.missed (best_of p.best)) none)
      (λ e. keeps_pick (rule_at words) closed (onward p parent 1 p.best) (onward p far 0 p.best) (go_to parent Up p.missed (best_of p.best)) (go_to far Down p.missed (best_of p.best)) (λ g. up) (λ g. over))
      (λ e. keeps_pick (rule_at words) (eqb far p.cursor) (onward p parent 1 p.best) (strayed p) (go_to parent Up p.missed (best_of p.best)) none (λ g. up) (λ g. keeps_none (rule_at words) (strayed p))))

  tour_above_lem : (p : WordProgress) (parent : ℕ) → Fit (rule_at words) p → link_in rows parent ≡ true
      → Keeps (rule_at words) (pick_word_progress (eqb parent NONE) (onward p NONE 1 p.best) (tour_word_parent words slot aim p parent (row_at words rows parent)))
      (tour_above (choice_of aim.scale aim.point) opens h parent p.cursor p.missed (best_of p.best))
  tour_above_lem p parent f i =
      keeps_pick (rule_at words) (eqb parent NONE) (onward p NONE 1 p.best) (tour_word_parent words slot aim p parent (row_at words rows parent)) (go_to NONE Up p.missed (best_of p.best))
      (tour_parent (choice_of aim.scale aim.point) opens (h parent) parent p.cursor p.missed (best_of p.best))
      (λ e. goes p f NONE 1 (omega arith))
      (λ e. elim (link_tells rows parent i) [ inl z ↦ absurd (eqb-false parent NONE e z) | inr l ↦ rw (reads parent l) (tour_parent_lem (h parent) p parent f) ])

  -- phase up
  tour_up_lem : (x : Row) (p : WordProgress) → Fit (rule_at words) p → in_rows (rule_at words) rows (word_row x) ≡ true
      → Keeps (rule_at words) (tour_word_up words rows slot aim p (word_row x)) (tour_up (choice_of aim.scale aim.point) opens h x p.cursor p.missed (best_of p.best))
  tour_up_lem (spare_row next n) p f i = keeps_none (rule_at words) (strayed p)
  tour_up_lem (removed_row next n e) p f i = keeps_none (rule_at words) (strayed p)
  tour_up_lem (leaf_row parent e) p f i = tour_above_lem p parent f (leaf_in (rule_at words) rows parent e i).link
  tour_up_lem (cut_row parent k l r) p f i = tour_above_lem p parent f (cut_link (rule_at words) rows parent k l r i)

  tour_row_lem : (x : Row) (p : WordProgress) → Fit (rule_at words) p → in_rows (rule_at words) rows (word_row x) ≡ true
      → Keeps (rule_at words) (pick_word_progress (eqb p.phase 0) (tour_word_down words slot aim p (word_row x)) (tour_word_up words rows slot aim p (word_row x)))
      (tour_row (choice_of aim.scale aim.point) opens aim.asof h x p.cursor (phase_of p.phase) p.missed (best_of p.best))
  tour_row_lem x p f i = go (eqb p.phase 0) refl
    where
      go : (b : Bool) → eqb p.phase 0 ≡ b
          → Keeps (rule_at words) (pick_word_progress (eqb p.phase 0) (tour_word_down words slot aim p (word_row x)) (tour_word_up words rows slot aim p (word_row x)))
          (tour_row (choice_of aim.scale aim.point) opens aim.asof h x p.cursor (phase_of p.phase) p.missed (best_of p.best))
      go true e = rw (e, phase_of) (tour_down_lem x p f i)
      go false e = rw (e, phase_of) (tour_up_lem x p f i)

  -- the cursor is none or a row
  pub tour_words : (p : WordProgress) → Fit (rule_at words) p → (p.cursor ≡ NONE) ⊎ (p.cursor < rows)
      → Keeps (rule_at words) (tour_word words rows slot aim p) (tour (choice_of aim.scale aim.point) opens aim.asof h (view_of p))
  unfolding tour_word tour
  tour_words p f m =
      keeps_pick (rule_at words) (eqb p.cursor NONE) p
      (pick_word_progress (eqb p.phase 0) (tour_word_down words slot aim p (row_at words rows p.cursor)) (tour_word_up words rows slot aim p (row_at words rows p.cursor)))
      (some (view_of p))
      (tour_row (choice_of aim.scale aim.point) opens aim.asof h (h p.cursor) p.cursor (phase_of p.phase) p.missed (best_of p.best))
      (λ e. keeps_some (rule_at words) p (view_of p) f refl)
      (λ e. elim m [ inl z ↦ absurd (eqb-false p.cursor NONE e z) | inr l ↦ rw (reads p.cursor l) (tour_row_lem (h p.cursor) p f (reads_in words rows h p.cursor l reads)) ])
