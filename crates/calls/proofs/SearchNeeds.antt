-- A search's step is sound exactly if all that it needs is met (`search_needs_lem`). Assumes nothing.
use mathlib.Core.Path.{◌≡◌, refl, sym, ap, ◌∙◌}
use mathlib.Core.Bool.{Bool, true, false, cond, ◌&&◌, ◌||◌}
use mathlib.Core.List.{List, [], ◌∷◌, ◌++◌}
use Prim.Native.Nat.{ℕ, zero, suc}
use lib.Dec.{eqb}
use Rattle.points.specs.declared.cut.Cut.{Cut as PointCut}
use Rattle.points.specs.Cut.{goes_left}
use Rattle.points.specs.Word.{NONE}
use Rattle.words.specs.Refusal.{unsound}
use Rattle.rows.specs.declared.row.Row.{Row}
use Rattle.rows.specs.declared.row.Row.TheVariants.{Bad, Spare, Removed, Leaf, Cut}
use Rattle.stations.specs.declared.call.Call.{Call}
use Rattle.rows.specs.Row.{row_at}
use Rattle.rows.specs.Grades.{slot_of, admits}
use Rattle.calls.specs.declared.aim.Aim.{Aim}
use Rattle.calls.specs.declared.progress.Progress.{Progress}
use Rattle.calls.specs.Link.{next_of, parent_of, links_to, is_tree, is_free}
use Rattle.calls.specs.Progress.{pick_progress, onward, strayed}
use Rattle.calls.specs.Look.{look_at, look}
use Rattle.calls.specs.Tour.{far_shut, down_cut, tour_down, from_child, above_cut, tour_above, tour_up, tour, toured}
use Rattle.calls.specs.Reply.{done, ask}
use Rattle.calls.specs.Search.{tours_of, seek, aim_at, progress_at, search_words, search_of}
use Rattle.calls.specs.Needs.{Need, tree_at, cut_over, free_at, met, all_met, unless, look_needs, tour_needs, tours_needs, search_needs}
use Rattle.calls.proofs.Conjunctions.{and_false, and_true, and_both}

-- two lists are met where both are
met_append : (words : List ℕ) (rows : ℕ) (xs ys : List Need) → (all_met words rows xs && all_met words rows ys) ≡ all_met words rows (xs ++ ys)
unfolding all_met
met_append words rows [] ys = refl
met_append words rows (x ∷ xs) ys = sym (and_both (met words rows x) (all_met words rows xs) (all_met words rows ys)) ∙ ap (λ (b : Bool). met words rows x && b) (met_append words rows xs ys)

module _ (words : List ℕ) (rows slot : ℕ) (aim : Aim) (p : Progress) where
  -- ---- one move

  -- down from a cut, whichever way
  cut_sound : (cut : PointCut) (left right : ℕ) (goes : Bool) → (down_cut words slot aim p cut left right goes).sound ≡ p.sound
  cut_sound cut left right goes = go (admits words p.cursor goes slot) (far_shut words slot aim p.best p.cursor cut goes)
    where
      go : (a f : Bool)
          → (pick_progress a (onward p (cond goes left right) 0 p.best) (pick_progress f (onward p p.cursor 1 p.best) (onward p (cond goes right left) 0 p.best))).sound
          ≡ p.sound
      go true f = refl
      go false true = refl
      go false false = refl

  down_sound : (row : Row) → (tour_down words slot aim p row).sound ≡ (p.sound && (is_tree row && true))
  down_sound Bad = sym (and_false p.sound)
  down_sound (Spare next freed) = sym (and_false p.sound)
  down_sound (Removed next freed added point curve) = sym (and_false p.sound)
  down_sound (Leaf parent added point curve) = sym (and_true p.sound)
  down_sound (Cut parent cut left right) = cut_sound cut left right (goes_left cut aim.point) ∙ sym (and_true p.sound)

  -- up at a cut from one of its children
  child_sound : (above near far : ℕ) (shut : Bool) → (from_child p above near far shut).sound ≡ (p.sound && (eqb near p.cursor || eqb far p.cursor))
  child_sound above near far shut = go (eqb near p.cursor) (eqb far p.cursor) shut
    where
      go : (n f s : Bool)
          → (pick_progress n (pick_progress s (onward p above 1 p.best) (onward p far 0 p.best)) (pick_progress f (onward p above 1 p.best) (strayed p))).sound
          ≡ (p.sound && (n || f))
      go true f true = sym (and_true p.sound)
      go true f false = sym (and_true p.sound)
      go false true s = sym (and_true p.sound)
      go false false s = sym (and_false p.sound)

  either_way : (a b : Bool) → (a || b) ≡ (b || a)
  either_way true true = refl
  either_way true false = refl
  either_way false true = refl
  either_way false false = refl

  sides_sound : (above : ℕ) (cut : PointCut) (left right : ℕ) (goes : Bool)
      → (above_cut words slot aim p above cut left right goes).sound ≡ (p.sound && (eqb left p.cursor || eqb right p.cursor))
  sides_sound above cut left right true = child_sound above left right (far_shut words slot aim p.best above cut true)
  sides_sound above cut left right false =
      child_sound above right left (far_shut words slot aim p.best above cut false)
      ∙ ap (λ (b : Bool). p.sound && b) (either_way (eqb right p.cursor) (eqb left p.cursor))

  above_sound : (above : ℕ) (row : Row) → (tour_above words slot aim p above row).sound ≡ (p.sound && links_to p.cursor row)
  above_sound above Bad = sym (and_false p.sound)
  above_sound above (Spare next freed) = sym (and_false p.sound)
  above_sound above (Removed next freed added point curve) = sym (and_false p.sound)
  above_sound above (Leaf parent added point curve) = sym (and_false p.sound)
  above_sound above (Cut parent cut left right) = sides_sound above cut left right (goes_left cut aim.point)

  -- what is asked of the parent
  abbrev parent_needs : ℕ → Bool → List Need
  parent_needs parent top = unless top (cut_over parent p.cursor ∷ [])

  up_sound : (row : Row) → (tour_up words rows slot aim p row).sound ≡ (p.sound && (is_tree row && all_met words rows (parent_needs (parent_of row) (eqb (parent_of row) NONE))))
  unfolding all_met
  up_sound row = go (is_tree row) (eqb (parent_of row) NONE)
    where
      go : (t top : Bool)
          → (pick_progress t (pick_progress top (onward p NONE 1 p.best) (tour_above words slot aim p (parent_of row) (row_at words rows (parent_of row)))) (strayed p)).sound
          ≡ (p.sound && (t && all_met words rows (parent_needs (parent_of row) top)))
      go true true = sym (and_true p.sound)
      go true false =
          above_sound (parent_of row) (row_at words rows (parent_of row))
          ∙ ap (λ (b : Bool). p.sound && b) (sym (and_true (links_to p.cursor (row_at words rows (parent_of row)))))
      go false top = sym (and_false p.sound)

  tour_sound : (tour words rows slot aim p).sound ≡ (p.sound && all_met words rows (tour_needs words rows p))
  unfolding tour all_met
  tour_sound = go (eqb p.cursor NONE) (eqb p.phase 0)
    where
      row : Row
      row = row_at words rows p.cursor

      go : (over down : Bool)
          → (pick_progress over p (pick_progress down (tour_down words slot aim p row) (tour_up words rows slot aim p row))).sound
          ≡ (p.sound && all_met words rows (unless over (tree_at p.cursor ∷ unless (down || eqb (parent_of row) NONE) (cut_over (parent_of row) p.cursor ∷ []))))
      go true down = sym (and_true p.sound)
      go false true = down_sound row
      go false false = up_sound row

  -- ---- the look

  look_sound : (look words rows aim p).sound ≡ (p.sound && all_met words rows (look_needs words rows p))
  unfolding look all_met
  look_sound = go (eqb p.missed NONE) (eqb (next_of row) NONE)
    where
      row : Row
      row = row_at words rows p.missed

      after : Row
      after = row_at words rows (next_of row)

      goal : (s f n a : Bool) → ((s && f) && (n || a)) ≡ (s && (f && (n || (a && true))))
      goal true true true a = refl
      goal true true false true = refl
      goal true true false false = refl
      goal true false n a = refl
      goal false f n a = refl

      split : (n : Bool) → (n || (is_free after && true)) ≡ all_met words rows (unless n (free_at (next_of row) ∷ []))
      split true = refl
      split false = refl

      go : (none last : Bool)
          → (pick_progress none p (record {
            cursor = p.cursor;
            phase = p.phase;
            missed = (look_at aim p row after).missed;
            best = (look_at aim p row after).best;
            sound = (p.sound && is_free row) && (last || is_free after);
          })).sound
          ≡ (p.sound && all_met words rows (unless none (free_at p.missed ∷ unless last (free_at (next_of row) ∷ []))))
      go true last = sym (and_true p.sound)
      go false last = goal p.sound (is_free row) last (is_free after) ∙ ap (λ (b : Bool). p.sound && (is_free row && b)) (split last)

-- ---- so many moves

toured_sound : (words : List ℕ) (rows slot : ℕ) (aim : Aim) (n : ℕ) (p : Progress)
    → (toured words rows slot aim n p).sound ≡ (p.sound && all_met words rows (tours_needs words rows slot aim n p))
unfolding toured tours_needs all_met
toured_sound words rows slot aim zero p = sym (and_true p.sound)
toured_sound words rows slot aim (suc n) p =
    let q = toured words rows slot aim n p in
    tour_sound words rows slot aim q
    ∙ ap (λ (b : Bool). b && all_met words rows (tour_needs words rows q)) (toured_sound words rows slot aim n p)
    ∙ sym (and_both p.sound (all_met words rows (tours_needs words rows slot aim n p)) (all_met words rows (tour_needs words rows q)))
    ∙ ap (λ (b : Bool). p.sound && b) (met_append words rows (tours_needs words rows slot aim n p) (tour_needs words rows q))

-- ---- the step of a nearest

pub search_needs_lem : (words : List ℕ) (rows s : ℕ) (call : Call) → (search_of words rows s call).number ≡ cond (all_met words rows (search_needs words rows s call)) 0 unsound
unfolding search_of seek search_needs progress_at
search_needs_lem words rows s call = number q.sound ∙ ap (λ (b : Bool). cond b 0 unsound) sound
  where
    aim : Aim
    aim = aim_at words call

    p : Progress
    p = progress_at words s call

    looked : Progress
    looked = look words rows aim p

    q : Progress
    q = toured words rows (slot_of aim.point) aim (tours_of p.missed) looked

    moves : List Need
    moves = tours_needs words rows (slot_of aim.point) aim (tours_of p.missed) looked

    number : (b : Bool) → (ask b unsound words (done (search_words words s aim q))).number ≡ cond b 0 unsound
    number true = refl
    number false = refl

    sound : q.sound ≡ all_met words rows (look_needs words rows p ++ moves)
    sound =
        toured_sound words rows (slot_of aim.point) aim (tours_of p.missed) looked
        ∙ ap (λ (b : Bool). b && all_met words rows moves) (look_sound words rows (slot_of aim.point) aim p)
        ∙ met_append words rows (look_needs words rows p) moves
