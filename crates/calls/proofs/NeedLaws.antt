-- What a step asks of the rows is what it needs: its work is refused with 11 exactly if something that it needs is not met (`step_needs_lem`), and a needed row that
-- is none, as one with a field out of range is, is not met (`needed_row`). Assumes nothing.
use mathlib.Core.Path.{◌≡◌, refl, sym, ap, ◌∙◌}
use mathlib.Core.Bool.{Bool, true, false, cond, not, ◌&&◌, true≢false}
use mathlib.Core.Logic.{◌⊎◌, inl, inr}
use mathlib.Core.List.Memᴰ
use mathlib.Core.List.{List, [], ◌∷◌, Memᴰ}
use Prim.Native.Nat.{ℕ}
use lib.Dec.{eqb}
use Rattle.points.specs.Word.{NONE}
use Rattle.words.specs.Refusal.{unsound}
use Rattle.stations.specs.declared.call.Call.{Call}
use Rattle.stations.specs.Call.{call_at, nearest_kind}
use Rattle.stations.specs.Common.{rows_in}
use Rattle.stations.proofs.OpeningLaws.{rows_most}
use Rattle.rows.specs.declared.row.Row.{Row}
use Rattle.rows.specs.declared.row.Row.TheVariants.{Bad, Spare, Removed, Leaf, Cut}
use Rattle.rows.specs.Row.{is_row, row_at}
use Rattle.calls.specs.Link.{next_of, links_to, is_leaf, is_tree, is_free}
use Rattle.calls.specs.Reply.{pick_reply}
use Rattle.calls.specs.Search.{search_of}
use Rattle.calls.specs.Walk.{walk_of}
use Rattle.calls.specs.Step.{work_of}
use Rattle.calls.specs.Needs.{Need, tree_at, leaf_at, cut_over, free_at, free_before, free_last, apart, counted, met, all_met, rows_of, pick_needs, walk_needs, search_needs, step_needs, rows_sound}
use Rattle.calls.proofs.Conjunctions.{and_false}
use Rattle.calls.proofs.SearchNeeds.{search_needs_lem}
use Rattle.calls.proofs.WalkNeeds.{walk_needs_lem}

pub step_needs_lem : (words : List ℕ) (s : ℕ) → (work_of words (rows_in words) s (call_at words s)).number ≡ cond (rows_sound words s) 0 unsound
unfolding rows_sound step_needs
step_needs_lem words s = go (eqb (call_at words s).kind nearest_kind)
  where
    rows : ℕ
    rows = rows_in words

    call : Call
    call = call_at words s

    go : (n : Bool)
        → (pick_reply n (search_of words rows s call) (walk_of words rows s call)).number
        ≡ cond (all_met words rows (pick_needs n (search_needs words rows s call) (walk_needs words rows s call))) 0 unsound
    go true = search_needs_lem words rows s call
    go false = walk_needs_lem words rows s (rows_most words) call

-- ---- the rows that are needed

-- a row that is none is nothing that a need asks for
no_row : (row : Row) → is_row row ≡ false → row ≡ Bad
no_row Bad e = refl
no_row (Spare next freed) e = absurd (true≢false e)
no_row (Removed next freed added point curve) e = absurd (true≢false e)
no_row (Leaf parent added point curve) e = absurd (true≢false e)
no_row (Cut parent cut left right) e = absurd (true≢false e)

module _ (words : List ℕ) (rows : ℕ) where
  -- of one row
  same : {r x : ℕ} → Memᴰ r (x ∷ []) → row_at words rows r ≡ Bad → row_at words rows x ≡ Bad
  same {r} {x} m e = go (Memᴰ.cases_cons m)
    where
      go : (r ≡ x) ⊎ Memᴰ r [] → row_at words rows x ≡ Bad
      go (inl f) = ap (row_at words rows) (sym f) ∙ e
      go (inr n) = absurd (Memᴰ.not-nil n)

  unmet : (need : Need) {r : ℕ} → Memᴰ r (rows_of need) → row_at words rows r ≡ Bad → met words rows need ≡ false
  unmet (tree_at x) m e = ap is_tree (same m e)
  unmet (leaf_at x) m e = ap is_leaf (same m e)
  unmet (cut_over x child) m e = ap (links_to child) (same m e)
  unmet (free_at x) m e = ap is_free (same m e)
  unmet (free_before x) m e = ap (λ (row : Row). is_free row && not (eqb (next_of row) NONE)) (same m e)
  unmet (free_last x) m e = ap (λ (row : Row). is_free row && eqb (next_of row) NONE) (same m e)
  unmet (apart a b) m e = absurd (Memᴰ.not-nil m)
  unmet counted m e = absurd (Memᴰ.not-nil m)

  one_unmet : (needs : List Need) {need : Need} → Memᴰ need needs → met words rows need ≡ false → all_met words rows needs ≡ false
  unfolding all_met
  one_unmet [] {need} m e = absurd (Memᴰ.not-nil m)
  one_unmet (x ∷ needs) {need} m e = go (Memᴰ.cases_cons m) (λ n. one_unmet needs n e)
    where
      go : (need ≡ x) ⊎ Memᴰ need needs → (Memᴰ need needs → all_met words rows needs ≡ false) → (met words rows x && all_met words rows needs) ≡ false
      go (inl f) rest = rw (ap (met words rows) (sym f) ∙ e)
      go (inr n) rest = ap (λ (b : Bool). met words rows x && b) (rest n) ∙ and_false (met words rows x)

-- a step that needs a row which is none needs what is not met
pub needed_row : (words : List ℕ) (s : ℕ) {need : Need} → Memᴰ need (step_needs words s) → {r : ℕ} → Memᴰ r (rows_of need)
    → is_row (row_at words (rows_in words) r) ≡ false → rows_sound words s ≡ false
unfolding rows_sound
needed_row words s {need} m {r} k e =
    one_unmet words (rows_in words) (step_needs words s) m (unmet words (rows_in words) need k (no_row (row_at words (rows_in words) r) e))
