-- `look` over words is `look` over the rows that they read as (`look_words`).
use Prim.Native.Nat.{ℕ, ◌≤◌, ◌<◌}
use mathlib.Core.Path.{◌≡◌, refl, sym, ◌∙◌, ap}
use mathlib.Core.Logic.{◌≢◌, ◌⊎◌, inl, inr}
use mathlib.Core.Bool.{true, ◌&&◌, ◌||◌}
use mathlib.Core.List.{List}
use mathlib.Core.Option.{Option, none, some, some-injective, none-ne-some}
use native.Mathlib.Omega.{arith}
use lib.Dec.{eqb}
use borrow.Author.Tests.{eqb-false, eq-eqb, ne_eqb}
use Rattle.points.specs.Number.{in_range_by}
use Rattle.words.specs.Rule.{rule_at}
use Rattle.points.specs.Word.{NONE}
use Rattle.points.proofs.Tests.{and_l, and_r}
use Rattle.stations.specs.declared.call.Best.{Best as WordBest}
use Rattle.calls.specs.declared.aim.Aim.{Aim}
use Rattle.words.specs.Range.{link_in, curve_in}
use Rattle.rows.specs.Row.{row_at, in_rows}
use Rattle.trees.specs.Row.{Entry, Row, spare_row, removed_row, leaf_row, cut_row, Heap}
use Rattle.trees.specs.Tour.{Best, considered, pass_spare, missed_next, with_missed, look_row, look}
use Rattle.trees.proofs.ChoiceOf.{choice_of}
use Rattle.calls.specs.declared.progress.Progress.{Progress as WordProgress}
use Rattle.calls.specs.Link.{is_free, next_of}
use Rattle.calls.specs.Look.{pass_spare as pass_word_spare, look_at, look as look_word}
use Rattle.calls.specs.Progress.{considered as considered_word}
use Rattle.history.specs.View.{word_row, Reads, best_of}
use Rattle.history.proofs.Effects.{reads_in}
use Rattle.rows.proofs.RowLaws.{in_rows_spare, in_rows_removed, in_rows_leaf, row_at_outside}
use Rattle.words.proofs.RangeLaws.{link_tells, curve_tells}
use Rattle.history.proofs.ProgressWords.{view_of, Fit, Keeps, keeps_some, keeps_none, keeps_pick, considered_words, considered_ranged}

-- what the range of a row with a record says of the record
pub record RecordIn (rule rows x : ℕ) (e : Entry) : Type 0 where
  pub link : link_in rows x ≡ true
  pub point : in_range_by rule e.point ≡ true
  pub curve : e.curve ≢ 0

record_in : (rule rows link : ℕ) (e : Entry) → ((link_in rows link && in_range_by rule e.point) && curve_in e.curve) ≡ true → RecordIn rule rows link e
record_in rule rows link e f =
    let g = and_l (link_in rows link && in_range_by rule e.point) (curve_in e.curve) f in
    let c = curve_tells e.curve (and_r (link_in rows link && in_range_by rule e.point) (curve_in e.curve) f) in
    record { link = and_l (link_in rows link) (in_range_by rule e.point) g; point = and_r (link_in rows link) (in_range_by rule e.point) g; curve = λ z. omega (arith, c.0) }

pub removed_in : (rule rows next n : ℕ) (e : Entry) → in_rows rule rows (word_row (removed_row next n e)) ≡ true → RecordIn rule rows next e
removed_in rule rows next n e f = record_in rule rows next e (sym (in_rows_removed rule rows next n e.added e.point e.curve) ∙ f)

pub leaf_in : (rule rows parent : ℕ) (e : Entry) → in_rows rule rows (word_row (leaf_row parent e)) ≡ true → RecordIn rule rows parent e
leaf_in rule rows parent e f = record_in rule rows parent e (sym (in_rows_leaf rule rows parent e.added e.point e.curve) ∙ f)

-- past a free row
pass_row : (x : Row) (next m : ℕ) → pass_spare x next ≡ some m → (is_free (word_row x) ≡ true) × (pass_word_spare next (word_row x) ≡ m)
pass_row (spare_row after n) next m e = (refl, some-injective after m e)
pass_row (removed_row after n d) next m e = (refl, some-injective next m e)
pass_row (leaf_row parent d) next m e = absurd (none-ne-some m e)
pass_row (cut_row parent k l r) next m e = absurd (none-ne-some m e)

module _ (words : List ℕ) (rows : ℕ) (h : Heap) (reads : Reads words rows h) (fits : rows ≤ NONE) (aim : Aim) where
  -- the row after the missed one, if any, is free, and missed goes past it where it is spare
  pass_words : (next m : ℕ) → link_in rows next ≡ true → missed_next h next ≡ some m
      → ((eqb next NONE || is_free (row_at words rows next)) ≡ true) × (pass_word_spare next (row_at words rows next) ≡ m)
  pass_words next m i g = elim (link_tells rows next i) [
    | inl e ↦ (rw (eq-eqb next NONE e), rw (ap (row_at words rows) e ∙ row_at_outside words rows NONE fits) (some-injective next m (rw (eq-eqb next NONE e) at g)))
    | inr l ↦
        let n : next ≢ NONE = λ e. omega arith in
        rw (ne_eqb next NONE n, reads next l) (pass_row (h next) next m (rw (ne_eqb next NONE n) at g))
  ]

  -- what a look at a free row leaves: this best, and missed past the row after it
  abbrev looked : WordProgress → ℕ → WordBest → WordProgress
  looked p next best = record {
    cursor = p.cursor;
    phase = p.phase;
    missed = pass_word_spare next (row_at words rows next);
    best = best;
    sound = (p.sound && true) && (eqb next NONE || is_free (row_at words rows next));
  }

  look_next : (p : WordProgress) (next : ℕ) (best : WordBest) (b : Option Best) → Fit (rule_at words) p → link_in rows next ≡ true → in_range_by (rule_at words) best.point ≡ true → best_of best ≡ b
      → Keeps (rule_at words) (looked p next best) (with_missed (view_of p).stand (missed_next h next) b)
  look_next p next best b f i r e = go (missed_next h next) refl
    where
      go : (o : Option ℕ) → missed_next h next ≡ o → Keeps (rule_at words) (looked p next best) (with_missed (view_of p).stand o b)
      go none g = keeps_none (rule_at words) (looked p next best)
      go (some m) g =
          let w = pass_words next m i g in
          keeps_some (rule_at words) (looked p next best) (record { stand = (view_of p).stand; missed = m; best = b })
          (record { sound = rw (f.sound, w.0); phase = f.phase; best = r })
          (λ j. record { stand = (view_of p).stand; missed = w.1 j; best = e j })

  look_row_lem : (x : Row) (p : WordProgress) → Fit (rule_at words) p → in_rows (rule_at words) rows (word_row x) ≡ true
      → Keeps (rule_at words) (look_at aim p (word_row x) (row_at words rows (next_of (word_row x)))) (look_row (choice_of aim.scale aim.point) aim.asof h x (view_of p).stand (best_of p.best))
  look_row_lem (spare_row next n) p f i = look_next p next p.best (best_of p.best) f (sym (in_rows_spare (rule_at words) rows next n) ∙ i) f.best refl
  look_row_lem (removed_row next n e) p f i =
      let w = removed_in (rule_at words) rows next n e i in
      look_next p next (considered_word aim p.best e.added e.point e.curve) (considered (choice_of aim.scale aim.point) aim.asof (best_of p.best) e) f
      w.link (considered_ranged (rule_at words) aim p.best e f.best w.point) (considered_words aim p.best e w.curve)
  look_row_lem (leaf_row parent e) p f i = keeps_none (rule_at words) (look_at aim p (word_row (leaf_row parent e)) (row_at words rows NONE))
  look_row_lem (cut_row parent k l r) p f i = keeps_none (rule_at words) (look_at aim p (word_row (cut_row parent k l r)) (row_at words rows NONE))

  -- the missed row is none or a row
  pub look_words : (p : WordProgress) → Fit (rule_at words) p → (p.missed ≡ NONE) ⊎ (p.missed < rows)
      → Keeps (rule_at words) (look_word words rows aim p) (look (choice_of aim.scale aim.point) aim.asof h (view_of p))
  unfolding look_word look
  look_words p f m =
      keeps_pick (rule_at words) (eqb p.missed NONE) p (look_at aim p (row_at words rows p.missed) (row_at words rows (next_of (row_at words rows p.missed)))) (some (view_of p))
      (look_row (choice_of aim.scale aim.point) aim.asof h (h p.missed) (view_of p).stand (best_of p.best))
      (λ e. keeps_some (rule_at words) p (view_of p) f refl)
      (λ e. elim m [ inl z ↦ absurd (eqb-false p.missed NONE e z) | inr l ↦ rw (reads p.missed l) (look_row_lem (h p.missed) p f (reads_in words rows h p.missed l reads)) ])
