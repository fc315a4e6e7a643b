-- The answer of a search with nothing left to look at: it is that of the records held at its submission (`found_is`), and its fields are
-- in range (`found_sound`).
use mathlib.Core.Path.{◌≡◌, refl, sym, ◌∙◌, ap, subst}
use mathlib.Core.Bool.{Bool, true, false}
use mathlib.Core.List.{List, map, Memᴰ}
use mathlib.Core.Option.{none, some}
use native.Mathlib.Omega.{arith}
use lib.Dec.{eqb}
use Rattle.points.specs.declared.point.Point.{Point}
use Rattle.points.specs.declared.scale.Scale.{Scale}
use Rattle.points.specs.Scale.{factors_in}
use Rattle.points.specs.Number.{in_range_by}
use Prim.Native.Nat.{ℕ, ◌≤◌}
use Rattle.points.specs.Square.{square_of, most_square}
use Rattle.points.specs.Choice.{same_grade, chosen_over}
use Rattle.points.proofs.SquareLaws.{square_le}
use Rattle.stations.specs.declared.call.Best.{Best as WordBest}
use Rattle.calls.specs.declared.aim.Aim.{Aim}
use Rattle.stations.specs.Answer.{answer_sound}
use Rattle.table.specs.Record.{Record, Once, nearest_of}
use Rattle.table.specs.Call.{nearest_answer}
use Rattle.table.proofs.Held.{record_same}
use Rattle.table.proofs.Nearest.{Nearest as NearestRecord, NoneOfGrade, nearest_is, none_is}
use Rattle.trees.specs.Row.{Entry}
use Rattle.trees.specs.Tour.{Best}
use Rattle.trees.specs.Search.{FoundAs, Nearest}
use Rattle.trees.proofs.ChoiceOf.{choice_of}
use Rattle.calls.specs.Answer.{answer}
use Rattle.calls.specs.Search.{found_answer}
use Rattle.history.specs.Index.{answer_of}
use Rattle.history.specs.View.{best_of}
use Rattle.history.specs.Related.{EntriesIn, record_of}
use Rattle.words.proofs.RangeLaws.{curve_tells}
use Rattle.stations.proofs.SoundLaws.{answer_of_lem}

-- the best over words, where it has a curve
abbrev best_there : WordBest → Best
best_there best = record { point = best.point; curve = best.curve }

abbrev record_there : WordBest → Record
record_there best = record { point = best.point; curve = best.curve }

module _ (scale : Scale) (target : Point) (entries : List Entry) where
  -- a record of the list is that of an entry
  grade_of : (q : Record) (m : Memᴰ q (map record_of entries)) → same_grade target q.point ≡ true → same_grade target (mathlib.Core.List.Memᴰ.of_map record_of entries m).0.point ≡ true
  grade_of q m g = ap (λ (r : Record). same_grade target r.point) (mathlib.Core.List.Memᴰ.of_map record_of entries m).2 ∙ g

  -- no record is of the grade
  none_there : Nearest (choice_of scale target) (λ e. Memᴰ e entries) none → NoneOfGrade target (map record_of entries)
  none_there v q m g = let w = mathlib.Core.List.Memᴰ.of_map record_of entries m in v.empty refl w.0 w.1 (grade_of q m g)

  -- the best is the nearest record
  some_there : (best : WordBest) → Nearest (choice_of scale target) (λ e. Memᴰ e entries) (some (best_there best)) → NearestRecord scale target (map record_of entries) (record_there best)
  some_there best v =
      let f : FoundAs (choice_of scale target) (λ e. Memᴰ e entries) (best_there best) = v.held (best_there best) refl in
      let same : record_of f.entry ≡ record_there best = record_same (record_of f.entry) (record_there best) (sym f.point) (sym f.curve) in
      record {
        mem = subst (λ (r : Record). Memᴰ r (map record_of entries)) same (mathlib.Core.List.Memᴰ.map record_of f.held);
        grade = ap (same_grade target) f.point ∙ f.candidate;
        first = λ q m g d.
            let w = mathlib.Core.List.Memᴰ.of_map record_of entries m in
            ap (λ (r : Record). chosen_over scale target best.point r.point) (sym w.2)
            ∙ v.chosen (best_there best) refl w.0 w.1 (grade_of q m g) (λ z. d (sym (ap (λ (r : Record). r.point) w.2) ∙ z));
      }

module _ (aim : Aim) (best : WordBest) (entries : List Entry) (near : Nearest (choice_of aim.scale aim.point) (λ e. Memᴰ e entries) (best_of best)) where
  -- the answer of the records
  pub found_is : Once (map record_of entries) → answer_of (found_answer aim best) ≡ nearest_answer aim.scale aim.point (nearest_of aim.scale aim.point (map record_of entries))
  unfolding found_answer nearest_answer
  found_is o = go (eqb best.curve 0) refl
    where
      go : (b : Bool) → eqb best.curve 0 ≡ b → answer_of (found_answer aim best) ≡ nearest_answer aim.scale aim.point (nearest_of aim.scale aim.point (map record_of entries))
      go true e =
          let v : Nearest (choice_of aim.scale aim.point) (λ e. Memᴰ e entries) none = rw (e, best_of) at near in
          rw (none_is aim.scale aim.point (map record_of entries) (none_there aim.scale aim.point entries v), e, found_answer, nearest_answer)
      go false e =
          let v : Nearest (choice_of aim.scale aim.point) (λ e. Memᴰ e entries) (some (best_there best)) = rw (e, best_of) at near in
          rw (nearest_is aim.scale aim.point (map record_of entries) (record_there best) o (some_there aim.scale aim.point entries best v), e, found_answer, nearest_answer)

  -- in range, where the factors, the target, the best's point and the records are
  pub found_sound : (rule : ℕ) → aim.scale.rule ≡ rule → factors_in aim.scale ≡ true → in_range_by rule aim.point ≡ true → in_range_by rule best.point ≡ true
      → EntriesIn rule entries → answer_sound rule (found_answer aim best) ≡ true
  unfolding found_answer
  found_sound rule k c t b ranged = go (eqb best.curve 0) refl
    where
      go : (x : Bool) → eqb best.curve 0 ≡ x → answer_sound rule (found_answer aim best) ≡ true
      go true e =
          rw (e, found_answer) (answer_of_lem rule (answer 9 aim.point 0 0)
          (record { code = refl; point = t; curve = omega arith; square = omega arith }))
      go false e =
          let n : Nearest (choice_of aim.scale aim.point) (λ e. Memᴰ e entries) (some (best_there best)) = rw (e, best_of) at near in
          let f : FoundAs (choice_of aim.scale aim.point) (λ e. Memᴰ e entries) (best_there best) = n.held (best_there best) refl in
          let point = subst (λ n. in_range_by n aim.point ≡ true) (sym k) t in
          let there = subst (λ n. in_range_by n best.point ≡ true) (sym k) b in
          let most = subst (λ n. square_of aim.scale aim.point best.point ≤ most_square n) k (square_le aim.scale aim.point best.point c point there) in
          let v = curve_tells f.entry.curve (ranged f.entry f.held).1 in
          rw (e, found_answer) (answer_of_lem rule (answer 8 best.point best.curve (square_of aim.scale aim.point best.point))
          (record { code = refl; point = b; curve = omega (arith, f.curve, v.1); square = most }))
