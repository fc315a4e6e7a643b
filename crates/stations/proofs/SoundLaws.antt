-- What the checks of a call, a best and an answer say: each passes exactly where every field is in range.
-- Assumes nothing.
use mathlib.Core.Path.{◌≡◌, ◌∙◌}
use mathlib.Core.Bool.{Bool, true, false, not, ◌&&◌, ◌||◌}
use Prim.Native.Nat.{ℕ, ◌≤◌}
use borrow.Author.Tests.{leb-true, le-leb, ne_eqb, eq-eqb}
use lib.Dec.{leb, ltb, eqb, leb-zero}
use Rattle.points.specs.Number.{in_range_by}
use Rattle.points.specs.Rule.{dry_rule}
use Rattle.points.specs.Square.{most_square}
use Rattle.points.specs.Word.{span_of}
use Rattle.points.proofs.Tests.{and_l, and_r, and_i}
use Rattle.points.proofs.WordLaws.{point_at_by}
use Rattle.stations.specs.declared.call.Best.{Best}
use Rattle.stations.specs.declared.call.Call.{Call}
use Rattle.stations.specs.declared.answer.Answer.{Answer}
use Rattle.words.specs.Layout.{most_curve}
use Rattle.stations.specs.Call.{add_kind, nearest_kind, no_best, best_sound, curve_for, call_sound}
use Rattle.stations.specs.Answer.{code_in, answer_sound}
use Rattle.words.proofs.RangeLaws.{or_right}

-- ---- the best

-- with no curve there is no best, whatever the point
pub best_none : (rule : ℕ) (best : Best) → best.curve ≡ 0 → best_sound rule best ≡ true
unfolding best_sound
best_none rule best e = rw (eq-eqb best.curve 0 e)

pub best_record : (rule : ℕ) (best : Best) → best.curve ≤ most_curve → in_range_by rule best.point ≡ true → best_sound rule best ≡ true
unfolding best_sound
best_record rule best h e = or_right (eqb best.curve 0) (and_i (le-leb best.curve most_curve h) e)

-- a best that there is is in range
pub record SoundBest (rule : ℕ) (best : Best) : Type 0 where
  pub curve : best.curve ≤ most_curve
  pub point : in_range_by rule best.point ≡ true

pub best_tells : (rule : ℕ) (best : Best) → best_sound rule best ≡ true → ¬ (best.curve ≡ 0) → SoundBest rule best
unfolding best_sound
best_tells rule best e n =
    let both : (leb best.curve most_curve && in_range_by rule best.point) ≡ true = rw (ne_eqb best.curve 0 n) at e in
    record {
      curve = leb-true best.curve most_curve (and_l (leb best.curve most_curve) (in_range_by rule best.point) both);
      point = and_r (leb best.curve most_curve) (in_range_by rule best.point) both;
    }

-- the point of no best is in range under every rule
pub no_best_point : (rule : ℕ) → in_range_by rule no_best.point ≡ true
no_best_point rule = point_at_by 0 0 0 0 0 rule ∙ go (eqb rule dry_rule)
  where
    go : (b : Bool) → (((((leb 0 (span_of 1) && leb 0 (span_of 2)) && leb 0 (span_of 3)) && (not b || ltb 0 10000)) && leb 0 (span_of 4)) && leb 0 (span_of 5)) ≡ true
    go true = simp leb-zero
    go false = simp leb-zero

-- ---- the call
pub record SoundCall (rule : ℕ) (call : Call) (changes : ℕ) : Type 0 where
  pub kind_least : add_kind ≤ call.kind
  pub kind_most : call.kind ≤ nearest_kind
  pub point : in_range_by rule call.point ≡ true
  pub curve : curve_for call.kind call.curve ≡ true
  pub asof : call.asof ≤ changes
  pub best : best_sound rule call.best ≡ true

pub call_tells : (rule : ℕ) (call : Call) (changes : ℕ) → call_sound rule call changes ≡ true → SoundCall rule call changes
unfolding call_sound
call_tells rule call changes e =
    let a = leb add_kind call.kind in
    let b = leb call.kind nearest_kind in
    let p = in_range_by rule call.point in
    let v = curve_for call.kind call.curve in
    let o = leb call.asof changes in
    let four = and_l ((((a && b) && p) && v) && o) (best_sound rule call.best) e in
    let three = and_l (((a && b) && p) && v) o four in
    let two = and_l ((a && b) && p) v three in
    let one = and_l (a && b) p two in
    record {
      kind_least = leb-true add_kind call.kind (and_l a b one);
      kind_most = leb-true call.kind nearest_kind (and_r a b one);
      point = and_r (a && b) p two;
      curve = and_r ((a && b) && p) v three;
      asof = leb-true call.asof changes (and_r (((a && b) && p) && v) o four);
      best = and_r ((((a && b) && p) && v) && o) (best_sound rule call.best) e;
    }

pub call_of_lem : (rule : ℕ) (call : Call) (changes : ℕ) → SoundCall rule call changes → call_sound rule call changes ≡ true
unfolding call_sound
call_of_lem rule call changes c =
    and_i (and_i (and_i (and_i (and_i (le-leb add_kind call.kind c.kind_least) (le-leb call.kind nearest_kind c.kind_most)) c.point) c.curve) (le-leb call.asof changes c.asof))
    c.best

-- ---- the answer
pub record SoundAnswer (rule : ℕ) (answer : Answer) : Type 0 where
  pub code : code_in answer.code ≡ true
  pub point : in_range_by rule answer.point ≡ true
  pub curve : answer.curve ≤ most_curve
  pub square : answer.square ≤ most_square rule

pub answer_tells : (rule : ℕ) (answer : Answer) → answer_sound rule answer ≡ true → SoundAnswer rule answer
unfolding answer_sound
answer_tells rule answer e =
    let a = code_in answer.code in
    let p = in_range_by rule answer.point in
    let v = leb answer.curve most_curve in
    let three = and_l ((a && p) && v) (leb answer.square (most_square rule)) e in
    let two = and_l (a && p) v three in
    record {
      code = and_l a p two;
      point = and_r a p two;
      curve = leb-true answer.curve most_curve (and_r (a && p) v three);
      square = leb-true answer.square (most_square rule) (and_r ((a && p) && v) (leb answer.square (most_square rule)) e);
    }

pub answer_of_lem : (rule : ℕ) (answer : Answer) → SoundAnswer rule answer → answer_sound rule answer ≡ true
unfolding answer_sound
answer_of_lem rule answer c = and_i (and_i (and_i c.code c.point) (le-leb answer.curve most_curve c.curve)) (le-leb answer.square (most_square rule) c.square)
