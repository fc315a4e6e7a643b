-- The table P1 to P10 (Rules 13), proved as one (`proved_cases`). Rows about calls are one law, `answered_calls`: by demand 2, words that stand for a
-- table answer each call run alone as it does, and then stand for the table after the call (`called` of `history`). What the table answers is computed.
use Prim.Native.Nat.{ℕ, ◌≤◌}
use mathlib.Core.Path.{◌≡◌, refl, subst, ◌∙◌}
use mathlib.Core.Bool.{true}
use mathlib.Core.List.{List, [], ◌∷◌}
use lib.ListN.{length}
use native.Mathlib.Omega.{arith}
use borrow.Author.Tests.{le-leb}
use Rattle.points.proofs.Cases.{p1, p2, p3, p4}
use Rattle.stations.proofs.OpeningLaws.{places_of, limit_of}
use Rattle.frames.proofs.Cases.{p7, p8}
use Rattle.table.proofs.Play.{run}
use Rattle.history.proofs.Called.{called_words, Standing, standing_open, called}
use Rattle.claims.specs.Definitions.{Scale, rule_in, factors_in, plain_scale, words_for, places_in, limit_in, Answer, Table, opened, submit, open_of, first_no}
use Rattle.claims.specs.Cases.{heavy_weight, dry_ones, dry_sixteens, Asked, answered_table, answers_of, Gives, Answered, ProvedCases}
use Rattle.claims.proofs.Demand1.{open_number}
use Rattle.claims.proofs.Distance.{factor_ranges}

-- ---- calls one after the other

-- the plain table accepts each submission
abbrev Accepts : Table → List Asked → Type 0
Accepts t [] = Unit {0}
Accepts t (a ∷ more) = ((submit t a.station a.kind a.point a.curve).number ≡ 0) × Accepts (answered_table t a) more

-- words that stand for a table give its answers
standing_gives : {words : List ℕ} {t : Table} → Standing words t → (calls : List Asked) → Accepts t calls → Gives words calls (answers_of t calls)
unfolding answers_of
standing_gives w [] k = tt
standing_gives {words = words} {t = t} w (a ∷ more) k =
    let x = called w a.station a.kind a.point a.curve k.0 in
    (x.gives.submitted, x.gives.gives.ran, x.gives.gives.given, standing_gives {words = called_words words a.station a.kind a.point a.curve} {t = answered_table t a} x.standing more k.1)

-- a slice long enough is opened
opens : (words : List ℕ) (places limit : ℕ) (scale : Scale) → places_in places ≡ true → limit_in limit ≡ true → rule_in scale.rule ≡ true → factors_in scale ≡ true → words_for places ≤ length words → (open_of words places limit scale).number ≡ 0
unfolding first_no
opens words places limit scale p m r f l = open_number words places limit scale ∙ rw (p, m, r, f, le-leb (words_for places) (length words) l)

-- the answers of the table are those of every slice long enough
answered_calls : (places limit : ℕ) (scale : Scale) (calls : List Asked) (answers : List Answer) → places_in places ≡ true → limit_in limit ≡ true → rule_in scale.rule ≡ true → factors_in scale ≡ true → Accepts (opened places limit scale) calls
    → answers_of (opened places limit scale) calls ≡ answers → Answered places limit scale calls answers
answered_calls places limit scale calls answers p m r f k e = record {
  table = e;
  words = λ words l.
      let o = opens words places limit scale p m r f l in
      (o, subst (Gives (open_of words places limit scale).words calls) e (standing_gives (standing_open words places limit scale o) calls k));
}

-- ---- the table

-- P1 to P10, one table with one theorem
pub proved_cases : ProvedCases
unfolding run answers_of
proved_cases = record {
  p1 = p1;
  p2 = p2;
  p3 = p3;
  p4 = p4;
  p5 = answered_calls 2 10 plain_scale _ _ (places_of 2 (omega arith) (omega arith)) (limit_of 10 (omega arith) (omega arith)) refl (factor_ranges plain_scale 1000 refl) (refl, (refl, (refl, tt))) refl;
  p5_first = answered_calls 2 10 plain_scale _ _ (places_of 2 (omega arith) (omega arith)) (limit_of 10 (omega arith) (omega arith)) refl (factor_ranges plain_scale 1000 refl) (refl, (refl, (refl, tt))) refl;
  plain_nearest = answered_calls 2 10 plain_scale _ _ (places_of 2 (omega arith) (omega arith)) (limit_of 10 (omega arith) (omega arith)) refl (factor_ranges plain_scale 1000 refl) (refl, (refl, (refl, tt))) refl;
  factors_nearest = answered_calls 2 10 heavy_weight _ _ (places_of 2 (omega arith) (omega arith)) (limit_of 10 (omega arith) (omega arith)) refl (factor_ranges heavy_weight 1000 refl) (refl, (refl, (refl, tt))) refl;
  coordinates_nearest = answered_calls 2 10 plain_scale _ _ (places_of 2 (omega arith) (omega arith)) (limit_of 10 (omega arith) (omega arith)) refl (factor_ranges plain_scale 1000 refl) (refl, (refl, (refl, tt))) refl;
  dry_nearest = answered_calls 2 10 dry_ones _ _ (places_of 2 (omega arith) (omega arith)) (limit_of 10 (omega arith) (omega arith)) refl (factor_ranges dry_ones 16 refl) (refl, (refl, (refl, tt))) refl;
  dry_farthest = answered_calls 2 10 dry_sixteens _ _ (places_of 2 (omega arith) (omega arith)) (limit_of 10 (omega arith) (omega arith)) refl (factor_ranges dry_sixteens 16 refl) (refl, (refl, tt)) refl;
  p6 = answered_calls 2 10 plain_scale _ _ (places_of 2 (omega arith) (omega arith)) (limit_of 10 (omega arith) (omega arith)) refl (factor_ranges plain_scale 1000 refl) (refl, (refl, tt)) refl;
  p7 = p7;
  p8 = p8;
  p9 = answered_calls 1 10 plain_scale _ _ (places_of 1 (omega arith) (omega arith)) (limit_of 10 (omega arith) (omega arith)) refl (factor_ranges plain_scale 1000 refl) (refl, (refl, tt)) refl;
  p10 = answered_calls 2 1 plain_scale _ _ (places_of 2 (omega arith) (omega arith)) (limit_of 1 (omega arith) (omega arith)) refl (factor_ranges plain_scale 1000 refl) (refl, (refl, tt)) refl;
  p10_full = answered_calls 1 1 plain_scale _ _ (places_of 1 (omega arith) (omega arith)) (limit_of 1 (omega arith) (omega arith)) refl (factor_ranges plain_scale 1000 refl) (refl, (refl, tt)) refl;
  p10_second = answered_calls 2 1 plain_scale _ _ (places_of 2 (omega arith) (omega arith)) (limit_of 1 (omega arith) (omega arith)) refl (factor_ranges plain_scale 1000 refl) (refl, (refl, (refl, tt))) refl;
  p10_second_full = answered_calls 1 1 plain_scale _ _ (places_of 1 (omega arith) (omega arith)) (limit_of 1 (omega arith) (omega arith)) refl (factor_ranges plain_scale 1000 refl) (refl, (refl, (refl, tt))) refl;
}
