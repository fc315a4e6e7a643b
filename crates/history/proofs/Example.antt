-- The statements are not empty: from a slice long enough for 2 places the theorems give the answers of the frame runner's input of Rules 10.5
-- (`frame_runner`) and of case N (`case_n`, Rules 13), for each call its submission, run and taking.
use Prim.Native.Nat.{ℕ, ◌≤◌}
use mathlib.Core.Path.{◌≡◌, refl, ap, ◌∙◌}
use mathlib.Core.Bool.{Bool, true, false, not, ◌||◌}
use mathlib.Core.List.{List}
use mathlib.Core.Option.{some}
use native.Mathlib.Omega.{arith}
use lib.ListN.{length}
use borrow.Author.Tests.{le-leb}
use lib.Dec.{eqb}
use Rattle.points.specs.Scale.{plain_scale}
use Rattle.points.specs.Number.{in_range_by}
use Rattle.points.proofs.ScaleLaws.{factor_ranges, factor_most}
use Rattle.points.specs.declared.point.Point.{Point}
use Rattle.table.specs.Call.{Call, remove, nearest, call_of, Answer, answer, is_change}
use Rattle.table.specs.Table.{Station, idle, unfinished, Table, opened, used_up, answer_of, changed, changed_if}
use Rattle.table.specs.Event.{enter, submit}
use Rattle.table.proofs.Stations.{put_other}
use Rattle.table.proofs.Sound.{changed_stations}
use Rattle.table.proofs.Alike.{Alike, alike_refl, alike_answer, alike_idle}
use Rattle.table.proofs.Eager.{unsettled}
use Rattle.table.proofs.Play.{run}
use Rattle.table.proofs.Cases.{at_weight, m, p, target}
use Rattle.calls.specs.Open.{open_of}
use Rattle.calls.specs.Submit.{submit_of}
use Rattle.words.specs.Layout.{words_for}
use Rattle.stations.proofs.OpeningLaws.{places_of, limit_of}
use Rattle.history.proofs.Called.{RunGives, CallGives, called_words, standing_open, Called, called, Begun, begun, set_gives}

-- open 2 places, limit 10, rule 1, factors of one
opens : (words : List ℕ) → words_for 2 ≤ length words → (open_of words 2 10 plain_scale).number ≡ 0
unfolding open_of
opens words l =
    rw (places_of 2 (omega arith) (omega arith), limit_of 10 (omega arith) (omega arith), factor_ranges plain_scale, factor_most 1, le-leb (words_for 2) (length words) l)

-- the table after a call of station s
abbrev effect : Table → ℕ → ℕ → Point → ℕ → Table
effect u s kind p c = changed_if (is_change (answer_of u s (call_of kind p c))) u s (call_of kind p c)

-- ---- the frame runner

pub record FrameRunner (words : List ℕ) : Type 0 where
  pub opening : (open_of words 2 10 plain_scale).number ≡ 0
  pub adds : CallGives (open_of words 2 10 plain_scale).words 0 1 (at_weight 12 8_000) 41 (answer 1 (at_weight 12 8_000) 41 0)
  pub finds : CallGives (called_words (open_of words 2 10 plain_scale).words 0 1 (at_weight 12 8_000) 41) 1 4 (at_weight 12 12_000) 0 (answer 8 (at_weight 12 8_000) 41 16_000_000)

-- station 0 submits add 12, 8000, 550, 9000, 0 with curve 41; run 0; take 0; station 1 submits nearest 12, 12000, 550, 9000, 0; run 1; take 1
pub frame_runner : (words : List ℕ) → words_for 2 ≤ length words → FrameRunner words
unfolding run
frame_runner words l =
    let w = standing_open words 2 10 plain_scale (opens words l) in
    let first = called w 0 1 (at_weight 12 8_000) 41 refl in
    let second = called first.standing 1 4 (at_weight 12 12_000) 0 refl in
    record { opening = opens words l; adds = first.gives; finds = second.gives }

-- ---- case N

-- the words on the way: m and p held, the search submitted, m removed, p removed
abbrev pub both_held : List ℕ → List ℕ
both_held words = called_words (called_words (open_of words 2 10 plain_scale).words 0 1 m 41) 0 1 p 42

abbrev pub search_begun : List ℕ → List ℕ
search_begun words = (submit_of (both_held words) 1 4 target 0).words

abbrev pub without_m : List ℕ → List ℕ
without_m words = called_words (search_begun words) 0 2 m 0

abbrev pub without_both : List ℕ → List ℕ
without_both words = called_words (without_m words) 0 2 p 0

pub record CaseN (words : List ℕ) : Type 0 where
  pub adds_m : CallGives (open_of words 2 10 plain_scale).words 0 1 m 41 (answer 1 m 41 0)
  pub adds_p : CallGives (called_words (open_of words 2 10 plain_scale).words 0 1 m 41) 0 1 p 42 (answer 1 p 42 0)
  pub submits : (submit_of (both_held words) 1 4 target 0).number ≡ 0
  pub removes_m : CallGives (search_begun words) 0 2 m 0 (answer 5 m 41 0)
  pub removes_p : CallGives (without_m words) 0 2 p 0 (answer 5 p 42 0)
  pub finds_p : RunGives (without_both words) 1 (answer 8 p 42 1)

-- what the answer of a remove depends on
record Plain (t u : Table) : Type 0 where
  held : t.held ≡ u.held
  counters : t.counters ≡ u.counters
  limit : t.limit ≡ u.limit

plain_alike : {t u v : Table} → Alike t u → Plain u v → Plain t v
plain_alike a q = record { held = a.held ∙ q.held; counters = a.counters ∙ q.counters; limit = a.limit ∙ q.limit }

plain_enter : {t u : Table} (s : ℕ) (c : Call) → Plain t u → Plain (enter t s c) u
unfolding enter
plain_enter s c q = record { held = q.held; counters = q.counters; limit = q.limit }

remove_answer : {t u : Table} (s : ℕ) (x : Point) → Plain t u → answer_of t s (remove x) ≡ answer_of u s (remove x)
unfolding answer_of used_up
remove_answer s x q = rw (q.held, q.counters, q.limit)

remove_effect : {t u : Table} (s : ℕ) (x : Point) → Plain t u → Plain (effect t s 2 x 0) (effect u s 2 x 0)
unfolding call_of changed_if changed
remove_effect {t} {u} s x q = rw (remove_answer s x q) (go (is_change (answer_of u s (remove x))))
  where
    go : (b : Bool) → Plain (changed_if b t s (remove x)) (changed_if b u s (remove x))
    go false = q
    go true = record { held = rw q.held; counters = rw q.counters; limit = q.limit }

-- both points are in range whatever the rule
ranged_m : (rule : ℕ) → in_range_by rule m ≡ true
unfolding run
ranged_m rule = go (eqb rule 2)
  where
    go : (b : Bool) → (not b || true) ≡ true
    go true = refl
    go false = refl

ranged_p : (rule : ℕ) → in_range_by rule p ≡ true
unfolding run
ranged_p rule = go (eqb rule 2)
  where
    go : (b : Bool) → (not b || true) ≡ true
    go true = refl
    go false = refl

-- an idle station may submit the removal of one of the two points
submits_m : (t : Table) → t.stations 0 ≡ idle → (submit t 0 2 m 0).number ≡ 0
unfolding run
submits_m t e = rw (e, ranged_m t.scale.rule)

submits_p : (t : Table) → t.stations 0 ≡ idle → (submit t 0 2 p 0).number ≡ 0
unfolding run
submits_p t e = rw (e, ranged_p t.scale.rule)

module _ (words : List ℕ) (l : words_for 2 ≤ length words) where
  -- the tables with m, and with m and p held
  abbrev held_m : Table
  held_m = effect (opened 2 10 plain_scale) 0 1 m 41

  abbrev held_both : Table
  held_both = effect held_m 0 1 p 42

  first : Called (open_of words 2 10 plain_scale).words (opened 2 10 plain_scale) (standing_open words 2 10 plain_scale (opens words l)) 0 1 m 41
  unfolding run
  first = called (standing_open words 2 10 plain_scale (opens words l)) 0 1 m 41 refl

  second : Called (called_words (open_of words 2 10 plain_scale).words 0 1 m 41) held_m first.standing 0 1 p 42
  unfolding run
  second = called first.standing 0 1 p 42 refl

  search : ((submit_of (both_held words) 1 4 target 0).number ≡ 0) × Begun (search_begun words) second.standing.table 1 target
  unfolding run
  search = begun second.standing 1 0 target refl

  -- the table under the search
  abbrev under : Table
  under = search.1.table

  under_plain : Plain under held_both
  under_plain = plain_alike search.1.alike (plain_enter 1 (nearest target) (plain_alike second.standing.alike (record { held = refl; counters = refl; limit = refl })))

  under_idle : under.stations 0 ≡ idle
  unfolding enter
  under_idle = alike_idle search.1.alike 0 (put_other second.standing.table.stations 1 0 _ (λ e. omega arith) ∙ second.own)

  under_set : under.stations 1 ≡ unfinished second.standing.table.calls (nearest target) (some (answer 8 p 42 1))
  unfolding run
  under_set = search.1.is ∙ ap (λ (a : Answer). unfinished second.standing.table.calls (nearest target) (some a)) (alike_answer 1 (nearest target) second.standing.alike)

  third : Called (search_begun words) under (record { table = under; sound = search.1.sound; related = search.1.related; alike = alike_refl under }) 0 2 m 0
  third = called (record { table = under; sound = search.1.sound; related = search.1.related; alike = alike_refl under }) 0 2 m 0 (submits_m under under_idle)

  fourth : Called (without_m words) (effect under 0 2 m 0) third.standing 0 2 p 0
  fourth =
      called third.standing 0 2 p 0
      (submits_p (effect under 0 2 m 0) (ap (λ (f : ℕ → Station). f 0) (changed_stations (is_change (answer_of under 0 (call_of 2 m 0))) under 0 (call_of 2 m 0)) ∙ under_idle))

  third_set : third.standing.table.stations 1 ≡ unfinished second.standing.table.calls (nearest target) (some (answer 8 p 42 1))
  unfolding unsettled
  third_set = third.others 1 (λ e. omega arith) (ap unsettled under_set) ∙ under_set

  fourth_set : fourth.standing.table.stations 1 ≡ unfinished second.standing.table.calls (nearest target) (some (answer 8 p 42 1))
  unfolding unsettled
  fourth_set = fourth.others 1 (λ e. omega arith) (ap unsettled third_set) ∙ third_set

  -- m and the nearer p are held; a nearest is submitted; m is removed and answered, then p. The search answers p, not m.
  pub case_n : CaseN words
  unfolding run
  case_n = record {
    adds_m = first.gives;
    adds_p = second.gives;
    submits = search.0;
    removes_m = rw (remove_answer 0 m under_plain) at third.gives;
    removes_p = rw (remove_answer 0 p (remove_effect 0 m under_plain)) at fourth.gives;
    finds_p = set_gives 1 second.standing.table.calls (nearest target) (answer 8 p 42 1) fourth.standing.sound fourth.standing.related (omega arith) fourth_set;
  }
