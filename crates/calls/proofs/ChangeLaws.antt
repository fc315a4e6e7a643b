-- Changes are counted for the index and for the station that makes them (`insert_counted`, `unlink_counted`), and no other station's counter has a part in
-- a call's code (`code_own`). Assumes nothing.
use mathlib.Core.Path.{◌≡◌, ap, ap₂, ◌∙◌}
use mathlib.Core.Bool.{true}
use mathlib.Core.List.{List}
use Prim.Native.Nat.{ℕ, ◌≤◌}
use native.Mathlib.Omega.{arith}
use lib.Dec.{eqb, leb}
use lib.ListN.{length}
use Rattle.words.specs.Layout.{common_size}
use Rattle.words.specs.Words.{more}
use Rattle.words.specs.Rule.{rule_at}
use Rattle.words.specs.Agree.{in_common, OnlyIn}
use Rattle.words.proofs.AgreeLaws.{only_trans}
use Rattle.stations.specs.declared.call.Call.{Call}
use Rattle.stations.specs.declared.counts.Counts.{Counts}
use Rattle.stations.specs.Common.{opened_in, places_at, limit_at, taken_in}
use Rattle.stations.specs.Counts.{counts_at, put_counts}
use Rattle.stations.specs.Counter.{counter_at, change_counted}
use Rattle.stations.specs.Station.{has_station}
use Rattle.stations.specs.Target.{target_at}
use Rattle.stations.specs.Track.{track_at}
use Rattle.stations.proofs.StationLaws.{there_tells, there_length}
use Rattle.stations.proofs.CountLaws.{counts_back, put_counts_only}
use Rattle.stations.proofs.CounterLaws.{counted_only, counter_counted, counter_other}
use Rattle.stations.proofs.FieldLaws.{rule_put_counts, opened_put_counts, track_put_counts, counter_put_counts, target_put_counts, rule_counted, opened_counted, counts_counted, track_counted, target_counted}
use Rattle.rows.specs.declared.row.Row.{Row}
use Rattle.calls.specs.declared.insert.Site.{Site}
use Rattle.calls.specs.declared.unlink.Around.{Around}
use Rattle.calls.specs.Link.{holds_point}
use Rattle.calls.specs.Insert.{count_inserted, insert_counts}
use Rattle.calls.specs.Unlink.{count_unlinked, unlink_counts}
use Rattle.calls.specs.Walk.{code_of, code_at}

-- v is w with these counts, and with one more change of station s; tracks and targets stay
pub record Counting (v w : List ℕ) (counts : Counts) (s : ℕ) : Type 0 where
  pub only : OnlyIn v w in_common
  pub rule : rule_at v ≡ rule_at w
  pub opened : opened_in v ≡ opened_in w
  pub counted : counts_at v ≡ counts
  pub own : counter_at v s ≡ more (counter_at w s)
  pub others : (u : ℕ) → ¬ (u ≡ s) → counter_at v u ≡ counter_at w u
  pub tracks : (u : ℕ) → track_at v u ≡ track_at w u
  pub targets : (u : ℕ) → target_at v u ≡ target_at w u

counting : (w : List ℕ) (counts : Counts) (s : ℕ) → has_station w s ≡ true → Counting (change_counted (put_counts w counts) s) w counts s
counting w counts s here =
    let u : List ℕ = put_counts w counts in
    let long : common_size ≤ length w = omega (arith, (there_tells w s here).long) in
    record {
      only = only_trans (counted_only u s) (put_counts_only w counts);
      rule = rule_counted u s ∙ rule_put_counts w counts;
      opened = opened_counted u s ∙ opened_put_counts w counts;
      counted = counts_counted u s ∙ counts_back w counts long;
      own = counter_counted u s (there_length u w s (put_counts_only w counts).lengths ∙ here) ∙ ap more (counter_put_counts w counts s);
      others = λ v d. counter_other u s v d ∙ counter_put_counts w counts v;
      tracks = λ v. track_counted u s v ∙ track_put_counts w counts v;
      targets = λ v. target_counted u s v ∙ target_put_counts w counts v;
    }

pub insert_counted : (w : List ℕ) (s : ℕ) (site : Site) → has_station w s ≡ true → Counting (insert_counts w s site) w (count_inserted site (counts_at w)) s
unfolding insert_counts
insert_counted w s site here = counting w (count_inserted site (counts_at w)) s here

pub unlink_counted : (w : List ℕ) (s : ℕ) (a : Around) → has_station w s ≡ true → Counting (unlink_counts w s a) w (count_unlinked a (counts_at w)) s
unfolding unlink_counts
unlink_counted w s a here = counting w (count_unlinked a (counts_at w)) s here

-- two slices in which the station's own counter, the limit, the places and the places taken are the same
pub code_own : (v w : List ℕ) (s : ℕ) (call : Call) (row : Row) → counter_at v s ≡ counter_at w s → limit_at v ≡ limit_at w → places_at v ≡ places_at w → taken_in v ≡ taken_in w
    → code_at v s call row ≡ code_at w s call row
unfolding code_at
code_own v w s call row own limit places taken = ap₂ (code_of call.kind (holds_point call.point row)) (ap₂ eqb own limit) (ap₂ leb places taken)
