-- A change is counted, and then the tracks of the eight stations are moved one after another: what is moved of the first n, and in the end of all
-- (`moved_written`). Every other count, every target, every station's record and every row stays.
use Prim.Native.Nat.{ℕ, suc, ◌≤◌, ◌<◌}
use mathlib.Core.Path.{◌≡◌, refl, sym, ap, ap₂, ◌∙◌}
use mathlib.Core.Bool.{true}
use mathlib.Core.List.{List}
use native.Mathlib.Omega.{arith}
use native.Mathlib.Decide.{ℕ_discrete}
use Rattle.points.specs.declared.point.Point.{Point}
use Rattle.words.specs.Layout.{stations}
use Rattle.words.specs.Words.{more}
use Rattle.words.specs.Agree.{in_common, OnlyIn}
use Rattle.words.proofs.AgreeLaws.{only_none, only_trans}
use Rattle.stations.specs.declared.counts.Counts.{Counts}
use Rattle.stations.specs.declared.track.Track.{Track}
use Rattle.stations.specs.Common.{opened_in}
use Rattle.stations.specs.Counts.{counts_at}
use Rattle.stations.specs.Counter.{counter_at}
use Rattle.stations.specs.Station.{has_station}
use Rattle.words.specs.Rule.{rule_at}
use Rattle.stations.specs.Target.{target_at}
use Rattle.stations.specs.Track.{track_at, put_track}
use Rattle.stations.proofs.TrackLaws.{track_back, track_other, put_track_only}
use Rattle.stations.proofs.FieldLaws.{rule_put_track, opened_put_track, counts_put_track, counter_put_track, target_put_track}
use Rattle.table.specs.Table.{put}
use Rattle.table.proofs.Stations.{put_same, put_other}
use Rattle.calls.proofs.ChangeLaws.{Counting}
use Rattle.history.specs.View.{seat_at, with_track, SameRows, Written}
use Rattle.history.proofs.Frame.{seat_of, common_stations, common_rows}

-- ---- tracks, each moved by a function of it and of the target of its station's last search

-- v is w with the track of station n moved
pub record MovedAt (f : Point → Track → Track) (v w : List ℕ) (n : ℕ) : Type 0 where
  pub only : OnlyIn v w in_common
  pub rule : rule_at v ≡ rule_at w
  pub opened : opened_in v ≡ opened_in w
  pub counts : counts_at v ≡ counts_at w
  pub counters : (s : ℕ) → counter_at v s ≡ counter_at w s
  pub targets : (s : ℕ) → target_at v s ≡ target_at w s
  pub moved : track_at v n ≡ f (target_at w n) (track_at w n)
  pub others : (s : ℕ) → ¬ (s ≡ n) → track_at v s ≡ track_at w s

-- with the tracks of the first n stations moved
pub record Moved (f : Point → Track → Track) (v w : List ℕ) (n : ℕ) : Type 0 where
  pub only : OnlyIn v w in_common
  pub rule : rule_at v ≡ rule_at w
  pub opened : opened_in v ≡ opened_in w
  pub counts : counts_at v ≡ counts_at w
  pub counters : (s : ℕ) → counter_at v s ≡ counter_at w s
  pub targets : (s : ℕ) → target_at v s ≡ target_at w s
  pub moved : (s : ℕ) → s < n → track_at v s ≡ f (target_at w s) (track_at w s)
  pub others : (s : ℕ) → n ≤ s → track_at v s ≡ track_at w s

pub moved_at : (f : Point → Track → Track) (w : List ℕ) (n : ℕ) → has_station w n ≡ true → MovedAt f (put_track w n (f (target_at w n) (track_at w n))) w n
moved_at f w n here =
    let track : Track = f (target_at w n) (track_at w n) in
    record {
      only = put_track_only w n track;
      rule = rule_put_track w n track;
      opened = opened_put_track w n track;
      counts = counts_put_track w n track;
      counters = counter_put_track w n track;
      targets = target_put_track w n track;
      moved = track_back w n track here;
      others = λ s d. track_other w n track s d;
    }

pub moved_none : (f : Point → Track → Track) (w : List ℕ) → Moved f w w 0
moved_none f w = record { only = only_none w in_common; rule = refl; opened = refl; counts = refl; counters = λ s. refl; targets = λ s. refl; moved = λ s h. absurd (omega arith); others = λ s l. refl }

pub moved_next : {f : Point → Track → Track} {u v w : List ℕ} {n : ℕ} → MovedAt f u v n → Moved f v w n → Moved f u w (suc n)
moved_next {f} {u} {v} {w} {n} a m = record {
  only = only_trans a.only m.only;
  rule = a.rule ∙ m.rule;
  opened = a.opened ∙ m.opened;
  counts = a.counts ∙ m.counts;
  counters = λ s. a.counters s ∙ m.counters s;
  targets = λ s. a.targets s ∙ m.targets s;
  moved = λ s h. go s h (ℕ_discrete s n);
  others = λ s k. a.others s (λ e. omega arith) ∙ m.others s (omega arith);
}
  where
    go : (s : ℕ) → s < suc n → Dec (s ≡ n) → track_at u s ≡ f (target_at w s) (track_at w s)
    go s h (yes e) = rw e (a.moved ∙ ap₂ f (m.targets n) (m.others n (omega arith)))
    go s h (no d) = a.others s d ∙ m.moved s (omega arith)

-- a change of station n is counted and then all tracks are moved
module _ (f : Point → Track → Track) (v u w : List ℕ) (counts : Counts) (n : ℕ) (c : Counting u w counts n) (m : Moved f v u stations) where
  both_only : OnlyIn v w in_common
  both_only = only_trans m.only c.only

  counted_one : (s : ℕ) → Dec (s ≡ n) → counter_at u s ≡ put (counter_at w) n (more (counter_at w n)) s
  counted_one s (yes e) = rw e (c.own ∙ sym (put_same (counter_at w) n (more (counter_at w n))))
  counted_one s (no d) = c.others s d ∙ sym (put_other (counter_at w) n s (more (counter_at w n)) d)

  pub moved_written : Written w v counts (put (counter_at w) n (more (counter_at w n))) (λ s. with_track (seat_at w s) (f (seat_at w s).target (seat_at w s).track))
  unfolding seat_at
  moved_written = record {
    opened = m.opened ∙ c.opened;
    counted = m.counts ∙ c.counted;
    counters = λ s. m.counters s ∙ counted_one s (ℕ_discrete s n);
    seated = λ s l.
        let reads = common_stations (m.rule ∙ c.rule) both_only s in
        seat_of v s _ (m.moved s l ∙ ap₂ f (c.targets s) (c.tracks s)) (m.targets s ∙ c.targets s) (ap (λ t. t.word) reads.state) reads.call reads.answer;
  }

  pub moved_rows : (rows : ℕ) → SameRows w v rows
  moved_rows rows = common_rows (m.rule ∙ c.rule) both_only rows
