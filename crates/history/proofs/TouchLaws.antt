-- What is read alike in two slices that agree, and what single writes leave (`Leaves`): the parts of which the theorems on touching are made.
use Prim.Native.Nat.{ℕ, ◌<◌}
use mathlib.Core.Path.{◌≡◌, refl, ◌∙◌}
use mathlib.Core.Bool.{Bool}
use mathlib.Core.List.{List, Memᴰ}
use Rattle.points.specs.declared.point.Point.{Point}
use Rattle.words.specs.Agree.{Agree, Region, in_common, in_station, in_row, OnlyIn}
use Rattle.stations.specs.declared.counts.Counts.{Counts}
use Rattle.stations.specs.declared.track.Track.{Track}
use Rattle.stations.specs.declared.station.State.{State}
use Rattle.stations.specs.declared.call.Best.{Best}
use Rattle.stations.specs.declared.call.Call.{Call}
use Rattle.stations.specs.declared.answer.Answer.{Answer}
use Rattle.stations.specs.Common.{opened_in}
use Rattle.stations.specs.Counts.{counts_at, put_counts}
use Rattle.stations.specs.Counter.{change_counted}
use Rattle.stations.specs.Track.{track_at, put_track}
use Rattle.stations.specs.Target.{target_at, put_target}
use Rattle.stations.specs.Scale.{scale_at}
use Rattle.stations.specs.Station.{put_state}
use Rattle.stations.specs.Call.{put_best, put_call}
use Rattle.stations.specs.Answer.{put_answer}
use Rattle.stations.proofs.OpeningLaws.{opened_in_agree}
use Rattle.stations.proofs.ScaleLaws.{scale_agree}
use Rattle.stations.proofs.CountLaws.{counts_agree, put_counts_only, put_counts_agree}
use Rattle.stations.proofs.CounterLaws.{counted_only, counted_agree}
use Rattle.stations.proofs.TrackLaws.{track_agree, put_track_only, put_track_agree}
use Rattle.stations.proofs.TargetLaws.{target_at_agree, put_target_only, put_target_agree}
use Rattle.stations.proofs.StationLaws.{put_state_only, put_state_agree, put_best_only, put_best_agree, put_call_only, put_call_agree, put_answer_only, put_answer_agree}
use Rattle.words.specs.Rule.{rule_at}
use Rattle.words.proofs.RuleLaws.{rule_agree}
use Rattle.rows.specs.declared.row.Row.{Row}
use Rattle.rows.specs.Row.{row_at, put_row}
use Rattle.rows.specs.Grades.{admits, mark_toward, begin_grades}
use Rattle.rows.proofs.RowLaws.{put_row_only, put_row_agree, row_at_agree}
use Rattle.rows.proofs.GradeLaws.{admits_agree, toward_only, toward_agree, begin_only, begin_agree}
use Rattle.history.specs.Touch.{AgreeOn, KeepsOthers, Leaves}

-- ---- reads

module _ {v w : List ℕ} {s : ℕ} {rows : List ℕ} (a : AgreeOn v w s rows) where
  pub counts_same : counts_at v ≡ counts_at w
  counts_same = counts_agree a.common

  pub track_same : (u : ℕ) → track_at v u ≡ track_at w u
  track_same u = track_agree a.common u

  pub target_same : (u : ℕ) → target_at v u ≡ target_at w u
  target_same u = target_at_agree a.common u

  pub scale_same : scale_at v ≡ scale_at w
  scale_same = scale_agree a.common

  pub rule_same : rule_at v ≡ rule_at w
  rule_same = rule_agree a.common

  pub opened_same : opened_in v ≡ opened_in w
  opened_same = opened_in_agree a.common

  pub row_same : (count r : ℕ) → Memᴰ r rows → row_at v count r ≡ row_at w count r
  row_same count r m = row_at_agree count r rule_same (a.row r m)

  pub admits_same : (r : ℕ) (side : Bool) (k : ℕ) → k < 128 → Memᴰ r rows → admits v r side k ≡ admits w r side k
  admits_same r side k h m = admits_agree r side k h (a.row r m)

-- ---- writes

nothing_kept : (v : List ℕ) (s : ℕ) (rows : List ℕ) → KeepsOthers v v s rows
nothing_kept v s rows = record { lengths = refl; others = λ k c t r. refl }

-- an event that writes nothing
pub leaves_nothing : {v w : List ℕ} {s : ℕ} {rows : List ℕ} → AgreeOn v w s rows → Leaves v w v w s rows
leaves_nothing {v} {w} {s} {rows} a = record { agree = a; first = nothing_kept v s rows; second = nothing_kept w s rows }

-- a write in the common record, in the station's record, or in one of the rows
data Among (s : ℕ) (rows : List ℕ) : Region → Type 0 where
  the_common : Among s rows in_common
  the_station : Among s rows (in_station s)
  a_row : {r : ℕ} → Memᴰ r rows → Among s rows (in_row r)

kept_more : {v v' v'' : List ℕ} {s : ℕ} {rows : List ℕ} (x : Region) → Among s rows x → KeepsOthers v v' s rows → OnlyIn v'' v' x → KeepsOthers v v'' s rows
kept_more in_common the_common k o = record { lengths = o.lengths ∙ k.lengths; others = λ i c t r. o.others i c ∙ k.others i c t r }
kept_more (in_station s) the_station k o = record { lengths = o.lengths ∙ k.lengths; others = λ i c t r. o.others i t ∙ k.others i c t r }
kept_more (in_row q) (a_row m) k o = record { lengths = o.lengths ∙ k.lengths; others = λ i c t r. o.others i (r q m) ∙ k.others i c t r }

-- one more write, the same on both sides
more_leaves : {v w v' w' v'' w'' : List ℕ} {s : ℕ} {rows : List ℕ} (x : Region) → Among s rows x → ((a n : ℕ) → Agree v' w' a n → Agree v'' w'' a n) → OnlyIn v'' v' x → OnlyIn w'' w' x
    → Leaves v w v' w' s rows → Leaves v w v'' w'' s rows
more_leaves x m f o p l = record {
  agree = record { common = f _ _ l.agree.common; station = f _ _ l.agree.station; row = λ r h. f _ _ (l.agree.row r h) };
  first = kept_more x m l.first o;
  second = kept_more x m l.second p;
}

module _ {v w v' w' : List ℕ} {s : ℕ} {rows : List ℕ} (l : Leaves v w v' w' s rows) where
  pub leaves_counts : (x y : Counts) → x ≡ y → Leaves v w (put_counts v' x) (put_counts w' y) s rows
  leaves_counts x y e = rw (← e) (more_leaves in_common the_common (λ i n a. put_counts_agree a x) (put_counts_only v' x) (put_counts_only w' x) l)

  pub leaves_counted : (u : ℕ) → Leaves v w (change_counted v' u) (change_counted w' u) s rows
  leaves_counted u = more_leaves in_common the_common (λ i n a. counted_agree l.agree.common a u) (counted_only v' u) (counted_only w' u) l

  pub leaves_track : (u : ℕ) (x y : Track) → x ≡ y → Leaves v w (put_track v' u x) (put_track w' u y) s rows
  leaves_track u x y e = rw (← e) (more_leaves in_common the_common (λ i n a. put_track_agree a u x) (put_track_only v' u x) (put_track_only w' u x) l)

  pub leaves_state : (x y : State) → x ≡ y → Leaves v w (put_state v' s x) (put_state w' s y) s rows
  leaves_state x y e = rw (← e) (more_leaves (in_station s) the_station (λ i n a. put_state_agree a s x) (put_state_only v' s x) (put_state_only w' s x) l)

  pub leaves_call : (x y : Call) → x ≡ y → Leaves v w (put_call v' s x) (put_call w' s y) s rows
  leaves_call x y e = rw (← e) (more_leaves (in_station s) the_station (λ i n a. put_call_agree a s x) (put_call_only v' s x) (put_call_only w' s x) l)

  pub leaves_best : (x y : Best) → x ≡ y → Leaves v w (put_best v' s x) (put_best w' s y) s rows
  leaves_best x y e = rw (← e) (more_leaves (in_station s) the_station (λ i n a. put_best_agree a s x) (put_best_only v' s x) (put_best_only w' s x) l)

  pub leaves_answer : (x y : Answer) → x ≡ y → Leaves v w (put_answer v' s x) (put_answer w' s y) s rows
  leaves_answer x y e = rw (← e) (more_leaves (in_station s) the_station (λ i n a. put_answer_agree a s x) (put_answer_only v' s x) (put_answer_only w' s x) l)

  pub leaves_target : (p : Point) → Leaves v w (put_target v' s p) (put_target w' s p) s rows
  leaves_target p = more_leaves in_common the_common (λ i n a. put_target_agree a s p) (put_target_only v' s p) (put_target_only w' s p) l

  pub leaves_row : (r : ℕ) (x : Row) → Memᴰ r rows → Leaves v w (put_row v' r x) (put_row w' r x) s rows
  leaves_row r x m = more_leaves (in_row r) (a_row m) (λ i n a. put_row_agree a r x) (put_row_only v' r x) (put_row_only w' r x) l

  -- the marks of a row
  pub leaves_toward : (r to k : ℕ) → k < 128 → Memᴰ r rows → Leaves v w (mark_toward v' r to k) (mark_toward w' r to k) s rows
  leaves_toward r to k h m = more_leaves (in_row r) (a_row m) (λ i n a. toward_agree a r to k h (l.agree.row r m)) (toward_only v' r to k h) (toward_only w' r to k h) l

  pub leaves_begin : (r : ℕ) (left : Bool) (here there : ℕ) → here < 128 → there < 128 → Memᴰ r rows → Leaves v w (begin_grades v' r left here there) (begin_grades w' r left here there) s rows
  leaves_begin r left here there h h' m =
      more_leaves (in_row r) (a_row m) (λ i n a. begin_agree a r left here there h h' (l.agree.row r m)) (begin_only v' r left here there h h') (begin_only w' r left here there h h') l
