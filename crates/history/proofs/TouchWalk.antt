-- What a step of an add, a remove or a contains touches: at most six rows beside the two records (`walk_alike`).
use Prim.Native.Nat.{ℕ, ◌≤◌, ◌<◌}
use mathlib.Core.Path.{◌≡◌, refl, ap, ap₂}
use mathlib.Core.Logic.{◌≢◌}
use mathlib.Core.Bool.{Bool, true, false, cond, ◌||◌}
use mathlib.Core.List.{List, Memᴰ}
use native.Mathlib.Decide.{dec_lt}
use native.Mathlib.Omega.{arith}
use borrow.Author.Tests.{eqb-false}
use lib.Dec.{eqb}
use Rattle.words.specs.Layout.{stations}
use Rattle.stations.specs.Track.{standing}
use Rattle.stations.specs.declared.track.Track.{Track}
use Rattle.stations.specs.declared.counts.Counts.{Counts}
use Rattle.points.specs.declared.point.Point.{Point}
use Rattle.points.specs.Word.{NONE}
use Rattle.rows.specs.declared.row.Row.{Row}
use Rattle.stations.specs.declared.call.Call.{Call}
use Rattle.rows.specs.Row.{row_at}
use Rattle.rows.specs.Grades.{slot_of}
use Rattle.rows.proofs.RowLaws.{row_at_outside}
use Rattle.stations.proofs.TakenLaws.{taken_in_agree}
use Rattle.calls.specs.declared.walk.Way.{Way}
use Rattle.calls.specs.Link.{is_leaf, is_cut}
use Rattle.calls.specs.Insert.{site_at}
use Rattle.calls.specs.Unlink.{around_at}
use Rattle.calls.specs.Walk.{down_from, down, way_of, marked_way, passed_words, walk_to, code_at, conclude, stands_at, walk_from, walk_of, walked_words}
use Rattle.stations.proofs.OpeningLaws.{limit_agree, places_agree}
use Rattle.stations.proofs.CounterLaws.{counter_agree}
use Rattle.calls.proofs.ChangeLaws.{code_own}
use Rattle.history.specs.Touch.{AgreeOn, Leaves, way_rows, pick_rows, end_rows, walk_rows, rows_below}
use Rattle.history.proofs.TouchLaws.{leaves_nothing, counts_same, track_same, leaves_track}
use Rattle.history.proofs.TouchRows.{the_first, the_second, the_third, the_fourth, the_fifth, the_sixth, in_pick, row_alike, leaves_marked}
use Rattle.history.proofs.TouchReply.{Alike, alike_done, alike_refused, alike_pick, alike_ask, alike_rows, leaves_answered}
use Rattle.history.proofs.TouchInsert.{insert_alike}
use Rattle.history.proofs.TouchUnlink.{unlink_alike}

-- ---- what is read

module _ {v w : List ℕ} {s : ℕ} {rows : List ℕ} (a : AgreeOn v w s rows) where
  stands_same : stands_at v s ≡ stands_at w s
  unfolding stands_at
  stands_same = ap₂ (λ (track : Track) (counts : Counts). cond (eqb track.cursor NONE) counts.root track.cursor) (track_same a s) (counts_same a)

  code_same : (call : Call) (row : Row) → code_at v s call row ≡ code_at w s call row
  code_same call row = code_own v w s call row (counter_agree a.common s) (limit_agree a.common) (places_agree a.common) (taken_in_agree a.common)

-- ---- six rows down

down_alike : {v w list : List ℕ} {s : ℕ} (count : ℕ) → AgreeOn v w s (rows_below count list) → (point : Point) (r q : ℕ) → Memᴰ r list → r ≡ q
    → down v count point r ≡ down w count point q
unfolding down
down_alike count a point r q m e = ap₂ (down_from point) e (row_alike count a r q m e)

way_same : {v w : List ℕ} {s : ℕ} (count : ℕ) (p : Point) (at : ℕ) → AgreeOn v w s (rows_below count (way_rows (way_of v count p at))) → way_of v count p at ≡ way_of w count p at
unfolding way_of
way_same count p at a =
    let one = down_alike count a p _ _ the_first refl in
    let two = down_alike count a p _ _ the_second one in
    let three = down_alike count a p _ _ the_third two in
    let four = down_alike count a p _ _ the_fourth three in
    let five = down_alike count a p _ _ the_fifth four in
    let to = down_alike count a p _ _ the_sixth five in
    λ i. record { at = at; one = one i; two = two i; three = three i; four = four i; five = five i; to = to i }

-- a row from which the way goes on is one of the index
down_there : (words : List ℕ) (count : ℕ) (p : Point) (x : ℕ) → down words count p x ≢ NONE → x < count
unfolding down
down_there words count p x n = go (dec_lt x count)
  where
    go : Dec (x < count) → x < count
    go (yes h) = h
    go (no m) = absurd (n (rw (row_at_outside words count x (omega arith))))

-- so are all six where it comes to a row
module _ (words : List ℕ) (count : ℕ) (few : count ≤ NONE) (p : Point) (at : ℕ) (there : (way_of words count p at).to ≢ NONE) where
  -- none leads to none
  back : (x : ℕ) → down words count p x < count → x < count
  back x h = down_there words count p x (λ e. omega (arith, e, h, few))

  fifth : (way_of words count p at).five < count
  unfolding way_of
  fifth = down_there words count p (way_of words count p at).five there

  fourth : (way_of words count p at).four < count
  unfolding way_of
  fourth = back (way_of words count p at).four fifth

  third : (way_of words count p at).three < count
  unfolding way_of
  third = back (way_of words count p at).three fourth

  second : (way_of words count p at).two < count
  unfolding way_of
  second = back (way_of words count p at).two third

  first : (way_of words count p at).one < count
  unfolding way_of
  first = back (way_of words count p at).one second

  start : at < count
  unfolding way_of
  start = back at first

-- the marks of the six
marked_leaves : {v w : List ℕ} {s : ℕ} (count : ℕ) → count ≤ NONE → (p : Point) (at : ℕ) → (way_of v count p at).to ≢ NONE → AgreeOn v w s (rows_below count (way_rows (way_of v count p at)))
    → Leaves v w (marked_way v (way_of v count p at) (slot_of p)) (marked_way w (way_of v count p at) (slot_of p)) s (rows_below count (way_rows (way_of v count p at)))
unfolding marked_way way_of
marked_leaves {v} count few p at there a =
    leaves_marked count
    (leaves_marked count
    (leaves_marked count
    (leaves_marked count
    (leaves_marked count
    (leaves_marked count (leaves_nothing a) at _ p the_first (start v count few p at there))
    _ _ p the_second (first v count few p at there))
    _ _ p the_third (second v count few p at there))
    _ _ p the_fourth (third v count few p at there))
    _ _ p the_fifth (fourth v count few p at there))
    _ _ p the_sixth (fifth v count few p at there)

passed_leaves : {v w : List ℕ} {s : ℕ} (count : ℕ) → count ≤ NONE → (call : Call) (at : ℕ) → (way_of v count call.point at).to ≢ NONE
    → AgreeOn v w s (rows_below count (way_rows (way_of v count call.point at)))
    → Leaves v w (passed_words v call (way_of v count call.point at)) (passed_words w call (way_of v count call.point at)) s (rows_below count (way_rows (way_of v count call.point at)))
unfolding passed_words
passed_leaves {v} {w} {s} count few call at there a = go (eqb call.kind 1)
  where
    way : Way
    way = way_of v count call.point at

    go : (b : Bool) → Leaves v w (cond b (marked_way v way (slot_of call.point)) v) (cond b (marked_way w way (slot_of call.point)) w) s (rows_below count (way_rows way))
    go true = marked_leaves count few call.point at there a
    go false = leaves_nothing a

walked_leaves : {v w v' w' : List ℕ} {s : ℕ} {rows : List ℕ} → Leaves v w v' w' s rows → (to : ℕ) → Leaves v w (walked_words v' s to) (walked_words w' s to) s rows
unfolding walked_words
walked_leaves {s = s} l to = leaves_track l s _ _ (ap (standing to 0) (track_same l.agree s))

way_alike : {v w : List ℕ} {s : ℕ} (count : ℕ) → count ≤ NONE → (call : Call) (at : ℕ) → AgreeOn v w s (rows_below count (way_rows (way_of v count call.point at)))
    → Alike v w (walk_to v s call (way_of v count call.point at)) (walk_to w s call (way_of w count call.point at)) s (rows_below count (way_rows (way_of v count call.point at)))
way_alike {v} count few call at a =
    rw (← way_same count call.point at a)
    (alike_pick (eqb (way_of v count call.point at).to NONE) _ refl (λ none. alike_refused 11 a)
    (λ some. alike_done (walked_leaves (passed_leaves count few call at (eqb-false (way_of v count call.point at).to NONE some) a) (way_of v count call.point at).to)))

-- ---- the decision

end_alike : {v w : List ℕ} {s : ℕ} (count : ℕ) (call : Call) (at : ℕ) (row : Row) → AgreeOn v w s (rows_below count (end_rows v count s call at row))
    → Alike v w (conclude v count s call at row) (conclude w count s call at row) s (rows_below count (end_rows v count s call at row))
unfolding conclude
end_alike {v} {s = s} count call at row a =
    rw (← code_same a call row)
    (alike_rows count (eqb (code_at v s call row) 1) _ _ a (insert_alike count call at)
    (λ b. alike_rows count (eqb (code_at v s call row) 5) _ _ b (unlink_alike count call at)
    (λ c. alike_done (leaves_answered (leaves_nothing c) _ _ refl))))

-- ---- one step

-- from a row that both slices have alike
from_alike : {v w : List ℕ} {s : ℕ} (count : ℕ) → count ≤ NONE → (call : Call) (at : ℕ) (row : Row)
    → AgreeOn v w s (rows_below count (pick_rows (is_cut row) (way_rows (way_of v count call.point at)) (end_rows v count s call at row)))
    → Alike v w (walk_from v count s call at row) (walk_from w count s call at row) s (rows_below count (pick_rows (is_cut row) (way_rows (way_of v count call.point at)) (end_rows v count s call at row)))
from_alike count few call at row a =
    alike_rows count (is_cut row) _ _ a (way_alike count few call at)
    (λ b. alike_ask b (eqb at NONE || is_leaf row) (eqb at NONE || is_leaf row) 11 refl (λ sound. end_alike count call at row b))

-- the row where the walk stands is among the rows
at_stands : (v : List ℕ) (count s : ℕ) (call : Call) → Memᴰ (stands_at v s) (walk_rows v count s call)
unfolding site_at around_at way_of
at_stands v count s call =
    let row = row_at v count (stands_at v s) in
    in_pick (is_cut row) the_first
    (in_pick (eqb (code_at v s call row) 1) the_first (in_pick (eqb (code_at v s call row) 5) the_first the_first))

-- from two slices that agree in the rows that the first one's walk needs
pub walk_alike : {v w : List ℕ} {s : ℕ} → s < stations → (count : ℕ) → count ≤ NONE → (call : Call) → AgreeOn v w s (rows_below count (walk_rows v count s call))
    → Alike v w (walk_of v count s call) (walk_of w count s call) s (rows_below count (walk_rows v count s call))
unfolding walk_of
walk_alike {v} {w} {s} h count few call a =
    rw (← stands_same a, ← row_alike count a (stands_at v s) (stands_at v s) (at_stands v count s call) refl)
    (from_alike count few call (stands_at v s) (row_at v count (stands_at v s)) a)
