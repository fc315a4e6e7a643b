-- What an unlink touches: at most five rows beside the two records (`unlink_alike`).
use Prim.Native.Nat.{ℕ, zero, suc, ◌≤◌}
use mathlib.Core.Path.{◌≡◌, refl, ap, ap₂, subst}
use mathlib.Core.Bool.{Bool, true, false, ◌&&◌, ◌||◌, not}
use mathlib.Core.List.{List}
use borrow.Author.Tests.{eqb-true}
use lib.Dec.{eqb, leb}
use Rattle.stations.specs.declared.counts.Counts.{Counts}
use Rattle.stations.specs.Counts.{counts_at}
use Rattle.points.specs.Word.{NONE}
use Rattle.points.proofs.Tests.{and_l, and_r}
use Rattle.rows.specs.declared.row.Row.TheVariants.{Bad}
use Rattle.stations.specs.declared.call.Call.{Call}
use Rattle.words.specs.Layout.{stations}
use Rattle.rows.specs.Row.{row_at}
use Rattle.rows.proofs.RowLaws.{row_at_outside}
use Rattle.calls.specs.declared.unlink.Around.{Around}
use Rattle.calls.specs.Link.{next_of, parent_of, sibling_of, links_to, is_leaf, is_tree, is_free, with_next, with_parent, removed_as, replaced}
use Rattle.calls.specs.Unlink.{around_at, around_sound, unlink_rows, unlink_counts, station_moved, stations_moved, unlink_words, unlink_to, unlink_of, count_unlinked, track_after}
use Rattle.history.specs.Touch.{AgreeOn, Leaves, around_rows, rows_below}
use Rattle.history.proofs.TouchLaws.{leaves_nothing, counts_same, track_same, target_same, leaves_counts, leaves_counted, leaves_track}
use Rattle.history.proofs.TouchRows.{the_first, the_second, the_third, the_fourth, the_fifth, row_alike, leaves_below, none_idle, bad_idle}
use Rattle.history.proofs.TouchReply.{Alike, alike_done, alike_ask, leaves_answered}

-- ---- what is read

-- two slices that agree in the rows around the leaf find the same there
around_same : {v w : List ℕ} {s : ℕ} (rows at : ℕ) → AgreeOn v w s (rows_below rows (around_rows (around_at v rows at))) → around_at v rows at ≡ around_at w rows at
unfolding around_at
around_same {v} {w} {s} rows at a =
    let tail : (counts_at v).tail ≡ (counts_at w).tail = ap (λ (c : Counts). c.tail) (counts_same a) in
    let last : row_at v rows (counts_at v).tail ≡ row_at w rows (counts_at w).tail = row_alike rows a _ _ the_second tail in
    let leaf : row_at v rows at ≡ row_at w rows at = row_alike rows a at at the_first refl in
    let over = ap parent_of leaf in
    let cut = row_alike rows a _ _ the_third over in
    let side = ap (sibling_of at) cut in
    let other = row_alike rows a _ _ the_fourth side in
    let above = ap parent_of cut in
    let grand = row_alike rows a _ _ the_fifth above in
    λ i. record {
      tail = tail i;
      last = last i;
      at = at;
      leaf = leaf i;
      over = over i;
      cut = cut i;
      side = side i;
      other = other i;
      above = above i;
      grand = grand i;
    }

-- around a leaf in an index of so many rows: from there on there is no row
record InAround (rows : ℕ) (x : Around) : Type 0 where
  last : rows ≤ x.tail → x.last ≡ Bad
  leaf : rows ≤ x.at → x.leaf ≡ Bad
  cut : rows ≤ x.over → x.cut ≡ Bad
  other : rows ≤ x.side → x.other ≡ Bad
  grand : rows ≤ x.above → x.grand ≡ Bad

in_around : (v : List ℕ) (rows at : ℕ) → InAround rows (around_at v rows at)
unfolding around_at
in_around v rows at = record {
  last = λ h. row_at_outside v rows _ h;
  leaf = λ h. row_at_outside v rows at h;
  cut = λ h. row_at_outside v rows _ h;
  other = λ h. row_at_outside v rows _ h;
  grand = λ h. row_at_outside v rows _ h;
}

-- where all is sound the cut over the leaf is there, unless the leaf is alone
cut_there : (x : Around) → around_sound x ≡ true → x.cut ≡ Bad → x.over ≡ NONE
unfolding around_sound
cut_there x sound bad = eqb-true _ _ (go (eqb x.over NONE) (and_r ((is_free x.last && eqb (next_of x.last) NONE) && is_leaf x.leaf) _ sound))
  where
    go : (b : Bool)
        → (b
        || (((links_to x.at x.cut && not (eqb x.side x.at)) && is_tree x.other)
        && (eqb x.above NONE || links_to x.over x.grand)))
        ≡ true
        → b ≡ true
    go true e = refl
    go false e =
        let three = and_l ((links_to x.at x.cut && not (eqb x.side x.at)) && is_tree x.other) _ e in
        let two = and_l (links_to x.at x.cut && not (eqb x.side x.at)) _ three in
        subst (λ row. links_to x.at row ≡ true) bad (and_l (links_to x.at x.cut) _ two)

-- ---- what is written

module _ {v w v' w' : List ℕ} {s : ℕ} {rows : List ℕ} (l : Leaves v w v' w' s rows) (x : Around) where
  -- the track of a station, which is decided by it and by the target
  station_leaves : (n : ℕ) → Leaves v w (station_moved v' n x) (station_moved w' n x) s rows
  unfolding station_moved
  station_leaves n = leaves_track l n _ _ (ap₂ (track_after x) (target_same l.agree n) (track_same l.agree n))

  -- the counts, the root and the tail, and the counter
  unlink_counts_leaves : Leaves v w (unlink_counts v' s x) (unlink_counts w' s x) s rows
  unfolding unlink_counts
  unlink_counts_leaves = leaves_counted (leaves_counts l _ _ (ap (count_unlinked x) (counts_same l.agree))) s

-- the tracks of the first n stations
stations_leaves : {v w v' w' : List ℕ} {s : ℕ} {rows : List ℕ} → Leaves v w v' w' s rows → (x : Around) (n : ℕ)
    → Leaves v w (stations_moved x n v') (stations_moved x n w') s rows
unfolding stations_moved
stations_leaves l x zero = l
stations_leaves l x (suc n) = station_leaves (stations_leaves l x n) x n

-- the five rows: each is among the rows of the index, or nothing is written there
unlink_rows_leaves : {v w v' w' : List ℕ} {s : ℕ} (rows : ℕ) (x : Around) → InAround rows x → around_sound x ≡ true
    → Leaves v w v' w' s (rows_below rows (around_rows x)) → (number : ℕ)
    → Leaves v w (unlink_rows v' x number) (unlink_rows w' x number) s (rows_below rows (around_rows x))
unfolding unlink_rows
unlink_rows_leaves rows x inside sound l number =
    leaves_below rows
    (leaves_below rows
    (leaves_below rows
    (leaves_below rows
    (leaves_below rows l x.tail _ the_second (λ h. bad_idle (ap (with_next x.at) (inside.last h)) x.tail))
    x.at _ the_first (λ h. bad_idle (ap (removed_as x.over number) (inside.leaf h)) x.at))
    x.over _ the_third (λ h. none_idle (cut_there x sound (inside.cut h)) _))
    x.side _ the_fourth (λ h. bad_idle (ap (with_parent x.above) (inside.other h)) x.side))
    x.above _ the_fifth (λ h. bad_idle (ap (replaced x.over x.side) (inside.grand h)) x.above)

unlink_leaves : {v w : List ℕ} {s : ℕ} (rows : ℕ) (x : Around) → InAround rows x → around_sound x ≡ true → AgreeOn v w s (rows_below rows (around_rows x))
    → Leaves v w (unlink_words v s x) (unlink_words w s x) s (rows_below rows (around_rows x))
unfolding unlink_words
unlink_leaves rows x inside sound a =
    rw (← counts_same a)
    (unlink_rows_leaves rows x inside sound (stations_leaves (unlink_counts_leaves (leaves_nothing a) x) x stations) _)

-- ---- the unlink

unlink_to_alike : {v w : List ℕ} {s : ℕ} (rows : ℕ) (call : Call) (x : Around) → InAround rows x → AgreeOn v w s (rows_below rows (around_rows x))
    → Alike v w (unlink_to v s call x) (unlink_to w s call x) s (rows_below rows (around_rows x))
unlink_to_alike {v} {w} rows call x inside a =
    alike_ask a (around_sound x && leb 1 (counts_at v).held) (around_sound x && leb 1 (counts_at w).held) 11
    (ap (λ k. around_sound x && leb 1 k) (ap (λ (c : Counts). c.held) (counts_same a)))
    (λ sound. alike_done (leaves_answered (unlink_leaves rows x inside (and_l (around_sound x) _ sound) a) _ _ refl))

-- from two slices that agree in the rows around the first one's leaf
pub unlink_alike : {v w : List ℕ} {s : ℕ} (rows : ℕ) (call : Call) (at : ℕ) → AgreeOn v w s (rows_below rows (around_rows (around_at v rows at)))
    → Alike v w (unlink_of v rows s call at) (unlink_of w rows s call at) s (rows_below rows (around_rows (around_at v rows at)))
unfolding unlink_of
unlink_alike {v} rows call at a = rw (← around_same rows at a) (unlink_to_alike rows call (around_at v rows at) (in_around v rows at) a)
