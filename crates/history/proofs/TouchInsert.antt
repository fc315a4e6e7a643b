-- What an insert touches: at most four rows beside the two records (`insert_alike`).
use Prim.Native.Nat.{ℕ, zero, suc, ◌≤◌}
use mathlib.Core.Path.{◌≡◌, refl, ap, subst}
use mathlib.Core.Bool.{Bool, true, false, cond, ◌&&◌, ◌||◌, not, false≢true}
use mathlib.Core.List.{List}
use borrow.Author.Tests.{eqb-true}
use lib.Dec.{eqb}
use Rattle.stations.specs.declared.counts.Counts.{Counts}
use Rattle.stations.specs.Counts.{counts_at}
use Rattle.points.specs.declared.point.Point.{Point}
use Rattle.points.specs.Word.{NONE}
use Rattle.points.proofs.Tests.{and_l, and_r}
use Rattle.rows.specs.declared.row.Row.TheVariants.{Bad}
use Rattle.stations.specs.declared.call.Call.{Call}
use Rattle.words.specs.Layout.{stations}
use Rattle.rows.specs.Row.{row_at}
use Rattle.rows.proofs.RowLaws.{row_at_outside}
use Rattle.calls.specs.declared.insert.Site.{Site}
use Rattle.calls.specs.Link.{next_of, parent_of, links_to, is_leaf, with_parent, replaced, leaf_point}
use Rattle.calls.specs.Insert.{site_at, site_sound, new_side, put_cut, insert_rows, insert_counts, cursors_moved, insert_words, insert_to, insert_of, count_inserted, cursor_to, cursor_moved}
use Rattle.history.specs.Touch.{AgreeOn, Leaves, site_rows, rows_below}
use Rattle.history.proofs.TouchLaws.{rule_same, leaves_nothing, counts_same, track_same, leaves_counts, leaves_counted, leaves_track}
use Rattle.history.proofs.TouchRows.{the_first, the_second, the_third, the_fourth, row_alike, leaves_below, leaves_begun, none_idle, bad_idle}
use Rattle.history.proofs.TouchReply.{Alike, alike_done, alike_ask, leaves_answered}

-- ---- what is read

-- two slices that agree in the rows of the site find the same site
site_same : {v w : List ℕ} {s : ℕ} (rows at : ℕ) → AgreeOn v w s (rows_below rows (site_rows (site_at v rows at))) → site_at v rows at ≡ site_at w rows at
unfolding site_at
site_same {v} {w} {s} rows at a =
    let first : (counts_at v).head ≡ (counts_at w).head = ap (λ (c : Counts). c.head) (counts_same a) in
    let front : row_at v rows (counts_at v).head ≡ row_at w rows (counts_at w).head = row_alike rows a _ _ the_second first in
    let second = ap (λ row. cond (eqb at NONE) NONE (next_of row)) front in
    let behind = row_alike rows a _ _ the_third second in
    let leaf : row_at v rows at ≡ row_at w rows at = row_alike rows a at at the_first refl in
    let over = ap parent_of leaf in
    let cut = row_alike rows a _ _ the_fourth over in
    λ i. record { rule = rule_same a i; first = first i; front = front i; second = second i; behind = behind i; at = at; leaf = leaf i; over = over i; cut = cut i }

-- a site in an index of so many rows: from there on there is no row, and where the walk ended at none there is no second one
record InSite (rows : ℕ) (site : Site) : Type 0 where
  front : rows ≤ site.first → site.front ≡ Bad
  behind : rows ≤ site.second → site.behind ≡ Bad
  leaf : rows ≤ site.at → site.leaf ≡ Bad
  cut : rows ≤ site.over → site.cut ≡ Bad
  alone : site.at ≡ NONE → site.second ≡ NONE

in_site : (v : List ℕ) (rows at : ℕ) → InSite rows (site_at v rows at)
unfolding site_at
in_site v rows at = record {
  front = λ h. row_at_outside v rows _ h;
  behind = λ h. row_at_outside v rows _ h;
  leaf = λ h. row_at_outside v rows at h;
  cut = λ h. row_at_outside v rows _ h;
  alone = λ e. ap (λ x. cond (eqb x NONE) NONE (next_of (row_at v rows (counts_at v).head))) e;
}

-- in a sound site the first row is there, and the second where there is a leaf
module _ (site : Site) (sound : site_sound site ≡ true) where
  front_there : site.front ≡ Bad → ⊥
  unfolding site_sound
  front_there bad = false≢true (subst (λ row. not (eqb (next_of row) NONE) ≡ true) bad (and_l (not (eqb (next_of site.front) NONE)) _ sound))

  behind_there : site.behind ≡ Bad → site.at ≡ NONE
  unfolding site_sound
  behind_there bad = eqb-true _ _ (go (eqb site.at NONE) (and_r (not (eqb (next_of site.front) NONE)) _ sound))
    where
      go : (b : Bool)
          → (b
          || (((is_leaf site.leaf && not (eqb (next_of site.behind) NONE)) && not (eqb site.second site.first))
          && (eqb site.over NONE || links_to site.at site.cut)))
          ≡ true
          → b ≡ true
      go true e = refl
      go false e =
          let three = and_l ((is_leaf site.leaf && not (eqb (next_of site.behind) NONE)) && not (eqb site.second site.first)) _ e in
          let two = and_l (is_leaf site.leaf && not (eqb (next_of site.behind) NONE)) _ three in
          subst (λ row. not (eqb (next_of row) NONE) ≡ true) bad (and_r (is_leaf site.leaf) _ two)

-- ---- what is written

module _ {v w v' w' : List ℕ} {s : ℕ} {rows : List ℕ} (l : Leaves v w v' w' s rows) where
  -- the cursors of the first n stations
  cursors_leaves : (gone to n : ℕ) → Leaves v w (cursors_moved gone to n v') (cursors_moved gone to n w') s rows
  unfolding cursors_moved cursor_moved
  cursors_leaves gone to zero = l
  cursors_leaves gone to (suc n) =
      let before = cursors_leaves gone to n in
      leaves_track before n _ _ (ap (cursor_to gone to) (track_same before.agree n))

  -- the counts, the root and the head, and the counter
  insert_counts_leaves : (site : Site) → Leaves v w (insert_counts v' s site) (insert_counts w' s site) s rows
  unfolding insert_counts
  insert_counts_leaves site = leaves_counted (leaves_counts l _ _ (ap (count_inserted site) (counts_same l.agree))) s

-- the four rows: each is among the rows of the index, or nothing is written there
insert_rows_leaves : {v w v' w' : List ℕ} {s : ℕ} (rows : ℕ) (site : Site) → InSite rows site → site_sound site ≡ true
    → Leaves v w v' w' s (rows_below rows (site_rows site)) → (added : ℕ) (point : Point) (curve : ℕ)
    → Leaves v w (insert_rows v' site added point curve) (insert_rows w' site added point curve) s (rows_below rows (site_rows site))
unfolding insert_rows put_cut
insert_rows_leaves rows site inside sound l added point curve =
    let alone : rows ≤ site.second → site.second ≡ NONE = λ h. inside.alone (behind_there site sound (inside.behind h)) in
    leaves_below rows
    (leaves_below rows
    (leaves_begun rows
    (leaves_below rows
    (leaves_below rows l site.first _ the_second (λ h. absurd (front_there site sound (inside.front h))))
    site.second _ the_third (λ h. none_idle (alone h) _))
    site.second (new_side site point) point (leaf_point site.leaf) the_third alone)
    site.at _ the_first (λ h. bad_idle (ap (with_parent site.second) (inside.leaf h)) site.at))
    site.over _ the_fourth (λ h. bad_idle (ap (replaced site.at site.second) (inside.cut h)) site.over)

insert_leaves : {v w : List ℕ} {s : ℕ} (rows : ℕ) (site : Site) → InSite rows site → site_sound site ≡ true
    → AgreeOn v w s (rows_below rows (site_rows site)) → (point : Point) (curve : ℕ)
    → Leaves v w (insert_words v s site point curve) (insert_words w s site point curve) s (rows_below rows (site_rows site))
unfolding insert_words
insert_leaves rows site inside sound a point curve =
    rw (← counts_same a)
    (insert_rows_leaves rows site inside sound (cursors_leaves (insert_counts_leaves (leaves_nothing a) site) site.at site.second stations) _ point curve)

-- ---- the insert

insert_to_alike : {v w : List ℕ} {s : ℕ} (rows : ℕ) (call : Call) (site : Site) → InSite rows site → AgreeOn v w s (rows_below rows (site_rows site))
    → Alike v w (insert_to v s call site) (insert_to w s call site) s (rows_below rows (site_rows site))
insert_to_alike rows call site inside a =
    alike_ask a (site_sound site) (site_sound site) 11 refl
    (λ sound. alike_done (leaves_answered (insert_leaves rows site inside sound a call.point call.curve) _ _ refl))

-- from two slices that agree in the rows of the first one's site
pub insert_alike : {v w : List ℕ} {s : ℕ} (rows : ℕ) (call : Call) (at : ℕ) → AgreeOn v w s (rows_below rows (site_rows (site_at v rows at)))
    → Alike v w (insert_of v rows s call at) (insert_of w rows s call at) s (rows_below rows (site_rows (site_at v rows at)))
unfolding insert_of
insert_alike {v} rows call at a = rw (← site_same rows at a) (insert_to_alike rows call (site_at v rows at) (in_site v rows at) a)
