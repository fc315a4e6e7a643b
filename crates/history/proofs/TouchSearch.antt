-- What a step of a nearest touches: at most six rows beside the two records (`search_alike`).
use Prim.Native.Nat.{ℕ, suc, ◌<◌}
use mathlib.Core.Path.{◌≡◌, refl, sym, ap, ◌∙◌}
use mathlib.Core.Bool.{Bool, true, false, cond, not, false≢true}
use mathlib.Core.List.{List, [], ◌∷◌, Memᴰ}
use native.Mathlib.Decide.{dec_lt}
use native.Mathlib.Omega.{arith}
use borrow.Author.Tests.{eq-eqb, eqb-true}
use lib.Dec.{eqb}
use Rattle.words.specs.Layout.{stations}
use Rattle.stations.specs.declared.track.Track.{Track}
use Rattle.points.specs.declared.cut.Cut.{Cut as PointCut}
use Rattle.points.specs.Cut.{goes_left}
use Rattle.points.specs.Choice.{excluded}
use Rattle.points.specs.Word.{NONE}
use Rattle.rows.specs.declared.row.Row.{Row}
use Rattle.rows.specs.declared.row.Row.TheVariants.{Bad, Spare, Removed, Leaf, Cut}
use Rattle.stations.specs.declared.call.Best.{Best}
use Rattle.stations.specs.declared.call.Call.{Call}
use Rattle.calls.specs.declared.aim.Aim.{Aim}
use Rattle.rows.specs.Row.{row_at}
use Rattle.rows.specs.Grades.{slot_of, admits}
use Rattle.rows.proofs.RowLaws.{row_at_outside}
use Rattle.calls.specs.declared.progress.Progress.{Progress}
use Rattle.calls.specs.Link.{next_of, parent_of, is_tree}
use Rattle.calls.specs.Search.{kept_track}
use Rattle.calls.specs.Tour.{best_square, far_shut, tour_down, from_near, from_child, tour_above, tour_up, tour, toured}
use Rattle.calls.specs.Look.{look_at, look}
use Rattle.calls.specs.Progress.{pick_progress, onward, strayed}
use Rattle.calls.specs.Search.{seek, aim_at, progress_at, is_finished, found_answer, kept_words, pick_words, search_words, search_to, search_of}
use Rattle.calls.specs.Answer.{answered_words}
use Rattle.history.specs.Touch.{AgreeOn, Leaves, pick_rows, look_rows, tour_rows, new_row, search_rows, rows_below}
use Rattle.history.proofs.Frame.{slot_fits}
use Rattle.history.proofs.TouchLaws.{scale_same, admits_same, leaves_nothing, leaves_best, track_same, leaves_track}
use Rattle.history.proofs.TouchRows.{the_first, the_second, the_third, the_fourth, the_fifth, the_sixth, below_has, row_alike}
use Rattle.history.proofs.TouchReply.{Alike, alike_done, alike_ask, leaves_answered}

-- ---- what is read

progress_same : {v w : List ℕ} {s : ℕ} {rows : List ℕ} → AgreeOn v w s rows → (call : Call) → progress_at v s call ≡ progress_at w s call
unfolding progress_at
progress_same {s = s} a call =
    ap (λ (track : Track). record { cursor = track.cursor; phase = track.phase; missed = track.missed; best = call.best; sound = true }) (track_same a s)

-- the factors are those of the common record
aim_same : {v w : List ℕ} {s : ℕ} {rows : List ℕ} → AgreeOn v w s rows → (call : Call) → aim_at v call ≡ aim_at w call
aim_same a call = λ i. record { point = call.point; asof = call.asof; scale = scale_same a i }

-- the missed row and the row after it
look_same : {v w list : List ℕ} {s : ℕ} (count : ℕ) → AgreeOn v w s (rows_below count list) → (aim : Aim) (p : Progress)
    → Memᴰ p.missed list → Memᴰ (next_of (row_at v count p.missed)) list → look v count aim p ≡ look w count aim p
unfolding look
look_same count a aim p m n =
    let row = row_alike count a _ _ m refl in
    let after = row_alike count a _ _ n (ap next_of row) in
    λ i. pick_progress (eqb p.missed NONE) p (look_at aim p (row i) (after i))

-- where nothing was missed no row is looked at
look_none : (v : List ℕ) (count : ℕ) (aim : Aim) (p : Progress) → eqb p.missed NONE ≡ true → look v count aim p ≡ p
unfolding look
look_none v count aim p e = rw e

-- ---- one tour

-- what a tour reads is in the list
data Known (words : List ℕ) (count : ℕ) (list : List ℕ) (p : Progress) : Type 0 where
  is_over : p.cursor ≡ NONE → Known words count list p
  goes_down : p.phase ≡ 0 → Memᴰ p.cursor list → Known words count list p
  goes_up : Memᴰ p.cursor list → Memᴰ (parent_of (row_at words count p.cursor)) list → Known words count list p

-- the moves at a row, from slices that admit the same there
module _ (v w : List ℕ) (slot : ℕ) (aim : Aim) (p : Progress) (x : ℕ) (same : (side : Bool) → admits v x side slot ≡ admits w x side slot) where
  shut_same : (best : Best) (cut : PointCut) (goes : Bool) → far_shut v slot aim best x cut goes ≡ far_shut w slot aim best x cut goes
  shut_same best cut goes = ap (λ b. cond b (excluded aim.scale cut aim.point (best_square aim best)) true) (same (not goes))

  down_same : x ≡ p.cursor → (row : Row) → tour_down v slot aim p row ≡ tour_down w slot aim p row
  down_same e Bad = refl
  down_same e (Spare next freed) = refl
  down_same e (Removed next freed added point curve) = refl
  down_same e (Leaf parent added point curve) = refl
  down_same e (Cut parent cut left right) =
      let goes = goes_left cut aim.point in
      rw (← e) (λ i. pick_progress (same goes i) (onward p (cond goes left right) 0 p.best)
      (pick_progress (shut_same p.best cut goes i) (onward p x 1 p.best) (onward p (cond goes right left) 0 p.best)))

  above_same : (row : Row) → tour_above v slot aim p x row ≡ tour_above w slot aim p x row
  above_same Bad = refl
  above_same (Spare next freed) = refl
  above_same (Removed next freed added point curve) = refl
  above_same (Leaf parent added point curve) = refl
  above_same (Cut parent cut left right) =
      let goes = goes_left cut aim.point in
      λ i. from_child p x (cond goes left right) (cond goes right left) (shut_same p.best cut goes i)

module _ {v w list : List ℕ} {s : ℕ} (count slot : ℕ) (fits : slot < 128) (a : AgreeOn v w s (rows_below count list)) (aim : Aim) (p : Progress) where
  -- at a row of the index that is in the list; at any other there is no row
  down_alike : Memᴰ p.cursor list → tour_down v slot aim p (row_at v count p.cursor) ≡ tour_down w slot aim p (row_at w count p.cursor)
  down_alike m = go (dec_lt p.cursor count)
    where
      go : Dec (p.cursor < count) → tour_down v slot aim p (row_at v count p.cursor) ≡ tour_down w slot aim p (row_at w count p.cursor)
      go (yes h) =
          down_same v w slot aim p p.cursor (λ side. admits_same a p.cursor side slot fits (below_has count h m)) refl (row_at v count p.cursor)
          ∙ ap (tour_down w slot aim p) (row_alike count a p.cursor p.cursor m refl)
      go (no n) = rw (row_at_outside v count p.cursor (omega arith), row_at_outside w count p.cursor (omega arith))

  above_alike : (x y : ℕ) → Memᴰ x list → x ≡ y → tour_above v slot aim p x (row_at v count x) ≡ tour_above w slot aim p y (row_at w count y)
  above_alike x y m e = go (dec_lt x count) ∙ ap (λ z. tour_above w slot aim p z (row_at w count z)) e
    where
      go : Dec (x < count) → tour_above v slot aim p x (row_at v count x) ≡ tour_above w slot aim p x (row_at w count x)
      go (yes h) = above_same v w slot aim p x (λ side. admits_same a x side slot fits (below_has count h m)) (row_at v count x) ∙ ap (tour_above w slot aim p x) (row_alike count a x x m refl)
      go (no n) = rw (row_at_outside v count x (omega arith), row_at_outside w count x (omega arith))

  tour_same : Known v count list p → tour v count slot aim p ≡ tour w count slot aim p
  unfolding tour
  tour_same (is_over e) = rw (eq-eqb p.cursor NONE e)
  tour_same (goes_down e m) = rw (eq-eqb p.phase 0 e) (ap (pick_progress (eqb p.cursor NONE) p) (down_alike m))
  tour_same (goes_up m n) =
      let row = row_alike count a p.cursor p.cursor m refl in
      let down = down_alike m in
      let above = above_alike (parent_of (row_at v count p.cursor)) (parent_of (row_at w count p.cursor)) n (ap parent_of row) in
      λ i. pick_progress (eqb p.cursor NONE) p
      (pick_progress (eqb p.phase 0) (down i)
      (pick_progress (is_tree (row i)) (pick_progress (eqb (parent_of (row i)) NONE) (onward p NONE 1 p.best) (above i)) (strayed p)))

-- after a tour: a search that goes up stands on a row that was read
data Later (list : List ℕ) (p : Progress) : Type 0 where
  has_gone : p.cursor ≡ NONE → Later list p
  descends : p.phase ≡ 0 → Later list p
  seen : Memᴰ p.cursor list → Later list p

module _ {list : List ℕ} (words : List ℕ) (count slot : ℕ) (aim : Aim) (p : Progress) where
  cut_later : (near far : ℕ) (wide shut : Bool) → Memᴰ p.cursor list
      → Later list (pick_progress wide (onward p near 0 p.best) (pick_progress shut (onward p p.cursor 1 p.best) (onward p far 0 p.best)))
  cut_later near far true shut m = descends refl
  cut_later near far false true m = seen m
  cut_later near far false false m = descends refl

  down_later : (row : Row) → Memᴰ p.cursor list → Later list (tour_down words slot aim p row)
  down_later Bad m = seen m
  down_later (Spare next freed) m = seen m
  down_later (Removed next freed added point curve) m = seen m
  down_later (Leaf parent added point curve) m = seen m
  down_later (Cut parent cut left right) m =
      let goes = goes_left cut aim.point in
      cut_later (cond goes left right) (cond goes right left) (admits words p.cursor goes slot) (far_shut words slot aim p.best p.cursor cut goes) m

  child_later : (above far : ℕ) (near over shut : Bool) → Memᴰ p.cursor list → Memᴰ above list
      → Later list (pick_progress near (from_near p above far shut) (pick_progress over (onward p above 1 p.best) (strayed p)))
  child_later above far true over true m n = seen n
  child_later above far true over false m n = descends refl
  child_later above far false true shut m n = seen n
  child_later above far false false shut m n = seen m

  above_later : (above : ℕ) (row : Row) → Memᴰ p.cursor list → Memᴰ above list → Later list (tour_above words slot aim p above row)
  above_later above Bad m n = seen m
  above_later above (Spare next freed) m n = seen m
  above_later above (Removed next freed added point curve) m n = seen m
  above_later above (Leaf parent added point curve) m n = seen m
  above_later above (Cut parent cut left right) m n =
      let goes = goes_left cut aim.point in
      child_later above (cond goes right left) (eqb (cond goes left right) p.cursor) (eqb (cond goes right left) p.cursor) (far_shut words slot aim p.best above cut goes) m n

  up_later : (row : Row) → Memᴰ p.cursor list → Memᴰ (parent_of row) list → Later list (tour_up words count slot aim p row)
  up_later row m n = go (is_tree row) (eqb (parent_of row) NONE)
    where
      go : (b d : Bool)
          → Later list (pick_progress b (pick_progress d (onward p NONE 1 p.best) (tour_above words slot aim p (parent_of row) (row_at words count (parent_of row)))) (strayed p))
      go true true = has_gone refl
      go true false = above_later (parent_of row) (row_at words count (parent_of row)) m n
      go false d = seen m

  either_later : (b d : Bool) {x y : Progress} → Later list p → Later list x → Later list y → Later list (pick_progress b p (pick_progress d x y))
  either_later true d l x y = l
  either_later false true l x y = x
  either_later false false l x y = y

  tour_later : Known words count list p → Later list (tour words count slot aim p)
  unfolding tour
  tour_later (is_over e) = rw (eq-eqb p.cursor NONE e) (has_gone e)
  tour_later (goes_down e m) =
      rw (eq-eqb p.phase 0 e)
      (either_later (eqb p.cursor NONE) true {x = tour_down words slot aim p (row_at words count p.cursor)} {y = p} (seen m)
      (down_later (row_at words count p.cursor) m) (seen m))
  tour_later (goes_up m n) =
      let row = row_at words count p.cursor in
      either_later (eqb p.cursor NONE) (eqb p.phase 0) {x = tour_down words slot aim p row} {y = tour_up words count slot aim p row} (seen m) (down_later row m) (up_later row m n)

-- so a later tour needs one row more
later_known : {list words : List ℕ} {count : ℕ} {p : Progress} → Later list p → Memᴰ (new_row words count p) list → Known words count list p
later_known (has_gone e) m = is_over e
later_known {list} {words} {count} {p} (descends e) m = go (eqb p.phase 0) (eq-eqb p.phase 0 e) m
  where
    go : (b : Bool) → b ≡ true → Memᴰ (cond b p.cursor (parent_of (row_at words count p.cursor))) list → Known words count list p
    go true f n = goes_down e n
    go false f n = absurd (false≢true f)
later_known {list} {words} {count} {p} (seen n) m = go (eqb p.phase 0) refl m
  where
    go : (b : Bool) → eqb p.phase 0 ≡ b → Memᴰ (cond b p.cursor (parent_of (row_at words count p.cursor))) list → Known words count list p
    go true f o = goes_down (eqb-true p.phase 0 f) o
    go false f o = goes_up n o

-- ---- so many tours

none_same : (v w : List ℕ) (count slot : ℕ) (aim : Aim) (p : Progress) → toured v count slot aim 0 p ≡ toured w count slot aim 0 p
unfolding toured
none_same v w count slot aim p = refl

-- after so many of a call
abbrev after : ℕ → Aim → Progress → List ℕ → ℕ → Progress
after count aim p words n = toured words count (slot_of aim.point) aim n p

-- one tour more
module _ {v w list : List ℕ} {s : ℕ} (count : ℕ) (a : AgreeOn v w s (rows_below count list)) (aim : Aim) (p : Progress) where
  more_known : (n : ℕ) → Known v count list (after count aim p v n) → Memᴰ (new_row v count (after count aim p v (suc n))) list → Known v count list (after count aim p v (suc n))
  unfolding toured
  more_known n k m = later_known (tour_later v count (slot_of aim.point) aim (after count aim p v n) k) m

  more_same : (n : ℕ) → Known v count list (after count aim p v n) → after count aim p v n ≡ after count aim p w n → after count aim p v (suc n) ≡ after count aim p w (suc n)
  unfolding toured
  more_same n k e = tour_same count (slot_of aim.point) (slot_fits aim.point) a aim (after count aim p v n) k ∙ ap (tour w count (slot_of aim.point) aim) e

  -- the first tour, from a row in the list whose parent is there too
  none_known : Memᴰ p.cursor list → Memᴰ (parent_of (row_at v count p.cursor)) list → Known v count list (after count aim p v 0)
  unfolding toured
  none_known m n = goes_up m n

-- five tours, or a look and three
seek_same : {v w : List ℕ} {s : ℕ} (count : ℕ) (call : Call) → AgreeOn v w s (rows_below count (search_rows v count s call))
    → seek v count (aim_at v call) (progress_at v s call) ≡ seek w count (aim_at v call) (progress_at v s call)
unfolding seek
seek_same {v} {w} {s} count call a = go (eqb begun.missed NONE) refl a
  where
    aim : Aim
    aim = aim_at v call

    slot : ℕ
    slot = slot_of aim.point

    begun : Progress
    begun = progress_at v s call

    looked : Progress
    looked = look v count aim begun

    fresh : ℕ → ℕ
    fresh n = new_row v count (toured v count slot aim n looked)

    go : (b : Bool) → eqb begun.missed NONE ≡ b
        → AgreeOn v w s
        (rows_below count
        (pick_rows b (tour_rows v count looked (fresh 1 ∷ (fresh 2 ∷ (fresh 3 ∷ (fresh 4 ∷ []))))) (look_rows v count begun (tour_rows v count looked (fresh 1 ∷ (fresh 2 ∷ []))))))
        → toured v count slot aim (cond b 5 3) (look v count aim begun) ≡ toured w count slot aim (cond b 5 3) (look w count aim begun)
    go true e g =
        let k0 = none_known count g aim looked the_first the_second in
        let k1 = more_known count g aim looked 0 k0 the_third in
        let k2 = more_known count g aim looked 1 k1 the_fourth in
        let k3 = more_known count g aim looked 2 k2 the_fifth in
        let k4 = more_known count g aim looked 3 k3 the_sixth in
        let e1 = more_same count g aim looked 0 k0 (none_same v w count slot aim looked) in
        let e2 = more_same count g aim looked 1 k1 e1 in
        let e3 = more_same count g aim looked 2 k2 e2 in
        let e4 = more_same count g aim looked 3 k3 e3 in
        more_same count g aim looked 4 k4 e4 ∙ ap (toured w count slot aim 5) (look_none v count aim begun e ∙ sym (look_none w count aim begun e))
    go false e g =
        let k0 = none_known count g aim looked the_third the_fourth in
        let k1 = more_known count g aim looked 0 k0 the_fifth in
        let k2 = more_known count g aim looked 1 k1 the_sixth in
        let e1 = more_same count g aim looked 0 k0 (none_same v w count slot aim looked) in
        let e2 = more_same count g aim looked 1 k1 e1 in
        more_same count g aim looked 2 k2 e2 ∙ ap (toured w count slot aim 3) (look_same count g aim begun the_first the_second)

-- ---- what is written

module _ {v w : List ℕ} {s : ℕ} {rows : List ℕ} (a : AgreeOn v w s rows) (aim : Aim) (p : Progress) where
  kept_leaves : Leaves v w (kept_words v s p) (kept_words w s p) s rows
  unfolding kept_words
  kept_leaves = leaves_track (leaves_best (leaves_nothing a) _ _ refl) s _ _ (ap (kept_track p) (track_same a s))

  search_leaves : Leaves v w (search_words v s aim p) (search_words w s aim p) s rows
  unfolding search_words
  search_leaves = go (is_finished p)
    where
      found : Leaves v w (answered_words v s (found_answer aim p.best)) (answered_words w s (found_answer aim p.best)) s rows
      found = leaves_answered (leaves_nothing a) _ _ refl

      go : (b : Bool)
          → Leaves v w (pick_words b (answered_words v s (found_answer aim p.best)) (kept_words v s p))
          (pick_words b (answered_words w s (found_answer aim p.best)) (kept_words w s p)) s rows
      go true = found
      go false = kept_leaves

  search_to_alike : Alike v w (search_to v s aim p) (search_to w s aim p) s rows
  search_to_alike = alike_ask a p.sound p.sound 11 refl (λ sound. alike_done search_leaves)

-- ---- one step

-- from two slices that agree in the rows that the first one's search needs
pub search_alike : {v w : List ℕ} {s : ℕ} → s < stations → (count : ℕ) (call : Call) → AgreeOn v w s (rows_below count (search_rows v count s call))
    → Alike v w (search_of v count s call) (search_of w count s call) s (rows_below count (search_rows v count s call))
unfolding search_of
search_alike {v} {w} {s} h count call a =
    rw (← aim_same a call, ← progress_same a call, ← seek_same count call a) (search_to_alike a (aim_at v call) (seek v count (aim_at v call) (progress_at v s call)))
