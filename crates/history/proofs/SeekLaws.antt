-- The work of one step of a nearest call over words: no row is refused and the invariant of the search is kept (`seek_keeps`); where the search goes on,
-- five fewer are left (`seek_five`).
use Prim.Native.Nat.{ℕ, zero, suc, ◌+◌, ◌*◌, ◌≤◌, ◌<◌}
use mathlib.Core.Path.{◌≡◌, refl, sym, ap, ◌∙◌, subst}
use mathlib.Core.Logic.{◌≢◌, ◌⊎◌, inl, inr}
use mathlib.Core.Bool.{true, false, true≢false}
use mathlib.Core.List.{List, [], ◌∷◌}
use mathlib.Core.Option.{Option, some}
use native.Mathlib.Omega.{arith}
use native.Mathlib.Decide.{ℕ_discrete}
use borrow.Author.Tests.{eq-eqb, eqb-true}
use Rattle.points.specs.Word.{NONE}
use Rattle.points.proofs.ChoiceLaws.{grade_turn}
use Rattle.points.proofs.Tests.{and_i, and_l}
use Rattle.calls.specs.declared.aim.Aim.{Aim}
use Rattle.rows.specs.Grades.{slot_of, admits}
use Rattle.rows.proofs.GradeLaws.{slot_grade}
use Rattle.trees.specs.Row.{Entry, Heap}
use Rattle.trees.specs.Tree.{Tree}
use Rattle.trees.specs.Queue.{Free, Removal}
use Rattle.trees.specs.Store.{Store}
use Rattle.trees.specs.Stand.{Standing}
use Rattle.trees.specs.Tour.{Progress, look, tour}
use Rattle.trees.specs.Search.{Missing, Search}
use Rattle.trees.specs.Below.{Closed, Covered}
use Rattle.trees.specs.Measure.{search_left, step_moves}
use Rattle.trees.proofs.ChoiceOf.{choice_of}
use Rattle.trees.proofs.MarkLaws.{closed_covered}
use Rattle.trees.proofs.MissingLaws.{missing_in}
use Rattle.trees.proofs.SearchMoves.{search_look, search_tour}
use Rattle.calls.specs.declared.progress.Progress.{Progress as WordProgress}
use Rattle.calls.specs.Search.{tours_of, seek as seek_word, is_finished}
use Rattle.calls.specs.Tour.{tour as tour_word, toured as toured_word}
use Rattle.calls.specs.Look.{look as look_word}
use Rattle.words.specs.Rule.{rule_at}
use Rattle.history.specs.View.{Reads, marks_in, opens_in}
use Rattle.history.proofs.ProgressWords.{view_of, Fit, Shows, Keeps}
use Rattle.history.proofs.LookWords.{look_words}
use Rattle.history.proofs.TourWords.{tour_words}
use lib.Dec.{eqb}

-- a search over words that no row refused, with the invariant of the search over rows that it is, and at most so many moves left
pub record Seeks (rule : ℕ) (aim : Aim) (since : ℕ) (Then : Entry → Type 0) (t : Option Tree) (q : List Free) (changes removals : ℕ) (p : WordProgress) (most : ℕ) : Type 0 where
  pub fit : Fit rule p
  pub search : Search (choice_of aim.scale aim.point) aim.asof since Then t q changes removals (view_of p)
  pub left : search_left search ≤ most

-- what a move over rows comes to, and the move over words that shows it
shown : {rule : ℕ} {aim : Aim} {since : ℕ} {Then : Entry → Type 0} {t : Option Tree} {q : List Free} {changes removals most : ℕ} (p : WordProgress) (out : Option Progress) (to : Progress)
    → Keeps rule p out → out ≡ some to → (v : Search (choice_of aim.scale aim.point) aim.asof since Then t q changes removals to) → search_left v ≤ most
    → Seeks rule aim since Then t q changes removals p most
shown {rule} {aim} {since} {Then} {t} {q} {changes} {removals} {most} p out to k e v l =
    let w : Shows rule p to = k to e in
    let z = subst (λ (x : Progress). (u : Search (choice_of aim.scale aim.point) aim.asof since Then t q changes removals x) × (search_left u ≤ most)) (sym w.is) (v, l) in
    record { fit = w.fit; search = z.0; left = z.1 }

-- where the cursor is none a tour changes nothing
tours_stay : (words : List ℕ) (rows slot : ℕ) (aim : Aim) (n : ℕ) (p : WordProgress) → p.cursor ≡ NONE → toured_word words rows slot aim n p ≡ p
unfolding toured_word tour_word
tours_stay words rows slot aim zero p e = refl
tours_stay words rows slot aim (suc n) p e = rw (tours_stay words rows slot aim n p e, eq-eqb p.cursor NONE e)

module _ {places : ℕ} {h : Heap} {t : Option Tree} {q : List Free} {changes removals released : ℕ} (st : Store places h t q changes removals released) where
  -- the cursor is none or a row
  standing_row : (x : ℕ) → Standing t x → (x ≡ NONE) ⊎ (x < 2 * places)
  standing_row x v = elim v [ inl e ↦ inl e | inr m ↦ inr (st.inside x m) ]

  -- so is the missed row
  missing_row : {since missed : ℕ} (rs : List Removal) → Missing q removals since missed rs → (missed ≡ NONE) ⊎ (missed < 2 * places)
  missing_row [] v = inl v.first
  missing_row (r ∷ rs) v = inr (rw v.first (st.free r.row (missing_in v)))

  module _ (words : List ℕ) (reads : Reads words (2 * places) h) (covered : Covered (marks_in words) t) (aim : Aim) (since : ℕ)
      (Then : Entry → Type 0) where
    abbrev Here : WordProgress → ℕ → Type 0
    Here p most = Seeks (rule_at words) aim since Then t q changes removals p most

    -- what is left is less than `most` by so many
    abbrev Fewer : ℕ → ℕ → WordProgress → Type 0
    Fewer by most p = (m : ℕ) × (by + m ≤ most) × Here p m

    -- a look leaves no more, and less where a row was missed
    look_shows : (p : WordProgress) (most : ℕ) → Fit (rule_at words) p → (v : Search (choice_of aim.scale aim.point) aim.asof since Then t q changes removals (view_of p))
        → search_left (search_look st (view_of p) v).search ≤ most → Here (look_word words (2 * places) aim p) most
    look_shows p most f v l =
        let a = search_look st (view_of p) v in
        shown (look_word words (2 * places) aim p) (look (choice_of aim.scale aim.point) aim.asof h (view_of p)) a.to
        (look_words words (2 * places) h reads st.fits aim p f (missing_row v.rest v.missing)) a.is a.search l

    look_seeks : (p : WordProgress) (most : ℕ) → Here p most → Here (look_word words (2 * places) aim p) most
    look_seeks p most g = look_shows p most g.fit g.search (omega (arith, (search_look st (view_of p) g.search).fewer, g.left))

    look_less : (p : WordProgress) (most : ℕ) → p.missed ≢ NONE → Here p most → Fewer step_moves most (look_word words (2 * places) aim p)
    look_less p most n g =
        let a = search_look st (view_of p) g.search in
        (search_left a.search, omega (arith, a.less n, g.left), look_shows p (search_left a.search) g.fit g.search (omega arith))

    -- a side that does not admit the slot holds no candidate
    abbrev slot : ℕ
    slot = slot_of aim.point

    closed : Closed (opens_in words slot) (choice_of aim.scale aim.point) t
    closed = closed_covered (marks_in words) (choice_of aim.scale aim.point) aim.point t (λ x side p e. ap (admits words x side) (slot_grade p aim.point (grade_turn aim.point p e))) covered

    abbrev toured : ℕ → WordProgress → WordProgress
    toured n p = toured_word words (2 * places) slot aim n p

    -- a tour likewise, less where the cursor is a row
    tour_shows : (p : WordProgress) (most : ℕ) → Fit (rule_at words) p → (v : Search (choice_of aim.scale aim.point) aim.asof since Then t q changes removals (view_of p))
        → search_left (search_tour t st (opens_in words slot) closed (view_of p) v).goes.search ≤ most → Here (tour_word words (2 * places) slot aim p) most
    tour_shows p most f v l =
        let a = (search_tour t st (opens_in words slot) closed (view_of p) v).goes in
        shown (tour_word words (2 * places) slot aim p) (tour (choice_of aim.scale aim.point) (opens_in words slot) aim.asof h (view_of p)) a.to
        (tour_words words (2 * places) h reads aim slot p f (standing_row p.cursor v.stands)) a.is a.search l

    tour_seeks : (p : WordProgress) (most : ℕ) → Here p most → Here (tour_word words (2 * places) slot aim p) most
    tour_seeks p most g = tour_shows p most g.fit g.search (omega (arith, (search_tour t st (opens_in words slot) closed (view_of p) g.search).goes.fewer, g.left))

    tour_less : (p : WordProgress) (most : ℕ) → p.cursor ≢ NONE → Here p most → Fewer 1 most (tour_word words (2 * places) slot aim p)
    tour_less p most n g =
        let a = (search_tour t st (opens_in words slot) closed (view_of p) g.search).goes in
        (search_left a.search, omega (arith, a.less n, g.left), tour_shows p (search_left a.search) g.fit g.search (omega arith))

    -- and what was missed stays
    tour_missed : (p : WordProgress) (most : ℕ) → Here p most → (tour_word words (2 * places) slot aim p).missed ≡ p.missed
    tour_missed p most g =
        let a = search_tour t st (opens_in words slot) closed (view_of p) g.search in
        let w = tour_words words (2 * places) h reads aim slot p g.fit (standing_row p.cursor g.search.stands) a.goes.to a.goes.is in
        ap (λ (x : Progress). x.missed) w.is ∙ a.missed

    -- where nothing is missed a look changes nothing
    look_none : (p : WordProgress) → p.missed ≡ NONE → look_word words (2 * places) aim p ≡ p
    unfolding look_word
    look_none p e = rw (eq-eqb p.missed NONE e)

    -- ---- so many tours

    -- no more is left
    tours_seek : (n : ℕ) (p : WordProgress) (most : ℕ) → Here p most → Here (toured n p) most
    unfolding toured_word
    tours_seek zero p most g = g
    tours_seek (suc n) p most g = tour_seeks (toured n p) most (tours_seek n p most g)

    -- what was missed stays
    tours_missed : (n : ℕ) (p : WordProgress) (most : ℕ) → Here p most → (toured n p).missed ≡ p.missed
    unfolding toured_word
    tours_missed zero p most g = refl
    tours_missed (suc n) p most g = tour_missed (toured n p) most (tours_seek n p most g) ∙ tours_missed n p most g

    -- where nothing is missed as many fewer are left as there are tours, or the search has come to its end
    tours_less : (n : ℕ) (p : WordProgress) (most : ℕ) → p.missed ≡ NONE → Here p most → Fewer n most (toured n p) ⊎ (is_finished (toured n p) ≡ true)
    unfolding toured_word
    tours_less zero p most e g = inl (most, omega arith, g)
    tours_less (suc n) p most e g = go (tours_less n p most e g) (ℕ_discrete done.cursor NONE)
      where
        done : WordProgress
        done = toured n p

        go : Fewer n most done ⊎ (is_finished done ≡ true) → Dec (done.cursor ≡ NONE)
            → Fewer (suc n) most (tour_word words (2 * places) slot aim done) ⊎ (is_finished (tour_word words (2 * places) slot aim done) ≡ true)
        go x (yes c) =
            let ended : is_finished done ≡ true = and_i (eq-eqb done.cursor NONE c) (eq-eqb done.missed NONE (tours_missed n p most g ∙ e)) in
            inr (ap is_finished (tours_stay words (2 * places) slot aim 1 done c) ∙ ended)
        go (inl x) (no d) = let y = tour_less done x.0 d x.2 in inl (y.0, omega (arith, y.1, x.1), y.2)
        go (inr f) (no d) = absurd (d (eqb-true done.cursor NONE (and_l (eqb done.cursor NONE) (eqb done.missed NONE) f)))

    -- ---- the step

    -- five tours, or a look and three: five fewer are left, unless the search has come to its end
    pub seek_five : (p : WordProgress) (most : ℕ) → is_finished (seek_word words (2 * places) aim p) ≡ false → Here p most → Fewer step_moves most (seek_word words (2 * places) aim p)
    unfolding seek_word
    seek_five p most e g = go (ℕ_discrete p.missed NONE)
      where
        go : Dec (p.missed ≡ NONE) → Fewer step_moves most (toured (tours_of p.missed) (look_word words (2 * places) aim p))
        go (no n) = let x = look_less p most n g in (x.0, x.1, tours_seek (tours_of p.missed) (look_word words (2 * places) aim p) x.0 x.2)
        go (yes m) =
            let five : tours_of p.missed ≡ 5 = rw (eq-eqb p.missed NONE m) in
            let on : is_finished (toured 5 p) ≡ false = rw (look_none p m, five) at e in
            rw (look_none p m, five) (elim (tours_less 5 p most m g) [ inl x ↦ x | inr f ↦ absurd (true≢false (sym f ∙ on)) ])

    -- of any search no more is left
    pub seek_keeps : (p : WordProgress) (most : ℕ) → Here p most → Here (seek_word words (2 * places) aim p) most
    unfolding seek_word
    seek_keeps p most g = tours_seek (tours_of p.missed) (look_word words (2 * places) aim p) most (look_seeks p most g)
