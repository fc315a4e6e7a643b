-- What a search over words keeps, seen as what a search over rows keeps: when a move over words is what the move over rows comes to
-- (`Keeps`), and that a record is considered alike (`considered_words`).
use Prim.Native.Nat.{ℕ, ◌≤◌}
use mathlib.Core.Path.{◌≡◌, refl, ◌∙◌}
use mathlib.Core.Logic.{◌≢◌}
use mathlib.Core.Bool.{Bool, true, false, ◌&&◌, and_assoc}
use mathlib.Core.Option.{Option, none, some, some-injective, none-ne-some}
use lib.Dec.{eqb, leb}
use borrow.Author.Tests.{ne_eqb}
use Rattle.points.specs.declared.point.Point.{Point}
use Rattle.points.specs.Number.{in_range_by}
use Rattle.points.specs.Choice.{same_grade}
use Rattle.stations.specs.declared.call.Best.{Best as WordBest}
use Rattle.calls.specs.declared.aim.Aim.{Aim}
use Rattle.trees.specs.Row.{Entry}
use Rattle.trees.specs.Choice.{best_square}
use Rattle.trees.specs.Tour.{Best, point_of, Progress, better, pick_best, considered, pick_progress, go_to}
use Rattle.trees.proofs.ChoiceOf.{choice_of}
use Rattle.calls.specs.declared.progress.Progress.{Progress as WordProgress}
use Rattle.calls.specs.Tour.{best_square as best_word_square}
use Rattle.calls.specs.Progress.{pick_best as pick_word_best, pick_progress as pick_word_progress, better as better_word, considered as considered_word, onward}
use Rattle.history.specs.View.{phase_of, best_of}

-- the progress over rows that one over words is
abbrev pub view_of : WordProgress → Progress
view_of p = record { stand = record { cursor = p.cursor; phase = phase_of p.phase }; missed = p.missed; best = best_of p.best }

-- no row was refused, and the phase and the best's point are in range under the rule
pub record Fit (rule : ℕ) (p : WordProgress) : Type 0 where
  pub sound : p.sound ≡ true
  pub phase : p.phase ≤ 1
  pub best : in_range_by rule p.best.point ≡ true

-- it is the progress q
pub record Shows (rule : ℕ) (p : WordProgress) (q : Progress) : Type 0 where
  pub fit : Fit rule p
  pub is : view_of p ≡ q

-- it is what a move over rows comes to, where that is not refused
abbrev pub Keeps : ℕ → WordProgress → Option Progress → Type 0
Keeps rule p out = (q : Progress) → out ≡ some q → Shows rule p q

pub keeps_some : (rule : ℕ) (p : WordProgress) (q : Progress) → Fit rule p → view_of p ≡ q → Keeps rule p (some q)
keeps_some rule p q f e to g = record { fit = f; is = e ∙ some-injective q to g }

pub keeps_none : (rule : ℕ) (p : WordProgress) → Keeps rule p none
keeps_none rule p to g = absurd (none-ne-some to g)

-- one of two, by one test
pub keeps_pick : (rule : ℕ) (b : Bool) (x y : WordProgress) (u v : Option Progress) → (b ≡ true → Keeps rule x u) → (b ≡ false → Keeps rule y v)
    → Keeps rule (pick_word_progress b x y) (pick_progress b u v)
keeps_pick rule true x y u v f g = f refl
keeps_pick rule false x y u v f g = g refl

-- the search goes on at a row in a phase
pub keeps_onward : (rule : ℕ) (p : WordProgress) (x n : ℕ) (best : WordBest) (b : Option Best) → Fit rule p → n ≤ 1 → in_range_by rule best.point ≡ true → best_of best ≡ b
    → Keeps rule (onward p x n best) (go_to x (phase_of n) p.missed b)
keeps_onward rule p x n best b f l r e =
    keeps_some rule (onward p x n best) (record { stand = record { cursor = x; phase = phase_of n }; missed = p.missed; best = b })
    (record { sound = f.sound; phase = l; best = r })
    (λ i. record { stand = record { cursor = x; phase = phase_of n }; missed = p.missed; best = e i })

-- ---- the best

best_pick : (b : Bool) (x y : WordBest) → best_of (pick_word_best b x y) ≡ pick_best b (best_of x) (best_of y)
best_pick true x y = refl
best_pick false x y = refl

best_some : (p : Point) (c : ℕ) → c ≢ 0 → best_of (record { curve = c; point = p }) ≡ some (record { point = p; curve = c })
best_some p c n = rw (ne_eqb c 0 n, best_of)

better_words : (aim : Aim) (best : WordBest) (p : Point) → better_word aim best p ≡ better (choice_of aim.scale aim.point) (point_of (best_of best)) p
better_words aim best p = go (eqb best.curve 0) refl
  where
    go : (b : Bool) → eqb best.curve 0 ≡ b → better_word aim best p ≡ better (choice_of aim.scale aim.point) (point_of (best_of best)) p
    go true e = rw (e, best_of)
    go false e = rw (e, best_of)

-- the square that a far side must not exceed
pub square_words : (aim : Aim) (best : WordBest) → best_word_square aim best ≡ best_square aim.scale aim.point (point_of (best_of best))
square_words aim best = go (eqb best.curve 0) refl
  where
    go : (b : Bool) → eqb best.curve 0 ≡ b → best_word_square aim best ≡ best_square aim.scale aim.point (point_of (best_of best))
    go true e = rw (e, best_of)
    go false e = rw (e, best_of)

-- a record with a curve is considered alike
pub considered_words : (aim : Aim) (best : WordBest) (e : Entry) → e.curve ≢ 0
    → best_of (considered_word aim best e.added e.point e.curve) ≡ considered (choice_of aim.scale aim.point) aim.asof (best_of best) e
unfolding considered_word considered
considered_words aim best e n =
    best_pick ((leb e.added aim.asof && same_grade aim.point e.point) && better_word aim best e.point)
    (record { curve = e.curve; point = e.point }) best
    ∙ rw (
      best_some e.point e.curve n,
      better_words aim best e.point,
      and_assoc (leb e.added aim.asof) (same_grade aim.point e.point) (better (choice_of aim.scale aim.point) (point_of (best_of best)) e.point),
    )

-- and leaves a best in range
pub considered_ranged : (rule : ℕ) (aim : Aim) (best : WordBest) (e : Entry) → in_range_by rule best.point ≡ true → in_range_by rule e.point ≡ true
    → in_range_by rule (considered_word aim best e.added e.point e.curve).point ≡ true
unfolding considered_word
considered_ranged rule aim best e f g = go ((leb e.added aim.asof && same_grade aim.point e.point) && better_word aim best e.point)
  where
    go : (b : Bool) → in_range_by rule (pick_word_best b (record { curve = e.curve; point = e.point }) best).point ≡ true
    go true = g
    go false = f
