-- What is left to a station as a function of tree, queue and seat (`moves_left`), and to all eight together (`potential`), of which there is never more
-- than `all_moves`, 40 × places (`potential_most`). It counts every side of a cut as open and none as excluded.
use Prim.Native.Nat.{ℕ, zero, suc, ◌+◌, ◌*◌, ◌≤◌, ◌<◌}
use mathlib.Core.Path.{◌≡◌, refl, sym, subst, ◌∙◌}
use mathlib.Core.Logic.{◌≢◌, ◌↔◌}
use mathlib.Core.Bool.{Bool, true, false, cond}
use mathlib.Core.List.{List}
use mathlib.Core.Option.{Option}
use native.Mathlib.Omega.{arith}
use native.Mathlib.Decide.{ℕ_discrete}
use lib.Dec.{eqb}
use borrow.Author.Tests.{eq-eqb, ne_eqb}
use Rattle.words.specs.Layout.{stations}
use Rattle.points.specs.declared.point.Point.{Point}
use Rattle.table.specs.Call.{Call, add, remove, contains, nearest, Answer}
use Rattle.table.specs.Table.{Station, idle, unfinished, waiting, Table}
use Rattle.table.proofs.Sound.{Sound}
use Rattle.trees.specs.Tree.{Tree}
use Rattle.trees.specs.Queue.{Free}
use Rattle.trees.specs.Measure.{search_left, step_moves}
use Rattle.trees.proofs.MeasureLaws.{left_is}
use Rattle.history.specs.View.{Seat, seat_at}
use Rattle.history.specs.Related.{Searching, Busy, Related}
use Rattle.history.proofs.Outcome.{walk_moves, LeftSays, left_at, left_target}
use Rattle.history.proofs.RelatedLaws.{related_idle, related_busy, related_waits}
use Rattle.history.proofs.StepOutcome.{left_most}

-- ---- one station

-- the call at a seat is a search, or a walk
abbrev moves_at : Bool → Option Tree → List Free → Seat → ℕ
moves_at true tree queue seat = left_at tree queue seat
moves_at false tree queue seat = walk_moves tree seat

-- what is left to an unfinished call; as much as any call can need where there is none
unfoldable pub moves_left : ℕ → Option Tree → List Free → Seat → ℕ
moves_left places tree queue seat = cond (eqb seat.state 1) (moves_at (eqb seat.call.kind 4) tree queue seat) (step_moves * places)

module _ {words : List ℕ} {t : Table} (r : Related words t) (s : ℕ) (l : s < stations) where
  abbrev seat : Seat
  seat = seat_at words s

  abbrev here : ℕ
  here = moves_left t.places r.tree r.queue seat

  walk_here : seat.state ≡ 1 → seat.call.kind ≢ 4 → here ≡ walk_moves r.tree seat
  unfolding moves_left
  walk_here e n = rw (eq-eqb seat.state 1 e, ne_eqb seat.call.kind 4 n)

  -- what is left to a search is what the trees say
  module _ {i : ℕ} {p : Point} {o : Option Answer} (b : Busy t r.tree r.queue seat i (nearest p) o) (v : Searching t r.tree r.queue seat i p o) where
    pub left_here : left_at r.tree r.queue seat ≡ search_left v.search
    left_here = left_target r.tree r.queue seat p b.point ∙ left_is r.tree r.store v.search

    search_here : here ≡ search_left v.search
    unfolding moves_left
    search_here = rw (eq-eqb seat.state 1 b.state, eq-eqb seat.call.kind 4 b.kind) left_here

  -- a seat without an unfinished call
  pub rest_here : seat.state ≢ 1 → here ≡ step_moves * t.places
  unfolding moves_left
  rest_here n = rw (ne_eqb seat.state 1 n)

  -- it is what `Left` says of an unfinished call
  walk_same : seat.state ≡ 1 → seat.call.kind ≢ 4 → (n : ℕ) → (here ≤ n) ↔ (walk_moves r.tree seat ≤ n)
  walk_same e k n = (λ f. omega (arith, f, walk_here e k), λ f. omega (arith, f, walk_here e k))

  pub left_same : {i : ℕ} (c : Call) {o : Option Answer} → t.stations s ≡ unfinished i c o → (n : ℕ) → (here ≤ n) ↔ LeftSays t r.tree r.queue seat (unfinished i c o) n
  left_same (add p d) q n = let b = related_busy r l q in walk_same b.state (λ e. let z = b.kind in omega arith) n
  left_same (remove p) q n = let b = related_busy r l q in walk_same b.state (λ e. let z = b.kind in omega arith) n
  left_same (contains p) q n = let b = related_busy r l q in walk_same b.state (λ e. let z = b.kind in omega arith) n
  left_same (nearest p) q n = let b = related_busy r l q in (λ f. (b.works, omega (arith, f, search_here b b.works)), λ f. omega (arith, f.1, search_here b f.0))

  -- never more than a step takes for each place
  pub most_here : Sound t → here ≤ step_moves * t.places
  most_here h = go (t.stations s) refl
    where
      go : (x : Station) → t.stations s ≡ x → here ≤ step_moves * t.places
      go idle e = omega (arith, rest_here (λ z. let y = (related_idle r l e).state in omega arith))
      go (waiting a) e = omega (arith, rest_here (λ z. let y = (related_waits r l e).state in omega arith))
      go (unfinished i c o) e = (left_same c e (step_moves * t.places)).1 (left_most s i c o h l e r)

-- ---- all eight

unfoldable pub sum_to : ℕ → (ℕ → ℕ) → ℕ
sum_to zero f = 0
sum_to (suc n) f = sum_to n f + f n

pub sum_le : (n : ℕ) (f g : ℕ → ℕ) → ((u : ℕ) → u < n → g u ≤ f u) → sum_to n g ≤ sum_to n f
unfolding sum_to
sum_le zero f g h = omega arith
sum_le (suc n) f g h = omega (arith, sum_le n f g (λ u l. h u (omega arith)), h n (omega arith))

-- what one of them is less by, the sum is less by
pub sum_less : (n s by : ℕ) (f g : ℕ → ℕ) → s < n → ((u : ℕ) → u < n → g u ≤ f u) → by + g s ≤ f s → by + sum_to n g ≤ sum_to n f
unfolding sum_to
sum_less zero s by f g l h k = absurd (omega arith)
sum_less (suc n) s by f g l h k = go (λ m. sum_less n s by f g m (λ u m. h u (omega arith)) k) (ℕ_discrete s n)
  where
    go : (s < n → by + sum_to n g ≤ sum_to n f) → Dec (s ≡ n) → by + (sum_to n g + g n) ≤ sum_to n f + f n
    go ih (yes e) = let j : by + g n ≤ f n = subst (λ (x : ℕ). by + g x ≤ f x) e k in omega (arith, sum_le n f g (λ u m. h u (omega arith)))
    go ih (no d) = omega (arith, ih (omega arith), h n (omega arith))

pub sum_most : (n m : ℕ) (f : ℕ → ℕ) → ((u : ℕ) → u < n → f u ≤ m) → sum_to n f ≤ n * m
unfolding sum_to
sum_most zero m f h = omega arith
sum_most (suc n) m f h = omega (arith, sum_most n m f (λ u l. h u (omega arith)), h n (omega arith))

unfoldable pub potential : {words : List ℕ} {t : Table} → Related words t → ℕ
unfolding sum_to
potential {words} {t} r = sum_to 8 (λ u. moves_left t.places r.tree r.queue (seat_at words u))

-- never more than that of all eight
abbrev pub all_moves : ℕ → ℕ
all_moves places = 8 * (step_moves * places)

pub potential_most : {words : List ℕ} {t : Table} (r : Related words t) → Sound t → potential r ≤ all_moves t.places
unfolding potential
potential_most {words} {t} r h = omega (arith, sum_most 8 (step_moves * t.places) (λ u. moves_left t.places r.tree r.queue (seat_at words u)) (λ u l. most_here r u l h))

-- what is left over one tree and one queue, before an event and next
module _ {v w : List ℕ} {t u : Table} (a : Related v t) (b : Related w u) (places : u.places ≡ t.places) (tree : b.tree ≡ a.tree) (queue : b.queue ≡ a.queue) where
  abbrev before : ℕ → ℕ
  before x = moves_left t.places a.tree a.queue (seat_at v x)

  abbrev next : ℕ → ℕ
  next x = moves_left u.places b.tree b.queue (seat_at w x)

  -- to a seat that stays as it was as much is left
  pub seat_kept : (x : ℕ) → seat_at w x ≡ seat_at v x → next x ≡ before x
  seat_kept x e = rw (places, tree, queue, e) refl

  -- where the other seats stay, all together have less by what one station has less
  pub potential_less : (s by : ℕ) → s < stations → ((x : ℕ) → x < stations → x ≢ s → seat_at w x ≡ seat_at v x) → by + next s ≤ before s → by + potential b ≤ potential a
  unfolding potential
  potential_less s by l others own = sum_less 8 s by before next l (λ x k. each x k (ℕ_discrete x s)) own
    where
      each : (x : ℕ) → x < stations → Dec (x ≡ s) → next x ≤ before x
      each x k (yes e) = subst (λ (y : ℕ). next y ≤ before y) (sym e) (omega (arith, own))
      each x k (no d) = omega (arith, seat_kept x (others x k d))

  -- where every seat stays, as much is left
  pub potential_kept : ((x : ℕ) → x < stations → seat_at w x ≡ seat_at v x) → potential b ≤ potential a
  unfolding potential
  potential_kept same = sum_le 8 before next (λ x l. omega (arith, seat_kept x (same x l)))
