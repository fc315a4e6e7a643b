-- What the seats say of a table's stations is kept where changes, removals and factors are the same (`says_kept`), and a slice with the same rows and
-- counts is related again to a table that differs in its stations alone (`related_written`).
use Prim.Native.Nat.{ℕ, ◌*◌, ◌≤◌, ◌<◌}
use mathlib.Core.Path.{◌≡◌, refl, sym, ap, ◌∙◌, subst}
use mathlib.Core.Logic.{inl, inr}
use mathlib.Core.Bool.{Bool, true, false}
use mathlib.Core.List.{List}
use mathlib.Core.Option.{Option}
use native.Mathlib.Omega.{arith}
use lib.Dec.{eqb}
use borrow.Author.Tests.{eqb-true, eqb-false, eq-eqb, ne_eqb}
use Rattle.stations.specs.Answer.{answer_sound}
use Rattle.points.specs.declared.scale.Scale.{Scale}
use Rattle.words.specs.Layout.{stations}
use Rattle.stations.specs.Counter.{counter_at}
use Rattle.stations.specs.Counts.{counts_at}
use Rattle.stations.specs.declared.counts.Counts.{Counts}
use Rattle.stations.specs.Track.{track_at}
use Rattle.stations.specs.Common.{least_since}
use Rattle.stations.proofs.TakenLaws.{least_removals}
use Rattle.table.specs.Call.{Call, add, remove, contains, nearest, Answer}
use Rattle.table.specs.Table.{Station, idle, unfinished, waiting, Table, put, all_changes}
use Rattle.table.proofs.Stations.{put_cases}
use Rattle.trees.specs.Tree.{Tree}
use Rattle.trees.specs.Queue.{Free}
use Rattle.trees.specs.Below.{Marks, Covered}
use Rattle.trees.proofs.Room.{store_release}
use Rattle.history.specs.View.{Seat, seat_at, seat_put, marks_in, SameRows, Written}
use Rattle.history.specs.Related.{EntriesIn, Set, Works, Says, Marking, Related}
use Rattle.history.proofs.BusyLaws.{busy_on}

-- ---- the same table but for its stations

-- two tables that differ in their stations and the number of calls alone
pub record Alike (t t' : Table) : Type 0 where
  pub places : t'.places ≡ t.places
  pub limit : t'.limit ≡ t.limit
  pub scale : t'.scale ≡ t.scale
  pub held : t'.held ≡ t.held
  pub counters : t'.counters ≡ t.counters
  pub removals : t'.removals ≡ t.removals

module _ (t t' : Table) (changes : all_changes t' ≡ all_changes t) (removals : t'.removals ≡ t.removals) (scale : t'.scale ≡ t.scale) (tree : Option Tree) (queue : List Free) (seat : Seat) where
  -- an unfinished call goes on as before
  works_kept : (i : ℕ) (c : Call) (o : Option Answer) → Works t tree queue seat i c o → Works t' tree queue seat i c o
  works_kept i (add p c) o w = w
  works_kept i (remove p) o w = w
  works_kept i (contains p) o w = w
  works_kept i (nearest p) o w = record {
    since = rw removals w.since;
    aimed = w.aimed;
    entries = w.entries;
    once = w.once;
    ranged = subst (λ (x : Scale). EntriesIn x.rule w.entries) (sym scale) w.ranged;
    search = rw (changes, removals, scale) w.search;
    answer = subst (λ (c : Scale). Set c p w.entries tree o) (sym scale) w.answer;
  }

  -- a seat says the same of another table with these changes and removals
  pub says_kept : (x : Station) → Says t tree queue seat x → Says t' tree queue seat x
  says_kept idle b = b
  says_kept (waiting a) b = record { state = b.state; sound = subst (λ (x : Scale). answer_sound x.rule seat.answer ≡ true) (sym scale) b.sound; answer = b.answer; quiet = b.quiet }
  says_kept (unfinished i c o) b = busy_on b seat.track scale (rw changes b.asof) b.phase (works_kept i c o b.works)

-- ---- one seat anew

-- the seat put, and the others
pub seat_put_same : (seats : ℕ → Seat) (s : ℕ) (x : Seat) → seat_put seats s x s ≡ x
unfolding seat_put
seat_put_same seats s x = rw (eq-eqb s s refl, seat_put)

pub seat_put_other : (seats : ℕ → Seat) (s u : ℕ) (x : Seat) → ¬ (u ≡ s) → seat_put seats s x u ≡ seats u
unfolding seat_put
seat_put_other seats s u x n = rw (ne_eqb u s n, seat_put)

-- what agrees for the seat put agrees for all
pub seat_put_agrees : {A : Type 0} (g : Seat → A) (seats : ℕ → Seat) (s : ℕ) (x : Seat) → g x ≡ g (seats s) → (u : ℕ) → g (seat_put seats s x u) ≡ g (seats u)
seat_put_agrees g seats s x e u = go (eqb u s) refl
  where
    go : (b : Bool) → eqb u s ≡ b → g (seat_put seats s x u) ≡ g (seats u)
    go true q = let d : u ≡ s = eqb-true u s q in rw d (ap g (seat_put_same seats s x) ∙ e)
    go false q = ap g (seat_put_other seats s u x (eqb-false u s q))

-- what holds of the seat put and of the others before holds of all
pub seat_put_each : (P : Seat → Type 0) (seats : ℕ → Seat) (s : ℕ) (x : Seat) → P x → (u : ℕ) → P (seats u) → P (seat_put seats s x u)
seat_put_each P seats s x h u k = go (eqb u s) refl
  where
    go : (b : Bool) → eqb u s ≡ b → P (seat_put seats s x u)
    go true q = let d : u ≡ s = eqb-true u s q in rw (d, seat_put_same seats s x) h
    go false q = rw (seat_put_other seats s u x (eqb-false u s q)) k

-- a seat and a station put anew: the others say what they said
pub says_put : (t t' : Table) → all_changes t' ≡ all_changes t → t'.removals ≡ t.removals → t'.scale ≡ t.scale → (tree : Option Tree) (queue : List Free) (seats : ℕ → Seat) (said : ℕ → Station)
    → ((u : ℕ) → u < stations → Says t tree queue (seats u) (said u)) → (s : ℕ) (x : Seat) (y : Station) → Says t' tree queue x y
    → (u : ℕ) → u < stations → Says t' tree queue (seat_put seats s x u) (put said s y u)
says_put t t' changes removals scale tree queue seats said says s x y b u l = elim (put_cases said s u y) [
  | inl w ↦
      let v : seat_put seats s x u ≡ x = rw w.0 (seat_put_same seats s x) in
      subst (Says t' tree queue (seat_put seats s x u)) (sym w.1) (subst (λ z. Says t' tree queue z y) (sym v) b)
  | inr w ↦
      let v : Says t' tree queue (seats u) (said u) = says_kept t t' changes removals scale tree queue (seats u) (said u) (says u l) in
      subst (Says t' tree queue (seat_put seats s x u)) (sym w.1) (subst (λ z. Says t' tree queue z (said u)) (sym (seat_put_other seats s u x w.0)) v)
]

-- a seat and a station put anew: the other adds have marked what they had
pub marking_put : (marks : Marks) (tree : Option Tree) (seats : ℕ → Seat) (said : ℕ → Station)
    → ((u : ℕ) → u < stations → Marking marks tree (seats u).track.cursor (said u)) → (s : ℕ) (x : Seat) (y : Station) → Marking marks tree x.track.cursor y
    → (u : ℕ) → u < stations → Marking marks tree (seat_put seats s x u).track.cursor (put said s y u)
marking_put marks tree seats said each s x y b u l = elim (put_cases said s u y) [
  | inl w ↦ let v : seat_put seats s x u ≡ x = rw w.0 (seat_put_same seats s x) in rw (w.1, v) b
  | inr w ↦ rw (w.1, seat_put_other seats s u x w.0) (each u l)
]

-- ---- what was written

module _ {words words' : List ℕ} {counts : Counts} {made : ℕ → ℕ} {seats : ℕ → Seat} (w : Written words words' counts made seats) where
  -- a word of the common record as it was written
  pub written_removals : (counts_at words').removals ≡ counts.removals
  written_removals = ap (λ (c : Counts). c.removals) w.counted

  pub written_since : (s : ℕ) → s < stations → (track_at words' s).since ≡ (seats s).track.since
  unfolding seat_at
  written_since s l = ap (λ (x : Seat). x.track.since) (w.seated s l)

-- the marks as one function
pub same_marks : {words words' : List ℕ} {rows : ℕ} → SameRows words words' rows → marks_in words' ≡ marks_in words
same_marks same = λ i. λ x side p. same.marks x side p i

-- Where the rows and the counts are as they were, the table differs in its stations alone, no removal is awaited anew, the seats say what
-- the stations say, and every add has marked its way, words and table are related again.
unfoldable pub related_written : {words words' : List ℕ} {t t' : Table} {seats : ℕ → Seat} (r : Related words t) → Written words words' (counts_at words) (counter_at words) seats → SameRows words words' (2 * t.places)
    → Alike t t' → least_since words ≤ least_since words' → ((s : ℕ) → s < stations → Says t' r.tree r.queue (seats s) (t'.stations s))
    → ((s : ℕ) → s < stations → Marking (marks_in words) r.tree (seats s).track.cursor (t'.stations s)) → Related words' t'
related_written {words} {words'} {t} {t'} {seats} r w rows a le says marking = record {
  opened = rw (a.places, a.limit, a.scale) (w.opened ∙ r.opened);
  heap = r.heap;
  tree = r.tree;
  queue = r.queue;
  reads = rw a.places (λ i l. rows.row i l ∙ r.reads i l);
  store = rw (a.places, a.counters, a.removals) (store_release le (omega (arith, least_removals words', written_removals w, r.counted.removals)) r.store);
  counted = rw w.counted (record {
    changes = rw a.counters r.counted.changes;
    held = r.counted.held;
    root = r.counted.root;
    head = r.counted.head;
    tail = r.counted.tail;
    removals = rw a.removals r.counted.removals;
  });
  counters = λ s l. w.counters s ∙ rw a.counters (r.counters s l);
  records = rw a.held r.records;
  number = rw a.held r.number;
  seats = λ s l. subst (λ x. Says t' r.tree r.queue x (t'.stations s)) (sym (w.seated s l)) (says s l);
  covered = subst (λ m. Covered m r.tree) (sym (same_marks rows)) r.covered;
  marking = λ s l. subst (λ m. Marking m r.tree (seat_at words' s).track.cursor (t'.stations s)) (sym (same_marks rows)) (rw (w.seated s l) (marking s l));
}
