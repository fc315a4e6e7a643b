-- What follows of a slice from its relation to a table: question 4, the words of the common record, and the places taken.
use Prim.Native.Nat.{ℕ, ◌+◌, ◌-◌, ◌*◌, ◌≤◌, ◌<◌}
use mathlib.Core.Path.{◌≡◌, sym, ap, ◌∙◌, subst}
use mathlib.Core.Logic.{inl, inr}
use mathlib.Core.Bool.{true, false≢true}
use mathlib.Core.List.{List}
use mathlib.Core.Option.{Option}
use native.Mathlib.Omega.{arith}
use lib.ListN.{length}
use native.Mathlib.Numerals.{add-one}
use Rattle.words.specs.Layout.{most_limit, stations}
use Rattle.words.specs.Words.{more}
use Rattle.stations.specs.Counts.{counts_at}
use Rattle.stations.specs.Counter.{counter_at}
use Rattle.stations.specs.Track.{track_at}
use Rattle.points.specs.Word.{NONE}
use Rattle.stations.specs.Common.{opened_in, least_since, taken_in, is_opened, rows_in, places_at, limit_at}
use Rattle.words.specs.Rule.{rule_at}
use Rattle.stations.proofs.OpeningLaws.{opened_rule, IsOpen, opened_tells}
use Rattle.stations.proofs.TakenLaws.{awaiting_is, taken_is}
use Rattle.table.specs.Call.{Call, add, remove, contains, nearest, is_search, Answer}
use Rattle.table.specs.Table.{Station, idle, unfinished, waiting, Table, put, taken, all_changes}
use Rattle.table.proofs.Sound.{Sound, removals_changes, changes_most}
use Rattle.table.proofs.Stations.{put_same, put_other, put_cases}
use Rattle.table.proofs.Taken.{SinceSays, IsLeast, taken_oldest}
use Rattle.trees.specs.Tree.{Tree, top_of}
use Rattle.trees.specs.Queue.{Free, head_of, tail_of}
use Rattle.history.specs.View.{Seat, seat_at}
use Rattle.history.specs.Related.{Idle, Busy, Waits, Says, Related}
use Rattle.history.proofs.LeastLaws.{least_words}
pub use Rattle.words.proofs.WordLaws.{more_is}
pub use Rattle.stations.proofs.OpeningLaws.{rows_in_lem}

-- what a seat of an unfinished call keeps for its since: the table's for a nearest, none for another call
busy_since : (t : Table) (tree : Option Tree) (queue : List Free) (seat : Seat) (i : ℕ) (c : Call) (o : Option Answer) → length t.removals ≤ NONE → Busy t tree queue seat i c o
    → SinceSays t.removals seat.track.since (unfinished i c o)
unfolding is_search
busy_since t tree queue seat i (add p c) o l b = (λ e. absurd (false≢true e), λ e. omega (arith, b.works.since))
busy_since t tree queue seat i (remove p) o l b = (λ e. absurd (false≢true e), λ e. omega (arith, b.works.since))
busy_since t tree queue seat i (contains p) o l b = (λ e. absurd (false≢true e), λ e. omega (arith, b.works.since))
busy_since t tree queue seat i (nearest p) o l b = (λ e. b.works.since, λ e. absurd (false≢true (sym e)))

-- the since word of a seat is the number that the table's station says
pub says_since : (t : Table) (tree : Option Tree) (queue : List Free) (seat : Seat) (x : Station) → length t.removals ≤ NONE → Says t tree queue seat x
    → SinceSays t.removals seat.track.since x
says_since t tree queue seat idle l b = omega (arith, b.quiet.since)
says_since t tree queue seat (waiting a) l b = omega (arith, b.quiet.since)
says_since t tree queue seat (unfinished i c o) l b = busy_since t tree queue seat i c o l b

module _ {words : List ℕ} {t : Table} (r : Related words t) where
  -- ---- question 4

  -- mark, places, limit and length are those of an opened slice
  pub related_is_open : IsOpen words t.places t.limit t.scale
  related_is_open = opened_tells words t.places t.limit t.scale r.opened

  -- question 4 passes
  pub related_passes : is_opened (opened_in words) ≡ true
  related_passes = ap is_opened r.opened

  -- ---- the words of the common record

  -- places and limit of the opening
  pub word_places : places_at words ≡ t.places
  word_places = related_is_open.places_word

  pub word_limit : limit_at words ≡ t.limit
  word_limit = related_is_open.limit_word

  -- the rule that rows and records are judged by is that of the opening
  pub related_rule : rule_at words ≡ t.scale.rule
  related_rule = opened_rule words t.places t.limit t.scale r.opened

  -- there are two rows for each place
  pub related_rows : rows_in words ≡ 2 * t.places
  related_rows = rows_in_lem words t.places t.limit t.scale r.opened

  -- the counts, and the root, head and tail links
  pub word_changes : (counts_at words).changes ≡ all_changes t
  word_changes = r.counted.changes

  pub word_held : (counts_at words).held ≡ length t.held
  word_held = r.counted.held ∙ r.number

  pub word_root : (counts_at words).root ≡ top_of r.tree
  word_root = r.counted.root

  pub word_head : (counts_at words).head ≡ head_of r.queue
  word_head = r.counted.head

  pub word_tail : (counts_at words).tail ≡ tail_of r.queue
  word_tail = r.counted.tail

  pub word_removals : (counts_at words).removals ≡ length t.removals
  word_removals = r.counted.removals

  -- ---- the seats

  -- the seat of an idle station
  pub related_idle : {s : ℕ} → s < stations → t.stations s ≡ idle → Idle (seat_at words s)
  related_idle {s} l e = subst (Says t r.tree r.queue (seat_at words s)) e (r.seats s l)

  -- of an unfinished call
  pub related_busy : {s i : ℕ} {c : Call} {o : Option Answer} → s < stations → t.stations s ≡ unfinished i c o → Busy t r.tree r.queue (seat_at words s) i c o
  related_busy {s} l e = subst (Says t r.tree r.queue (seat_at words s)) e (r.seats s l)

  -- and of a waiting answer
  pub related_waits : {s : ℕ} {a : Answer} → s < stations → t.stations s ≡ waiting a → Waits t.scale.rule (seat_at words s) a
  related_waits {s} l e = subst (Says t r.tree r.queue (seat_at words s)) e (r.seats s l)

  -- ---- the places taken

  -- the number of changes is never the word for none
  pub changes_word : Sound t → all_changes t ≤ stations * most_limit
  changes_word h = omega (arith, changes_most t h, related_is_open.limit_most)

  -- nor is that of removals
  pub removals_word : Sound t → length t.removals ≤ stations * most_limit
  removals_word h = omega (arith, removals_changes t h, changes_word h)

  -- one change more of station s is counted as the table counts it
  pub counters_more : Sound t → (s : ℕ) → s < stations → (u : ℕ) → u < stations
      → put (counter_at words) s (more (counter_at words s)) u ≡ put t.counters s (t.counters s + 1) u
  counters_more h s l u k = elim (put_cases t.counters s u (t.counters s + 1)) [
    | inl w ↦
        rw (w.1, w.0)
        (put_same (counter_at words) s (more (counter_at words s)) ∙ ap more (r.counters s l) ∙ more_is (t.counters s) (omega (arith, h.spent s, related_is_open.limit_most))
        ∙ sym (add-one (t.counters s)))
    | inr w ↦ rw w.1 (put_other (counter_at words) s u (more (counter_at words s)) w.0 ∙ r.counters u k)
  ]

  -- the since words say what the table's stations say
  pub related_since : Sound t → (s : ℕ) → s < stations → SinceSays t.removals (track_at words s).since (t.stations s)
  unfolding seat_at
  related_since h s l = says_since t r.tree r.queue (seat_at words s) (t.stations s) (omega (arith, removals_word h)) (r.seats s l)

  -- what is released is the least since in the table's sense
  pub related_least : IsLeast (length t.removals) (λ s. (track_at words s).since) (least_since words)
  related_least = rw word_removals at (least_words words)

  -- The number of places taken that a report gives is the table's.
  pub related_taken : Sound t → taken_in words ≡ taken t
  related_taken h =
      let e : taken t ≡ length t.held + (length t.removals - least_since words) = taken_oldest t (λ s. (track_at words s).since) (related_since h) h (least_since words) related_least in
      omega (arith, taken_is words, awaiting_is words, word_held, word_removals)
