-- Demand 3, about whole histories: `demand_3` and `solo`. What an event may touch is in Touch.antt.
-- Demand 3: "A history is any list of submissions, single steps and takings, refused ones included, each for any station number, in any order, from a fresh opening, each
-- getting the index as the last one left it, and nobody else writing it." Withdrawals are events of a history too (Rules 4.1). An `Event` is one of these four,
-- with any numbers; `after evs words` are the words after the events.
use Prim.Native.Nat.{ℕ, suc, ◌+◌, ◌*◌, ◌≤◌, ◌<◌}
use mathlib.Core.Path.{◌≡◌}
use mathlib.Core.Logic.{◌↔◌}
use mathlib.Core.Bool.{Bool, true, false, ◌&&◌}
use mathlib.Core.List.{List, [], ◌∷◌, ◌++◌, map}
use mathlib.Core.Option.{Option, none, some, IsSome}
use lib.Dec.{eqb}
use Rattle.claims.specs.Definitions.{Scale, Point, is_unfinished, state_at, Same, Once, Call, Answer, Table, unfinished, opened, taken, Event, submission, single_step, taking, withdrawal, number_told, places_told}
use Rattle.claims.specs.Definitions.{Reply, take, feed, CanChange, reply, answered, open_of, submit_of, step_of, take_of, withdraw_of, report_of, held_in}
use Rattle.claims.specs.Definitions.{record_of, given_by, word_index, after, stepped}
use Rattle.history.proofs.Demand3.{demand_3 as demand_3_follows}
use Rattle.history.proofs.Solo.{solo_steps}
use Rattle.table.specs.History.{Agree, Follows}
use Rattle.claims.proofs.Unrolled.{moments_at, table_at, table_first, agree_at, FedAt, fed_at, end_at}
use Rattle.claims.proofs.Effects.{effect_told}
use Rattle.claims.proofs.Stepping.{steps_accepted, steps_unanswered, steps_answered}

-- ---- every history agrees with the plain table

-- the words say what the plain table says
pub record Agrees (words : List ℕ) (t : Table) : Type 0 where
  -- the records on the leaves linked from the root are the table's, each once (Rules 4.15)
  pub records : Same (map record_of (held_in words)) t.held
  pub once : Once (map record_of (held_in words))
  -- and so is the number of places taken that a report gives (Rules 3.6)
  pub places : places_told (report_of words) ≡ taken t
  -- a taking by any station would be refused with the same number, or accepted; "What that taking would give is the answer waiting" (Rules 4.8)
  pub accepted : (s : ℕ) → number_told (take_of words s) ≡ (take t s).number
  pub waiting : (s : ℕ) → given_by (take_of words s) ≡ (take t s).given

-- the number of an event's refusal on these words, or 0; and the answer that it takes
abbrev pub number_at : List ℕ → Event → ℕ
number_at words (submission s kind p c) = (submit_of words s kind p c).number
number_at words (single_step s) = (step_of words s).number
number_at words (taking s) = number_told (take_of words s)
number_at words (withdrawal s) = (withdraw_of words s).number

abbrev pub given_at : List ℕ → Event → Option Answer
given_at words (submission s kind p c) = none
given_at words (single_step s) = none
given_at words (taking s) = given_by (take_of words s)
given_at words (withdrawal s) = none

-- "A step that is not refused has answered if a taking by its station would be accepted next" (Rules 4.8)
abbrev pub answers_at : List ℕ → Event → Bool
answers_at words (submission s kind p c) = false
answers_at words (single_step s) = eqb (step_of words s).number 0 && eqb (number_told (take_of (step_of words s).words s)) 0
answers_at words (taking s) = false
answers_at words (withdrawal s) = false

-- an event on these words: the table, fed the moments in their order, the event, and whether it answered, is defined, and `next` is what it leaves; the refusal and
-- the answer taken are the table's
pub record Fed (words : List ℕ) (t : Table) (moments : List ℕ) (ev : Event) (next : Table) : Type 0 where
  pub fed : Reply Table
  pub defined : feed t moments ev (answers_at words ev) ≡ some fed
  pub leaves : fed.next ≡ next
  pub number : number_at words ev ≡ fed.number
  pub given : given_at words ev ≡ fed.given

-- the unfinished call of station s has taken effect: at a step of s the held records changed, and since then no submission of s was accepted
pub record TookEffect (start : List ℕ) (evs : List Event) (s : ℕ) : Type 0 where
  pub before : List Event
  pub rest : List Event
  pub splits : before ++ (single_step s ∷ rest) ≡ evs
  pub changed : ¬ Same (map record_of (held_in (after before start))) (map record_of (held_in (step_of (after before start) s).words))
  pub since : (between : List Event) (kind : ℕ) (p : Point) (c : ℕ) (later : List Event) → between ++ (submission s kind p c ∷ later) ≡ rest
      → ¬ ((submit_of (after between (step_of (after before start) s).words) s kind p c).number ≡ 0)

-- there are moments such that the plain table says the same throughout
pub record Moments (start : List ℕ) (places limit : ℕ) (scale : Scale) (evs : List Event) : Type 0 where
  -- at the event that comes after the events `before` the calls of these stations have their moment, in this order
  pub moments : List Event → List ℕ
  -- the plain table after the events `before`; "At first nothing is held or counted, and all stations are idle" (Rules 4.6)
  pub table : List Event → Table
  pub first : table [] ≡ opened places limit scale
  -- before the first event and after each
  pub agrees : (before rest : List Event) → before ++ rest ≡ evs → Agrees (after before start) (table before)
  -- at each event
  pub feeds : (before : List Event) (ev : Event) (rest : List Event) → before ++ (ev ∷ rest) ≡ evs
      → Fed (after before start) (table before) (moments before) ev (table (before ++ (ev ∷ [])))
  -- at the end an unfinished call has had its moment, its answer set down, exactly if it is an add or a remove that has taken effect
  pub ended : (s i : ℕ) (c : Call) (o : Option Answer) → (table evs).stations s ≡ unfinished i c o → IsSome o ↔ (CanChange c × TookEffect start evs s)

-- agreement of the index with a table is that of the words
pub agrees_with : {words : List ℕ} {t : Table} → Agree word_index words t → Agrees words t
agrees_with a = record { records = a.records; once = a.once; places = a.places; accepted = a.accepted; waiting = a.waiting }

-- an event of the index is that of the words
pub fed_with : {words : List ℕ} {t next : Table} {ms : List ℕ} (ev : Event) → FedAt word_index words t ms ev next → Fed words t ms ev next
unfolding reply answered
fed_with (submission s kind p c) x = record { fed = x.reply_table; defined = x.defined; leaves = x.next; number = x.number; given = x.given }
fed_with (single_step s) x = record { fed = x.reply_table; defined = x.defined; leaves = x.next; number = x.number; given = x.given }
fed_with (taking s) x = record { fed = x.reply_table; defined = x.defined; leaves = x.next; number = x.number; given = x.given }
fed_with (withdrawal s) x = record { fed = x.reply_table; defined = x.defined; leaves = x.next; number = x.number; given = x.given }

-- a history that the table follows has such moments
unfoldable pub moments_of : (start : List ℕ) (places limit : ℕ) (scale : Scale) (evs : List Event) (mss : List (List ℕ)) → Follows word_index (λ s. ⊥) start (opened places limit scale) evs mss → Moments start places limit scale evs
unfolding after
moments_of start places limit scale evs mss f = record {
  moments = moments_at word_index mss;
  table = table_at word_index (λ s. ⊥) start (opened places limit scale) evs mss f;
  first = table_first word_index (λ s. ⊥) start (opened places limit scale) evs mss f;
  agrees = λ before rest q. agrees_with (agree_at word_index (λ s. ⊥) start (opened places limit scale) evs mss f before rest q);
  feeds = λ before ev rest q. fed_with ev (fed_at word_index (λ s. ⊥) start (opened places limit scale) evs mss f before ev rest q);
  ended = λ s i c o e.
      let x = end_at word_index (λ s. ⊥) start (opened places limit scale) evs mss f s i c o e in
      let y = effect_told word_index s start evs in (
        λ h. let z = x.0 h in let w = y.0 z.1 in (z.0, record { before = w.before; rest = w.rest; splits = w.splits; changed = w.changed; since = w.since }),
        λ h. let w = h.1 in x.1 (h.0, y.1 (record { before = w.before; rest = w.rest; splits = w.splits; changed = w.changed; since = w.since })),
      );
}

-- Demand 3: "For every history, each answered call, and of the unfinished ones exactly those that have taken effect, has a moment of its own between submission and
-- answer, so that every refusal, every answer, waiting or taken, and the records held after each event are those of document 01's plain table, fed these
-- events and moments in order." The table is that of Rules 4. A call that was withdrawn before it took effect "has no part in the order of moments" (Rules 4.2):
-- the table is undefined where a moment was given to it, and `Fed` says that it is defined.
pub demand_3 : (words : List ℕ) (places limit : ℕ) (scale : Scale) → (open_of words places limit scale).number ≡ 0 → (evs : List Event) → Moments (open_of words places limit scale).words places limit scale evs
demand_3 words places limit scale e evs =
    let m = demand_3_follows words places limit scale e evs in
    moments_of (open_of words places limit scale).words places limit scale evs m.0 m.1

-- ---- alone

-- n steps of station s, the others standing still, are accepted and do not answer it; the next is accepted and does: a taking would then be accepted
pub record AnsweredAt (words : List ℕ) (s n : ℕ) : Type 0 where
  pub accepted : (k : ℕ) → k ≤ n → (step_of (stepped k words s) s).number ≡ 0
  pub unanswered : (k : ℕ) → k < n → ¬ (number_told (take_of (stepped (suc k) words s) s) ≡ 0)
  pub answers : number_told (take_of (stepped (suc n) words s) s) ≡ 0

-- Demand 3: "After every history, a station with an unfinished call, stepped while the others stand still, is answered within 16 × places + 64 steps." The state word is 1 exactly
-- where the plain table has the call unfinished (`AnswersAsTable.unfinished` of Demand2.antt).
pub solo : (words : List ℕ) (places limit : ℕ) (scale : Scale) → (open_of words places limit scale).number ≡ 0 → (evs : List Event) (s : ℕ)
    → is_unfinished (state_at (after evs (open_of words places limit scale).words) s) ≡ true
    → (n : ℕ) × (n < 16 * places + 64) × AnsweredAt (after evs (open_of words places limit scale).words) s n
solo words places limit scale e evs s u =
    let w = solo_steps words places limit scale e evs s u in
    let v = after evs (open_of words places limit scale).words in
    (w.0, w.1, record { accepted = steps_accepted w.0 v s w.2; unanswered = steps_unanswered w.0 v s w.2; answers = steps_answered w.0 v s w.2 })
