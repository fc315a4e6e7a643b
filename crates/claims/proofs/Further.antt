-- What the rules say besides the demands: what an opening leaves (`opening_fresh`, `opening_again`, `opening_beyond`, `opening_kept`, `rule_kept`), the changes of each station (`changes_counted`), the report (`report_after`), the
-- audit (`audit_says`, `audit_exact`, `audit_after`), question 11 (`never_11`), runs (`run_is_steps`, `run_after`), the bytes of the frame runner (`runner_places`, `runner_prints`, `runner_ends`)
-- and the comparison of points (`comparison_tells`). Ranges, rules and squares are those of `Distance`.
use Prim.Native.Nat.{ℕ, ◌+◌, ◌*◌, ◌≤◌, ◌<◌}
use mathlib.Core.Path.{◌≡◌, refl, sym, ap, ◌∙◌, subst}
use mathlib.Core.Logic.{◌⊎◌, ◌↔◌}
use mathlib.Core.Bool.{true, false}
use mathlib.Core.List.Memᴰ
use mathlib.Core.List.{List, [], map, append-nil, Memᴰ}
use lib.ListN.{length}
use Rattle.std.specs.Prelude.{None}
use native.Mathlib.Omega.{arith}
use Rattle.stations.specs.declared.counts.Counts.{Counts}
use Rattle.claims.specs.Definitions.{Scale, rule_in, factors_in, Point, order_of, compared_of, Looked, number_told, places_told, yes_told}
use Rattle.claims.specs.Definitions.{get, rule_at, row_at, Spare, counts_at, counter_at, is_idle, is_unfinished, state_at, Record, Table, opened, eight, total, taken, Event}
use Rattle.claims.specs.Definitions.{limit_in, Opened, opened_in, open_of, step_of, run_of, take_of, report_of, audit_of, verdict_of, held_in, record_of, after, first_no, Audited, output_of, begun, printed, last_output}
use Rattle.stations.proofs.OpeningLaws.{places_of, opened_rule}
use Rattle.table.proofs.Counters.{total_same}
use Rattle.points.proofs.ComparedLaws.{compared_tells}
use Rattle.history.specs.View.{seat_at}
use Rattle.history.proofs.OpenEffects.{OpenedAs, open_written}
use Rattle.history.proofs.OpenBeyond.{open_beyond}
use Rattle.history.proofs.AuditLaws as Audits
use Rattle.history.proofs.Demand3.{accepted}
use Rattle.history.proofs.Reached.{Stands, history_related}
use Rattle.history.proofs.StepNumbers.{step_numbers, step_never_11}
use Rattle.history.proofs.Run.{run_answers}
use Rattle.claims.proofs.Stepping.{IsSteps, run_steps}
use Rattle.texts.proofs.OutputLaws.{output_is_lines, output_ends}
use Rattle.history.proofs.Refused
use Rattle.claims.proofs.Demand1.{open_number, report_number, audit_number}
use Rattle.claims.proofs.Demand3.{Moments, demand_3}

-- ---- opening

-- "no record held, every row spare, every station idle and no change counted" (Rules 7.4)
pub record Fresh (words : List ℕ) (places : ℕ) : Type 0 where
  pub held : (r : Record) → ¬ Memᴰ r (map record_of (held_in words))
  pub spare : (r : ℕ) → r < 2 * places → (next : ℕ) × (row_at words (2 * places) r ≡ Spare next 0)
  pub idle : (s : ℕ) → s < 8 → is_idle (state_at words s) ≡ true
  pub unchanged : (counts_at words).changes ≡ 0
  pub uncounted : (s : ℕ) → counter_at words s ≡ 0

-- An accepted opening, also of an opened slice, leaves this (Rules 7.4): for all words, as `demand_3` is.
pub opening_fresh : (words : List ℕ) (places limit : ℕ) (scale : Scale) → (open_of words places limit scale).number ≡ 0 → Fresh (open_of words places limit scale).words places
unfolding opened seat_at
opening_fresh words places limit scale e =
    let a = accepted words places limit scale e in
    let w : OpenedAs (open_of words places limit scale).words places limit scale = rw a.opens (open_written words places limit scale a.places_in_lem a.limit_in_lem a.rule_in_lem a.factors_in_lem a.long) in
    let m : Moments (open_of words places limit scale).words places limit scale [] = demand_3 words places limit scale e [] in
    record {
      held = λ r h. Memᴰ.not-nil (subst (λ (t : Table). Memᴰ r t.held) m.first (unfold after in (((m.agrees [] [] refl).records r).0 h)));
      spare = λ r l. (_, w.rows r l);
      idle = λ s l. rw (w.states s l);
      unchanged = ap (λ (c : Counts). c.changes) w.counts;
      uncounted = w.counters;
    }

-- So an accepted opening of whatever a history left begins a new one, which agrees with a table of its own.
pub opening_again : (words : List ℕ) (places limit : ℕ) (scale : Scale) (evs : List Event) (places' limit' : ℕ) (scale' : Scale) → (open_of (after evs (open_of words places limit scale).words) places' limit' scale').number ≡ 0
    → (evs' : List Event) → Moments (open_of (after evs (open_of words places limit scale).words) places' limit' scale').words places' limit' scale' evs'
opening_again words places limit scale evs = demand_3 (after evs (open_of words places limit scale).words)

-- words beyond the index stay (Rules 7.4)
pub opening_beyond : (words : List ℕ) (places limit : ℕ) (scale : Scale) → (open_of words places limit scale).number ≡ 0
    → (length (open_of words places limit scale).words ≡ length words) × ((k : ℕ) → 32 * places + 608 ≤ k → get (open_of words places limit scale).words k ≡ get words k)
opening_beyond words places limit scale e = let b = open_beyond words places limit scale e in (b.lengths, b.words)

-- The places, the limit and the factors of an opening hold until the next: after every history question 4 finds them (Rules 3.1).
pub opening_kept : (words : List ℕ) (places limit : ℕ) (scale : Scale) → (open_of words places limit scale).number ≡ 0 → (evs : List Event)
    → opened_in (after evs (open_of words places limit scale).words) ≡ Opened places limit scale
opening_kept words places limit scale e evs =
    let a = accepted words places limit scale e in
    let st : Stands (after evs (open_of words places limit scale).words) places limit scale = rw a.opens (history_related words places limit scale a evs) in
    st.related.opened ∙ (λ i. Opened (st.places_same i) (st.limit_same i) (st.scale_same i))

-- so the rule by which rows, calls, bests and answers are judged is that of the opening (Rules 1.8)
pub rule_kept : (words : List ℕ) (places limit : ℕ) (scale : Scale) → (open_of words places limit scale).number ≡ 0 → (evs : List Event)
    → rule_at (after evs (open_of words places limit scale).words) ≡ scale.rule
rule_kept words places limit scale e evs = opened_rule (after evs (open_of words places limit scale).words) places limit scale (opening_kept words places limit scale e evs)

-- ---- changes

-- After every history no station has made more changes than the limit, and the changes that are counted are those of the eight stations (Rules 3.2).
pub changes_counted : (words : List ℕ) (places limit : ℕ) (scale : Scale) → (open_of words places limit scale).number ≡ 0 → (evs : List Event)
    → ((counts_at (after evs (open_of words places limit scale).words)).changes ≡ total eight (counter_at (after evs (open_of words places limit scale).words)))
    × ((s : ℕ) → s < 8 → counter_at (after evs (open_of words places limit scale).words) s ≤ limit)
changes_counted words places limit scale e evs =
    let a = accepted words places limit scale e in
    let v : List ℕ = after evs (open_of words places limit scale).words in
    let st : Stands v places limit scale = rw a.opens (history_related words places limit scale a evs) in (
      st.related.counted.changes ∙ total_same st.table.counters (counter_at v) (λ s l. sym (st.related.counters s l)),
      λ s l. omega (arith, st.related.counters s l, st.sound.spent s, st.limit_same),
    )

-- ---- report and audit

-- After a history the number that a report gives is that of the plain table (Rules 3.6). It is not refused, and the
-- number is that of the table of `demand_3` at the end.
pub report_after : (words : List ℕ) (places limit : ℕ) (scale : Scale) (e : (open_of words places limit scale).number ≡ 0) (evs : List Event)
    → (number_told (report_of (after evs (open_of words places limit scale).words)) ≡ 0)
    × (places_told (report_of (after evs (open_of words places limit scale).words)) ≡ taken ((demand_3 words places limit scale e evs).table evs))
unfolding first_no
report_after words places limit scale e evs =
    let a = accepted words places limit scale e in
    let v : List ℕ = after evs (open_of words places limit scale).words in
    let st : Stands v places limit scale = rw a.opens (history_related words places limit scale a evs) in
    (report_number v ∙ rw st.related.opened, ((demand_3 words places limit scale e evs).agrees evs [] (append-nil evs)).places)

-- What an audit says: its verdict is `audit_of`.
pub audit_says : (words : List ℕ) → yes_told (verdict_of words) ≡ audit_of words
audit_says = Refused.audit_says

-- Rules 6.6: "An audit says yes exactly if" what `Audited` says holds, for all words.
pub audit_exact : (words : List ℕ) → (audit_of words ≡ true) ↔ Audited words
audit_exact = Audits.audit_exact

-- "After every history the audit says yes" (Rules 6.9). It is not refused.
pub audit_after : (words : List ℕ) (places limit : ℕ) (scale : Scale) → (open_of words places limit scale).number ≡ 0 → (evs : List Event)
    → (number_told (verdict_of (after evs (open_of words places limit scale).words)) ≡ 0) × (audit_of (after evs (open_of words places limit scale).words) ≡ true)
unfolding first_no
audit_after words places limit scale e evs =
    let a = accepted words places limit scale e in
    let v : List ℕ = after evs (open_of words places limit scale).words in
    let st : Stands v places limit scale = rw a.opens (history_related words places limit scale a evs) in
    (audit_number v ∙ rw st.related.opened, Audits.audit_complete (Audits.audit_related st.related))

-- ---- steps and runs

-- Rules 7.16: after every history a step of any station number gets 0, 5 or 10, and so never 11.
pub step_after : (words : List ℕ) (places limit : ℕ) (scale : Scale) → (open_of words places limit scale).number ≡ 0 → (evs : List Event) (s : ℕ)
    → ((step_of (after evs (open_of words places limit scale).words) s).number ≡ 0)
    ⊎ (((step_of (after evs (open_of words places limit scale).words) s).number ≡ 5) ⊎ ((step_of (after evs (open_of words places limit scale).words) s).number ≡ 10))
step_after = step_numbers

pub never_11 : (words : List ℕ) (places limit : ℕ) (scale : Scale) → (open_of words places limit scale).number ≡ 0 → (evs : List Event) (s : ℕ)
    → ¬ ((step_of (after evs (open_of words places limit scale).words) s).number ≡ 11)
never_11 = step_never_11

-- Rules 8.2: "a refused step ends the run, its number is the run's result, and the steps before it stand": for all words, what a run comes to, to its end.
pub run_is_steps : (words : List ℕ) (s : ℕ) → (n : ℕ) × IsSteps words s n
run_is_steps = run_steps

-- Rules 8.2, 8.3: after every history a run of a station with an unfinished call is accepted, and its answer waits.
pub run_after : (words : List ℕ) (places limit : ℕ) (scale : Scale) → (open_of words places limit scale).number ≡ 0 → (evs : List Event) (s : ℕ)
    → is_unfinished (state_at (after evs (open_of words places limit scale).words) s) ≡ true
    → ((run_of (after evs (open_of words places limit scale).words) s).number ≡ 0)
    × (number_told (take_of (run_of (after evs (open_of words places limit scale).words) s).words s) ≡ 0)
run_after words places limit scale e evs s u = let x = run_answers words places limit scale e evs s u in (x.number, x.answered)

-- ---- the frame runner

-- Rules 10.1: in 8,800 words 256 places fit, and 257 get 3.
pub runner_places : (words : List ℕ) (limit : ℕ) (scale : Scale) → length words ≡ 8800 → limit_in limit ≡ true → rule_in scale.rule ≡ true → factors_in scale ≡ true
    → ((open_of words 256 limit scale).number ≡ 0) × ((open_of words 257 limit scale).number ≡ 3)
unfolding first_no
runner_places words limit scale l e r f = (
  open_number words 256 limit scale ∙ rw (places_of 256 (omega arith) (omega arith), e, r, f, l),
  open_number words 257 limit scale ∙ rw (places_of 257 (omega arith) (omega arith), e, r, f, l),
)

-- Rules 10.3, 10.4: the texts of `begin` and of `next` after it, as long as there is more, are the header and the lines of the input, for all words and bytes; a slice has no more bytes
-- than 64 bits can count. So many times is often enough.
pub runner_prints : (words bytes : List ℕ) (n : ℕ) → length bytes ≤ 18446744073709551615 → length bytes ≤ n → printed n words bytes begun ≡ output_of words bytes
runner_prints = output_is_lines

pub runner_ends : (words bytes : List ℕ) (n : ℕ) → length bytes < n → (last_output n words bytes begun).at ≡ None
runner_ends = output_ends

-- ---- the comparison of points

-- Rules 1.4, for all points, in range or not: the order, and how many axes the comparison tells that it looked at, which `Looked` says in words. That it looks no further is the
-- code's, whose loop counts this number; no contract speaks of the work that is done.
pub comparison_tells : (a b : Point) → ((compared_of a b).order ≡ order_of a b) × Looked a b (compared_of a b).looked
comparison_tells = compared_tells
