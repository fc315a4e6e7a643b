-- An answer set down and never answered is seen by nobody: with such answers forgotten the table replies as before. Facts about tables
-- alone, one for moments (`moment_kept`, `moment_dropped`) and one for each event (`submit_trim`, `take_trim`, `still_trim`, `answering_trim`).
use mathlib.Core.Path.{◌≡◌, refl, sym, ◌∙◌, ap, fun_ext}
use mathlib.Core.Logic.{inl, inr}
use mathlib.Core.Bool.{Bool, true, false, false≢true}
use mathlib.Core.Option.{Option, none, some, map, none-ne-some, some-injective}
use mathlib.Core.List.{List}
use Prim.Native.Nat.{ℕ, suc}
use native.Mathlib.Omega.{arith}
use lib.Dec.{eqb, ltb}
use Rattle.points.specs.declared.point.Point.{Point}
use Rattle.points.specs.declared.scale.Scale.{Scale}
use Rattle.points.specs.Number.{in_range_by}
use Rattle.table.specs.Record.{Record, nearest_of}
use Rattle.table.specs.Call.{Call, add, remove, contains, nearest, call_of, kind_in_range, is_search, Answer, nearest_answer, is_change}
use Rattle.table.specs.Table.{Station, idle, unfinished, waiting, Table, eight, opened, put, with_stations, searching, searches, taken, full, used_up, answer_of, changed, changed_if}
use Rattle.table.specs.Event.{Event, Reply, accept, refuse, ask, is_idle, curve_fits, enter, submit, set_down, may_fall, only_if, moment_at, moment, step_at, step, take_at, take}
use Rattle.table.proofs.Stations.{put_cases, put_same, put_other, searches_same}

-- ## Forgetting

-- a station with the answer set down forgotten
unfoldable pub forget : Station → Station
forget idle = idle
forget (waiting a) = waiting a
forget (unfinished i c o) = unfinished i c none

unfoldable pub keep_if : Bool → Station → Station
keep_if true x = x
keep_if false x = forget x

unfoldable pub kept : (ℕ → Bool) → (ℕ → Station) → ℕ → Station
kept seen f u = keep_if (seen u) (f u)

-- the table with the answers set down of the stations that are seen, and no other
unfoldable pub trim : (ℕ → Bool) → Table → Table
trim seen t = with_stations t (kept seen t.stations)

unfoldable pub trim_reply : (ℕ → Bool) → Reply Table → Reply Table
trim_reply seen r = record { number = r.number; given = r.given; next = trim seen r.next }

pub station_trim : (seen : ℕ → Bool) (t : Table) (s : ℕ) → (trim seen t).stations s ≡ keep_if (seen s) (t.stations s)
unfolding trim kept
station_trim seen t s = refl

pub kept_same : (seen : ℕ → Bool) (t : Table) (s : ℕ) → seen s ≡ true → (trim seen t).stations s ≡ t.stations s
unfolding trim kept keep_if
kept_same seen t s l = rw (l, keep_if)

pub keep_none : (b : Bool) (i : ℕ) (c : Call) → keep_if b (unfinished i c none) ≡ unfinished i c none
unfolding keep_if forget
keep_none true i c = refl
keep_none false i c = refl

pub keep_waiting : (b : Bool) (a : Answer) → keep_if b (waiting a) ≡ waiting a
unfolding keep_if forget
keep_waiting true a = refl
keep_waiting false a = refl

pub keep_idle : (b : Bool) → keep_if b idle ≡ idle
unfolding keep_if forget
keep_idle true = refl
keep_idle false = refl

pub trim_opened : (seen : ℕ → Bool) (places limit : ℕ) (scale : Scale) → trim seen (opened places limit scale) ≡ opened places limit scale
unfolding trim kept opened
trim_opened seen places limit scale = ap (λ (f : ℕ → Station). with_stations (opened places limit scale) f) (fun_ext (λ u. keep_idle (seen u)))

pub trim_cong : (seen other : ℕ → Bool) (t : Table) → ((u : ℕ) → seen u ≡ other u) → trim seen t ≡ trim other t
trim_cong seen other t e = ap (λ (k : ℕ → Bool). trim k t) (fun_ext e)

-- ## A station put anew

-- what is put and would be kept
put_kept : (seen : ℕ → Bool) (f : ℕ → Station) (s : ℕ) (x : Station) → keep_if (seen s) x ≡ x → kept seen (put f s x) ≡ put (kept seen f) s x
unfolding kept
put_kept seen f s x e = fun_ext (λ u. elim (put_cases f s u x) [
  | inl w ↦ rw (w.1, w.0) (e ∙ sym (put_same (kept seen f) s x))
  | inr w ↦ rw w.1 (sym (put_other (kept seen f) s u x w.0))
])

-- what is put and would be forgotten
put_forgotten : (seen : ℕ → Bool) (f : ℕ → Station) (s : ℕ) (x : Station) → seen s ≡ false → forget x ≡ forget (f s) → kept seen (put f s x) ≡ kept seen f
unfolding kept keep_if
put_forgotten seen f s x e g = fun_ext (λ u. elim (put_cases f s u x) [ inl w ↦ rw (w.1, w.0, e, keep_if) g | inr w ↦ rw w.1 refl ])

pub put_trim : (seen : ℕ → Bool) (t : Table) (s : ℕ) (x : Station) → keep_if (seen s) x ≡ x
    → with_stations (trim seen t) (put (trim seen t).stations s x) ≡ trim seen (with_stations t (put t.stations s x))
unfolding trim
put_trim seen t s x e = rw (put_kept seen t.stations s x e)

-- ## Counts and answers

pub searching_forget : (x : Station) → searching (forget x) ≡ searching x
unfolding forget searching
searching_forget idle = refl
searching_forget (waiting a) = refl
searching_forget (unfinished i c o) = refl

searching_keep : (b : Bool) (x : Station) → searching (keep_if b x) ≡ searching x
unfolding keep_if
searching_keep true x = refl
searching_keep false x = searching_forget x

searches_kept : (ss : List ℕ) (seen : ℕ → Bool) (f : ℕ → Station) → searches ss (kept seen f) ≡ searches ss f
unfolding kept
searches_kept ss seen f = searches_same ss (kept seen f) f (λ u. searching_keep (seen u) (f u))

pub taken_trim : (seen : ℕ → Bool) (t : Table) → taken (trim seen t) ≡ taken t
unfolding taken trim
taken_trim seen t = rw (searches_kept eight seen t.stations)

full_trim : (seen : ℕ → Bool) (t : Table) → full (trim seen t) ≡ full t
unfolding full trim
full_trim seen t = ap (λ (n : ℕ). eqb n t.places) (taken_trim seen t)

used_trim : (seen : ℕ → Bool) (t : Table) (s : ℕ) → used_up (trim seen t) s ≡ used_up t s
unfolding used_up trim
used_trim seen t s = refl

pub answer_trim : (seen : ℕ → Bool) (t : Table) (s : ℕ) (c : Call) → answer_of (trim seen t) s c ≡ answer_of t s c
unfolding answer_of trim
answer_trim seen t s (add p c) = rw (full_trim seen t, used_trim seen t s)
answer_trim seen t s (remove p) = rw (used_trim seen t s)
answer_trim seen t s (contains p) = refl
answer_trim seen t s (nearest p) = refl

changed_trim : (seen : ℕ → Bool) (t : Table) (s : ℕ) (c : Call) → changed (trim seen t) s c ≡ trim seen (changed t s c)
unfolding changed trim
changed_trim seen t s (add p c) = refl
changed_trim seen t s (remove p) = rw (searches_kept eight seen t.stations)
changed_trim seen t s (contains p) = refl
changed_trim seen t s (nearest p) = refl

effect_trim : (b : Bool) (seen : ℕ → Bool) (t : Table) (s : ℕ) (c : Call) → changed_if b (trim seen t) s c ≡ trim seen (changed_if b t s c)
unfolding changed_if
effect_trim true seen t s c = changed_trim seen t s c
effect_trim false seen t s c = refl

-- ## Moments

set_trim : (seen : ℕ → Bool) (t : Table) (s i : ℕ) (c : Call) (a : Answer) → seen s ≡ true → set_down (trim seen t) s i c a ≡ trim seen (set_down t s i c a)
unfolding set_down trim keep_if
set_trim seen t s i c a l =
    let x = unfinished i c (some a) in
    ap (λ (u : Table). with_stations u (put (kept seen t.stations) s x)) (effect_trim (is_change a) seen t s c)
    ∙ ap (λ (g : ℕ → Station). with_stations (changed_if (is_change a) t s c) g) (sym (put_kept seen t.stations s x (rw (l, keep_if))))

nearest_code : (scale : Scale) (p : Point) (o : Option Record) → is_change (nearest_answer scale p o) ≡ false
unfolding is_change nearest_answer
nearest_code scale p none = refl
nearest_code scale p (some r) = refl

-- a search changes nothing
pub search_quiet : (t : Table) (s : ℕ) (c : Call) → is_search c ≡ true → is_change (answer_of t s c) ≡ false
unfolding answer_of is_search
search_quiet t s (add p v) e = absurd (false≢true e)
search_quiet t s (remove p) e = absurd (false≢true e)
search_quiet t s (contains p) e = absurd (false≢true e)
search_quiet t s (nearest p) e = nearest_code t.scale p (nearest_of t.scale p t.held)

only_map : (f : Table → Table) (b : Bool) (t u : Table) → u ≡ f t → only_if b u ≡ map f (only_if b t)
unfolding only_if
only_map f true t u e = ap {B = Option Table} some e
only_map f false t u e = refl

at_kept : (ev : Event) (seen : ℕ → Bool) (t : Table) (s : ℕ) (x : Station) → seen s ≡ true
    → moment_at ev (trim seen t) s x ≡ map (trim seen) (moment_at ev t s x)
unfolding moment_at
at_kept ev seen t s idle l = refl
at_kept ev seen t s (waiting a) l = refl
at_kept ev seen t s (unfinished i c (some a)) l = refl
at_kept ev seen t s (unfinished i c none) l =
    let a : Answer = answer_of t s c in
    rw (answer_trim seen t s c) (only_map (trim seen) (may_fall ev s a) (set_down t s i c a) (set_down (trim seen t) s i c a) (set_trim seen t s i c a l))

-- a moment whose answer is seen
pub moment_kept : (ev : Event) (seen : ℕ → Bool) (t : Table) (s : ℕ) → seen s ≡ true → moment ev (trim seen t) s ≡ map (trim seen) (moment ev t s)
unfolding moment
moment_kept ev seen t s l = ap (moment_at ev (trim seen t) s) (kept_same seen t s l) ∙ at_kept ev seen t s (t.stations s) l

-- the moment of a search whose answer is not seen
pub moment_dropped : (seen : ℕ → Bool) (t : Table) (s i : ℕ) (c : Call) → seen s ≡ false → is_search c ≡ true → t.stations s ≡ unfinished i c none
    → trim seen (set_down t s i c (answer_of t s c)) ≡ trim seen t
unfolding set_down changed_if trim forget
moment_dropped seen t s i c l g e = rw (search_quiet t s c g, put_forgotten seen t.stations s (unfinished i c (some (answer_of t s c))) l (rw (e, forget)))

-- ## Events

pub ask_trim : (seen : ℕ → Bool) (b : Bool) (n : ℕ) (t : Table) (r q : Reply Table) → q ≡ trim_reply seen r → ask b n (trim seen t) q ≡ trim_reply seen (ask b n t r)
unfolding trim_reply
ask_trim seen true n t r q e = e
ask_trim seen false n t r q e = refl

idle_keep : (b : Bool) (x : Station) → is_idle (keep_if b x) ≡ is_idle x
unfolding keep_if forget is_idle
idle_keep true x = refl
idle_keep false idle = refl
idle_keep false (waiting a) = refl
idle_keep false (unfinished i c o) = refl

enter_trim : (seen : ℕ → Bool) (t : Table) (s : ℕ) (c : Call) → enter (trim seen t) s c ≡ trim seen (enter t s c)
unfolding enter trim
enter_trim seen t s c = rw (put_kept seen t.stations s (unfinished t.calls c none) (keep_none (seen s) t.calls c))

accept_trim : (seen : ℕ → Bool) (t u : Table) → u ≡ trim seen t → accept u ≡ trim_reply seen (accept t)
unfolding trim_reply
accept_trim seen t u e = rw e

rule_trim : (seen : ℕ → Bool) (t : Table) → (trim seen t).scale.rule ≡ t.scale.rule
unfolding trim
rule_trim seen t = refl

pub submit_trim : (seen : ℕ → Bool) (t : Table) (s kind : ℕ) (p : Point) (c : ℕ) → submit (trim seen t) s kind p c ≡ trim_reply seen (submit t s kind p c)
unfolding submit
submit_trim seen t s kind p c =
    let g : in_range_by (trim seen t).scale.rule p ≡ in_range_by t.scale.rule p = ap (λ k. in_range_by k p) (rule_trim seen t) in
    rw (g, station_trim seen t s, idle_keep (seen s) (t.stations s))
    (ask_trim seen (ltb s 8) 5 t _ _ (ask_trim seen (is_idle (t.stations s)) 6 t _ _ (ask_trim seen (kind_in_range kind) 7 t _ _ (ask_trim seen (in_range_by t.scale.rule p) 8 t _ _
    (ask_trim seen (curve_fits kind c) 9 t _ _ (accept_trim seen (enter t s (call_of kind p c)) _ (enter_trim seen t s (call_of kind p c))))))))

take_at_trim : (seen : ℕ → Bool) (t : Table) (s : ℕ) (b : Bool) (x : Station) → take_at (trim seen t) s (keep_if b x) ≡ trim_reply seen (take_at t s x)
unfolding take_at keep_if forget trim_reply
take_at_trim seen t s true idle = refl
take_at_trim seen t s false idle = refl
take_at_trim seen t s true (unfinished i c o) = refl
take_at_trim seen t s false (unfinished i c o) = refl
take_at_trim seen t s true (waiting a) = rw (put_trim seen t s idle (keep_idle (seen s)))
take_at_trim seen t s false (waiting a) = rw (put_trim seen t s idle (keep_idle (seen s)))

pub take_trim : (seen : ℕ → Bool) (t : Table) (s : ℕ) → take (trim seen t) s ≡ trim_reply seen (take t s)
unfolding take
take_trim seen t s = ask_trim seen (ltb s 8) 5 t _ _ (ap (take_at (trim seen t) s) (station_trim seen t s) ∙ take_at_trim seen t s (seen s) (t.stations s))

still_at_trim : (seen : ℕ → Bool) (t : Table) (s : ℕ) (there b : Bool) (x : Station)
    → step_at (trim seen t) s there false (keep_if b x) ≡ map (trim_reply seen) (step_at t s there false x)
unfolding step_at keep_if forget trim_reply
still_at_trim seen t s false b x = refl
still_at_trim seen t s true true idle = refl
still_at_trim seen t s true false idle = refl
still_at_trim seen t s true true (waiting a) = refl
still_at_trim seen t s true false (waiting a) = refl
still_at_trim seen t s true true (unfinished i c o) = refl
still_at_trim seen t s true false (unfinished i c o) = refl

-- a step that does not answer
pub still_trim : (seen : ℕ → Bool) (t : Table) (s : ℕ) → step (trim seen t) s false ≡ map (trim_reply seen) (step t s false)
unfolding step
still_trim seen t s = rw (station_trim seen t s) (still_at_trim seen t s (ltb s 8) (seen s) (t.stations s))

pub put_waiting : (seen before : ℕ → Bool) (f : ℕ → Station) (s : ℕ) (a : Answer) → ((u : ℕ) → ¬ (u ≡ s) → before u ≡ seen u)
    → put (kept before f) s (waiting a) ≡ kept seen (put f s (waiting a))
unfolding kept
put_waiting seen before f s a e = fun_ext (λ u. elim (put_cases f s u (waiting a)) [
  | inl w ↦ rw (w.1, w.0) (put_same (kept before f) s (waiting a) ∙ sym (keep_waiting (seen s) a))
  | inr w ↦ rw w.1 (put_other (kept before f) s u (waiting a) w.0 ∙ rw (e u w.0))
])

pub not_refused : (n : ℕ) (t : Table) (r : Reply Table) → ◌≡◌ {A = Option (Reply Table)} (some (refuse (suc n) t)) (some r) → r.number ≡ 0 → ⊥
not_refused n t r q z = omega (arith, ap (λ (x : Reply Table). x.number) (some-injective _ _ q))

-- a step that answers: before it the answer is seen, after it the station has none set down
pub answering_trim : (seen before : ℕ → Bool) (t : Table) (s : ℕ) (there : Bool) (x : Station) (r : Reply Table) → ((u : ℕ) → ¬ (u ≡ s) → before u ≡ seen u)
    → step_at t s there true x ≡ some r → r.number ≡ 0 → step_at (trim before t) s there true x ≡ some (trim_reply seen r)
unfolding step_at trim_reply trim
answering_trim seen before t s false x r e q z = absurd (not_refused 4 t r q z)
answering_trim seen before t s true idle r e q z = absurd (not_refused 9 t r q z)
answering_trim seen before t s true (waiting a) r e q z = absurd (not_refused 9 t r q z)
answering_trim seen before t s true (unfinished i c none) r e q z = absurd (none-ne-some r q)
answering_trim seen before t s true (unfinished i c (some a)) r e q z = rw (← some-injective _ _ q, put_waiting seen before t.stations s a e)
