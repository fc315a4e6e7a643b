-- Demand 3 says something: it is not met by an index that refuses everybody, by one that answers always 6, by one whose search comes back with a removed
-- record while a nearer one is held throughout, by one that answers a withdrawn search after all, nor by one where a withdrawn search keeps its places. Each
-- is refuted by one short history, whatever the moments.
use mathlib.Core.Path.{◌≡◌, refl, sym, ◌∙◌}
use mathlib.Core.Bool.{Bool, true, false, not, false≢true}
use mathlib.Core.Option.{Option, none, some}
use mathlib.Core.List.{List, [], ◌∷◌}
use Prim.Native.Nat.{ℕ}
use lib.Dec.{eqb}
use Rattle.points.specs.declared.point.Point.{Point}
use Rattle.points.specs.declared.scale.Scale.{Scale}
use Rattle.points.specs.Scale.{plain_scale}
use Rattle.table.specs.Record.{Record, curve_at}
use Rattle.table.specs.Call.{add, remove, contains, nearest, Answer, answer, nearest_answer, withdrawn_answer}
use Rattle.table.specs.Table.{Station, idle, unfinished, waiting, Table, opened, put, with_stations, taken}
use Rattle.table.specs.Event.{Event, submission, single_step, taking, withdrawal, Reply, submit, take}
use Rattle.table.specs.History.{Index, reply, answered, Linear}
use Rattle.table.proofs.Retract.{retract}
use Rattle.table.proofs.Simulation.{finished}
use Rattle.table.proofs.Play.{Said}
use Rattle.table.proofs.Placements.{every_play, tell, last_of, linear_play}
use Rattle.table.proofs.Cases.{run_every, m, p, target, not_m}

-- an index whose last reply no placement of the moments gives does not meet demand 3
not_linear : (I : Index) (start : I.State) (places limit : ℕ) (scale : Scale) (P : Said → Bool) (evs : List Event) (x : Said)
    → every_play P (opened places limit scale) (tell I start evs) ≡ true
    → last_of I start evs ≡ some x → P x ≡ false → ¬ Linear I start places limit scale
not_linear I start places limit scale P evs x h e n l = false≢true (sym n ∙ linear_play I start places limit scale P evs x l h e)

abbrev pub reply_with : {S : Type 0} → ℕ → Option Answer → S → Reply S
reply_with n a st = record { number = n; given = a; next = st }

-- ## It refuses everybody

abbrev pub deaf : Index
deaf = record {
  State = Unit {0};
  submit = λ st s kind p c. reply_with 6 none tt;
  step = λ st s. reply_with 10 none tt;
  take = λ st s. reply_with 12 none tt;
  withdraw = λ st s. reply_with 10 none tt;
  held = λ st. [];
  taken = λ st. 0;
}

-- not refused by 6
unfoldable pub not_six : Said → Bool
not_six x = not (eqb x.0 6)

pub deaf_not_linear : ¬ Linear deaf tt 1 1 plain_scale
unfolding run_every tell last_of reply answered not_six
deaf_not_linear = not_linear deaf tt 1 1 plain_scale not_six (submission 0 1 p 41 ∷ []) (6, none) refl refl refl

-- ## It answers always 6

-- nothing asked, a call under way, its answer ready
pub data Six : Type 0 where
  resting : Six
  asked : Point → Six
  answering : Point → Six

unfoldable pub step_six : Six → Reply Six
step_six resting = reply_with 10 none resting
step_six (asked p) = reply_with 0 none (answering p)
step_six (answering p) = reply_with 10 none (answering p)

unfoldable pub take_six : Six → Reply Six
take_six resting = reply_with 12 none resting
take_six (asked p) = reply_with 12 none (asked p)
take_six (answering p) = reply_with 0 (some (answer 6 p 0 0)) resting

abbrev pub always_six : Index
always_six = record {
  State = Six;
  submit = λ st s kind p c. reply_with 0 none (asked p);
  step = λ st s. step_six st;
  take = λ st s. take_six st;
  withdraw = λ st s. step_six st;
  held = λ st. [];
  taken = λ st. 0;
}

-- an answer of another code
unfoldable pub other_than : ℕ → Said → Bool
other_than code (n, none) = false
other_than code (n, some a) = not (eqb a.code code)

-- an add alone
pub always_six_not_linear : ¬ Linear always_six resting 1 1 plain_scale
unfolding run_every tell last_of reply answered other_than step_six take_six
always_six_not_linear = not_linear always_six resting 1 1 plain_scale (other_than 6) (submission 0 1 p 41 ∷ single_step 0 ∷ taking 0 ∷ []) (0, some (answer 6 p 0 0)) refl refl refl

-- ## Its search comes back with a removed record

-- the table, and the record removed last
pub record Cache : Type 0 where
  pub table : Table
  pub lost : Option Record

-- a search of the cache looks at the lost record alone
unfoldable pub searched : Point → Option Record → Option Answer
searched q none = none
searched q (some r) = some (nearest_answer plain_scale q (some r))

unfoldable pub lose : Point → Option ℕ → Option Record
lose q none = none
lose q (some c) = some (record { point = q; curve = c })

abbrev pub cached : Table → Option Record → Reply Cache
cached t l = reply_with 0 none (record { table = t; lost = l })

-- every call is answered at its first step, as the table would, but a search
unfoldable pub step_cache : Cache → ℕ → Station → Reply Cache
step_cache st s idle = reply_with 10 none st
step_cache st s (waiting a) = reply_with 10 none st
step_cache st s (unfinished i (add q c) o) = cached (finished st.table s (add q c) o) st.lost
step_cache st s (unfinished i (remove q) o) = cached (finished st.table s (remove q) o) (lose q (curve_at q st.table.held))
step_cache st s (unfinished i (contains q) o) = cached (finished st.table s (contains q) o) st.lost
step_cache st s (unfinished i (nearest q) o) = cached (finished st.table s (nearest q) (searched q st.lost)) st.lost

abbrev pub on_cache : Option Record → Reply Table → Reply Cache
on_cache l r = reply_with r.number r.given (record { table = r.next; lost = l })

abbrev pub cache : Index
cache = record {
  State = Cache;
  submit = λ st s kind p c. on_cache st.lost (submit st.table s kind p c);
  step = λ st s. step_cache st s (st.table.stations s);
  take = λ st s. on_cache st.lost (take st.table s);
  withdraw = λ st s. on_cache st.lost (retract st.table s);
  held = λ st. st.table.held;
  taken = λ st. taken st.table;
}

-- m and the nearer p are added; a search is submitted; m is removed, p is held throughout; the search gives m
abbrev pub removed_meanwhile : List Event
removed_meanwhile =
    submission 0 1 m 41 ∷ single_step 0 ∷ taking 0 ∷ submission 0 1 p 42 ∷ single_step 0 ∷ taking 0
    ∷ submission 1 4 target 0 ∷ submission 0 2 m 0 ∷ single_step 0 ∷ single_step 1 ∷ taking 1 ∷ []

pub cache_not_linear : ¬ Linear cache (record { table = opened 2 10 plain_scale; lost = none }) 2 10 plain_scale
unfolding run_every tell last_of reply answered not_m step_cache searched lose finished
cache_not_linear = not_linear cache (record { table = opened 2 10 plain_scale; lost = none }) 2 10 plain_scale not_m removed_meanwhile (0, some (answer 8 m 41 10_000)) refl refl refl

-- ## It answers a withdrawn search after all

-- every call is answered at its first step, as the table would, and so it is by its withdrawal
unfoldable pub hurry : Table → ℕ → Station → Reply Table
hurry t s idle = reply_with 10 none t
hurry t s (waiting a) = reply_with 10 none t
hurry t s (unfinished i c o) = reply_with 0 none (finished t s c o)

abbrev pub hasty : Index
hasty = record {
  State = Table;
  submit = submit;
  step = λ t s. hurry t s (t.stations s);
  take = take;
  withdraw = λ t s. hurry t s (t.stations s);
  held = λ t. t.held;
  taken = taken;
}

-- m is added; a search is submitted and withdrawn; it gives m
abbrev pub withdrawn_then : List Event
withdrawn_then = submission 0 1 m 41 ∷ single_step 0 ∷ submission 1 4 target 0 ∷ withdrawal 1 ∷ taking 1 ∷ []

pub hasty_not_linear : ¬ Linear hasty (opened 2 10 plain_scale) 2 10 plain_scale
unfolding run_every tell last_of reply answered other_than hurry finished
hasty_not_linear = not_linear hasty (opened 2 10 plain_scale) 2 10 plain_scale (other_than 8) withdrawn_then (0, some (answer 8 m 41 10_000)) refl refl refl

-- ## Its withdrawn search keeps its places

-- the search goes on at station 7
unfoldable pub cling : Table → ℕ → Station → Reply Table
cling t s idle = reply_with 10 none t
cling t s (waiting a) = reply_with 10 none t
cling t s (unfinished i c o) = reply_with 0 none (with_stations t (put (put t.stations s (waiting (withdrawn_answer c))) 7 (unfinished i c o)))

abbrev pub clinging : Index
clinging = record {
  State = Table;
  submit = submit;
  step = λ t s. hurry t s (t.stations s);
  take = take;
  withdraw = λ t s. cling t s (t.stations s);
  held = λ t. t.held;
  taken = taken;
}

-- one place: m is added; a search is submitted; m is removed; the search is withdrawn; p finds no place
abbrev pub place_kept : List Event
place_kept =
    submission 0 1 m 41 ∷ single_step 0 ∷ taking 0 ∷ submission 1 4 target 0 ∷ submission 0 2 m 0 ∷ single_step 0 ∷ taking 0
    ∷ withdrawal 1 ∷ submission 0 1 p 42 ∷ single_step 0 ∷ taking 0 ∷ []

pub clinging_not_linear : ¬ Linear clinging (opened 1 10 plain_scale) 1 10 plain_scale
unfolding run_every tell last_of reply answered other_than hurry cling finished
clinging_not_linear = not_linear clinging (opened 1 10 plain_scale) 1 10 plain_scale (other_than 3) place_kept (0, some (answer 3 p 0 0)) refl refl refl
