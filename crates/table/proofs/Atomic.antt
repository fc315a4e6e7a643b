-- Demand 3 can be met with every answer given: an index that works a search out on submission and answers each call at its first step meets it
-- (`atomic_linear`). It touches all records at once, so the claim on what an event touches must stand beside demand 3.
use mathlib.Core.Path.{◌≡◌, refl, sym, ◌∙◌, ap, subst, fun_ext}
use mathlib.Core.Logic.{◌⊎◌, inl, inr}
use mathlib.Core.Bool.{Bool, true, false, ◌&&◌, false≢true}
use mathlib.Core.Option.{Option, none, some}
use mathlib.Core.List.{List}
use Prim.Native.Nat.{ℕ}
use native.Mathlib.Omega.{arith}
use native.Mathlib.Decide.{dec_lt}
use lib.Dec.{eqb, ltb}
use borrow.Author.Tests.{ltb-true}
use Rattle.points.specs.declared.point.Point.{Point}
use Rattle.points.specs.declared.scale.Scale.{Scale}
use Rattle.table.specs.Record.{Record, nearest_of}
use Rattle.table.specs.Call.{Call, add, remove, contains, nearest, is_search, Answer, nearest_answer, withdrawn_answer}
use Rattle.table.specs.Table.{Station, idle, unfinished, waiting, Table, eight, opened, put, with_stations, searching, taken, answer_of, changed_if}
use Rattle.table.specs.Event.{single_step, Reply, ask, refuse, accept, submit, set_down, take_at, take}
use Rattle.table.specs.History.{Index, answered, Agree, Linear}
use Rattle.table.proofs.Stations.{put_cases, put_each, put_same, searches_same}
use Rattle.table.proofs.Sound.{Sound}
use Rattle.table.proofs.Trim.{search_quiet}
use Rattle.table.proofs.Retract.{retract, retract_all}
use Rattle.table.proofs.Eager.{unsettled, Settled}
use Rattle.table.proofs.Simulation.{still_at, still, finished, Matches, Finishes, Simulation, simulation_linear}

-- a station as given, the answer of its search worked out
unfoldable pub worked_at : Table → ℕ → Station → Station
worked_at t s idle = idle
worked_at t s (waiting a) = waiting a
worked_at t s (unfinished i c (some a)) = unfinished i c (some a)
worked_at t s (unfinished i c none) = elim (is_search c) [ true ↦ unfinished i c (some (answer_of t s c)) | false ↦ unfinished i c none ]

-- the table with every search worked out
unfoldable pub worked : Table → Table
worked t = with_stations t (λ u. worked_at t u (t.stations u))

unfoldable pub submit_atomic : Table → ℕ → ℕ → Point → ℕ → Reply Table
submit_atomic t s kind p c = record { number = (submit t s kind p c).number; given = (submit t s kind p c).given; next = worked (submit t s kind p c).next }

unfoldable pub step_atomic_at : Table → ℕ → Station → Reply Table
step_atomic_at t s idle = refuse 10 t
step_atomic_at t s (waiting a) = refuse 10 t
step_atomic_at t s (unfinished i c o) = accept (finished t s c o)

unfoldable pub step_atomic : Table → ℕ → Reply Table
step_atomic t s = ask (ltb s 8) 5 t (step_atomic_at t s (t.stations s))

abbrev pub atomic : Index
atomic = record { State = Table; submit = submit_atomic; step = step_atomic; take = take; withdraw = retract; held = λ t. t.held; taken = taken }

-- the index is the table with every search worked out
abbrev R : Table → Table → Type 0
R st t = st ≡ worked t

-- ## Nothing left to work out

settled_at : (t : Table) (s : ℕ) (x : Station) → unsettled x ≡ false → worked_at t s x ≡ x
unfolding unsettled worked_at
settled_at t s idle e = refl
settled_at t s (waiting a) e = refl
settled_at t s (unfinished i c (some a)) e = refl
settled_at t s (unfinished i c none) e = rw (e, worked_at)

settled_all : (t : Table) → Sound t → Settled t → (u : ℕ) → unsettled (t.stations u) ≡ false
unfolding unsettled
settled_all t k d u = elim (dec_lt u 8) [ yes l ↦ d u l | no n ↦ ap unsettled (k.outside u (omega arith)) ]

settled_worked : (t : Table) → ((u : ℕ) → unsettled (t.stations u) ≡ false) → t ≡ worked t
unfolding worked
settled_worked t d = ap (λ (f : ℕ → Station). with_stations t f) (fun_ext (λ u. sym (settled_at t u (t.stations u) (d u))))

-- ## Agreement and moments

worked_searching : (t : Table) (s : ℕ) (x : Station) → searching (worked_at t s x) ≡ searching x
unfolding worked_at searching
worked_searching t s idle = refl
worked_searching t s (waiting a) = refl
worked_searching t s (unfinished i c (some a)) = refl
worked_searching t s (unfinished i c none) = go (is_search c) refl
  where
    go : (b : Bool) → is_search c ≡ b → searching (worked_at t s (unfinished i c none)) ≡ searching (unfinished i c none)
    go true q = rw (q, worked_at) (rw (q, searching))
    go false q = rw (q, worked_at)

worked_taken : (t : Table) → taken (worked t) ≡ taken t
unfolding taken worked
worked_taken t = rw (searches_same eight (λ u. worked_at t u (t.stations u)) t.stations (λ u. worked_searching t u (t.stations u)))

-- what a taking says
abbrev Says : Reply Table → Reply Table → Type 0
Says r q = (r.number ≡ q.number) × (r.given ≡ q.given)

worked_take_at : (t : Table) (s : ℕ) (x : Station) → Says (take_at (worked t) s (worked_at t s x)) (take_at t s x)
unfolding worked_at take_at
worked_take_at t s idle = (refl, refl)
worked_take_at t s (waiting a) = (refl, refl)
worked_take_at t s (unfinished i c (some a)) = (refl, refl)
worked_take_at t s (unfinished i c none) = go (is_search c) refl
  where
    go : (b : Bool) → is_search c ≡ b → Says (take_at (worked t) s (worked_at t s (unfinished i c none))) (take_at t s (unfinished i c none))
    go true q = rw (q, worked_at) (refl, refl)
    go false q = rw (q, worked_at) (refl, refl)

ask_says : (b : Bool) (n : ℕ) (t u : Table) (r q : Reply Table) → Says r q → Says (ask b n t r) (ask b n u q)
ask_says true n t u r q h = h
ask_says false n t u r q h = (refl, refl)

worked_take : (t : Table) (s : ℕ) → Says (take (worked t) s) (take t s)
unfolding take worked
worked_take t s = ask_says (ltb s 8) 5 (worked t) t _ _ (worked_take_at t s (t.stations s))

agrees : (t : Table) → Sound t → Agree atomic (worked t) t
unfolding worked
agrees t k = record {
  records = λ r. (λ m. m, λ m. m);
  once = k.once;
  places = worked_taken t;
  accepted = λ s. (worked_take t s).0;
  waiting = λ s. (worked_take t s).1;
}

-- a search's moment leaves what is worked out
search_answer : (t u : Table) (s : ℕ) (c : Call) → is_search c ≡ true → t.scale ≡ u.scale → t.held ≡ u.held → answer_of t s c ≡ answer_of u s c
unfolding answer_of is_search
search_answer t u s (add p v) g d e = absurd (false≢true g)
search_answer t u s (remove p) g d e = absurd (false≢true g)
search_answer t u s (contains p) g d e = absurd (false≢true g)
search_answer t u s (nearest p) g d e =
    ap (λ (x : Scale). nearest_answer x p (nearest_of x p t.held)) d ∙ ap (λ (l : List Record). nearest_answer u.scale p (nearest_of u.scale p l)) e

worked_same : (t u : Table) (s : ℕ) (x : Station) → t.scale ≡ u.scale → t.held ≡ u.held → worked_at t s x ≡ worked_at u s x
unfolding worked_at
worked_same t u s idle d e = refl
worked_same t u s (waiting a) d e = refl
worked_same t u s (unfinished i c (some a)) d e = refl
worked_same t u s (unfinished i c none) d e = go (is_search c) refl
  where
    go : (b : Bool) → is_search c ≡ b → worked_at t s (unfinished i c none) ≡ worked_at u s (unfinished i c none)
    go true q = rw (q, worked_at) (ap (λ (a : Answer). unfinished i c (some a)) (search_answer t u s c q d e))
    go false q = rw (q, worked_at)

settles_put : (t : Table) (s i : ℕ) (c : Call) → is_search c ≡ true → t.stations s ≡ unfinished i c none
    → worked t ≡ worked (with_stations t (put t.stations s (unfinished i c (some (answer_of t s c)))))
unfolding worked worked_at
settles_put t s i c g e = ap (λ (f : ℕ → Station). with_stations t f) (fun_ext (λ u. go u (put_cases t.stations s u x)))
  where
    x : Station
    x = unfinished i c (some (answer_of t s c))

    v : Table
    v = with_stations t (put t.stations s x)

    go : (u : ℕ) → ((u ≡ s) × (put t.stations s x u ≡ x)) ⊎ ((¬ (u ≡ s)) × (put t.stations s x u ≡ t.stations u))
        → worked_at t u (t.stations u) ≡ worked_at v u (put t.stations s x u)
    go u (inl y) = rw y.1 (subst (λ (k : ℕ). worked_at t k (t.stations k) ≡ worked_at v k x) (sym y.0) (rw (e, worked_at, g) refl))
    go u (inr y) = rw y.1 (worked_same t v u (t.stations u) refl refl)

settles : (t : Table) (s i : ℕ) (c : Call) → is_search c ≡ true → t.stations s ≡ unfinished i c none → worked t ≡ worked (set_down t s i c (answer_of t s c))
unfolding set_down changed_if
settles t s i c g e = settles_put t s i c g e ∙ ap worked (sym (rw (search_quiet t s c g, changed_if)))

-- ## The events on a settled table

put_settled : (t : Table) (s : ℕ) (x : Station) → unsettled x ≡ false → ((u : ℕ) → unsettled (t.stations u) ≡ false) → (u : ℕ)
    → unsettled (put t.stations s x u) ≡ false
put_settled t s x e d = put_each (λ y. unsettled y ≡ false) t.stations s x e d

module _ (t : Table) (d : (u : ℕ) → unsettled (t.stations u) ≡ false) where
  abbrev Match : Reply Table → Reply Table → Type 0
  Match = Matches atomic R

  same : (n : ℕ) → Match (refuse n t) (refuse n t)
  same n = record { number = refl; given = refl; next = settled_worked t d }

  ask_match : (b : Bool) (n : ℕ) (r q : Reply Table) → (b ≡ true → Match r q) → Match (ask b n t r) (ask b n t q)
  ask_match true n r q h = h refl
  ask_match false n r q h = same n

  took : (s : ℕ) → Match (take t s) (take t s)
  unfolding take take_at unsettled
  took s = ask_match (ltb s 8) 5 _ _ (λ l. go (t.stations s))
    where
      go : (x : Station) → Match (take_at t s x) (take_at t s x)
      go idle = same 12
      go (unfinished i c o) = same 12
      go (waiting a) = record { number = refl; given = refl; next = settled_worked (with_stations t (put t.stations s idle)) (put_settled t s idle refl d) }

  retracted : (s : ℕ) → Match (retract t s) (retract t s)
  unfolding unsettled
  retracted s = retract_all (λ r. Match r r) t s (same 5) (same 10) (λ l i c o q. record {
    number = refl;
    given = refl;
    next = settled_worked (with_stations t (put t.stations s (waiting (withdrawn_answer c)))) (put_settled t s (waiting (withdrawn_answer c)) refl d);
  })

  finished_match : (s : ℕ) (c : Call) (o : Option Answer) → Match (accept (finished t s c o)) (accept (finished t s c o))
  unfolding finished unsettled
  finished_match s c (some a) = record { number = refl; given = refl; next = settled_worked (finished t s c (some a)) (put_settled t s (waiting a) refl d) }
  finished_match s c none = record { number = refl; given = refl; next = settled_worked (finished t s c none) (put_settled t s (waiting (answer_of t s c)) refl d) }

  finished_take : (s : ℕ) (c : Call) (o : Option Answer) → ltb s 8 ≡ true → (take (finished t s c o) s).number ≡ 0
  unfolding finished take take_at
  finished_take s c (some a) l = rw (l, put_same t.stations s (waiting a), take_at)
  finished_take s c none l = rw (l, put_same t.stations s (waiting (answer_of t s c)), take_at)

  -- whether a step answers, by the station
  abbrev Answers : ℕ → Bool → Station → Bool
  Answers s b x = eqb (ask b 5 t (step_atomic_at t s x)).number 0 && eqb (take (ask b 5 t (step_atomic_at t s x)).next s).number 0

  stepped : (s : ℕ) (b : Bool) (x : Station) → ltb s 8 ≡ b → t.stations s ≡ x → (answers : Bool) → Answers s b x ≡ answers
      → (answers ≡ false → Match (ask b 5 t (step_atomic_at t s x)) (ask b 5 t (still_at t x))) × (answers ≡ true → (b ≡ true) × ((i : ℕ) × (c : Call) × (o : Option Answer) × (x ≡ unfinished i c o)))
  unfolding step_atomic_at still_at
  stepped s false x l e answers q = (λ f. same 5, λ f. absurd (false≢true (q ∙ f)))
  stepped s true idle l e answers q = (λ f. same 10, λ f. absurd (false≢true (q ∙ f)))
  stepped s true (waiting a) l e answers q = (λ f. same 10, λ f. absurd (false≢true (q ∙ f)))
  stepped s true (unfinished i c o) l e answers q = (λ f. absurd (false≢true (sym f ∙ sym q ∙ rw (finished_take s c o l))), λ f. (refl, (i, c, o, refl)))

  stills : (s : ℕ) → answered atomic t (single_step s) ≡ false → Match (step_atomic t s) (still t s)
  unfolding answered step_atomic still
  stills s a = (stepped s (ltb s 8) (t.stations s) refl refl false a).0 refl

  step_finished : (s i : ℕ) (c : Call) (o : Option Answer) → ltb s 8 ≡ true → t.stations s ≡ unfinished i c o → step_atomic t s ≡ accept (finished t s c o)
  unfolding step_atomic step_atomic_at
  step_finished s i c o l e = rw (l, e, step_atomic_at)

  answers : (s : ℕ) → answered atomic t (single_step s) ≡ true → Finishes atomic R t t s
  unfolding answered step_atomic
  answers s a =
      let w = (stepped s (ltb s 8) (t.stations s) refl refl true a).1 refl in
      record {
        station = ltb-true s 8 w.0;
        identity = w.1.0;
        call = w.1.1;
        set = w.1.2;
        is = w.1.3;
        matches = rw (step_finished s w.1.0 w.1.1 w.1.2 w.0 w.1.3) (finished_match s w.1.1 w.1.2);
      }

worked_opened : (places limit : ℕ) (scale : Scale) → opened places limit scale ≡ worked (opened places limit scale)
unfolding opened worked worked_at
worked_opened places limit scale = refl

-- a state related to a settled table is that table
is_table : (st t : Table) → Sound t → Settled t → R st t → st ≡ t
is_table st t k d h = h ∙ sym (settled_worked t (settled_all t k d))

atomic_simulation : (places limit : ℕ) (scale : Scale) → Simulation atomic R (opened places limit scale) places limit scale
unfolding submit_atomic
atomic_simulation places limit scale = record {
  begins = worked_opened places limit scale;
  agrees = λ {st} {t} k h. rw h (agrees t k);
  settles = λ {st} {t} {s} {i} {c} k l g e h. h ∙ settles t s i c g e;
  submits = λ {st} {t} s kind p c k d h. rw (is_table st t k d h) (record { number = refl; given = refl; next = refl });
  takes = λ {st} {t} s k d h. rw (is_table st t k d h) (took t (settled_all t k d) s);
  withdraws = λ {st} {t} s k d h. rw (is_table st t k d h) (retracted t (settled_all t k d) s);
  stills = λ {st} {t} s k d h a. rw (is_table st t k d h) (stills t (settled_all t k d) s (rw (is_table st t k d h) at a));
  answers = λ {st} {t} s k d h a. rw (is_table st t k d h) (answers t (settled_all t k d) s (rw (is_table st t k d h) at a));
}

-- An index that works every search out on submission, and answers each call at its first step, meets demand 3.
pub atomic_linear : (places limit : ℕ) (scale : Scale) → Linear atomic (opened places limit scale) places limit scale
atomic_linear places limit scale = simulation_linear atomic R (opened places limit scale) places limit scale (atomic_simulation places limit scale)
