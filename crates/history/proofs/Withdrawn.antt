-- Withdrawals after a history: one is accepted exactly if its station has an unfinished call (`withdraw_accepted`), and refused by 5 or 10 otherwise, never by 11
-- (`withdraw_numbers`, `withdraw_never_11`); what it leaves (`withdrawn`); and a call from its submission to its withdrawal (`taken_back`).
use Prim.Native.Nat.{ℕ, ◌<◌}
use mathlib.Core.Path.{◌≡◌, refl, sym, ap, ◌∙◌}
use mathlib.Core.Logic.{◌↔◌, inl, inr}
use mathlib.Core.Bool.{Bool, true, false, cond, true≢false}
use mathlib.Core.List.{List, [], ◌∷◌, ◌++◌}
use mathlib.Core.Option.{Option, some, some-injective}
use native.Mathlib.Omega.{arith}
use native.Mathlib.Decide.{dec_lt, ℕ_discrete}
use lib.Dec.{eqb}
use lib.ListN.{length, length-map}
use borrow.Author.Tests.{lt-ltb}
use Rattle.words.specs.Layout.{stations}
use Rattle.points.specs.declared.point.Point.{Point}
use Rattle.points.specs.declared.scale.Scale.{Scale}
use Rattle.stations.specs.Station.{is_unfinished, state_at}
use Rattle.stations.specs.Call.{call_at}
use Rattle.calls.specs.Reply.{Reply}
use Rattle.table.specs.Call.{Call, add, remove, contains, nearest, call_of, is_search, point_of, Answer, answer, is_change, withdrawn_answer}
use Rattle.table.specs.Table.{Station, idle, unfinished, waiting, Table, put, with_stations, searching}
use Rattle.table.specs.Event.{Event, submission, take_at, take}
use Rattle.table.specs.History.{reply, after as after_events}
use Rattle.table.proofs.Stations.{put_same, put_other}
use Rattle.table.proofs.Reached.{sound_wait}
use Rattle.table.proofs.Retract.{retract_all}
use Rattle.table.proofs.Settled.{retract_ends}
use Rattle.table.proofs.Taken.{taken_held}
use Rattle.table.proofs.Searched.{Unanswered}
use Rattle.table.proofs.Withdrawn.{AfterWithdrawal, withdrawn_waits}
use Rattle.trees.specs.Tree.{entries_of}
use Rattle.trees.proofs.ShapeLaws.{entries_count}
use Rattle.calls.specs.Open.{open_of}
use Rattle.calls.specs.Submit.{submit_of}
use Rattle.calls.specs.Take.{take_of}
use Rattle.calls.specs.Report.{report_of, places_told}
use Rattle.calls.specs.Held.{held_in}
use Rattle.calls.specs.Withdraw.{withdrawn_words, withdraw_of}
use Rattle.history.specs.Index.{record_of as held_record, given_by, word_index}
use Rattle.history.specs.View.{seat_at}
use Rattle.history.specs.Related.{record_of, Related}
use Rattle.history.specs.After.{after}
use Rattle.history.specs.Withdrawn.{is_searching, Withdrawn}
use Rattle.history.proofs.RelatedLaws.{related_passes, related_busy, related_waits, related_taken}
use Rattle.history.proofs.HeldLaws.{held_entries}
use Rattle.history.proofs.RelatedTake.{related_takes}
use Rattle.history.proofs.RelatedWithdraw.{point_is, withdrawn_next, withdrawal_done, related_withdraws}
use Rattle.history.proofs.Demand3.{accepted, quiet_state, demand_3}
use Rattle.history.proofs.Reached.{Stands, history_related}
use Rattle.history.proofs.Solo.{outside_state}
use Rattle.history.proofs.StepNumbers.{StepNumber, not_11}
use Rattle.history.proofs.Everybody.{unfinished_same}

-- ---- what it leaves

-- as many records as the table holds
held_number : {words : List ℕ} {t : Table} → Related words t → length (held_in words) ≡ length t.held
held_number {words} r =
    sym (length-map (held_in words) held_record) ∙ ap length (held_entries r) ∙ length-map (entries_of r.tree) record_of ∙ entries_count r.tree ∙ r.number

-- a station that is not searching by the words has no search in the table
not_searching : {words : List ℕ} {t : Table} (u : ℕ) → u < stations → Related words t → is_searching words u ≡ false → searching (t.stations u) ≡ []
unfolding searching is_search seat_at
not_searching {words} {t} u l r e = go (t.stations u) refl
  where
    go : (x : Station) → t.stations u ≡ x → searching x ≡ []
    go idle q = refl
    go (waiting a) q = refl
    go (unfinished i (add p c) o) q = refl
    go (unfinished i (remove p) o) q = refl
    go (unfinished i (contains p) o) q = refl
    go (unfinished i (nearest p) o) q = absurd (true≢false (sym (rw ((related_busy r l q).state, (related_busy r l q).kind) refl) ∙ e))

module _ {words : List ℕ} {places limit : ℕ} {scale : Scale} (w : Stands words places limit scale) {s i : ℕ} {c : Call} {o : Option Answer} (l : s < stations) (q : w.table.stations s ≡ unfinished i c o) where
  -- the words after it, and the table
  abbrev words' : List ℕ
  words' = withdrawn_words words s (call_at words s)

  abbrev t : Table
  t = with_stations w.table (put w.table.stations s (waiting (withdrawn_answer c)))

  waits : t.stations s ≡ waiting (withdrawn_answer c)
  waits = put_same w.table.stations s (waiting (withdrawn_answer c))

  next : Related words' t
  next = (withdrawn_next w.sound l q w.related).related

  taking_given : given_by (take_of words' s) ≡ some (answer 11 (call_at words s).point 0 0)
  unfolding take take_at withdrawn_answer
  taking_given =
      (related_takes s (sound_wait w.table s (withdrawn_answer c) l w.sound) next).given
      ∙ rw (lt-ltb s stations l, waits) (ap (λ p. some (answer 11 p 0 0)) (sym (point_is w.sound l q w.related)))

  taken_alone : ((u : ℕ) → ¬ (u ≡ s) → is_searching words u ≡ false) → places_told (report_of words') ≡ length (held_in words')
  unfolding report_of searching
  taken_alone f =
      rw (related_passes next) (related_taken next (sound_wait w.table s (withdrawn_answer c) l w.sound) ∙ taken_held t others ∙ sym (held_number next))
    where
      others : (u : ℕ) → u < stations → searching (t.stations u) ≡ []
      others u k = elim (ℕ_discrete u s) [
        | yes e ↦ rw (e, waits)
        | no n ↦ rw (put_other w.table.stations s u (waiting (withdrawn_answer c)) n) (not_searching u k w.related (f u n))
      ]

  leaves : Withdrawn words s
  unfolding seat_at
  leaves =
      let e = withdrawal_done w.sound l q w.related in
      record {
        accepted = ap (λ (r : Reply). r.number) e;
        gives = rw e taking_given;
        since = rw e (related_waits next l waits).quiet.since;
        alone = λ f. rw e (taken_alone f);
      }

-- the words say that the call is unfinished
stands_withdrawn : {words : List ℕ} {places limit : ℕ} {scale : Scale} → Stands words places limit scale → (s : ℕ) → is_unfinished (state_at words s) ≡ true → Withdrawn words s
stands_withdrawn {words} w s u = go (dec_lt s stations)
  where
    at : s < stations → (x : Station) → w.table.stations s ≡ x → Withdrawn words s
    at l idle q = absurd (true≢false (sym u ∙ quiet_state s l idle q tt w.related))
    at l (waiting a) q = absurd (true≢false (sym u ∙ quiet_state s l (waiting a) q tt w.related))
    at l (unfinished i c o) q = leaves w l q

    go : Dec (s < stations) → Withdrawn words s
    go (yes l) = at l (w.table.stations s) refl
    go (no g) = absurd (true≢false (sym u ∙ outside_state words s (omega arith)))

-- ---- after every history

module _ (words : List ℕ) (places limit : ℕ) (scale : Scale) (e : (open_of words places limit scale).number ≡ 0) (evs : List Event) (s : ℕ) where
  abbrev reached : List ℕ
  reached = after evs (open_of words places limit scale).words

  stands : Stands reached places limit scale
  stands = let a = accepted words places limit scale e in rw a.opens (history_related words places limit scale a evs)

  -- A withdrawal by any station gets 0, 5 or 10.
  pub withdraw_numbers : StepNumber (withdraw_of reached s).number
  withdraw_numbers = rw (related_withdraws s stands.sound stands.related).number
      (retract_all (λ r. StepNumber r.number) stands.table s (inr (inl refl)) (inr (inr refl)) (λ l i c o q. inl refl))

  -- Rules 7.16: 11 is never met.
  pub withdraw_never_11 : ¬ ((withdraw_of reached s).number ≡ 11)
  withdraw_never_11 = not_11 withdraw_numbers

  -- A station with an unfinished call withdraws it.
  pub withdrawn : is_unfinished (state_at reached s) ≡ true → Withdrawn reached s
  withdrawn = stands_withdrawn stands s

  -- It is accepted exactly if the station has an unfinished call.
  pub withdraw_accepted : ((withdraw_of reached s).number ≡ 0) ↔ (is_unfinished (state_at reached s) ≡ true)
  withdraw_accepted = (told, λ u. (withdrawn u).accepted)
    where
      told : (withdraw_of reached s).number ≡ 0 → is_unfinished (state_at reached s) ≡ true
      told z =
          let b = retract_ends stands.table s (sym (related_withdraws s stands.sound stands.related).number ∙ z) in
          unfinished_same stands.related s b.0 ∙ b.1

-- ---- a call from its submission to its withdrawal

after_both : (before rest : List Event) (words : List ℕ) → after (before ++ rest) words ≡ after rest (after before words)
unfolding after after_events
after_both [] rest words = refl
after_both (ev ∷ before) rest words = after_both before rest (reply word_index words ev).next

point_of_lem : (kind : ℕ) (p : Point) (c : ℕ) → point_of (call_of kind p c) ≡ p
unfolding call_of
point_of_lem kind p c = go (eqb kind 1) (eqb kind 2) (eqb kind 3)
  where
    go : (x y z : Bool) → point_of (cond x (add p c) (cond y (remove p) (cond z (contains p) (nearest p)))) ≡ p
    go true y z = refl
    go false true z = refl
    go false false true = refl
    go false false false = refl

module _ (words : List ℕ) (places limit : ℕ) (scale : Scale) (e : (open_of words places limit scale).number ≡ 0) (before during : List Event) (s kind : ℕ) (p : Point) (c : ℕ) where
  abbrev start : List ℕ
  start = (open_of words places limit scale).words

  -- the words after the submission
  abbrev begun : List ℕ
  begun = (submit_of (after before start) s kind p c).words

  -- After any history a call is accepted at station s; after any more events, in which nothing ends it, s withdraws it: that is accepted, and a taking gives 11 with the
  -- point of the submission.
  pub taken_back : (submit_of (after before start) s kind p c).number ≡ 0 → Unanswered word_index s begun during
      → ((withdraw_of (after during begun) s).number ≡ 0) × (given_by (take_of (withdraw_of (after during begun) s).words s) ≡ some (answer 11 p 0 0))
  unfolding after reply is_change withdrawn_answer
  taken_back ok n =
      let x = withdrawn_waits word_index start places limit scale (demand_3 words places limit scale e) before during s kind p c begun ok refl n in
      let same : after (before ++ (submission s kind p c ∷ during)) start ≡ after during begun = after_both before (submission s kind p c ∷ during) start in
      let u : is_unfinished (state_at (after during begun) s) ≡ true =
      rw same at ((withdraw_accepted words places limit scale e (before ++ (submission s kind p c ∷ during)) s).0 (rw same x.0)) in
      let w : Withdrawn (after during begun) s = rw same at (withdrawn words places limit scale e (before ++ (submission s kind p c ∷ during)) s (rw same u)) in
      (x.0, x.1.2 ∙ ap some (which x.1.0 (call_at (after during begun) s).point x.1.1 (some-injective _ _ (sym x.1.2 ∙ w.gives))))
    where
      which : (a : Answer) (q : Point) → AfterWithdrawal (call_of kind p c) a → a ≡ answer 11 q 0 0 → a ≡ answer 11 p 0 0
      which a q (inl f) g = f ∙ ap (λ r. answer 11 r 0 0) (point_of_lem kind p c)
      which a q (inr f) g = absurd (true≢false (sym f ∙ ap is_change g))
