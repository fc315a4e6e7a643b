-- Taking back a call (Rules 2.9, 2.10): a call that has not taken effect is answered 11 and has no moment, and a withdrawn nearest "lets go of its places there and then".
-- No unfinished call of this index has taken effect: an add or a remove is answered by the step that changes the held records. So each is answered 11, whatever it
-- was (`taken_back`, `withdrawn`). That the other calls, the records held and all answers stay those of the plain table is `demand_3` of Demand3.antt; numbers and refusals are in
-- Demand1.antt, the words that are touched in Touch.antt.
use Prim.Native.Nat.{ℕ, ◌+◌}
use mathlib.Core.Path.{◌≡◌, sym, ◌∙◌}
use mathlib.Core.Logic.{◌↔◌, ◌⊎◌}
use mathlib.Core.Bool.{true, false}
use mathlib.Core.List.{List, ◌∷◌, ◌++◌}
use mathlib.Core.Option.{some}
use lib.ListN.{length}
use Rattle.claims.specs.Definitions.{Scale, Point, is_unfinished, state_at, answer, Table, eight, searches, others, holding, Event, single_step, withdrawal, answered, places_told}
use Rattle.claims.specs.Definitions.{open_of, submit_of, take_of, withdraw_of, report_of, given_by, after, Withdrawn}
use Rattle.table.proofs.Searched.{take_given}
use Rattle.table.proofs.Taken.{taken_others}
use Rattle.history.proofs.Withdrawn as History
use Rattle.claims.proofs.Demand3.{Agrees, answers_at}
use Rattle.claims.proofs.Nearer.{unanswered_along}

module _ (words : List ℕ) (places limit : ℕ) (scale : Scale) (before during : List Event) (s kind : ℕ) (p : Point) (c : ℕ) where
  -- the words after the submission of the call
  abbrev pub begun : List ℕ
  begun = (submit_of (after before (open_of words places limit scale).words) s kind p c).words

  -- After any history a call at the point p is accepted at station s. After any more events, in which no step of s answers it and s does not withdraw it, s withdraws it:
  -- that is accepted, and a taking then gives 11 with p, curve 0 and square 0.
  pub taken_back : (open_of words places limit scale).number ≡ 0 → (submit_of (after before (open_of words places limit scale).words) s kind p c).number ≡ 0
      → ((b r : List Event) → b ++ (single_step s ∷ r) ≡ during → answers_at (after b begun) (single_step s) ≡ false)
      → ((b r : List Event) → ¬ (b ++ (withdrawal s ∷ r) ≡ during))
      → ((withdraw_of (after during begun) s).number ≡ 0) × (given_by (take_of (withdraw_of (after during begun) s).words s) ≡ some (answer 11 p 0 0))
  unfolding answered
  taken_back e ok n k = History.taken_back words places limit scale e before during s kind p c ok (unanswered_along s during begun n k)

-- A history from an accepted opening, and the words after it; any station number.
module _ (words : List ℕ) (places limit : ℕ) (scale : Scale) (e : (open_of words places limit scale).number ≡ 0) (evs : List Event) (s : ℕ) where
  abbrev pub reached : List ℕ
  reached = after evs (open_of words places limit scale).words

  -- "at any time, whatever the other stations are doing" (Rules 2.9): it is accepted exactly if the station has an unfinished call
  pub withdrawal_accepted : ((withdraw_of reached s).number ≡ 0) ↔ (is_unfinished (state_at reached s) ≡ true)
  withdrawal_accepted = History.withdraw_accepted words places limit scale e evs s

  -- and gets 5 or 10 otherwise; 11 is never met (Rules 7.16)
  pub withdrawal_after : ((withdraw_of reached s).number ≡ 0) ⊎ (((withdraw_of reached s).number ≡ 5) ⊎ ((withdraw_of reached s).number ≡ 10))
  withdrawal_after = History.withdraw_numbers words places limit scale e evs s

  pub never_11 : ¬ ((withdraw_of reached s).number ≡ 11)
  never_11 = History.withdraw_never_11 words places limit scale e evs s

  -- a taking then gives 11 with the point of the call, curve 0 and square 0; the station's since word is none; and where no other station has an unfinished nearest, the
  -- places taken are the records held
  pub withdrawn : is_unfinished (state_at reached s) ≡ true → Withdrawn reached s
  withdrawn = History.withdrawn words places limit scale e evs s

  -- Rules 2.10: the places taken that a report gives then are, of any table that agrees with the words (as that of `demand_3` does), the records held
  -- and the removals that an unfinished nearest of another station holds
  pub lets_go : is_unfinished (state_at reached s) ≡ true → (t : Table) → Agrees (withdraw_of reached s).words t
      → places_told (report_of (withdraw_of reached s).words) ≡ length t.held + holding t.removals (searches (others s eight) t.stations)
  lets_go u t a = a.places ∙ taken_others t s _ (take_given t s _ (sym (a.waiting s) ∙ (withdrawn u).gives))
