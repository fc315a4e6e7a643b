-- The fault that was seen (`never_farther`): "I have seen a search come back with a record that was removed while a nearer one was still held." Case N of Rules 13 is one of its kind.
use Prim.Native.Nat.{ℕ}
use mathlib.Core.Path.{◌≡◌, refl, sym, ap}
use mathlib.Core.Bool.{true, false, false≢true}
use mathlib.Core.List.{List, [], ◌∷◌, ◌++◌, map, Memᴰ}
use mathlib.Core.Option.{some}
use borrow.Author.Tests.{eqb-true, ne_eqb}
use Rattle.claims.specs.Definitions.{Scale, Point, same_grade, chosen_over, Record, Answer, Event, submission, single_step, taking, withdrawal, answered}
use Rattle.claims.specs.Definitions.{open_of, submit_of, take_of, held_in, record_of, given_by, word_index, after}
use Rattle.table.specs.Event.{own_step, own_withdrawal}
use Rattle.table.specs.History.{reply}
use Rattle.table.proofs.Searched.{Unanswered}
use Rattle.table.proofs.Nearer.{Always}
use Rattle.history.proofs.NearerHeld
use Rattle.claims.proofs.Demand3.{answers_at}

-- a record of this point is held
abbrev pub Holds : List ℕ → Point → Type 0
Holds words x = (r : Record) × Memᴰ r (map record_of (held_in words)) × (r.point ≡ x)

-- ---- the same along the events

own_unanswered : (s : ℕ) (ev : Event) (words : List ℕ) → (ev ≡ single_step s → answered word_index words ev ≡ false) → own_step ev s ≡ true → answered word_index words ev ≡ false
unfolding own_step
own_unanswered s (submission u kind p c) words h o = absurd (false≢true o)
own_unanswered s (single_step u) words h o = h (ap single_step (eqb-true u s o))
own_unanswered s (taking u) words h o = absurd (false≢true o)
own_unanswered s (withdrawal u) words h o = absurd (false≢true o)

not_own : (s : ℕ) (ev : Event) → ¬ (ev ≡ withdrawal s) → own_withdrawal ev s ≡ false
unfolding own_withdrawal
not_own s (submission u kind p c) n = refl
not_own s (single_step u) n = refl
not_own s (taking u) n = refl
not_own s (withdrawal u) n = ne_eqb u s (λ e. n (ap withdrawal e))

pub unanswered_along : (s : ℕ) (evs : List Event) (words : List ℕ)
    → ((before rest : List Event) → before ++ (single_step s ∷ rest) ≡ evs → answered word_index (after before words) (single_step s) ≡ false)
    → ((before rest : List Event) → ¬ (before ++ (withdrawal s ∷ rest) ≡ evs)) → Unanswered word_index s words evs
unfolding after
unanswered_along s [] words h w = tt
unanswered_along s (ev ∷ evs) words h w = (
  (
    own_unanswered s ev words (λ e. rw e (h [] evs (ap (λ (x : Event). x ∷ evs) (sym e)))),
    not_own s ev (λ e. w [] evs (ap (λ (x : Event). x ∷ evs) (sym e))),
  ),
  unanswered_along s evs (reply word_index words ev).next (λ b r q. h (ev ∷ b) r (ap (λ (es : List Event). ev ∷ es) q)) (λ b r q. w (ev ∷ b) r (ap (λ (es : List Event). ev ∷ es) q)),
)

always_along : (P : List ℕ → Type 0) (evs : List Event) (words : List ℕ) → ((before rest : List Event) → before ++ rest ≡ evs → P (after before words)) → Always word_index P words evs
unfolding after
always_along P [] words h = h [] [] refl
always_along P (ev ∷ evs) words h = (h [] (ev ∷ evs) refl, always_along P evs (reply word_index words ev).next (λ b r q. h (ev ∷ b) r (ap (λ (es : List Event). ev ∷ es) q)))

-- ---- the claim

module _ (words : List ℕ) (places limit : ℕ) (scale : Scale) (before during : List Event) (s c : ℕ) (q : Point) where
  -- the words after the submission of the search
  abbrev pub begun : List ℕ
  begun = (submit_of (after before (open_of words places limit scale).words) s 4 q c).words

  -- After any history a search for q is accepted at station s. After any more events, in which no step of s answers it and s does not withdraw it, a step of s answers,
  -- and the answer that waits is a. If y is of the grade, chosen over x, and held whenever x is, from the submission to the answer, then a is not an 8 with x.
  pub never_farther : (a : Answer) → (open_of words places limit scale).number ≡ 0 → (submit_of (after before (open_of words places limit scale).words) s 4 q c).number ≡ 0
      → ((b r : List Event) → b ++ (single_step s ∷ r) ≡ during → answers_at (after b begun) (single_step s) ≡ false)
      → ((b r : List Event) → ¬ (b ++ (withdrawal s ∷ r) ≡ during))
      → answers_at (after during begun) (single_step s) ≡ true → given_by (take_of (after (during ++ (single_step s ∷ [])) begun) s) ≡ some a
      → (x y : Point) → same_grade q y ≡ true → chosen_over scale q y x ≡ true
      → ((b r : List Event) → b ++ r ≡ during ++ (single_step s ∷ []) → Holds (after b begun) x → Holds (after b begun) y)
      → ¬ ((a.code ≡ 8) × (a.point ≡ x))
  unfolding answered
  never_farther a o e n k f g x y grade nearer held found =
      NearerHeld.never_farther words places limit scale before during s c q a o e (unanswered_along s during begun n k) f g x y grade nearer
      (always_along (λ v. Holds v x → Holds v y) (during ++ (single_step s ∷ [])) begun held) (record { code = found.0; point = found.1 })
