-- Case N for every history (`never_farther`): no search comes back with a record that was removed while a nearer one was still held.
use Prim.Native.Nat.{ℕ}
use mathlib.Core.Path.{◌≡◌, refl}
use mathlib.Core.Bool.{true}
use mathlib.Core.List.{List, [], ◌∷◌, ◌++◌}
use mathlib.Core.Option.{some}
use Rattle.points.specs.declared.point.Point.{Point}
use Rattle.points.specs.declared.scale.Scale.{Scale}
use Rattle.points.specs.Choice.{same_grade, chosen_over}
use Rattle.table.specs.Call.{Answer}
use Rattle.table.specs.Event.{Event, single_step}
use Rattle.table.specs.History.{reply, would_give, answered}
use Rattle.table.proofs.Searched.{Unanswered}
use Rattle.table.proofs.Nearer.{HeldAt, Finds, Always, nearer_held}
use Rattle.calls.specs.Open.{open_of}
use Rattle.calls.specs.Submit.{submit_of}
use Rattle.history.specs.Index.{word_index}
use Rattle.history.specs.After.{after}
use Rattle.history.proofs.Demand3.{demand_3}

module _ (words : List ℕ) (places limit : ℕ) (scale : Scale) (before during : List Event) (s c : ℕ) (q : Point) where
  -- the words after the submission of the search
  abbrev pub begun : List ℕ
  begun = (submit_of (after before (open_of words places limit scale).words) s 4 q c).words

  -- After any history a search for q is accepted at station s; after any more events, none of which answers it, a step of s does, and a is the answer that
  -- waits. If y is of the grade, nearer than x, and held whenever x is from the submission to the answer, the search does not come back with x.
  pub never_farther : (a : Answer) → (open_of words places limit scale).number ≡ 0 → (submit_of (after before (open_of words places limit scale).words) s 4 q c).number ≡ 0
      → Unanswered word_index s begun during → answered word_index (after during begun) (single_step s) ≡ true
      → would_give word_index (after (during ++ (single_step s ∷ [])) begun) s ≡ some a
      → (x y : Point) → same_grade q y ≡ true → chosen_over scale q y x ≡ true
      → Always word_index (λ v. HeldAt x (word_index.held v) → HeldAt y (word_index.held v)) begun (during ++ (single_step s ∷ [])) → ¬ Finds a x
  unfolding after reply
  never_farther a o e n f g =
      nearer_held word_index (open_of words places limit scale).words places limit scale (demand_3 words places limit scale o) before during s c q a begun e refl n f g
