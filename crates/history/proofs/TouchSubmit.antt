-- What a submission touches: the common record and the station's, and these alone decide it (`submit_touch`).
use Prim.Native.Nat.{ℕ}
use mathlib.Core.Path.{◌≡◌, refl, ap}
use mathlib.Core.Bool.{Bool, true, false, cond}
use mathlib.Core.List.{List, []}
use lib.Dec.{eqb, ltb}
use Rattle.words.specs.Layout.{stations}
use Rattle.stations.specs.declared.counts.Counts.{Counts}
use Rattle.points.specs.declared.point.Point.{Point}
use Rattle.points.specs.Number.{in_range_by}
use Rattle.words.specs.Rule.{rule_at}
use Rattle.stations.specs.Target.{put_target}
use Rattle.stations.specs.Common.{opened_in, is_opened}
use Rattle.stations.specs.Station.{is_idle, state_at}
use Rattle.stations.proofs.RecordLaws.{state_at_agree}
use Rattle.calls.specs.Submit.{curve_fits, call_for, begun_words, aimed_words, submitted_words, submit_of, begun_track}
use Rattle.stations.specs.Call.{kind_in}
use Rattle.history.specs.Touch.{AgreeOn, Leaves}
use Rattle.history.proofs.TouchLaws.{rule_same, opened_same, leaves_nothing, leaves_state, leaves_call, leaves_target, counts_same, leaves_track}
use Rattle.history.proofs.TouchReply.{Alike, alike_done, alike_ask}

module _ {v w : List ℕ} {s : ℕ} {rows : List ℕ} where
  -- the call stands at the root
  begun_leaves : {v' w' : List ℕ} → Leaves v w v' w' s rows → (kind : ℕ) → Leaves v w (begun_words v' s kind) (begun_words w' s kind) s rows
  unfolding begun_words
  begun_leaves {v'} {w'} l kind =
      leaves_track l s _ _ (ap (λ counts. begun_track counts kind) (counts_same l.agree))

  -- a nearest leaves its target
  aimed_leaves : {v' w' : List ℕ} → Leaves v w v' w' s rows → (kind : ℕ) (p : Point) → Leaves v w (aimed_words v' s kind p) (aimed_words w' s kind p) s rows
  unfolding aimed_words
  aimed_leaves {v'} {w'} l kind p = go (eqb kind 4)
    where
      go : (b : Bool) → Leaves v w (cond b (put_target v' s p) v') (cond b (put_target w' s p) w') s rows
      go true = leaves_target l p
      go false = l

  -- what is written
  submitted_leaves : AgreeOn v w s rows → (kind : ℕ) (p : Point) (c : ℕ) → Leaves v w (submitted_words v s kind p c) (submitted_words w s kind p c) s rows
  unfolding submitted_words
  submitted_leaves a kind p c =
      aimed_leaves
      (begun_leaves
      (leaves_state (leaves_call (leaves_nothing a) _ _ (ap (λ (counts : Counts). call_for counts.changes kind p c) (counts_same a))) _ _ refl) kind) kind p

  -- the questions, which two slices that agree answer alike
  submit_alike : AgreeOn v w s rows → (kind : ℕ) (p : Point) (c : ℕ) → Alike v w (submit_of v s kind p c) (submit_of w s kind p c) s rows
  unfolding submit_of
  submit_alike a kind p c =
      alike_ask a (is_opened (opened_in v)) (is_opened (opened_in w)) 4 (ap is_opened (opened_same a))
      (λ o. alike_ask a (ltb s stations) (ltb s stations) 5 refl
      (λ l. alike_ask a (is_idle (state_at v s)) (is_idle (state_at w s)) 6 (ap is_idle (state_at_agree s a.station))
      (λ i. alike_ask a (kind_in kind) (kind_in kind) 7 refl
      (λ k. alike_ask a (in_range_by (rule_at v) p) (in_range_by (rule_at w) p) 8 (ap (λ k. in_range_by k p) (rule_same a))
      (λ r. alike_ask a (curve_fits kind c) (curve_fits kind c) 9 refl (λ f. alike_done (submitted_leaves a kind p c)))))))

-- Rules 5.1, of a submission: the same result, the slices agreeing there again, and every other word kept
pub submit_touch : (v w : List ℕ) (s kind : ℕ) (p : Point) (c : ℕ) → AgreeOn v w s []
    → ((submit_of v s kind p c).number ≡ (submit_of w s kind p c).number) × Leaves v w (submit_of v s kind p c).words (submit_of w s kind p c).words s []
submit_touch v w s kind p c a = let x = submit_alike a kind p c in (x.number, x.leaves)
