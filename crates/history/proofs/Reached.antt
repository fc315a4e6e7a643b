-- After every history the words are related to a table (`history_related`): the relation is kept by every event, each unfinished nearest having its moment
-- first thing at the next event.
use Prim.Native.Nat.{ℕ}
use mathlib.Core.Path.{◌≡◌, refl, ◌∙◌}
use mathlib.Core.Bool.{Bool, true, false}
use mathlib.Core.List.{List, [], ◌∷◌}
use mathlib.Core.Option.{Option, none, some}
use lib.Dec.{ltb}
use Rattle.words.specs.Layout.{stations}
use Rattle.points.specs.declared.point.Point.{Point}
use Rattle.points.specs.declared.scale.Scale.{Scale}
use Rattle.points.specs.Number.{in_range_by}
use Rattle.table.specs.Call.{Call, add, remove, contains, nearest, Answer, kind_in_range, is_change}
use Rattle.table.specs.Table.{Station, idle, unfinished, waiting, Table, eight, opened, answer_of, changed, changed_if}
use Rattle.table.specs.Event.{Event, submission, single_step, taking, withdrawal, is_idle, curve_fits, enter, submit, set_down, take_at, take}
use Rattle.table.specs.History.{reply, answered}
use Rattle.table.proofs.Sound.{Sound, sound_opened, sound_set}
use Rattle.table.proofs.Reached.{ask_all, sound_submit, sound_take}
use Rattle.table.proofs.Eager.{Settled, settle}
use Rattle.table.proofs.Settled.{settled, settle_keeps}
use Rattle.table.proofs.Retract.{retract, retract_all, sound_retract}
use Rattle.table.proofs.Simulation.{still_at, still, finished}
use Rattle.calls.specs.Open.{opened_words}
use Rattle.calls.specs.Step.{step_of}
use Rattle.history.specs.Index.{word_index}
use Rattle.history.specs.Related.{Related}
use Rattle.history.specs.After.{after}
use Rattle.history.proofs.RelatedOpen.{related_open}
use Rattle.history.proofs.RelatedSettle.{related_settles}
use Rattle.history.proofs.RelatedSubmit.{related_submits}
use Rattle.history.proofs.RelatedTake.{related_takes}
use Rattle.history.proofs.RelatedWithdraw.{related_withdraws}
use Rattle.history.proofs.Demand3.{Accepted, stills, answers, finished_sound}

-- the words are related to a sound table of these places, this limit and these factors
pub record Stands (words : List ℕ) (places limit : ℕ) (scale : Scale) : Type 0 where
  pub table : Table
  pub sound : Sound table
  pub related : Related words table
  pub places_same : table.places ≡ places
  pub limit_same : table.limit ≡ limit
  pub scale_same : table.scale ≡ scale

-- ---- places, limit and factors never change

abbrev Alike : Table → Table → Type 0
Alike t u = (u.places ≡ t.places) × (u.limit ≡ t.limit) × (u.scale ≡ t.scale)

changed_alike : (b : Bool) (t : Table) (s : ℕ) (c : Call) → Alike t (changed_if b t s c)
unfolding changed_if changed
changed_alike false t s c = (refl, refl, refl)
changed_alike true t s (add p c) = (refl, refl, refl)
changed_alike true t s (remove p) = (refl, refl, refl)
changed_alike true t s (contains p) = (refl, refl, refl)
changed_alike true t s (nearest p) = (refl, refl, refl)

set_alike : (t : Table) (s i : ℕ) (c : Call) (a : Answer) → Alike t (set_down t s i c a)
unfolding set_down
set_alike t s i c a = changed_alike (is_change a) t s c

submit_alike : (t : Table) (s kind : ℕ) (p : Point) (c : ℕ) → Alike t (submit t s kind p c).next
unfolding submit enter
submit_alike t s kind p c =
    ask_all (λ r. Alike t r.next) (ltb s stations) 5 t _ (refl, refl, refl)
    (λ a. ask_all (λ r. Alike t r.next) (is_idle (t.stations s)) 6 t _ (refl, refl, refl)
    (λ b. ask_all (λ r. Alike t r.next) (kind_in_range kind) 7 t _ (refl, refl, refl)
    (λ d. ask_all (λ r. Alike t r.next) (in_range_by t.scale.rule p) 8 t _ (refl, refl, refl)
    (λ e. ask_all (λ r. Alike t r.next) (curve_fits kind c) 9 t _ (refl, refl, refl) (λ f. (refl, refl, refl))))))

take_alike : (t : Table) (s : ℕ) → Alike t (take t s).next
unfolding take take_at
take_alike t s = ask_all (λ r. Alike t r.next) (ltb s stations) 5 t _ (refl, refl, refl) (λ a. go (t.stations s))
  where
    go : (x : Station) → Alike t (take_at t s x).next
    go idle = (refl, refl, refl)
    go (unfinished i c o) = (refl, refl, refl)
    go (waiting a) = (refl, refl, refl)

retract_alike : (t : Table) (s : ℕ) → Alike t (retract t s).next
retract_alike t s = retract_all (λ r. Alike t r.next) t s (refl, refl, refl) (refl, refl, refl) (λ l i c o e. (refl, refl, refl))

pub finished_alike : (t : Table) (s : ℕ) (c : Call) (o : Option Answer) → Alike t (finished t s c o)
unfolding finished
finished_alike t s c (some a) = (refl, refl, refl)
finished_alike t s c none = changed_alike (is_change (answer_of t s c)) t s c

pub still_alike : (t : Table) (s : ℕ) → (still t s).next ≡ t
unfolding still still_at
still_alike t s = ask_all (λ r. r.next ≡ t) (ltb s stations) 5 t _ refl (λ a. go (t.stations s))
  where
    go : (x : Station) → (still_at t x).next ≡ t
    go idle = refl
    go (waiting a) = refl
    go (unfinished i c o) = refl

-- ---- one event

module _ {places limit : ℕ} {scale : Scale} where
  moved : {words : List ℕ} (t u : Table) → Sound u → Related words u → Alike t u → t.places ≡ places → t.limit ≡ limit → t.scale ≡ scale → Stands words places limit scale
  moved t u h r a p m c = record { table = u; sound = h; related = r; places_same = a.0 ∙ p; limit_same = a.1 ∙ m; scale_same = a.2 ∙ c }

  -- each unfinished nearest has its moment
  pub settled_stands : {words : List ℕ} → (w : Stands words places limit scale) → (v : Stands words places limit scale) × Settled v.table
  unfolding moved
  settled_stands {words} w =
      let t = w.table in
      let k = settle_keeps (λ u. Sound u × (Related words u × Alike t u))
      (λ u s i c l g e x. (sound_set u s i c l e x.0, (related_settles x.0 l g e x.1.0, alike_trans t u (set_down u s i c (answer_of u s c)) x.1.1 (set_alike u s i c (answer_of u s c))))) t
      (w.sound, (w.related, (refl, refl, refl))) in
      (moved t (settle eight t) k.0 k.1.0 k.1.1 w.places_same w.limit_same w.scale_same, settled t)
    where
      alike_trans : (t u v : Table) → Alike t u → Alike u v → Alike t v
      alike_trans t u v a b = (b.0 ∙ a.0, b.1 ∙ a.1, b.2 ∙ a.2)

  stepped : {words : List ℕ} (s : ℕ) (w : Stands words places limit scale) → Settled w.table → (b : Bool) → answered word_index words (single_step s) ≡ b → Stands (step_of words s).words places limit scale
  stepped {words} s w k false e =
      let t = w.table in
      let m = stills s w.sound k w.related e in
      moved t t w.sound (rw (still_alike t s) at m.next) (refl, refl, refl) w.places_same w.limit_same w.scale_same
  stepped {words} s w k true e =
      let t = w.table in
      let m = answers s w.sound k w.related e in
      moved t (finished t s m.call m.set) (finished_sound t s m.identity m.call m.set w.sound m.station m.is) m.matches.next (finished_alike t s m.call m.set) w.places_same w.limit_same w.scale_same

  pub event_stands : {words : List ℕ} (ev : Event) → Stands words places limit scale → Stands (reply word_index words ev).next places limit scale
  unfolding reply
  event_stands {words} (submission s kind p c) w =
      let t = w.table in
      moved t (submit t s kind p c).next (sound_submit t s kind p c w.sound) (related_submits s kind p c w.sound w.related).next (submit_alike t s kind p c) w.places_same w.limit_same w.scale_same
  event_stands {words} (taking s) w =
      let t = w.table in
      moved t (take t s).next (sound_take t s w.sound) (related_takes s w.sound w.related).next (take_alike t s) w.places_same w.limit_same w.scale_same
  event_stands {words} (withdrawal s) w =
      let t = w.table in
      moved t (retract t s).next (sound_retract t s w.sound) (related_withdraws s w.sound w.related).next (retract_alike t s) w.places_same w.limit_same w.scale_same
  event_stands {words} (single_step s) w =
      let v = settled_stands w in
      stepped s v.0 v.1 (answered word_index words (single_step s)) refl

  pub history_stands : (evs : List Event) {words : List ℕ} → Stands words places limit scale → Stands (after evs words) places limit scale
  unfolding after
  history_stands [] w = w
  history_stands (ev ∷ evs) w = history_stands evs (event_stands ev w)

opened_places : (places limit : ℕ) (scale : Scale) → (opened places limit scale).places ≡ places
unfolding opened
opened_places places limit scale = refl

opened_limit : (places limit : ℕ) (scale : Scale) → (opened places limit scale).limit ≡ limit
unfolding opened
opened_limit places limit scale = refl

opened_scale : (places limit : ℕ) (scale : Scale) → (opened places limit scale).scale ≡ scale
unfolding opened
opened_scale places limit scale = refl

-- After every history.
pub history_related : (words : List ℕ) (places limit : ℕ) (scale : Scale) → Accepted words places limit scale → (evs : List Event) → Stands (after evs (opened_words words places limit scale)) places limit scale
history_related words places limit scale a evs = history_stands evs (begun a)
  where
    begun : Accepted words places limit scale → Stands (opened_words words places limit scale) places limit scale
    begun a =
        record { table = opened places limit scale; sound = sound_opened places limit scale; related = related_open words places limit scale a.places_in_lem a.limit_in_lem a.rule_in_lem a.factors_in_lem a.long; places_same = opened_places places limit scale; limit_same = opened_limit places limit scale; scale_same = opened_scale places limit scale }
