-- A submission: a related slice refuses what the table refuses, and with the call unfinished it stays related (`related_submits`).
use Prim.Native.Nat.{ℕ, ◌<◌}
use mathlib.Core.Path.{◌≡◌, refl, sym, ◌∙◌, ap}
use mathlib.Core.Bool.{Bool, true, false, ◌&&◌}
use mathlib.Core.List.{List}
use native.Mathlib.Omega.{arith}
use lib.Dec.{eqb, leb, ltb}
use borrow.Author.Tests.{ltb-true, leb-true, le-leb, eq-eqb, ne_eqb}
use Rattle.words.specs.Layout.{stations}
use Rattle.points.specs.declared.point.Point.{Point}
use Rattle.points.specs.Number.{in_range_by}
use Rattle.words.specs.Rule.{rule_at}
use Rattle.words.specs.Range.{curve_in}
use Rattle.stations.specs.Station.{is_idle as idle_state, state_at}
use Rattle.words.proofs.RangeLaws.{curve_in_lem, curve_tells}
use Rattle.table.specs.Record.{curve_in_range}
use Rattle.table.specs.Call.{kind_in_range}
use Rattle.table.specs.Table.{Station, idle, unfinished, waiting, Table}
use Rattle.table.specs.Event.{Reply, ask, is_idle, curve_fits, submit}
use Rattle.table.proofs.Tests.{and_left, and_right}
use Rattle.table.proofs.Sound.{Sound}
use Rattle.table.proofs.Simulation.{Matches}
use Rattle.calls.specs.Reply.{Reply as WordReply, ask as ask_words}
use Rattle.calls.specs.Submit.{curve_fits as curve_fits_words, submit_of}
use Rattle.stations.specs.Call.{kind_in}
use Rattle.history.specs.Index.{reply_of, word_index}
use Rattle.history.specs.View.{seat_at}
use Rattle.history.specs.Related.{Related}
use Rattle.history.proofs.RelatedLaws.{related_rule, related_passes, related_idle, related_busy, related_waits}
use Rattle.history.proofs.Submitted.{related_submitted}

-- ---- the questions

-- the curves in range are the table's
curve_same : (c : ℕ) → curve_in c ≡ curve_in_range c
unfolding curve_in_range
curve_same c = go (curve_in c) refl (leb 1 c && leb c 999999) refl
  where
    go : (a : Bool) → curve_in c ≡ a → (b : Bool) → (leb 1 c && leb c 999999) ≡ b → a ≡ b
    go true e true f = refl
    go false e false f = refl
    go true e false f = let w = curve_tells c e in sym (sym f ∙ rw (le-leb 1 c w.0, le-leb c 999999 w.1))
    go false e true f = sym e ∙ curve_in_lem c (leb-true 1 c (and_left (leb 1 c) (leb c 999999) f)) (leb-true c 999999 (and_right (leb 1 c) (leb c 999999) f))

-- and so is question 9
fits_same : (kind c : ℕ) → curve_fits_words kind c ≡ curve_fits kind c
unfolding curve_fits
fits_same kind c = rw (curve_same c)

-- the station is idle exactly if the table's is
idle_same : {words : List ℕ} {t : Table} (s : ℕ) → Related words t → s < stations → idle_state (state_at words s) ≡ is_idle (t.stations s)
unfolding is_idle seat_at
idle_same {words} {t} s r l = go (t.stations s) refl
  where
    go : (x : Station) → t.stations s ≡ x → eqb (state_at words s).word 0 ≡ is_idle x
    go idle e = eq-eqb (state_at words s).word 0 (related_idle r l e).state
    go (unfinished i c o) e = ne_eqb (state_at words s).word 0 (λ f. omega (arith, (related_busy r l e).state))
    go (waiting a) e = ne_eqb (state_at words s).word 0 (λ f. omega (arith, (related_waits r l e).state))

-- a question that passes or fails alike
asked : {words : List ℕ} {t : Table} (a b : Bool) (n : ℕ) (reply : WordReply) (q : Reply Table) → Related words t → a ≡ b → (b ≡ true → Matches word_index Related (reply_of reply) q)
    → Matches word_index Related (reply_of (ask_words a n words reply)) (ask b n t q)
asked true true n reply q r e f = f refl
asked false false n reply q r e f = record { number = refl; given = refl; next = r }
asked true false n reply q r e f = let z : ◌≡◌ {A = ℕ} 0 1 = cc in absurd (omega arith)
asked false true n reply q r e f = let z : ◌≡◌ {A = ℕ} 0 1 = cc in absurd (omega arith)

-- A submission is refused by the same question or leaves the call unfinished on both sides.
pub related_submits : {words : List ℕ} {t : Table} (s kind : ℕ) (p : Point) (c : ℕ) → Sound t → Related words t
    → Matches word_index Related (word_index.submit words s kind p c) (submit t s kind p c)
unfolding submit_of submit kind_in_range
related_submits {words} {t} s kind p c h r =
    rw (related_passes r)
    (asked (ltb s stations) (ltb s stations) 5 _ _ r refl (λ l.
    asked (idle_state (state_at words s)) (is_idle (t.stations s)) 6 _ _ r (idle_same s r (ltb-true s stations l)) (λ i.
    asked (kind_in kind) (kind_in_range kind) 7 _ _ r refl (λ k.
    asked (in_range_by (rule_at words) p) (in_range_by t.scale.rule p) 8 _ _ r (ap (λ k. in_range_by k p) (related_rule r)) (λ ranged.
    asked (curve_fits_words kind c) (curve_fits kind c) 9 _ _ r (fits_same kind c) (λ fits.
    record { number = refl; given = refl; next = related_submitted s kind p c h r (ltb-true s stations l) k ranged (fits_same kind c ∙ fits) }))))))
