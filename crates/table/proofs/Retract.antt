-- A withdrawal on a table whose searches have their answers set down early: it forgets what is set down (`retract`). With that answer forgotten before it
-- the table's own withdrawal is defined and says the same (`withdraw_trim`).
use mathlib.Core.Path.{◌≡◌, refl, sym, ◌∙◌, ap, fun_ext}
use mathlib.Core.Bool.{Bool, true, false}
use mathlib.Core.Option.{Option, some}
use Prim.Native.Nat.{ℕ, ◌≤◌, ◌<◌}
use native.Mathlib.Omega.{arith}
use native.Mathlib.Decide.{ℕ_discrete}
use lib.Dec.{ltb}
use borrow.Author.Tests.{ltb-true, ltb-false}
use Rattle.table.specs.Call.{Call, Answer, withdrawn_answer}
use Rattle.table.specs.Table.{Station, idle, unfinished, waiting, Table, put, with_stations}
use Rattle.table.specs.Event.{Reply, accept, refuse, ask, withdraw_at, withdraw}
use Rattle.table.proofs.Sound.{Sound}
use Rattle.table.proofs.Reached.{ask_all, sound_wait}
use Rattle.table.proofs.Trim.{forget, keep_if, kept, trim, station_trim, keep_idle, keep_waiting, put_trim, trim_reply, ask_trim, put_waiting}

-- the station's call is answered 11, whatever is set down for it
unfoldable pub retract_at : Table → ℕ → Station → Reply Table
retract_at t s idle = refuse 10 t
retract_at t s (waiting a) = refuse 10 t
retract_at t s (unfinished i c o) = accept (with_stations t (put t.stations s (waiting (withdrawn_answer c))))

unfoldable pub retract : Table → ℕ → Reply Table
retract t s = ask (ltb s 8) 5 t (retract_at t s (t.stations s))

-- what holds of a refusal, and of the answer 11 that waits where an unfinished call was, holds of the reply
pub retract_all : (P : Reply Table → Type 0) (t : Table) (s : ℕ) → P (refuse 5 t) → P (refuse 10 t)
    → (s < 8 → (i : ℕ) (c : Call) (o : Option Answer) → t.stations s ≡ unfinished i c o → P (accept (with_stations t (put t.stations s (waiting (withdrawn_answer c))))))
    → P (retract t s)
unfolding retract retract_at
retract_all P t s five ten waits = ask_all P (ltb s 8) 5 t _ five (λ l. go (ltb-true s 8 l) (t.stations s) refl)
  where
    go : s < 8 → (x : Station) → t.stations s ≡ x → P (retract_at t s x)
    go l idle e = ten
    go l (waiting a) e = ten
    go l (unfinished i c o) e = waits l i c o e

pub sound_retract : (t : Table) (s : ℕ) → Sound t → Sound (retract t s).next
sound_retract t s h = retract_all (λ r. Sound r.next) t s h h (λ l i c o e. sound_wait t s (withdrawn_answer c) l h)

-- ## With answers forgotten

-- whether the answer of a station is seen makes no difference where none is set down
trim_off : (seen before : ℕ → Bool) (t : Table) (s : ℕ) → ((u : ℕ) → ¬ (u ≡ s) → before u ≡ seen u) → ((b : Bool) → keep_if b (t.stations s) ≡ t.stations s)
    → trim before t ≡ trim seen t
unfolding trim kept
trim_off seen before t s e k = ap (λ (f : ℕ → Station). with_stations t f) (fun_ext (λ u. elim (ℕ_discrete u s) [
  | yes q ↦ rw q (k (before s) ∙ sym (k (seen s)))
  | no n ↦ rw (e u n)
]))

-- before a withdrawal the answer of its call is not seen, after it the station has none set down
pub withdraw_trim : (seen before : ℕ → Bool) (t : Table) (s : ℕ) → ((u : ℕ) → ¬ (u ≡ s) → before u ≡ seen u) → before s ≡ false → (8 ≤ s → t.stations s ≡ idle)
    → withdraw (trim before t) s ≡ some (trim_reply seen (retract t s))
unfolding withdraw retract withdraw_at retract_at trim_reply trim keep_if forget
withdraw_trim seen before t s e f outside = go (ltb s 8) refl (t.stations s) refl
  where
    still : (n : ℕ) → ((b : Bool) → keep_if b (t.stations s) ≡ t.stations s)
        → ◌≡◌ {A = Option (Reply Table)} (some (refuse n (trim before t))) (some (trim_reply seen (refuse n t)))
    still n k = ap (λ (u : Table). some (refuse n u)) (trim_off seen before t s e k)

    go : (b : Bool) → ltb s 8 ≡ b → (x : Station) → t.stations s ≡ x
        → withdraw_at (trim before t) s b ((trim before t).stations s) ≡ some (trim_reply seen (ask b 5 t (retract_at t s x)))
    go false l x q = still 5 (λ b. rw (outside (omega (arith, ltb-false s 8 l))) (keep_idle b))
    go true l idle q = rw (station_trim before t s, q, keep_idle (before s)) (still 10 (λ b. rw q (keep_idle b)))
    go true l (waiting a) q = rw (station_trim before t s, q, keep_waiting (before s) a) (still 10 (λ b. rw q (keep_waiting b a)))
    go true l (unfinished i c o) q = rw (station_trim before t s, q, f, keep_if, forget, withdraw_at)
        (ap (λ (g : ℕ → Station). some (accept (with_stations t g))) (put_waiting seen before t.stations s (withdrawn_answer c) e))

-- a withdrawal that forgets, on a table where answers are forgotten
pub retract_trim : (seen : ℕ → Bool) (t : Table) (s : ℕ) → retract (trim seen t) s ≡ trim_reply seen (retract t s)
unfolding retract retract_at keep_if forget trim_reply
retract_trim seen t s = ask_trim seen (ltb s 8) 5 t _ _ (ap (retract_at (trim seen t) s) (station_trim seen t s) ∙ go (seen s) (t.stations s))
  where
    go : (b : Bool) (x : Station) → retract_at (trim seen t) s (keep_if b x) ≡ trim_reply seen (retract_at t s x)
    go true idle = refl
    go false idle = refl
    go true (waiting a) = refl
    go false (waiting a) = refl
    go true (unfinished i c o) = rw (put_trim seen t s (waiting (withdrawn_answer c)) (keep_waiting (seen s) (withdrawn_answer c)))
    go false (unfinished i c o) = rw (put_trim seen t s (waiting (withdrawn_answer c)) (keep_waiting (seen s) (withdrawn_answer c)))
