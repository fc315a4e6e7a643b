-- Every byte string has a reading, by the one condition that holds (`outcome`, `outcome_only`); a frame that is read ends past its start and within
-- the bytes (`read_moves`). Assumes nothing.
use mathlib.Core.Path.{◌≡◌, refl, sym, ap}
use mathlib.Core.Bool.{Bool, true, false}
use mathlib.Core.List.{List}
use Prim.Native.Nat.{ℕ, ◌+◌, ◌≤◌, ◌<◌}
use native.Mathlib.Omega.{arith}
use lib.ListN.{length, drop, length-drop}
use lib.Dec.{ltb}
use borrow.Author.Tests.{lt-ltb, le-ltb, ltb-true, ltb-false}
use Rattle.frames.specs.declared.frame.Frame.{Frame}
use Rattle.std.specs.Prelude.{Some, None, Ok, Err}
use Rattle.frames.specs.declared.refusal.FrameRefusal.TheVariants.{NotWhole, NoKind, WrongLength}
use Rattle.frames.specs.Shape as shape
use Rattle.frames.specs.Read.{length_in, kind_in, is_whole, has_kind, own_length, frame_in, frame_question, read_rest, read_of, reading_number, Reading}
use Rattle.frames.specs.Outcome.{Passes, Outcome, ended, fails13, fails14, fails15, passes}
use Rattle.frames.proofs.QuestionLaws.{whole_there}

-- what is read where every question is answered yes
pub read_passes : (rest : List ℕ) (at : ℕ) → Passes rest → read_rest rest at ≡ Ok (frame_in (kind_in rest) rest, at + shape.size_of (length_in rest))
unfolding read_rest
read_passes rest at p = simp (p.whole, p.kind, p.own)

module _ (bytes : List ℕ) (at : ℕ) (within : at < length bytes) where
  -- each condition has its reading
  pub fails_13 : is_whole (drop at bytes) ≡ false → read_of bytes at ≡ Some (Err NotWhole)
  unfolding read_of read_rest
  fails_13 w = simp (lt-ltb at (length bytes) within, w)

  pub fails_14 : is_whole (drop at bytes) ≡ true → has_kind (drop at bytes) ≡ false → read_of bytes at ≡ Some (Err NoKind)
  unfolding read_of read_rest
  fails_14 w k = simp (lt-ltb at (length bytes) within, w, k)

  pub fails_15 : is_whole (drop at bytes) ≡ true → has_kind (drop at bytes) ≡ true → own_length (drop at bytes) ≡ false → read_of bytes at ≡ Some (Err WrongLength)
  unfolding read_of read_rest
  fails_15 w k o = simp (lt-ltb at (length bytes) within, w, k, o)

  pub reads : Passes (drop at bytes) → read_of bytes at ≡ Some (Ok (frame_in (kind_in (drop at bytes)) (drop at bytes), at + shape.size_of (length_in (drop at bytes))))
  unfolding read_of
  reads p = simp (lt-ltb at (length bytes) within) (ap Some (read_passes (drop at bytes) at p))

  own_outcome : (o : Bool) → is_whole (drop at bytes) ≡ true → has_kind (drop at bytes) ≡ true → own_length (drop at bytes) ≡ o → Outcome bytes at (read_of bytes at)
  own_outcome true w k o =
      let p : Passes (drop at bytes) = record { whole = w; kind = k; own = o } in
      rw (reads p) (passes within p)
  own_outcome false w k o = rw (fails_15 w k o) (fails15 within w k o)

  kind_outcome : (k : Bool) → is_whole (drop at bytes) ≡ true → has_kind (drop at bytes) ≡ k → Outcome bytes at (read_of bytes at)
  kind_outcome true w k = own_outcome (own_length (drop at bytes)) w k refl
  kind_outcome false w k = rw (fails_14 w k) (fails14 within w k)

  whole_outcome : (w : Bool) → is_whole (drop at bytes) ≡ w → Outcome bytes at (read_of bytes at)
  whole_outcome true w = kind_outcome (has_kind (drop at bytes)) w refl
  whole_outcome false w = rw (fails_13 w) (fails13 within w)

-- no byte is left
pub ends : (bytes : List ℕ) (at : ℕ) → length bytes ≤ at → read_of bytes at ≡ None
unfolding read_of
ends bytes at h = simp (le-ltb at (length bytes) h)

-- the reading at every position of every list, with the condition that it has
pub outcome : (bytes : List ℕ) (at : ℕ) → Outcome bytes at (read_of bytes at)
outcome bytes at = go (ltb at (length bytes)) refl
  where
    go : (b : Bool) → ltb at (length bytes) ≡ b → Outcome bytes at (read_of bytes at)
    go true e = let within = ltb-true at (length bytes) e in whole_outcome bytes at within (is_whole (drop at bytes)) refl
    go false e = let over = ltb-false at (length bytes) e in rw (ends bytes at over) (ended over)

-- a reading whose condition holds is the reading
pub outcome_only : {bytes : List ℕ} {at : ℕ} {reading : Reading} → Outcome bytes at reading → read_of bytes at ≡ reading
outcome_only {bytes} {at} (ended h) = ends bytes at h
outcome_only {bytes} {at} (fails13 h w) = fails_13 bytes at h w
outcome_only {bytes} {at} (fails14 h w k) = fails_14 bytes at h w k
outcome_only {bytes} {at} (fails15 h w k o) = fails_15 bytes at h w k o
outcome_only {bytes} {at} (passes h p) = reads bytes at h p

-- what a frame that was read says of the bytes
pub record WasRead (bytes : List ℕ) (at : ℕ) (frame : Frame) (next : ℕ) : Type 0 where
  pub within : at < length bytes
  pub questions : Passes (drop at bytes)
  pub the_frame : frame ≡ frame_in (kind_in (drop at bytes)) (drop at bytes)
  pub the_next : next ≡ at + shape.size_of (length_in (drop at bytes))

-- frames that are read alike are the same, and so are the positions after them
pub same_read : {f g : Frame} {m n : ℕ} → ◌≡◌ {A = Reading} (Some (Ok (f, m))) (Some (Ok (g, n))) → (f ≡ g) × (m ≡ n)
same_read {f} {g} {m} {n} e =
    let p : ◌≡◌ {A = Frame × ℕ} (f, m) (g, n) = cc in
    (ap (λ (x : Frame × ℕ). x.0) p, ap (λ (x : Frame × ℕ). x.1) p)

was_read_of : {bytes : List ℕ} {at : ℕ} {reading : Reading} {frame : Frame} {next : ℕ} → Outcome bytes at reading → reading ≡ Some (Ok (frame, next)) → WasRead bytes at frame next
was_read_of (ended h) e = let z : ◌≡◌ {A = ℕ} 0 1 = cc in absurd (omega arith)
was_read_of (fails13 h w) e = let z : ◌≡◌ {A = ℕ} 0 1 = cc in absurd (omega arith)
was_read_of (fails14 h w k) e = let z : ◌≡◌ {A = ℕ} 0 1 = cc in absurd (omega arith)
was_read_of (fails15 h w k o) e = let z : ◌≡◌ {A = ℕ} 0 1 = cc in absurd (omega arith)
was_read_of (passes h p) e = let r = same_read e in record { within = h; questions = p; the_frame = sym r.0; the_next = sym r.1 }

pub was_read : (bytes : List ℕ) (at : ℕ) {frame : Frame} {next : ℕ} → read_of bytes at ≡ Some (Ok (frame, next)) → WasRead bytes at frame next
was_read bytes at e = was_read_of (outcome bytes at) e

-- the next position lies past this one and not past the end
pub read_moves : (bytes : List ℕ) (at : ℕ) {frame : Frame} {next : ℕ} → read_of bytes at ≡ Some (Ok (frame, next)) → (at < next) × (next ≤ length bytes)
read_moves bytes at e =
    let r = was_read bytes at e in
    let there = whole_there (drop at bytes) r.questions.whole in
    (omega arith, omega (arith, length-drop at bytes))

-- the number of a reading is that of the first question that fails
number_of : {bytes : List ℕ} {at : ℕ} {reading : Reading} → Outcome bytes at reading → at < length bytes → reading_number reading ≡ frame_question (drop at bytes)
unfolding frame_question
number_of (ended h) within = absurd (omega arith)
number_of (fails13 h w) within = simp w
number_of (fails14 h w k) within = simp (w, k)
number_of (fails15 h w k o) within = simp (w, k, o)
number_of (passes h p) within = simp (p.whole, p.kind, p.own)

pub reading_number_lem : (bytes : List ℕ) (at : ℕ) → at < length bytes → reading_number (read_of bytes at) ≡ frame_question (drop at bytes)
reading_number_lem bytes at within = number_of (outcome bytes at) within
