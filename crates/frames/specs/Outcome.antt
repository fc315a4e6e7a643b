-- What the reading at a position is, by conditions of which exactly one holds.
use Rattle.std.specs.Prelude.{ℕ, ◌+◌, ◌≤◌, ◌<◌, ◌≡◌, true, false, List, length, drop, Some, None, Ok, Err}
use Rattle.frames.specs.declared.refusal.FrameRefusal.TheVariants.{NotWhole, NoKind, WrongLength}
use Rattle.frames.specs.Shape as shape
use Rattle.frames.specs.Read.{length_in, kind_in, is_whole, has_kind, own_length, frame_in, Reading}

-- questions 13, 14 and 15 are answered yes
pub record Passes (rest : List ℕ) : Type 0 where
  pub whole : is_whole rest ≡ true
  pub kind : has_kind rest ≡ true
  pub own : own_length rest ≡ true

-- no byte is left; the first question that fails is 13, 14 or 15; or the frame is read, with the position past its length bytes and all that they count
pub data Outcome (bytes : List ℕ) (at : ℕ) : Reading → Type 0 where
  ended : length bytes ≤ at → Outcome bytes at None
  fails13 : at < length bytes → is_whole (drop at bytes) ≡ false → Outcome bytes at (Some (Err NotWhole))
  fails14 : at < length bytes → is_whole (drop at bytes) ≡ true → has_kind (drop at bytes) ≡ false → Outcome bytes at (Some (Err NoKind))
  fails15 : at < length bytes → is_whole (drop at bytes) ≡ true → has_kind (drop at bytes) ≡ true → own_length (drop at bytes) ≡ false
      → Outcome bytes at (Some (Err WrongLength))
  passes : at < length bytes → Passes (drop at bytes)
      → Outcome bytes at (Some (Ok (frame_in (kind_in (drop at bytes)) (drop at bytes), at + shape.size_of (length_in (drop at bytes)))))
