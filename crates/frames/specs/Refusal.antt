-- The refusals of a frame (Rules 7.1, 7.18): the number of the first question that it fails.
use Rattle.std.specs.Prelude.{ℕ, Result, Ok, Err}
use Rattle.frames.specs.declared.refusal.FrameRefusal.{FrameRefusal}
use Rattle.frames.specs.declared.refusal.FrameRefusal.TheVariants.{NotWhole, NoKind, WrongLength}
use Rattle.frames.specs.Shape as shape

-- the number of a refusal
abbrev pub number_of : FrameRefusal → ℕ
number_of NotWhole = shape.not_whole
number_of NoKind = shape.no_kind
number_of WrongLength = shape.wrong_length

-- the number of what a frame comes to (Rules 7.1): that of its refusal, or 0
abbrev pub number_told : {A : Type 0} → Result A FrameRefusal → ℕ
number_told (Ok _) = 0
number_told (Err refusal) = number_of refusal
