-- Rules 9.6, "fields of exactly these widths": the bounds that the types of the fields give them. `mag z` is n both for n and for −1 − n.
use Rattle.std.specs.Prelude.{◌<◌, List, [], ◌∷◌}
use Rattle.std.specs.Int.Signed.{mag}
use Rattle.frames.specs.declared.frame.Submission.{Submission}
use Rattle.frames.specs.declared.frame.Factors.{Factors}
use Rattle.frames.specs.declared.frame.Frame.{Frame}
use Rattle.frames.specs.declared.frame.Frame.TheVariants.{Open, Submit, Step, Take, Run, OpenScaled, OpenRuled, Withdraw}

-- every field of a submission is of its width
pub record SubmissionInWidth (s : Submission) : Type 0 where
  pub station : s.station < 256
  pub kind : s.kind < 256
  pub grade : s.grade < 65536
  pub weight : mag s.weight < 2147483648
  pub moisture : mag s.moisture < 2147483648
  pub speed : mag s.speed < 2147483648
  pub draw : mag s.draw < 2147483648
  pub curve : s.curve < 4294967296

-- every factor of an opening is of its width
pub record FactorsInWidth (f : Factors) : Type 0 where
  pub weight : f.weight < 65536
  pub moisture : f.moisture < 65536
  pub speed : f.speed < 65536
  pub draw : f.draw < 65536

-- every field of the frame is of its width
abbrev pub InWidth : Frame → Type 0
InWidth (Open places limit) = (places < 65536) × (limit < 4294967296)
InWidth (Submit s) = SubmissionInWidth s
InWidth (Step station) = station < 256
InWidth (Take station) = station < 256
InWidth (Run station) = station < 256
InWidth (OpenScaled places limit factors) = (places < 65536) × (limit < 4294967296) × FactorsInWidth factors
InWidth (OpenRuled places limit factors rule) = (places < 65536) × (limit < 4294967296) × FactorsInWidth factors × (rule < 256)
InWidth (Withdraw station) = station < 256

-- every field of every frame of the list
abbrev pub AllInWidth : List Frame → Type 0
AllInWidth [] = Unit
AllInWidth (f ∷ fs) = InWidth f × AllInWidth fs
