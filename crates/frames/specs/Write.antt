-- Writing a frame (Rules 9.6): "28 bytes, unused ones zero, with the count used".
use Rattle.std.specs.Prelude.{ℕ, ◌-◌, cond, List, [], ◌∷◌, ◌++◌, length, replicate, eqb, Result, Ok, Err}
use Rattle.frames.specs.declared.frame.Submission.{Submission}
use Rattle.frames.specs.declared.frame.Factors.{Factors}
use Rattle.frames.specs.declared.frame.Frame.{Frame}
use Rattle.frames.specs.declared.frame.Frame.TheVariants.{Open, Submit, Step, Take, Run, OpenScaled, OpenRuled, Withdraw}
use Rattle.frames.specs.declared.write.Written.{Written}
use Rattle.frames.specs.declared.write.Fields.{Fields}
use Rattle.frames.specs.declared.refusal.FrameRefusal.{FrameRefusal}
use Rattle.frames.specs.declared.refusal.FrameRefusal.TheVariants.{NoKind}
use Rattle.numbers.specs.Bytes.{bytes_of}
use Rattle.numbers.specs.Signed.{unsigned_of}
use Rattle.frames.specs.Shape as shape

-- length and kind
unfoldable pub head_bytes : ℕ → List ℕ
head_bytes kind = bytes_of 2 (shape.length_of kind) ++ bytes_of 2 kind

-- an opening of this kind up to its limit
unfoldable pub open_start : ℕ → ℕ → ℕ → List ℕ
open_start kind places limit = head_bytes kind ++ (bytes_of 2 places ++ bytes_of 4 limit)

-- the factors of an opening
unfoldable pub factors_bytes : Factors → List ℕ
factors_bytes factors =
    bytes_of 2 factors.weight ++ (bytes_of 2 factors.moisture ++ (bytes_of 2 factors.speed ++ bytes_of 2 factors.draw))

-- an opening of this kind up to its factors
unfoldable pub scaled_start : ℕ → ℕ → ℕ → Factors → List ℕ
scaled_start kind places limit factors = open_start kind places limit ++ factors_bytes factors

-- a submission up to its grade
unfoldable pub submission_start : Submission → List ℕ
submission_start s = head_bytes shape.kind_submit ++ (s.station ∷ s.kind ∷ bytes_of 2 s.grade)

-- a submission's weight, moisture, speed, draw and curve
unfoldable pub submission_end : Submission → List ℕ
submission_end s =
    bytes_of 4 (unsigned_of s.weight)
    ++ (bytes_of 4 (unsigned_of s.moisture)
    ++ (bytes_of 4 (unsigned_of s.speed) ++ (bytes_of 4 (unsigned_of s.draw) ++ bytes_of 4 s.curve)))

-- the bytes of a frame
unfoldable pub frame_bytes : Frame → List ℕ
frame_bytes (Open places limit) = open_start shape.kind_open places limit
frame_bytes (Submit s) = submission_start s ++ submission_end s
frame_bytes (Step station) = head_bytes shape.kind_step ++ (station ∷ [])
frame_bytes (Take station) = head_bytes shape.kind_take ++ (station ∷ [])
frame_bytes (Run station) = head_bytes shape.kind_run ++ (station ∷ [])
frame_bytes (OpenScaled places limit factors) = scaled_start shape.kind_open_scaled places limit factors
frame_bytes (OpenRuled places limit factors rule) = scaled_start shape.kind_open_ruled places limit factors ++ (rule ∷ [])
frame_bytes (Withdraw station) = head_bytes shape.kind_withdraw ++ (station ∷ [])

-- with zeros behind, as many bytes as the longest frame has
unfoldable pub padded : List ℕ → List ℕ
padded bytes = bytes ++ replicate (shape.longest - length bytes) 0

-- the bytes, unused ones zero, with the count used
unfoldable pub written_bytes : List ℕ → Written
written_bytes bytes = record { bytes = padded bytes; count = length bytes }

-- a frame, written
unfoldable pub written_of : Frame → Written
written_of frame = written_bytes (frame_bytes frame)

-- these bytes, with the count that a frame of this kind uses
unfoldable pub counted : ℕ → List ℕ → Written
counted kind bytes = record { bytes = bytes; count = shape.size_of (shape.length_of kind) }

-- a frame of a station alone, written
unfoldable pub station_written : ℕ → ℕ → Written
station_written kind station = counted kind (padded (head_bytes kind ++ (station ∷ [])))

-- the submission of these fields
unfoldable pub submission_from : Fields → Submission
submission_from fields = record {
  station = fields.station;
  kind = fields.call;
  grade = fields.grade;
  weight = fields.weight;
  moisture = fields.moisture;
  speed = fields.speed;
  draw = fields.draw;
  curve = fields.curve;
}

-- the frame of a kind with its own of these fields; any number but the first seven kinds is taken for a withdrawal's
unfoldable pub frame_from : ℕ → Fields → Frame
frame_from kind fields =
    cond (eqb kind shape.kind_open) (Open fields.places fields.limit)
    (cond (eqb kind shape.kind_submit) (Submit (submission_from fields))
    (cond (eqb kind shape.kind_step) (Step fields.station)
    (cond (eqb kind shape.kind_take) (Take fields.station)
    (cond (eqb kind shape.kind_run) (Run fields.station)
    (cond (eqb kind shape.kind_open_scaled) (OpenScaled fields.places fields.limit fields.factors)
    (cond (eqb kind shape.kind_open_ruled) (OpenRuled fields.places fields.limit fields.factors fields.rule)
    (Withdraw fields.station)))))))

-- Rules 9.6: "The writer takes a kind (question 14) and fields of exactly these widths"
unfoldable pub write_of : ℕ → Fields → Result Written FrameRefusal
write_of kind fields = cond (shape.is_kind kind) (Ok (written_of (frame_from kind fields))) (Err NoKind)

-- the bytes of a writing (Rules 9.6): "where it is refused all are zero and the count is 0"
abbrev pub written_told : Result Written FrameRefusal → Written
written_told (Ok written) = written
written_told (Err refusal) = written_bytes []
