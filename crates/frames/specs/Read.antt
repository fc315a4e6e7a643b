-- Reading a frame (Rules 9): questions 13 to 15 (Rules 7.18). `rest` is the bytes from the position on.
use Rattle.std.specs.Prelude.{ℕ, ◌+◌, Bool, cond, ◌&&◌, List, length, get_or, drop, eqb, leb, ltb, Option, Some, None, Result, Ok, Err}
use Rattle.frames.specs.declared.frame.Submission.{Submission}
use Rattle.frames.specs.declared.frame.Factors.{Factors}
use Rattle.frames.specs.declared.frame.Frame.{Frame}
use Rattle.frames.specs.declared.frame.Frame.TheVariants.{Open, Submit, Step, Take, Run, OpenScaled, OpenRuled, Withdraw}
use Rattle.frames.specs.declared.shape.Kind.{Kind}
use Rattle.frames.specs.declared.refusal.FrameRefusal.{FrameRefusal}
use Rattle.frames.specs.declared.refusal.FrameRefusal.TheVariants.{NotWhole, NoKind, WrongLength}
use Rattle.numbers.specs.Bytes.{number_at}
use Rattle.numbers.specs.Signed.{signed_of}
use Rattle.frames.specs.Shape as shape
use Rattle.frames.specs.Kind.{kind_of}
use Rattle.frames.specs.Refusal.{number_told}

-- a frame and the position after it, or the refusal, where there is a byte
abbrev pub Reading : Type 0
Reading = Option (Result (Frame × ℕ) FrameRefusal)

-- Rules 9.2: "two bytes of length, which counts what follows them"
abbrev pub length_in : List ℕ → ℕ
length_in rest = number_at 2 rest shape.at_length

-- Rules 9.2: "then a kind of two bytes"
abbrev pub kind_in : List ℕ → ℕ
kind_in rest = number_at 2 rest shape.at_kind

-- Rules 7.1, question 13: "Are both length bytes and all the bytes that they count there?"
unfoldable pub is_whole : List ℕ → Bool
is_whole rest = leb 2 (length rest) && leb (shape.size_of (length_in rest)) (length rest)

-- Rules 7.1, question 14: "Is there a kind, 1 to 8?"; there is none "also for the lengths 0 and 1" (Rules 7.18)
unfoldable pub has_kind : List ℕ → Bool
has_kind rest = leb 2 (length_in rest) && shape.is_kind (kind_in rest)

-- the kind that question 14 finds, with its number
unfoldable pub kind_asked : List ℕ → Result Kind FrameRefusal
kind_asked rest = cond (leb 2 (length_in rest)) (kind_of (kind_in rest)) (Err NoKind)

-- Rules 7.1, question 15: "Is the length that kind's own?"
unfoldable pub own_length : List ℕ → Bool
own_length rest = eqb (length_in rest) (shape.length_of (kind_in rest))

-- Rules 9.3: "station 1, call kind 1, grade 2, weight, moisture, speed, draw 4 each, signed, curve 4"
unfoldable pub submission_in : List ℕ → Submission
submission_in rest = record {
  station = get_or rest shape.at_station 0;
  kind = get_or rest shape.at_call 0;
  grade = number_at 2 rest shape.at_grade;
  weight = signed_of (number_at 4 rest shape.at_weight);
  moisture = signed_of (number_at 4 rest shape.at_moisture);
  speed = signed_of (number_at 4 rest shape.at_speed);
  draw = signed_of (number_at 4 rest shape.at_draw);
  curve = number_at 4 rest shape.at_curve;
}

-- Rules 9.3: "factors of weight, moisture, speed, draw 2 each"
unfoldable pub factors_at : List ℕ → Factors
factors_at rest = record {
  weight = number_at 2 rest shape.at_weight_factor;
  moisture = number_at 2 rest shape.at_moisture_factor;
  speed = number_at 2 rest shape.at_speed_factor;
  draw = number_at 2 rest shape.at_draw_factor;
}

-- the frame of a kind; any number but the first seven kinds is taken for a withdrawal's
unfoldable pub frame_in : ℕ → List ℕ → Frame
frame_in kind rest =
    cond (eqb kind shape.kind_open) (Open (number_at 2 rest shape.at_places) (number_at 4 rest shape.at_limit))
    (cond (eqb kind shape.kind_submit) (Submit (submission_in rest))
    (cond (eqb kind shape.kind_step) (Step (get_or rest shape.at_station 0))
    (cond (eqb kind shape.kind_take) (Take (get_or rest shape.at_station 0))
    (cond (eqb kind shape.kind_run) (Run (get_or rest shape.at_station 0))
    (cond (eqb kind shape.kind_open_scaled) (OpenScaled (number_at 2 rest shape.at_places) (number_at 4 rest shape.at_limit) (factors_at rest))
    (cond (eqb kind shape.kind_open_ruled)
    (OpenRuled (number_at 2 rest shape.at_places) (number_at 4 rest shape.at_limit) (factors_at rest) (get_or rest shape.at_rule 0))
    (Withdraw (get_or rest shape.at_station 0))))))))

-- the first of questions 13 to 15 that fails, or 0
unfoldable pub frame_question : List ℕ → ℕ
frame_question rest = cond (is_whole rest) (cond (has_kind rest) (cond (own_length rest) 0 shape.wrong_length) shape.no_kind) shape.not_whole

-- the frame with the position after it, or the first question that fails
unfoldable pub read_rest : List ℕ → ℕ → Result (Frame × ℕ) FrameRefusal
read_rest rest at =
    cond (is_whole rest)
    (cond (has_kind rest)
    (cond (own_length rest) (Ok (frame_in (kind_in rest) rest, at + shape.size_of (length_in rest))) (Err WrongLength))
    (Err NoKind))
    (Err NotWhole)

-- what reading at a position finds
unfoldable pub read_of : List ℕ → ℕ → Reading
read_of bytes at = cond (ltb at (length bytes)) (Some (read_rest (drop at bytes) at)) None

-- the position after a reading, whatever its refusal: "a refusal does not move it" (Rules 9.5)
abbrev pub position_after : {R : Type 0} → Option (Result (Frame × ℕ) R) → ℕ → ℕ
position_after (Some (Ok read)) at = read.1
position_after (Some (Err refusal)) at = at
position_after None at = at

-- the number of a reading: that of a refusal, else 0 (Rules 7.1)
abbrev pub reading_number : Reading → ℕ
reading_number (Some result) = number_told result
reading_number None = 0
