-- What a frame comes to on the words of an index (Rules 9.4), by the definitions of the calls.
use Rattle.std.specs.Prelude.{ℕ, zero, suc, List, pos, Option, Some, None, Result, Ok, Err}
use Rattle.points.specs.declared.point.Point.{Point}
use Rattle.points.specs.declared.scale.Scale.{Scale}
use Rattle.points.specs.Rule.{plain_rule}
use Rattle.points.specs.Scale.{plain_scale}
use Rattle.words.specs.declared.refusal.Refusal.{Refusal}
use Rattle.words.specs.Refusal.{number_of}
use Rattle.stations.specs.declared.answer.Answer.{Answer}
use Rattle.calls.specs.Reply.{Reply}
use Rattle.calls.specs.Open.{open_of}
use Rattle.calls.specs.Submit.{submit_of}
use Rattle.calls.specs.Step.{step_of}
use Rattle.calls.specs.Run.{run_of}
use Rattle.calls.specs.Take.{take_of, take_words}
use Rattle.calls.specs.Withdraw.{withdraw_of}
use Rattle.frames.specs.declared.frame.Submission.{Submission}
use Rattle.frames.specs.declared.frame.Factors.{Factors}
use Rattle.frames.specs.declared.frame.Frame.{Frame}
use Rattle.frames.specs.declared.frame.Frame.TheVariants.{Open, Submit, Step, Take, Run, OpenScaled, OpenRuled, Withdraw}

-- the point of a submission
unfoldable pub point_of : Submission → Point
point_of s = record { grade = pos s.grade; weight = s.weight; moisture = s.moisture; speed = s.speed; draw = s.draw }

-- a submission on the words
unfoldable pub submission_reply : List ℕ → Submission → Reply
submission_reply words s = submit_of words s.station s.kind (point_of s) s.curve

-- the scale of a rule and four factors
unfoldable pub scale_of : ℕ → Factors → Scale
scale_of rule factors = record { rule = rule; weight = factors.weight; moisture = factors.moisture; speed = factors.speed; draw = factors.draw }

-- what a frame gives: the answer, where its call takes one, or the number of the call's refusal
abbrev pub Outcome : Type 0
Outcome = Result (Option Answer) ℕ

-- what is given, with the number in place of the refusal (Rules 7.1); different refusals have different numbers, so that this says which it is
abbrev pub numbered : {A : Type 0} → Result A Refusal → Result A ℕ
numbered (Ok given) = Ok given
numbered (Err refusal) = Err (number_of refusal)

-- a call that takes no answer gives none where its number is 0, else its number
abbrev pub no_answer : ℕ → Outcome
no_answer zero = Ok None
no_answer (suc n) = Err (suc n)

-- what a taking gives
abbrev pub applied_of : Result Answer Refusal → Outcome
applied_of (Ok answer) = Ok (Some answer)
applied_of (Err refusal) = Err (number_of refusal)

-- what a frame gives on the words; a frame of kind 1 opens with rule 1 and four ones, one of kind 6 with rule 1 and its factors (Rules 9.3)
unfoldable pub apply_of : List ℕ → Frame → Outcome
apply_of words (Open places limit) = no_answer (open_of words places limit plain_scale).number
apply_of words (Submit s) = no_answer (submission_reply words s).number
apply_of words (Step station) = no_answer (step_of words station).number
apply_of words (Take station) = applied_of (take_of words station)
apply_of words (Run station) = no_answer (run_of words station).number
apply_of words (OpenScaled places limit factors) = no_answer (open_of words places limit (scale_of plain_rule factors)).number
apply_of words (OpenRuled places limit factors rule) = no_answer (open_of words places limit (scale_of rule factors)).number
apply_of words (Withdraw station) = no_answer (withdraw_of words station).number

-- the words that a frame leaves
unfoldable pub apply_words : List ℕ → Frame → List ℕ
apply_words words (Open places limit) = (open_of words places limit plain_scale).words
apply_words words (Submit s) = (submission_reply words s).words
apply_words words (Step station) = (step_of words station).words
apply_words words (Take station) = take_words words station
apply_words words (Run station) = (run_of words station).words
apply_words words (OpenScaled places limit factors) = (open_of words places limit (scale_of plain_rule factors)).words
apply_words words (OpenRuled places limit factors rule) = (open_of words places limit (scale_of rule factors)).words
apply_words words (Withdraw station) = (withdraw_of words station).words

-- the number of what a frame gives: that of a refusal, else 0 (Rules 7.1)
abbrev pub applied_number : Outcome → ℕ
applied_number (Ok given) = 0
applied_number (Err number) = number
