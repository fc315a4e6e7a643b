-- The index that the definitions of `steps` are, as demand 3 speaks of one: its states are slices of words.
use Rattle.std.specs.Prelude.{ℕ, List, map, Result, Ok, Err}
use Rattle.std.proofs.Math.Option.{Option, none, some}
use Rattle.stations.specs.declared.answer.Answer.{Answer as Given}
use Rattle.table.specs.Record.{Record}
use Rattle.table.specs.Call.{Answer}
use Rattle.table.specs.Event.{Reply}
use Rattle.table.specs.History.{Index}
use Rattle.calls.specs.Reply.{Reply as WordReply}
use Rattle.calls.specs.Submit.{submit_of}
use Rattle.calls.specs.Step.{step_of}
use Rattle.calls.specs.Take.{take_of, take_words}
use Rattle.calls.specs.Withdraw.{withdraw_of}
use Rattle.calls.specs.Report.{report_of, places_told}
use Rattle.calls.specs.Held.{Held, held_in}
use Rattle.words.specs.declared.refusal.Refusal.{Refusal}
use Rattle.words.specs.Refusal.{number_told}

-- an answer's code, point, curve and square
abbrev pub answer_of : Given → Answer
answer_of a = record { code = a.code; point = a.point; curve = a.curve; square = a.square }

-- a call that takes no answer
abbrev pub reply_of : WordReply → Reply (List ℕ)
reply_of r = record { number = r.number; given = none; next = r.words }

-- the answer that a taking gives
abbrev pub given_by : Result Given Refusal → Option Answer
given_by (Err refusal) = none
given_by (Ok a) = some (answer_of a)

abbrev pub take_reply : List ℕ → ℕ → Reply (List ℕ)
take_reply words s = record { number = number_told (take_of words s); given = given_by (take_of words s); next = take_words words s }

abbrev pub record_of : Held → Record
record_of h = record { point = h.point; curve = h.curve }

-- submission, step, taking and withdrawal; the records on the leaves linked from the root; the number that a report gives
abbrev pub word_index : Index
word_index = record {
  State = List ℕ;
  submit = λ words s kind p c. reply_of (submit_of words s kind p c);
  step = λ words s. reply_of (step_of words s);
  take = take_reply;
  withdraw = λ words s. reply_of (withdraw_of words s);
  held = λ words. map record_of (held_in words);
  taken = λ words. places_told (report_of words);
}
