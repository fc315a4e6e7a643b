-- A withdrawal: the questions of a step about the two records (Rules 7.9), and the call is answered 11 (Rules 2.9). No row is read, so that a damaged row
-- keeps nobody in. No unfinished call has taken effect: an add or a remove is answered by the step that changes the held records.
use Rattle.std.specs.Prelude.{ℕ, List}
use Rattle.stations.specs.Answer.{code_withdrawn}
use Rattle.stations.specs.declared.call.Call.{Call}
use Rattle.stations.specs.declared.answer.Answer.{Answer}
use Rattle.stations.specs.Call.{call_at}
use Rattle.calls.specs.Reply.{Reply, done}
use Rattle.calls.specs.Answer.{answer, answered_words}
use Rattle.calls.specs.Step.{ask_unfinished}

-- 11 with its point, curve 0 and square 0 (Rules 2.4)
abbrev pub withdrawn_answer : Call → Answer
withdrawn_answer call = answer code_withdrawn call.point 0 0

-- that answer waits at station s, whose call stands nowhere in the tree any more and holds no place back
abbrev pub withdrawn_words : List ℕ → ℕ → Call → List ℕ
withdrawn_words words s call = answered_words words s (withdrawn_answer call)

-- the call is taken back
abbrev pub withdrawn_reply : List ℕ → ℕ → Call → Reply
withdrawn_reply words s call = done (withdrawn_words words s call)

unfoldable pub withdraw_of : List ℕ → ℕ → Reply
withdraw_of words s = ask_unfinished words s (withdrawn_reply words s (call_at words s))
