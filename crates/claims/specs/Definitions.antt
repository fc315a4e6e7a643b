-- Every definition that the claims speak of, by the crate and file that has it; what only a proof needs is named there.
-- The code is these definitions: each public function of `openings`, `submissions`, `steps`, `audits`, `frames`, `readers` and `lines` is proved equal to one, for all words, bytes and arguments.

-- ---- points

-- a point's five coordinates, and whether they are in range, also under a rule
pub use Rattle.points.specs.declared.point.Point.{Point}
pub use Rattle.points.specs.Point.{in_range}
pub use Rattle.points.specs.Number.{in_range_by}
-- a comparison of two points: their order, and how many axes it looks at, also in words
pub use Rattle.points.specs.Order.{order_of, compared_of, Looked}
-- the rule and the factors of an opening, the ranges of both, how much an axis counts, and rule 1, alone and with four ones
pub use Rattle.points.specs.declared.scale.Scale.{Scale}
pub use Rattle.points.specs.Rule.{plain_rule, dry_rule, rule_in}
pub use Rattle.points.specs.Scale.{count_of, factors_in, plain_scale}
-- the square of two points by the rule and the factors; the cut between two points, and the side on which it has a point
pub use Rattle.points.specs.Square.{square_of, most_square}
pub use Rattle.points.specs.Cut.{cut_of, goes_left}
-- one grade; which of two points a target chooses by the square, also in words: the nearer, on a tie the heavier; that cuts bound a square from below;
-- and the number for no square
pub use Rattle.points.specs.Choice.{same_grade, chosen_over, Chosen, Bounds, no_square}
-- ---- words, stations and rows

-- words, the rule, rows, question 4, and the counts and counters of the common record
pub use Rattle.words.specs.Layout.{words_for, at_row}
pub use Rattle.words.specs.Words.{get, part}
pub use Rattle.words.specs.Rule.{rule_at}
pub use Rattle.rows.specs.Row.{row_at, row_of, in_rows}
pub use Rattle.rows.specs.declared.row.Row.TheVariants.{Spare}
pub use Rattle.stations.specs.Common.{places_in, limit_in, places_at, Opened, opened_in, is_opened, rows_in}
pub use Rattle.stations.specs.Counts.{counts_at}
pub use Rattle.stations.specs.Counter.{counter_at}
-- a station's record
pub use Rattle.stations.specs.Station.{is_idle, is_unfinished, state_at}
pub use Rattle.stations.specs.Call.{kind_in}
pub use Rattle.stations.specs.Answer.{waiting_at}
-- where a station's words are, and how many
pub use Rattle.words.specs.Agree.{in_station, start_of, size_of}
-- ---- table

-- records and calls
pub use Rattle.table.specs.Record.{Record, Same, Once, curve_at}
pub use Rattle.table.specs.Call.{Call, add, remove, contains, nearest, call_of, Answer, answer, is_change}
-- the plain table: at first, the number of places taken, a call's answer and its effect
pub use Rattle.table.specs.Table.{Table, unfinished, busy, eight, total}
unfoldable pub use Rattle.table.specs.Table.{opened, taken, answer_of, changed_if}
-- the unfinished nearest calls of some stations, some stations but one, and the removals that such calls hold
pub use Rattle.table.specs.Table.{searches, others, holding}
-- events, and the table fed with them
pub use Rattle.table.specs.Event.{Event, submission, single_step, taking, withdrawal, Reply, submit, take, feed}
pub use Rattle.table.specs.History.{CanChange}
unfoldable pub use Rattle.table.specs.History.{reply, answered}
-- ---- calls

-- number and words of a call
pub use Rattle.calls.specs.Reply.{Reply as WordReply, replied, done}
-- the calls
pub use Rattle.calls.specs.Open.{open_of}
pub use Rattle.calls.specs.Submit.{curve_fits, submit_of}
pub use Rattle.calls.specs.Step.{records_sound, step_of}
-- what a step needs of the rows, and whether all of it is met
pub use Rattle.calls.specs.Needs.{Need, rows_of, step_needs, rows_sound}
pub use Rattle.calls.specs.Run.{is_given, goes_on}
unfoldable pub use Rattle.calls.specs.Run.{run_for, most_steps, run_of}
pub use Rattle.words.specs.Refusal.{number_of as refusal_number, number_told}
pub use Rattle.calls.specs.Take.{take_of, take_words}
pub use Rattle.calls.specs.Withdraw.{withdraw_of}
pub use Rattle.calls.specs.Report.{report_of, places_told}
pub use Rattle.calls.specs.Audit.{audit_of, verdict_of, yes_told}
-- the records on the leaves linked from the root
pub use Rattle.calls.specs.Held.{held_in}
-- ---- history

-- the index that the calls are, and the words after a list of events
pub use Rattle.history.specs.Index.{record_of, given_by, word_index}
unfoldable pub use Rattle.history.specs.After.{after}
pub use Rattle.history.specs.Alone.{stepped}
-- what an accepted withdrawal leaves; whether a station has an unfinished nearest
pub use Rattle.history.specs.Withdrawn.{is_searching, Withdrawn}
-- the steps among some events that are dealt to stations with an unfinished call; no withdrawal is accepted; no submission is
unfoldable pub use Rattle.history.specs.Somebody.{dealt_steps}
pub use Rattle.history.specs.Somebody.{NotWithdrawn, Undisturbed, NobodySubmits}
-- the steps of one station; that none of the events withdraws its call
unfoldable pub use Rattle.history.specs.WaitFree.{own_steps}
pub use Rattle.history.specs.WaitFree.{CallKept, KeepsCall}
-- questions in their order, and the number of the first that is answered no
pub use Rattle.history.specs.Questions.{asked}
unfoldable pub use Rattle.history.specs.Questions.{first_no}
-- what an audit says yes to (Rules 6.6, 6.7)
pub use Rattle.history.specs.Audited.{Audited}
-- ---- numbers, frames and lines

-- a frame, its fields in width, and what a reading finds
pub use Rattle.frames.specs.declared.frame.Frame.{Frame}
pub use Rattle.frames.specs.declared.frame.Frame.TheVariants.{Open, Submit, Step, Take, Run, OpenScaled, OpenRuled, Withdraw}
pub use Rattle.numbers.specs.Bytes.{AllBytes}
pub use Rattle.frames.specs.Width.{InWidth}
pub use Rattle.std.specs.Prelude.{Some, Ok, Err}
pub use Rattle.frames.specs.declared.refusal.FrameRefusal.{FrameRefusal}
pub use Rattle.frames.specs.declared.refusal.FrameRefusal.TheVariants.{NoKind as NoFrameKind}
-- questions 13, 14 and 15, the number of a refusal and of what a frame comes to; reading at a position, its number, and the position after it
pub use Rattle.frames.specs.Refusal.{number_of as frame_refusal_number, number_told as frame_number_told}
pub use Rattle.frames.specs.Shape.{is_kind}
pub use Rattle.frames.specs.Read.{is_whole, has_kind, own_length, read_of, reading_number, position_after}
unfoldable pub use Rattle.frames.specs.Read.{frame_question}
-- the 28 bytes of a frame with the count used; writing a kind with its fields
pub use Rattle.frames.specs.declared.write.Fields.{Fields}
unfoldable pub use Rattle.frames.specs.Write.{padded, written_bytes, written_of, write_of}
pub use Rattle.frames.specs.Write.{written_told}
-- a frame on the words: what it gives, the number of that, and the words after it; the words after a reading
-- (with the number in place of a refusal: `numbered`, and `told` of a line)
pub use Rattle.lines.specs.Apply.{applied_number, numbered}
pub use Rattle.lines.specs.Line.{told}
unfoldable pub use Rattle.lines.specs.Apply.{point_of, scale_of, submission_reply, apply_of, apply_words}
unfoldable pub use Rattle.lines.specs.Line.{line_of, line_words}
-- ---- texts

-- the bytes of the header, of a line, and of all that the runner prints; the texts that it prints one after the other, and the last of them
pub use Rattle.texts.specs.Text.{text_of, text_with}
pub use Rattle.texts.specs.Line.{header_bytes, line_bytes}
pub use Rattle.texts.specs.Output.{output_of, begun, next_of, next_words, printed, last_output}
-- ---- window

-- a window's state, and what is told of the readings present, with a number
pub use Rattle.window.specs.declared.window.Window.{Window}
pub use Rattle.window.specs.declared.figures.Figures.{Figures}
-- lengths and readings in range; a state that readings could leave
pub use Rattle.window.specs.Window.{longest, wettest, length_in, reading_in, is_sound}
-- the tail of a list; the figures of some readings; both also in words
pub use Rattle.window.specs.Tail.{tail_of, IsTail}
pub use Rattle.window.specs.Figures.{sum_of, mean_of, figures_of, refused_with, IsLeast, IsGreatest, IsMean}
pub use Rattle.window.specs.Told.{Told}
-- beginning, and bringing up to date; what a call gives, in these words: a refusal is its number, and leaves the window
pub use Rattle.window.specs.Begin.{begin_of, begun_told}
pub use Rattle.window.specs.Update.{refused_of, update_of, updated_told}
pub use Rattle.window.specs.Refusal.{number_of as window_refusal_number}
-- what happens to a window, its state after that, and the log of all accepted readings; the states that readings leave
pub use Rattle.window.specs.Log.{WindowEvent, beginning, reading, state_after, Log, new_log, log_after, LeftByReadings}
-- whether the moisture is steady, also in words
pub use Rattle.window.specs.Steady.{is_steady, Steady}
