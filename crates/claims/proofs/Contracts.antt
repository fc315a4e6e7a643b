-- "Whoever calls … gets a defined result and the call ends": the code. Each public function meets its contract for every argument (`…_meets`, which Rattle proves of the function itself,
-- and that it ends), and this contract requires nothing and promises an equation with a definition (`…_contract`): a function whose contract says less is refused here. That of a function for
-- every type requires what holds of every type (`PromiseWhile`).
-- What `…_meets` names is the function's `spec`: that it is these clauses and nothing else is `…_closed`.
use mathlib.Core.Path.{◌≡◌, refl}
use mathlib.Core.List.{[]}
use base.Logic.{SProp, ent}
use contract.BorrowLft.{◌⊑◌, ⊑_static}
use contract.Lifetimes.{Lfts}
use contract.Monad.{Fun}
use contract.Notation.{Connectives, connectives}
use denote.Struct.Field.{u32-field}
use denote.Triple.Carry.{insides_in}
use denote.Triple.Clauses.{Ended, AtExit, ClausesAt, closing}
use denote.Triple.Entry.{Res}
use seplogic.Ra.Ura.{Ura}
use prog.Memory.{Memory}
use prog.Routine.{Routine}
use types.Logic.{Logic}
use Rattle.words.specs.contracts.refusal.Refusal.number as call_number
use Rattle.words.specs.contracts.refusal.number_told
use Rattle.openings.specs.contracts.open.open
use Rattle.submissions.specs.contracts.submit.submit
use Rattle.takings.specs.contracts.take.take
use Rattle.steps.specs.contracts.step.step
use Rattle.steps.specs.contracts.withdraw.withdraw
use Rattle.runs.specs.contracts.run.run
use Rattle.reports.specs.contracts.report.read_report
use Rattle.audits.specs.contracts.audit.audit
use Rattle.frames.specs.contracts.refusal.FrameRefusal.number as frame_number
use Rattle.frames.specs.contracts.refusal.FrameRefusal.{the_row as frame_refusals}
use Rattle.frames.specs.contracts.read.read_frame
use Rattle.frames.specs.contracts.read.position_after
use Rattle.frames.specs.contracts.write.write_frame
use Rattle.frames.specs.contracts.write.write_fields
use Rattle.frames.specs.contracts.write.written_told
use Rattle.readers.specs.contracts.reader.Reader.new
use Rattle.readers.specs.contracts.reader.Reader.at
use Rattle.readers.specs.contracts.reader.Reader.next
use Rattle.readers.specs.contracts.reader.frame_at
use Rattle.lines.specs.contracts.apply.apply_frame
use Rattle.lines.specs.contracts.line.next_line
use Rattle.lines.specs.contracts.line.told
use Rattle.texts.specs.contracts.text.Text.as_bytes
use Rattle.texts.specs.contracts.line.header
use Rattle.texts.specs.contracts.line.line_text
use Rattle.texts.specs.contracts.output.begin
use Rattle.texts.specs.contracts.output.next as following
use Rattle.window.specs.contracts.refusal.WindowRefusal.number as window_number
use Rattle.window.specs.contracts.begin.begin as begin_window
use Rattle.window.specs.contracts.update.update
use Rattle.window.specs.contracts.steady.is_steady
use Rattle.window.specs.contracts.lent.window_begin
use Rattle.window.specs.contracts.lent.window_update
use Rattle.readers.specs.Reader.{read_by, moved_past}
use Rattle.claims.specs.Definitions.{refusal_number, number_told, replied, open_of, submit_of, take_of, take_words, step_of, withdraw_of, run_of, report_of, verdict_of}
use Rattle.claims.specs.Definitions.{frame_refusal_number, read_of, position_after, written_of, write_of, written_told, apply_of, apply_words, numbered, line_of, line_words, told}
use Rattle.claims.specs.Definitions.{text_of, text_with, header_bytes, line_bytes, begun, next_of, next_words, window_refusal_number, begin_of, begun_told, update_of, updated_told, is_steady}
-- ---- the functions meet their contracts

pub use Rattle.words.proofs.refusal.Refusal.number.Met.{met as call_number_meets}
pub use Rattle.words.proofs.refusal.number_told.Met.{met as number_told_meets}
pub use Rattle.openings.proofs.open.open.Met.{met as open_meets}
pub use Rattle.submissions.proofs.submit.submit.Met.{met as submit_meets}
pub use Rattle.takings.proofs.take.take.Met.{met as take_meets}
pub use Rattle.steps.proofs.step.step.Met.{met as step_meets}
pub use Rattle.steps.proofs.withdraw.withdraw.Met.{met as withdraw_meets}
pub use Rattle.runs.proofs.run.run.Met.{met as run_meets}
pub use Rattle.reports.proofs.report.read_report.Met.{met as report_meets}
pub use Rattle.audits.proofs.audit.audit.Met.{met as audit_meets}
pub use Rattle.frames.proofs.refusal.FrameRefusal.number.Met.{met as frame_number_meets}
pub use Rattle.frames.proofs.read.read_frame.Met.{met as read_frame_meets}
pub use Rattle.frames.proofs.read.position_after.Met.{met as position_after_meets}
pub use Rattle.frames.proofs.write.write_frame.Met.{met as write_frame_meets}
pub use Rattle.frames.proofs.write.write_fields.Met.{met as write_fields_meets}
pub use Rattle.frames.proofs.write.written_told.Met.{met as written_told_meets}
pub use Rattle.readers.proofs.reader.Reader.new.Met.{met as new_reader_meets}
pub use Rattle.readers.proofs.reader.Reader.at.Met.{met as reader_at_meets}
pub use Rattle.readers.proofs.reader.Reader.next.Met.{met as reader_next_meets}
pub use Rattle.readers.proofs.reader.frame_at.Met.{met as frame_at_meets}
pub use Rattle.lines.proofs.apply.apply_frame.Met.{met as apply_frame_meets}
pub use Rattle.lines.proofs.line.next_line.Met.{met as next_line_meets}
pub use Rattle.lines.proofs.line.told.Met.{met as told_meets}
pub use Rattle.texts.proofs.text.Text.as_bytes.Met.{met as as_bytes_meets}
pub use Rattle.texts.proofs.line.header.Met.{met as header_meets}
pub use Rattle.texts.proofs.line.line_text.Met.{met as line_text_meets}
pub use Rattle.texts.proofs.output.begin.Met.{met as begin_meets}
pub use Rattle.texts.proofs.output.next.Met.{met as next_text_meets}
pub use Rattle.window.proofs.refusal.WindowRefusal.number.Met.{met as window_number_meets}
pub use Rattle.window.proofs.begin.begin.Met.{met as window_begin_meets}
pub use Rattle.window.proofs.update.update.Met.{met as window_update_meets}
pub use Rattle.window.proofs.steady.is_steady.Met.{met as is_steady_meets}
pub use Rattle.window.proofs.lent.window_begin.Met.{met as lent_begin_meets}
pub use Rattle.window.proofs.lent.window_update.Met.{met as lent_update_meets}

-- ---- what the contracts are

-- For a function's arguments, in their order `args.0`, `args.1.0`, `args.1.1.0` and so on, its result r and its arguments when it returns: `now` is what a slice refers to.
module _ {M : Type 1} {𝓤 : Ura M} (𝓛 : Logic 𝓤) (mem : Memory → SProp 𝓤) (does : Routine → Fun 𝓤) where
  abbrev 𝓝 : Connectives 𝓤
  𝓝 = connectives 𝓤

  open 𝓝 use {⌜◌⌝, ⊤ₛ, ◌∗◌}

  -- nothing is required, and this is promised of the result and of the arguments at the return
  abbrev Promise : {T : Ended} {κs : Lfts T.signature.lifetimes} → (Res T.signature κs → AtExit T κs → Type 0) → ClausesAt 𝓤 T κs
  Promise says = record { ghost = Unit {0}; requires = λ g. ⊤ₛ; ensures = λ g r end. ⌜ says r end ⌝ }

  -- the same of a function for every type: what the type refers to lives as long as the call, as it does in every program, and nothing else is required
  abbrev PromiseWhile : {T : Ended} {κs : Lfts T.signature.lifetimes} → Type 0 → (Res T.signature κs → AtExit T κs → Type 0) → ClausesAt 𝓤 T κs
  PromiseWhile lives says = record { ghost = Unit {0}; requires = λ g. ⌜ lives ⌝ ∗ ⊤ₛ; ensures = λ g r end. ⌜ says r end ⌝ }

  -- which of a type that refers to nothing, as a number and a refusal, is no requirement
  pub nothing_required : (κs : Lfts 1) → ent 𝓤 ⊤ₛ (⌜ κs.0 ⊑ [] ⌝ ∗ ⊤ₛ)
  nothing_required κs = insides_in 𝓤 1 κs ([], tt) ⊤ₛ (⊑_static κs.0, tt)

  -- opening: words, places, limit, factors
  pub open_contract : (κs : _) (args : _)
      → open.clauses 𝓛 mem does κs args ≡ Promise (λ r end. replied (number_told r) end.0.now ≡ open_of args.0.now args.1.0 args.1.1.0 args.1.1.1.0)
  open_contract κs args = refl

  -- submission: words, station, kind, point, curve
  pub submit_contract : (κs : _) (args : _)
      → submit.clauses 𝓛 mem does κs args
      ≡ Promise (λ r end. replied (number_told r) end.0.now ≡ submit_of args.0.now args.1.0 args.1.1.0 args.1.1.1.0 args.1.1.1.1.0)
  submit_contract κs args = refl

  -- taking: words, station
  pub take_contract : (κs : _) (args : _)
      → take.clauses 𝓛 mem does κs args ≡ Promise (λ r end. (r ≡ take_of args.0.now args.1.0) × (end.0.now ≡ take_words args.0.now args.1.0))
  take_contract κs args = refl

  -- step, withdrawal and run: words, station
  pub step_contract : (κs : _) (args : _) → step.clauses 𝓛 mem does κs args ≡ Promise (λ r end. replied (number_told r) end.0.now ≡ step_of args.0.now args.1.0)
  step_contract κs args = refl

  pub withdraw_contract : (κs : _) (args : _)
      → withdraw.clauses 𝓛 mem does κs args ≡ Promise (λ r end. replied (number_told r) end.0.now ≡ withdraw_of args.0.now args.1.0)
  withdraw_contract κs args = refl

  pub run_contract : (κs : _) (args : _) → run.clauses 𝓛 mem does κs args ≡ Promise (λ r end. replied (number_told r) end.0.now ≡ run_of args.0.now args.1.0)
  run_contract κs args = refl

  -- report and audit: words, which are lent for reading alone
  pub report_contract : (κs : _) (args : _) → read_report.clauses 𝓛 mem does κs args ≡ Promise (λ r end. r ≡ report_of args.0.now)
  report_contract κs args = refl

  pub audit_contract : (κs : _) (args : _) → audit.clauses 𝓛 mem does κs args ≡ Promise (λ r end. r ≡ verdict_of args.0.now)
  audit_contract κs args = refl

  -- the number of a refusal; of a call, whatever it gives where it is not refused
  pub call_number_contract : (κs : _) (args : _) → call_number.clauses 𝓛 mem does κs args ≡ Promise (λ r end. r ≡ refusal_number args.0)
  call_number_contract κs args = refl

  pub number_told_contract : (T : _) (drops : _) (κs : _) (args : _)
      → number_told.clauses T drops 𝓛 mem does κs args ≡ PromiseWhile (κs.0 ⊑ T.lives) (λ r end. r ≡ number_told args.0)
  number_told_contract T drops κs args = refl

  -- the number of a frame's refusal
  pub frame_number_contract : (κs : _) (args : _) → frame_number.clauses 𝓛 mem does κs args ≡ Promise (λ r end. r ≡ frame_refusal_number args.0)
  frame_number_contract κs args = refl

  -- the reading of a frame: bytes, position; the position after a reading, whatever its refusal
  pub read_frame_contract : (κs : _) (args : _) → read_frame.clauses 𝓛 mem does κs args ≡ Promise (λ r end. r ≡ read_of args.0.now args.1.0)
  read_frame_contract κs args = refl

  pub position_after_contract : (R : _) (drops : _) (κs : _) (args : _)
      → position_after.clauses R drops 𝓛 mem does κs args ≡ PromiseWhile (κs.0 ⊑ R.lives) (λ r end. r ≡ position_after args.0 args.1.0)
  position_after_contract R drops κs args = refl

  -- which of a frame's refusals, and of numbers, requires nothing
  pub position_after_refusal : (drops : _) (κs : _) (args : _) (g : _) → ent 𝓤 ⊤ₛ ((position_after.clauses frame_refusals drops 𝓛 mem does κs args).requires g)
  position_after_refusal drops κs args g = nothing_required κs

  pub position_after_number : (drops : _) (κs : _) (args : _) (g : _) → ent 𝓤 ⊤ₛ ((position_after.clauses u32-field.row drops 𝓛 mem does κs args).requires g)
  position_after_number drops κs args g = nothing_required κs

  -- the writing of a frame; of a kind with its fields; and the bytes and the count of a writing, which Rules 9.6 has of a refused one too
  pub write_frame_contract : (κs : _) (args : _) → write_frame.clauses 𝓛 mem does κs args ≡ Promise (λ r end. r ≡ written_of args.0)
  write_frame_contract κs args = refl

  pub write_fields_contract : (κs : _) (args : _) → write_fields.clauses 𝓛 mem does κs args ≡ Promise (λ r end. r ≡ write_of args.0 args.1.0)
  write_fields_contract κs args = refl

  pub written_told_contract : (κs : _) (args : _) → written_told.clauses 𝓛 mem does κs args ≡ Promise (λ r end. r ≡ written_told args.0)
  written_told_contract κs args = refl

  -- a reader: begun over the bytes, its position, the next frame, and the frame at a position
  pub new_reader_contract : (κs : _) (args : _) → new.clauses 𝓛 mem does κs args ≡ Promise (λ r end. (r.bytes ≡ args.0) × (r.at ≡ 0))
  new_reader_contract κs args = refl

  pub reader_at_contract : (κs : _) (args : _) → at.clauses 𝓛 mem does κs args ≡ Promise (λ r end. r ≡ args.0.at)
  reader_at_contract κs args = refl

  pub reader_next_contract : (κs : _) (args : _)
      → next.clauses 𝓛 mem does κs args ≡ Promise (λ r end. (r ≡ read_by args.0.now) × (end.0.now ≡ moved_past args.0.now))
  reader_next_contract κs args = refl

  pub frame_at_contract : (κs : _) (args : _) → frame_at.clauses 𝓛 mem does κs args ≡ Promise (λ r end. r ≡ read_of args.0.now args.1.0)
  frame_at_contract κs args = refl

  -- a frame on the words; the line of the frame at a position of the bytes; a line with its numbers
  pub apply_frame_contract : (κs : _) (args : _)
      → apply_frame.clauses 𝓛 mem does κs args ≡ Promise (λ r end. (numbered r ≡ apply_of args.0.now args.1.0) × (end.0.now ≡ apply_words args.0.now args.1.0))
  apply_frame_contract κs args = refl

  pub next_line_contract : (κs : _) (args : _)
      → next_line.clauses 𝓛 mem does κs args
      ≡ Promise
      (λ r end. (told r ≡ line_of args.0.now (read_of args.1.0.now args.1.1.0))
      × (end.0.now ≡ line_words args.0.now (read_of args.1.0.now args.1.1.0)))
  next_line_contract κs args = refl

  pub told_contract : (κs : _) (args : _) → told.clauses 𝓛 mem does κs args ≡ Promise (λ r end. r ≡ told args.0)
  told_contract κs args = refl

  -- the texts that the runner prints: the bytes of a text; the header; a line with its ordinal; the first; the next, on words and bytes
  pub as_bytes_contract : (κs : _) (args : _) → as_bytes.clauses 𝓛 mem does κs args ≡ Promise (λ r end. r.now ≡ text_of args.0.now)
  as_bytes_contract κs args = refl

  pub header_contract : (κs : _) (args : _) → header.clauses 𝓛 mem does κs args ≡ Promise (λ r end. r ≡ text_with header_bytes)
  header_contract κs args = refl

  pub line_text_contract : (κs : _) (args : _) → line_text.clauses 𝓛 mem does κs args ≡ Promise (λ r end. r ≡ text_with (line_bytes args.0 args.1.0))
  line_text_contract κs args = refl

  pub begin_contract : (κs : _) (args : _) → begin.clauses 𝓛 mem does κs args ≡ Promise (λ r end. r ≡ begun)
  begin_contract κs args = refl

  pub next_text_contract : (κs : _) (args : _)
      → following.clauses 𝓛 mem does κs args
      ≡ Promise (λ r end. (r ≡ next_of args.0.now args.1.0.now args.1.1.0) × (end.0.now ≡ next_words args.0.now args.1.0.now args.1.1.0))
  next_text_contract κs args = refl

  -- the number of a window's refusal
  pub window_number_contract : (κs : _) (args : _) → window_number.clauses 𝓛 mem does κs args ≡ Promise (λ r end. r ≡ window_refusal_number args.0)
  window_number_contract κs args = refl

  -- a window: begun at a length, brought up to date with a reading, and steady within a spread; the same where it is lent
  pub window_begin_contract : (κs : _) (args : _) → begin_window.clauses 𝓛 mem does κs args ≡ Promise (λ r end. begun_told args.0 r ≡ begin_of args.0 args.1.0)
  window_begin_contract κs args = refl

  pub window_update_contract : (κs : _) (args : _) → update.clauses 𝓛 mem does κs args ≡ Promise (λ r end. updated_told args.0 r ≡ update_of args.0 args.1.0)
  window_update_contract κs args = refl

  pub is_steady_contract : (κs : _) (args : _) → is_steady.clauses 𝓛 mem does κs args ≡ Promise (λ r end. r ≡ is_steady args.0 args.1.0)
  is_steady_contract κs args = refl

  pub lent_begin_contract : (κs : _) (args : _)
      → window_begin.clauses 𝓛 mem does κs args
      ≡ Promise (λ r end. (r ≡ (begin_of args.0.now args.1.0).number) × (end.0.now ≡ (begin_of args.0.now args.1.0).window))
  lent_begin_contract κs args = refl

  pub lent_update_contract : (κs : _) (args : _)
      → window_update.clauses 𝓛 mem does κs args
      ≡ Promise (λ r end. (r ≡ (update_of args.0.now args.1.0).figures) × (end.0.now ≡ (update_of args.0.now args.1.0).window))
  lent_update_contract κs args = refl

  -- ---- what is met is these contracts: a function's `spec` is its clauses, which at the return read what each slice that was lent for writing then refers to

  pub call_number_closed : call_number.spec 𝓛 mem does ≡ closing 𝓛 call_number.ended (call_number.clauses 𝓛 mem does)
  call_number_closed = refl

  pub number_told_closed : (T : _) (drops : _)
      → number_told.spec T drops 𝓛 mem does ≡ closing 𝓛 (number_told.ended T drops) (number_told.clauses T drops 𝓛 mem does)
  number_told_closed T drops = refl

  pub open_closed : open.spec 𝓛 mem does ≡ closing 𝓛 open.ended (open.clauses 𝓛 mem does)
  open_closed = refl

  pub submit_closed : submit.spec 𝓛 mem does ≡ closing 𝓛 submit.ended (submit.clauses 𝓛 mem does)
  submit_closed = refl

  pub take_closed : take.spec 𝓛 mem does ≡ closing 𝓛 take.ended (take.clauses 𝓛 mem does)
  take_closed = refl

  pub step_closed : step.spec 𝓛 mem does ≡ closing 𝓛 step.ended (step.clauses 𝓛 mem does)
  step_closed = refl

  pub withdraw_closed : withdraw.spec 𝓛 mem does ≡ closing 𝓛 withdraw.ended (withdraw.clauses 𝓛 mem does)
  withdraw_closed = refl

  pub run_closed : run.spec 𝓛 mem does ≡ closing 𝓛 run.ended (run.clauses 𝓛 mem does)
  run_closed = refl

  pub report_closed : read_report.spec 𝓛 mem does ≡ closing 𝓛 read_report.ended (read_report.clauses 𝓛 mem does)
  report_closed = refl

  pub audit_closed : audit.spec 𝓛 mem does ≡ closing 𝓛 audit.ended (audit.clauses 𝓛 mem does)
  audit_closed = refl

  pub frame_number_closed : frame_number.spec 𝓛 mem does ≡ closing 𝓛 frame_number.ended (frame_number.clauses 𝓛 mem does)
  frame_number_closed = refl

  pub read_frame_closed : read_frame.spec 𝓛 mem does ≡ closing 𝓛 read_frame.ended (read_frame.clauses 𝓛 mem does)
  read_frame_closed = refl

  pub position_after_closed : (R : _) (drops : _)
      → position_after.spec R drops 𝓛 mem does ≡ closing 𝓛 (position_after.ended R drops) (position_after.clauses R drops 𝓛 mem does)
  position_after_closed R drops = refl

  pub write_frame_closed : write_frame.spec 𝓛 mem does ≡ closing 𝓛 write_frame.ended (write_frame.clauses 𝓛 mem does)
  write_frame_closed = refl

  pub write_fields_closed : write_fields.spec 𝓛 mem does ≡ closing 𝓛 write_fields.ended (write_fields.clauses 𝓛 mem does)
  write_fields_closed = refl

  pub written_told_closed : written_told.spec 𝓛 mem does ≡ closing 𝓛 written_told.ended (written_told.clauses 𝓛 mem does)
  written_told_closed = refl

  pub new_reader_closed : new.spec 𝓛 mem does ≡ closing 𝓛 new.ended (new.clauses 𝓛 mem does)
  new_reader_closed = refl

  pub reader_at_closed : at.spec 𝓛 mem does ≡ closing 𝓛 at.ended (at.clauses 𝓛 mem does)
  reader_at_closed = refl

  pub reader_next_closed : next.spec 𝓛 mem does ≡ closing 𝓛 next.ended (next.clauses 𝓛 mem does)
  reader_next_closed = refl

  pub frame_at_closed : frame_at.spec 𝓛 mem does ≡ closing 𝓛 frame_at.ended (frame_at.clauses 𝓛 mem does)
  frame_at_closed = refl

  pub apply_frame_closed : apply_frame.spec 𝓛 mem does ≡ closing 𝓛 apply_frame.ended (apply_frame.clauses 𝓛 mem does)
  apply_frame_closed = refl

  pub next_line_closed : next_line.spec 𝓛 mem does ≡ closing 𝓛 next_line.ended (next_line.clauses 𝓛 mem does)
  next_line_closed = refl

  pub told_closed : told.spec 𝓛 mem does ≡ closing 𝓛 told.ended (told.clauses 𝓛 mem does)
  told_closed = refl

  pub as_bytes_closed : as_bytes.spec 𝓛 mem does ≡ closing 𝓛 as_bytes.ended (as_bytes.clauses 𝓛 mem does)
  as_bytes_closed = refl

  pub header_closed : header.spec 𝓛 mem does ≡ closing 𝓛 header.ended (header.clauses 𝓛 mem does)
  header_closed = refl

  pub line_text_closed : line_text.spec 𝓛 mem does ≡ closing 𝓛 line_text.ended (line_text.clauses 𝓛 mem does)
  line_text_closed = refl

  pub begin_closed : begin.spec 𝓛 mem does ≡ closing 𝓛 begin.ended (begin.clauses 𝓛 mem does)
  begin_closed = refl

  pub next_text_closed : following.spec 𝓛 mem does ≡ closing 𝓛 following.ended (following.clauses 𝓛 mem does)
  next_text_closed = refl

  pub window_number_closed : window_number.spec 𝓛 mem does ≡ closing 𝓛 window_number.ended (window_number.clauses 𝓛 mem does)
  window_number_closed = refl

  pub window_begin_closed : begin_window.spec 𝓛 mem does ≡ closing 𝓛 begin_window.ended (begin_window.clauses 𝓛 mem does)
  window_begin_closed = refl

  pub window_update_closed : update.spec 𝓛 mem does ≡ closing 𝓛 update.ended (update.clauses 𝓛 mem does)
  window_update_closed = refl

  pub is_steady_closed : is_steady.spec 𝓛 mem does ≡ closing 𝓛 is_steady.ended (is_steady.clauses 𝓛 mem does)
  is_steady_closed = refl

  pub lent_begin_closed : window_begin.spec 𝓛 mem does ≡ closing 𝓛 window_begin.ended (window_begin.clauses 𝓛 mem does)
  lent_begin_closed = refl

  pub lent_update_closed : window_update.spec 𝓛 mem does ≡ closing 𝓛 window_update.ended (window_update.clauses 𝓛 mem does)
  lent_update_closed = refl
