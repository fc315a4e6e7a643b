-- The kinds by name (Rules 9.3).
use Rattle.std.specs.Prelude.{ℕ, cond, eqb, Result, Ok, Err}
use Rattle.frames.specs.declared.shape.Kind.{Kind}
use Rattle.frames.specs.declared.shape.Kind.TheVariants.{Open, Submit, Step, Take, Run, OpenScaled, OpenRuled, Withdraw}
use Rattle.frames.specs.declared.refusal.FrameRefusal.{FrameRefusal}
use Rattle.frames.specs.declared.refusal.FrameRefusal.TheVariants.{NoKind}
use Rattle.frames.specs.Shape as shape

-- the number of a kind
abbrev pub kind_number : Kind → ℕ
kind_number Open = shape.kind_open
kind_number Submit = shape.kind_submit
kind_number Step = shape.kind_step
kind_number Take = shape.kind_take
kind_number Run = shape.kind_run
kind_number OpenScaled = shape.kind_open_scaled
kind_number OpenRuled = shape.kind_open_ruled
kind_number Withdraw = shape.kind_withdraw

-- the kind of a number, or question 14
unfoldable pub kind_of : ℕ → Result Kind FrameRefusal
kind_of k =
    cond (eqb k shape.kind_open) (Ok Open)
    (cond (eqb k shape.kind_submit) (Ok Submit)
    (cond (eqb k shape.kind_step) (Ok Step)
    (cond (eqb k shape.kind_take) (Ok Take)
    (cond (eqb k shape.kind_run) (Ok Run)
    (cond (eqb k shape.kind_open_scaled) (Ok OpenScaled)
    (cond (eqb k shape.kind_open_ruled) (Ok OpenRuled)
    (cond (eqb k shape.kind_withdraw) (Ok Withdraw)
    (Err NoKind))))))))
