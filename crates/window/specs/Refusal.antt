-- The refusals of a window (Rules 7.1): the number of the question that a call fails, by name.
use Rattle.std.specs.Prelude.{ℕ}
use Rattle.window.specs.declared.refusal.WindowRefusal.{WindowRefusal}
use Rattle.window.specs.declared.refusal.WindowRefusal.TheVariants.{BadWindow, BadReading}

-- the number of a refusal
abbrev pub number_of : WindowRefusal → ℕ
number_of BadWindow = 18
number_of BadReading = 19
