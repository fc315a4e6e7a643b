-- A reader that was refused, or that is at the end, is as it was. Assumes nothing.
use mathlib.Core.Path.{◌≡◌, ap}
use Rattle.std.specs.Prelude.{Some, None, Err}
use Rattle.readers.specs.declared.reader.Reader.{Reader}
use Rattle.frames.specs.declared.refusal.FrameRefusal.{FrameRefusal}
use Rattle.frames.specs.Read.{Reading, position_after}
use Rattle.readers.specs.Reader.{read_by, moved_past}

module _ (r : Reader) where
  abbrev past : Reading → Reader
  past reading = record { bytes = r.bytes; at = position_after reading r.at }

  pub refusal_stays : (refusal : FrameRefusal) → read_by r ≡ Some (Err refusal) → moved_past r ≡ r
  refusal_stays refusal e = ap past e

  pub end_stays : read_by r ≡ None → moved_past r ≡ r
  end_stays e = ap past e
