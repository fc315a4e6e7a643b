-- What is written of a kind and fields: the frame of that kind, or question 14. Assumes nothing.
use mathlib.Core.Path.{◌≡◌}
use Prim.Native.Nat.{ℕ}
use Rattle.std.specs.Prelude.{Ok, Err}
use Rattle.frames.specs.declared.shape.Kind.{Kind}
use Rattle.frames.specs.declared.write.Fields.{Fields}
use Rattle.frames.specs.declared.refusal.FrameRefusal.{FrameRefusal}
use Rattle.frames.specs.Kind.{kind_number, kind_of}
use Rattle.frames.specs.Write.{frame_from, written_of, write_of}
use Rattle.frames.proofs.KindLaws.{kind_found, kind_refused}

pub write_refused : (k : ℕ) (fields : Fields) (refusal : FrameRefusal) → kind_of k ≡ Err refusal → write_of k fields ≡ Err refusal
unfolding write_of
write_refused k fields refusal e = let r = kind_refused k refusal e in rw (r.is, r.refusal_lem)

pub write_found : (k : ℕ) (fields : Fields) (kind : Kind) → kind_of k ≡ Ok kind → write_of k fields ≡ Ok (written_of (frame_from (kind_number kind) fields))
unfolding write_of
write_found k fields kind e = let f = kind_found k kind e in rw (f.is, f.number)
