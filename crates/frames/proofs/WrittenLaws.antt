-- What is written reads back as the same call: `written_reads`. Assumes nothing.
use mathlib.Core.Path.{◌≡◌, refl, sym, ap, ◌∙◌}
use mathlib.Core.Bool.{true}
use mathlib.Core.List.{List, ◌∷◌, ◌++◌}
use Prim.Native.Nat.{ℕ, ◌+◌, ◌-◌, ◌<◌, ◌≤◌}
use native.Mathlib.Omega.{arith}
use lib.ListN.{length, take, replicate, length-append}
use lib.Seq.{take-append_seam, drop-append_seam}
use lib.IntN.{ℤ}
use lib.Signed.{mag}
use lib.Dec.{ltb, lit≤, lit<}
use borrow.Author.Tests.{lt-ltb, le-leb, eq-eqb}
use Rattle.points.proofs.Tests.{and_i}
use Rattle.frames.specs.declared.frame.Submission.{Submission}
use Rattle.frames.specs.declared.frame.Factors.{Factors}
use Rattle.frames.specs.declared.frame.Frame.{Frame}
use Rattle.frames.specs.declared.frame.Frame.TheVariants.{Open, Submit, Step, Take, Run, OpenScaled, OpenRuled, Withdraw}
use Rattle.std.specs.Prelude.{Some, Ok}
use Rattle.numbers.specs.Bytes.{number_at, bytes_of}
use Rattle.numbers.specs.Signed.{unsigned_of, signed_of}
use Rattle.numbers.proofs.SignedLaws.{unsigned_fits, signed_unsigned}
use Rattle.numbers.proofs.NumberLaws.{two_whole, four_whole}
use Rattle.frames.specs.Width.{InWidth, SubmissionInWidth, FactorsInWidth}
use Rattle.frames.specs.Shape as shape
use Rattle.frames.specs.Read.{length_in, kind_in, is_whole, has_kind, own_length, submission_in, factors_at, frame_in, read_rest, read_of}
use Rattle.frames.specs.Outcome.{Passes}
use Rattle.frames.specs.Write.{head_bytes, open_start, factors_bytes, scaled_start, submission_start, submission_end, frame_bytes, padded, written_bytes, written_of}
use Rattle.frames.proofs.OutcomeLaws.{read_passes}

-- the bytes used are those of the frame
pub written_used : (f : Frame) → take (written_of f).count (written_of f).bytes ≡ frame_bytes f
unfolding written_of written_bytes padded
written_used f = take-append_seam (frame_bytes f) (replicate (shape.longest - length (frame_bytes f)) 0)

-- what the bytes of a frame say to the reader: a length, a kind and the frame
pub record Says (rest : List ℕ) (f : Frame) (size kind : ℕ) : Type 0 where
  pub there : shape.size_of size ≤ length rest
  pub says_size : length_in rest ≡ size
  pub says_kind : kind_in rest ≡ kind
  pub sized : shape.length_of kind ≡ size
  pub is_kind_lem : shape.is_kind kind ≡ true
  pub enough : 2 ≤ size
  pub says_frame : frame_in kind rest ≡ f

passes_of : {rest : List ℕ} {f : Frame} {size kind : ℕ} → Says rest f size kind → Passes rest
unfolding is_whole has_kind own_length
passes_of {rest} {f} {size} {kind} s = record {
  whole = and_i (le-leb 2 (length rest) (omega (arith, s.there, s.enough))) (le-leb (shape.size_of (length_in rest)) (length rest) (omega (arith, s.there, s.says_size)));
  kind = and_i (le-leb 2 (length_in rest) (omega (arith, s.enough, s.says_size))) (ap shape.is_kind s.says_kind ∙ s.is_kind_lem);
  own = eq-eqb (length_in rest) (shape.length_of (kind_in rest)) (s.says_size ∙ sym s.sized ∙ ap shape.length_of (sym s.says_kind));
}

says_reads : {rest : List ℕ} {f : Frame} {size kind : ℕ} (at : ℕ) → Says rest f size kind → read_rest rest at ≡ Ok (f, at + shape.size_of size)
says_reads {rest} {f} {size} {kind} at s =
    read_passes rest at (passes_of s)
    ∙ (λ i. Ok ((ap (λ (k : ℕ). frame_in k rest) s.says_kind ∙ s.says_frame) i, at + shape.size_of (s.says_size i)))

-- the bytes of each frame, with any bytes after them
open_says : (places limit : ℕ) (post : List ℕ) → places < 65536 → limit < 4294967296 → Says (frame_bytes (Open places limit) ++ post) (Open places limit) (shape.length_of shape.kind_open) shape.kind_open
unfolding frame_bytes open_start head_bytes bytes_of number_at frame_in
open_says places limit post p l = record {
  there = omega arith;
  says_size = refl;
  says_kind = refl;
  sized = refl;
  is_kind_lem = refl;
  enough = lit≤ tt;
  says_frame = λ i. Open (two_whole places p i) (four_whole limit l i);
}

scaled_says : (places limit : ℕ) (factors : Factors) (post : List ℕ) → places < 65536 → limit < 4294967296 → FactorsInWidth factors
    → Says (frame_bytes (OpenScaled places limit factors) ++ post) (OpenScaled places limit factors) (shape.length_of shape.kind_open_scaled) shape.kind_open_scaled
unfolding frame_bytes open_start factors_bytes scaled_start head_bytes bytes_of number_at frame_in factors_at
scaled_says places limit factors post p l w = record {
  there = omega arith;
  says_size = refl;
  says_kind = refl;
  sized = refl;
  is_kind_lem = refl;
  enough = lit≤ tt;
  says_frame = λ i. OpenScaled (two_whole places p i) (four_whole limit l i) (record {
    weight = two_whole factors.weight w.weight i;
    moisture = two_whole factors.moisture w.moisture i;
    speed = two_whole factors.speed w.speed i;
    draw = two_whole factors.draw w.draw i;
  });
}

ruled_says : (places limit : ℕ) (factors : Factors) (rule : ℕ) (post : List ℕ) → places < 65536 → limit < 4294967296 → FactorsInWidth factors
    → Says (frame_bytes (OpenRuled places limit factors rule) ++ post) (OpenRuled places limit factors rule) (shape.length_of shape.kind_open_ruled) shape.kind_open_ruled
unfolding frame_bytes open_start factors_bytes scaled_start head_bytes bytes_of number_at frame_in factors_at
ruled_says places limit factors rule post p l w = record {
  there = omega arith;
  says_size = refl;
  says_kind = refl;
  sized = refl;
  is_kind_lem = refl;
  enough = lit≤ tt;
  says_frame = λ i.
      OpenRuled
      (two_whole places p i)
      (four_whole limit l i)
      (record {
        weight = two_whole factors.weight w.weight i;
        moisture = two_whole factors.moisture w.moisture i;
        speed = two_whole factors.speed w.speed i;
        draw = two_whole factors.draw w.draw i;
      })
      rule;
}

-- four bytes of a signed number are read as the number
signed_whole : (z : ℤ) → mag z < 2147483648 → signed_of (number_at 4 (bytes_of 4 (unsigned_of z)) 0) ≡ z
unfolding number_at bytes_of
signed_whole z h = ap signed_of (four_whole (unsigned_of z) (unsigned_fits z h)) ∙ signed_unsigned z h

submit_says : (s : Submission) (post : List ℕ) → SubmissionInWidth s → Says (frame_bytes (Submit s) ++ post) (Submit s) (shape.length_of shape.kind_submit) shape.kind_submit
unfolding frame_bytes submission_start submission_end head_bytes bytes_of number_at frame_in submission_in
submit_says s post w = record {
  there = omega arith;
  says_size = refl;
  says_kind = refl;
  sized = refl;
  is_kind_lem = refl;
  enough = lit≤ tt;
  says_frame = λ i. Submit (record {
    station = s.station;
    kind = s.kind;
    grade = two_whole s.grade w.grade i;
    weight = signed_whole s.weight w.weight i;
    moisture = signed_whole s.moisture w.moisture i;
    speed = signed_whole s.speed w.speed i;
    draw = signed_whole s.draw w.draw i;
    curve = four_whole s.curve w.curve i;
  });
}

-- the bytes of a frame of a station alone, likewise
station_says : (kind station : ℕ) (f : Frame) (post : List ℕ) → kind < 65536 → shape.length_of kind ≡ 3
    → frame_in kind (head_bytes kind ++ (station ∷ post)) ≡ f → Says (head_bytes kind ++ (station ∷ post)) f 3 kind
unfolding head_bytes bytes_of number_at
station_says kind station f post small size frame = record {
  there = omega arith;
  says_size = two_whole (shape.length_of kind) (omega (arith, size)) ∙ size;
  says_kind = two_whole kind small;
  sized = size;
  is_kind_lem = ap (ltb 0) size;
  enough = lit≤ tt;
  says_frame = frame;
}

-- the bytes of a frame in width, with any bytes after them, are read as the frame
frame_reads : (f : Frame) → InWidth f → (post : List ℕ) (at : ℕ) → read_rest (frame_bytes f ++ post) at ≡ Ok (f, at + length (frame_bytes f))
unfolding frame_bytes open_start factors_bytes scaled_start submission_start submission_end head_bytes bytes_of frame_in
frame_reads (Open places limit) w post at = says_reads at (open_says places limit post w.0 w.1)
frame_reads (Submit s) w post at = says_reads at (submit_says s post w)
frame_reads (Step station) w post at = says_reads at (station_says shape.kind_step station (Step station) post (lit< tt) refl refl)
frame_reads (Take station) w post at = says_reads at (station_says shape.kind_take station (Take station) post (lit< tt) refl refl)
frame_reads (Run station) w post at = says_reads at (station_says shape.kind_run station (Run station) post (lit< tt) refl refl)
frame_reads (OpenScaled places limit factors) w post at = says_reads at (scaled_says places limit factors post w.0 w.1 w.2)
frame_reads (OpenRuled places limit factors rule) w post at = says_reads at (ruled_says places limit factors rule post w.0 w.1 w.2)
frame_reads (Withdraw station) w post at = says_reads at (station_says shape.kind_withdraw station (Withdraw station) post (lit< tt) refl refl)

-- a frame has at least its length bytes
pub frame_length : (f : Frame) → 2 ≤ length (frame_bytes f)
unfolding frame_bytes open_start factors_bytes scaled_start submission_start submission_end head_bytes bytes_of
frame_length (Open places limit) = lit≤ tt
frame_length (Submit s) = lit≤ tt
frame_length (Step station) = lit≤ tt
frame_length (Take station) = lit≤ tt
frame_length (Run station) = lit≤ tt
frame_length (OpenScaled places limit factors) = lit≤ tt
frame_length (OpenRuled places limit factors rule) = lit≤ tt
frame_length (Withdraw station) = lit≤ tt

-- the same among other bytes
pub frame_among : (f : Frame) → InWidth f → (pre post : List ℕ) → read_of (pre ++ (frame_bytes f ++ post)) (length pre) ≡ Some (Ok (f, length pre + length (frame_bytes f)))
unfolding read_of
frame_among f w pre post =
    let more : length pre < length (pre ++ (frame_bytes f ++ post)) =
    omega (arith, length-append pre (frame_bytes f ++ post), length-append (frame_bytes f) post, frame_length f) in
    simp (lt-ltb (length pre) (length (pre ++ (frame_bytes f ++ post))) more, drop-append_seam pre (frame_bytes f ++ post))
    (ap Some (frame_reads f w post (length pre)))

-- the count is that of the frame's bytes
pub written_count : (f : Frame) → (written_of f).count ≡ length (frame_bytes f)
unfolding written_of written_bytes
written_count f = refl

-- what is written reads back as the same call, whatever stands before and after it
pub written_reads : (f : Frame) → InWidth f → (pre post : List ℕ) →
    read_of (pre ++ (take (written_of f).count (written_of f).bytes ++ post)) (length pre) ≡ Some (Ok (f, length pre + (written_of f).count))
written_reads f w pre post = rw (written_used f, written_count f) (frame_among f w pre post)
