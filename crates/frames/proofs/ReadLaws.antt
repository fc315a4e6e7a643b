-- What is read writes back as the same bytes: `read_writes`. What is read is in width: `read_in_width`. Assumes nothing.
use mathlib.Core.Path.{◌≡◌, refl, sym, ap, subst, ◌∙◌}
use mathlib.Core.Bool.{true}
use mathlib.Core.List.{List, [], ◌∷◌, ◌++◌}
use Prim.Native.Nat.{ℕ, ◌+◌, ◌-◌, ◌*◌, ◌%◌, ◌≤◌}
use native.Mathlib.Omega.{arith}
use lib.ListN.{length, get_or, take, drop}
use lib.Seq.{take-add, drop-drop, get_or-drop, length-take-le}
use lib.Dec.{leb}
use borrow.Author.Tests.{eqb-true}
use Rattle.points.proofs.Tests.{and_r}
use Rattle.numbers.specs.Bytes.{AllBytes, number_at, bytes_of}
use Rattle.numbers.specs.Signed.{unsigned_of, signed_of}
use Rattle.numbers.proofs.SignedLaws.{unsigned_signed, signed_near}
use Rattle.numbers.proofs.NumberLaws.{bytes_number, two_fits, four_fits}
use Rattle.frames.specs.declared.frame.Frame.{Frame}
use Rattle.std.specs.Prelude.{Some, Ok}
use Rattle.frames.specs.Width.{InWidth, FactorsInWidth}
use Rattle.frames.specs.Shape as shape
use Rattle.frames.specs.Read.{length_in, kind_in, has_kind, own_length, submission_in, factors_at, frame_in, read_of}
use Rattle.frames.specs.Outcome.{Passes}
use Rattle.frames.specs.Write.{head_bytes, open_start, factors_bytes, scaled_start, submission_start, submission_end, frame_bytes, written_of}
use Rattle.frames.proofs.ShapeLaws.{by_kind}
use Rattle.frames.proofs.QuestionLaws.{whole_there}
use Rattle.frames.proofs.OutcomeLaws.{was_read}
use Rattle.frames.proofs.WrittenLaws.{written_used, written_count}

-- fields of these widths, one after the other, read as numbers and written again
parts : List ℕ → ℕ → List ℕ → List ℕ
parts bytes at [] = []
parts bytes at (n ∷ ns) = bytes_of n (number_at n bytes at) ++ parts bytes (at + n) ns

total : List ℕ → ℕ
total [] = 0
total (n ∷ ns) = n + total ns

parts_taken : (bytes : List ℕ) (at : ℕ) (ns : List ℕ) → AllBytes bytes → at + total ns ≤ length bytes → parts bytes at ns ≡ take (total ns) (drop at bytes)
unfolding parts total
parts_taken bytes at [] small h = refl
parts_taken bytes at (n ∷ ns) small h =
    rw (bytes_number n bytes at small (omega arith), parts_taken bytes (at + n) ns small (omega arith), take-add n (total ns) (drop at bytes), drop-drop n at bytes)

-- a field of one byte
one_byte : (bytes : List ℕ) (at : ℕ) → AllBytes bytes → (get_or bytes at 0 + 256 * 0) % 256 ≡ get_or bytes at 0
one_byte bytes at small = omega (arith, small at)

-- a signed field
signed_field : (bytes : List ℕ) (at : ℕ) → AllBytes bytes → unsigned_of (signed_of (number_at 4 bytes at)) ≡ number_at 4 bytes at
signed_field bytes at small = unsigned_signed (number_at 4 bytes at) (four_fits bytes at small)

module _ (rest : List ℕ) (small : AllBytes rest) where
  -- the bytes of the frame of a kind are the first of the bytes
  abbrev Same : ℕ → Type 0
  Same k =
      kind_in rest ≡ k → length_in rest ≡ shape.length_of k → shape.size_of (shape.length_of k) ≤ length rest
      → frame_bytes (frame_in k rest) ≡ take (shape.size_of (shape.length_of k)) rest

  -- length and kind
  same_head : (kind : ℕ) → kind_in rest ≡ kind → length_in rest ≡ shape.length_of kind → head_bytes kind ≡ bytes_of 2 (length_in rest) ++ bytes_of 2 (kind_in rest)
  unfolding head_bytes
  same_head kind k s = λ i. bytes_of 2 (sym s i) ++ bytes_of 2 (sym k i)

  same_open : Same shape.kind_open
  unfolding frame_in frame_bytes open_start head_bytes bytes_of number_at parts total
  same_open k s there =
      (λ i. same_head shape.kind_open k s i ++ (bytes_of 2 (number_at 2 rest shape.at_places) ++ bytes_of 4 (number_at 4 rest shape.at_limit)))
      ∙ parts_taken rest 0 (2 ∷ 2 ∷ 2 ∷ 4 ∷ []) small there

  same_submit : Same shape.kind_submit
  unfolding frame_in submission_in frame_bytes submission_start submission_end head_bytes bytes_of number_at parts total
  same_submit k s there =
      (λ i.
      (same_head shape.kind_submit k s i ++ (sym (one_byte rest shape.at_station small) i ∷ (sym (one_byte rest shape.at_call small) i ∷ bytes_of 2 (number_at 2 rest shape.at_grade))))
      ++ (bytes_of 4 (signed_field rest shape.at_weight small i)
      ++ (bytes_of 4 (signed_field rest shape.at_moisture small i)
      ++ (bytes_of 4 (signed_field rest shape.at_speed small i) ++ (bytes_of 4 (signed_field rest shape.at_draw small i) ++ bytes_of 4 (number_at 4 rest shape.at_curve))))))
      ∙ parts_taken rest 0 (2 ∷ 2 ∷ 1 ∷ 1 ∷ 2 ∷ 4 ∷ 4 ∷ 4 ∷ 4 ∷ 4 ∷ []) small there

  same_scaled : Same shape.kind_open_scaled
  unfolding frame_in factors_at frame_bytes open_start factors_bytes scaled_start head_bytes bytes_of number_at parts total
  same_scaled k s there =
      (λ i.
      (same_head shape.kind_open_scaled k s i ++ (bytes_of 2 (number_at 2 rest shape.at_places) ++ bytes_of 4 (number_at 4 rest shape.at_limit)))
      ++ (bytes_of 2 (number_at 2 rest shape.at_weight_factor)
      ++ (bytes_of 2 (number_at 2 rest shape.at_moisture_factor)
      ++ (bytes_of 2 (number_at 2 rest shape.at_speed_factor) ++ bytes_of 2 (number_at 2 rest shape.at_draw_factor)))))
      ∙ parts_taken rest 0 (2 ∷ 2 ∷ 2 ∷ 4 ∷ 2 ∷ 2 ∷ 2 ∷ 2 ∷ []) small there

  same_ruled : Same shape.kind_open_ruled
  unfolding frame_in factors_at frame_bytes open_start factors_bytes scaled_start head_bytes bytes_of number_at parts total
  same_ruled k s there =
      (λ i.
      ((same_head shape.kind_open_ruled k s i ++ (bytes_of 2 (number_at 2 rest shape.at_places) ++ bytes_of 4 (number_at 4 rest shape.at_limit)))
      ++ (bytes_of 2 (number_at 2 rest shape.at_weight_factor)
      ++ (bytes_of 2 (number_at 2 rest shape.at_moisture_factor)
      ++ (bytes_of 2 (number_at 2 rest shape.at_speed_factor) ++ bytes_of 2 (number_at 2 rest shape.at_draw_factor)))))
      ++ (sym (one_byte rest shape.at_rule small) i ∷ []))
      ∙ parts_taken rest 0 (2 ∷ 2 ∷ 2 ∷ 4 ∷ 2 ∷ 2 ∷ 2 ∷ 2 ∷ 1 ∷ []) small there

  -- of a kind with a station alone
  same_station : (kind : ℕ) → kind_in rest ≡ kind → length_in rest ≡ shape.length_of kind → 5 ≤ length rest → head_bytes kind ++ (get_or rest shape.at_station 0 ∷ []) ≡ take 5 rest
  unfolding head_bytes bytes_of number_at parts total
  same_station kind k s there =
      (λ i. same_head kind k s i ++ (sym (one_byte rest shape.at_station small) i ∷ [])) ∙ parts_taken rest 0 (2 ∷ 2 ∷ 1 ∷ []) small there

  the_kind : Passes rest → shape.is_kind (kind_in rest) ≡ true
  unfolding has_kind
  the_kind p = and_r (leb 2 (length_in rest)) (shape.is_kind (kind_in rest)) p.kind

  own_size : Passes rest → length_in rest ≡ shape.length_of (kind_in rest)
  unfolding own_length
  own_size p = eqb-true (length_in rest) (shape.length_of (kind_in rest)) p.own

  same_bytes : Passes rest → frame_bytes (frame_in (kind_in rest) rest) ≡ take (shape.size_of (length_in rest)) rest
  unfolding frame_in frame_bytes
  same_bytes p =
      let own = own_size p in
      let there = whole_there rest p.whole in
      let one = same_station in
      by_kind Same same_open same_submit (one shape.kind_step) (one shape.kind_take) (one shape.kind_run) same_scaled same_ruled (one shape.kind_withdraw) (kind_in rest) (the_kind p) refl own (omega arith)
      ∙ ap (λ (n : ℕ). take (shape.size_of n) rest) (sym own)

  -- fields that are read are in width
  abbrev Wide : ℕ → Type 0
  Wide k = InWidth (frame_in k rest)

  wide_open : Wide shape.kind_open
  unfolding frame_in
  wide_open = (two_fits rest shape.at_places small, four_fits rest shape.at_limit small)

  wide_submit : Wide shape.kind_submit
  unfolding frame_in submission_in
  wide_submit = record {
    station = small shape.at_station;
    kind = small shape.at_call;
    grade = two_fits rest shape.at_grade small;
    weight = signed_near (number_at 4 rest shape.at_weight) (four_fits rest shape.at_weight small);
    moisture = signed_near (number_at 4 rest shape.at_moisture) (four_fits rest shape.at_moisture small);
    speed = signed_near (number_at 4 rest shape.at_speed) (four_fits rest shape.at_speed small);
    draw = signed_near (number_at 4 rest shape.at_draw) (four_fits rest shape.at_draw small);
    curve = four_fits rest shape.at_curve small;
  }

  wide_factors : FactorsInWidth (factors_at rest)
  unfolding factors_at
  wide_factors = record {
    weight = two_fits rest shape.at_weight_factor small;
    moisture = two_fits rest shape.at_moisture_factor small;
    speed = two_fits rest shape.at_speed_factor small;
    draw = two_fits rest shape.at_draw_factor small;
  }

  wide_scaled : Wide shape.kind_open_scaled
  unfolding frame_in
  wide_scaled = (two_fits rest shape.at_places small, four_fits rest shape.at_limit small, wide_factors)

  wide_ruled : Wide shape.kind_open_ruled
  unfolding frame_in
  wide_ruled = (two_fits rest shape.at_places small, four_fits rest shape.at_limit small, wide_factors, small shape.at_rule)

  wide : Passes rest → InWidth (frame_in (kind_in rest) rest)
  unfolding frame_in
  wide p = by_kind Wide wide_open wide_submit (small shape.at_station) (small shape.at_station) (small shape.at_station) wide_scaled wide_ruled (small shape.at_station) (kind_in rest) (the_kind p)

-- bytes from a position on
dropped : (bytes : List ℕ) (at : ℕ) → AllBytes bytes → AllBytes (drop at bytes)
dropped bytes at small i = rw (get_or-drop at bytes i 0) (small (at + i))

module _ (bytes : List ℕ) (at : ℕ) {frame : Frame} {next : ℕ} (small : AllBytes bytes) (e : read_of bytes at ≡ Some (Ok (frame, next))) where
  -- what is read is in width
  pub read_in_width : InWidth frame
  read_in_width =
      let r = was_read bytes at e in
      subst InWidth (sym r.the_frame) (wide (drop at bytes) (dropped bytes at small) r.questions)

  frame_bytes_lem : frame_bytes frame ≡ take (next - at) (drop at bytes)
  frame_bytes_lem =
      let r = was_read bytes at e in
      let size : shape.size_of (length_in (drop at bytes)) ≡ next - at = omega (arith, r.the_next) in
      ap frame_bytes r.the_frame
      ∙ same_bytes (drop at bytes) (dropped bytes at small) r.questions
      ∙ ap (λ (n : ℕ). take n (drop at bytes)) size

  -- what is read writes back as the same bytes
  pub read_writes : take (next - at) (drop at bytes) ≡ take (written_of frame).count (written_of frame).bytes
  read_writes = sym frame_bytes_lem ∙ sym (written_used frame)

  -- and the next position is past them
  pub read_count : next ≡ at + (written_of frame).count
  read_count =
      let r = was_read bytes at e in
      let there = whole_there (drop at bytes) r.questions.whole in
      let size : length (take (next - at) (drop at bytes)) ≡ next - at = length-take-le (next - at) (drop at bytes) (omega (arith, r.the_next)) in
      let same : length (frame_bytes frame) ≡ next - at = ap length frame_bytes_lem ∙ size in
      omega (arith, written_count frame, r.the_next)
