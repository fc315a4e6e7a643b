-- P7 and P8 (Rules 13), and the kinds 6 to 9, by computation of the definitions that the contracts cite. Assumes nothing.
use mathlib.Core.Path.{◌≡◌, refl}
use mathlib.Core.List.{List, [], ◌∷◌, ◌++◌}
use Prim.Native.Nat.{ℕ}
use lib.ListN.{replicate}
use Rattle.frames.specs.declared.frame.Factors.{Factors}
use Rattle.frames.specs.declared.frame.Frame.TheVariants.{Open, Step, OpenScaled, OpenRuled, Withdraw}
use Rattle.std.specs.Prelude.{Some, Ok, Err}
use Rattle.frames.specs.declared.refusal.FrameRefusal.TheVariants.{NoKind, WrongLength}
use Rattle.numbers.specs.Bytes.{number_at, bytes_of}
use Rattle.frames.specs.Refusal.{number_of}
use Rattle.frames.specs.Read.{is_whole, has_kind, own_length, factors_at, frame_in, read_rest, read_of}
use Rattle.frames.proofs.OutcomeLaws.{same_read}
use Rattle.frames.specs.Write.{head_bytes, open_start, factors_bytes, scaled_start, frame_bytes, padded, written_bytes, written_of}

-- P7: step for station 2: bytes 03 00 03 00 02
pub p7 : ((written_of (Step 2)).bytes ≡ (3 ∷ 0 ∷ 3 ∷ 0 ∷ 2 ∷ []) ++ replicate 23 0) × ((written_of (Step 2)).count ≡ 5)
unfolding written_of written_bytes padded frame_bytes head_bytes bytes_of
p7 = (refl, refl)

-- P8: length 1, its byte there: 14
pub p8 : (byte : ℕ) → (read_of (1 ∷ 0 ∷ byte ∷ []) 0 ≡ Some (Err NoKind)) × (number_of NoKind ≡ 14)
unfolding read_of read_rest is_whole has_kind number_at
p8 byte = (refl, refl)

-- withdrawal for station 2: bytes 03 00 08 00 02
pub withdrawal_bytes : ((written_of (Withdraw 2)).bytes ≡ (3 ∷ 0 ∷ 8 ∷ 0 ∷ 2 ∷ []) ++ replicate 23 0) × ((written_of (Withdraw 2)).count ≡ 5)
unfolding written_of written_bytes padded frame_bytes head_bytes bytes_of
withdrawal_bytes = (refl, refl)

-- kind 8 with its station is read as a withdrawal, and the next position is past its five bytes
pub withdrawal_read : (station : ℕ) → read_of (3 ∷ 0 ∷ 8 ∷ 0 ∷ station ∷ []) 0 ≡ Some (Ok (Withdraw station, 5))
unfolding read_of read_rest is_whole has_kind own_length frame_in number_at
withdrawal_read station = refl

-- the factors 1, 1,000, 3 and 65,535
abbrev pub factors : Factors
factors = record { weight = 1; moisture = 1000; speed = 3; draw = 65535 }

-- four ones
abbrev pub ones : Factors
ones = record { weight = 1; moisture = 1; speed = 1; draw = 1 }

-- an opening with 64 places, limit 1,000 and these factors: 10 00 06 00, 40 00, e8 03 00 00, then 01 00, e8 03, 03 00, ff ff
abbrev pub scaled_bytes : List ℕ
scaled_bytes = 16 ∷ 0 ∷ 6 ∷ 0 ∷ 64 ∷ 0 ∷ 232 ∷ 3 ∷ 0 ∷ 0 ∷ 1 ∷ 0 ∷ 232 ∷ 3 ∷ 3 ∷ 0 ∷ 255 ∷ 255 ∷ []

pub scaled_bytes_lem : ((written_of (OpenScaled 64 1000 factors)).bytes ≡ scaled_bytes ++ replicate 10 0) × ((written_of (OpenScaled 64 1000 factors)).count ≡ 18)
unfolding written_of written_bytes padded frame_bytes open_start factors_bytes scaled_start head_bytes bytes_of
scaled_bytes_lem = (refl, refl)

-- they are read as that opening, and the next position is past its eighteen bytes
pub scaled_read : read_of scaled_bytes 0 ≡ Some (Ok (OpenScaled 64 1000 factors, 18))
unfolding read_of read_rest is_whole has_kind own_length frame_in factors_at number_at
scaled_read = refl

-- with four ones: still the kind 6, and read as no opening of kind 1
abbrev pub ones_bytes : List ℕ
ones_bytes = 16 ∷ 0 ∷ 6 ∷ 0 ∷ 64 ∷ 0 ∷ 232 ∷ 3 ∷ 0 ∷ 0 ∷ 1 ∷ 0 ∷ 1 ∷ 0 ∷ 1 ∷ 0 ∷ 1 ∷ 0 ∷ []

pub ones_bytes_lem : ((written_of (OpenScaled 64 1000 ones)).bytes ≡ ones_bytes ++ replicate 10 0) × ((written_of (OpenScaled 64 1000 ones)).count ≡ 18)
unfolding written_of written_bytes padded frame_bytes open_start factors_bytes scaled_start head_bytes bytes_of
ones_bytes_lem = (refl, refl)

pub ones_read : read_of ones_bytes 0 ≡ Some (Ok (OpenScaled 64 1000 ones, 18))
unfolding read_of read_rest is_whole has_kind own_length frame_in factors_at number_at
ones_read = refl

pub ones_not_open : (places limit next : ℕ) → read_of ones_bytes 0 ≡ Some (Ok (Open places limit, next)) → ⊥
unfolding read_of read_rest is_whole has_kind own_length frame_in factors_at number_at
ones_not_open places limit next e = absurd (cc (same_read e).0)

-- the opening of `scaled_bytes` with rule 2: 11 00 07 00, its fields, then 02
abbrev pub ruled_bytes : List ℕ
ruled_bytes = 17 ∷ 0 ∷ 7 ∷ 0 ∷ 64 ∷ 0 ∷ 232 ∷ 3 ∷ 0 ∷ 0 ∷ 1 ∷ 0 ∷ 232 ∷ 3 ∷ 3 ∷ 0 ∷ 255 ∷ 255 ∷ 2 ∷ []

pub ruled_bytes_lem : ((written_of (OpenRuled 64 1000 factors 2)).bytes ≡ ruled_bytes ++ replicate 9 0) × ((written_of (OpenRuled 64 1000 factors 2)).count ≡ 19)
unfolding written_of written_bytes padded frame_bytes open_start factors_bytes scaled_start head_bytes bytes_of
ruled_bytes_lem = (refl, refl)

-- they are read as that opening, and the next position is past its nineteen bytes
pub ruled_read : read_of ruled_bytes 0 ≡ Some (Ok (OpenRuled 64 1000 factors 2, 19))
unfolding read_of read_rest is_whole has_kind own_length frame_in factors_at number_at
ruled_read = refl

-- with rule 1: still the kind 7, and read as no opening of kind 6
abbrev pub first_bytes : List ℕ
first_bytes = 17 ∷ 0 ∷ 7 ∷ 0 ∷ 64 ∷ 0 ∷ 232 ∷ 3 ∷ 0 ∷ 0 ∷ 1 ∷ 0 ∷ 1 ∷ 0 ∷ 1 ∷ 0 ∷ 1 ∷ 0 ∷ 1 ∷ []

pub first_bytes_lem : ((written_of (OpenRuled 64 1000 ones 1)).bytes ≡ first_bytes ++ replicate 9 0) × ((written_of (OpenRuled 64 1000 ones 1)).count ≡ 19)
unfolding written_of written_bytes padded frame_bytes open_start factors_bytes scaled_start head_bytes bytes_of
first_bytes_lem = (refl, refl)

pub first_read : read_of first_bytes 0 ≡ Some (Ok (OpenRuled 64 1000 ones 1, 19))
unfolding read_of read_rest is_whole has_kind own_length frame_in factors_at number_at
first_read = refl

pub first_not_scaled : (places limit : ℕ) (f : Factors) (next : ℕ) → read_of first_bytes 0 ≡ Some (Ok (OpenScaled places limit f, next)) → ⊥
unfolding read_of read_rest is_whole has_kind own_length frame_in factors_at number_at
first_not_scaled places limit f next e = absurd (cc (same_read e).0)

-- an opening of kind 6 as long as one of kind 1, and one of kind 1 as long as one of kind 6; the same of kinds 7 and 6: 15
pub lengths-crossed :
    (read_of (8 ∷ 0 ∷ 6 ∷ 0 ∷ 64 ∷ 0 ∷ 232 ∷ 3 ∷ 0 ∷ 0 ∷ []) 0 ≡ Some (Err WrongLength))
    × (read_of (16 ∷ 0 ∷ 1 ∷ 0 ∷ 64 ∷ 0 ∷ 232 ∷ 3 ∷ 0 ∷ 0 ∷ 1 ∷ 0 ∷ 1 ∷ 0 ∷ 1 ∷ 0 ∷ 1 ∷ 0 ∷ []) 0 ≡ Some (Err WrongLength))
    × (read_of (16 ∷ 0 ∷ 7 ∷ 0 ∷ 64 ∷ 0 ∷ 232 ∷ 3 ∷ 0 ∷ 0 ∷ 1 ∷ 0 ∷ 1 ∷ 0 ∷ 1 ∷ 0 ∷ 1 ∷ 0 ∷ []) 0 ≡ Some (Err WrongLength))
    × (read_of (17 ∷ 0 ∷ 6 ∷ 0 ∷ 64 ∷ 0 ∷ 232 ∷ 3 ∷ 0 ∷ 0 ∷ 1 ∷ 0 ∷ 1 ∷ 0 ∷ 1 ∷ 0 ∷ 1 ∷ 0 ∷ 1 ∷ []) 0 ≡ Some (Err WrongLength))
    × (number_of WrongLength ≡ 15)
unfolding read_of read_rest is_whole has_kind own_length number_at
lengths-crossed = (refl, refl, refl, refl, refl)

-- kind 9, length 3 and a byte for the station: 14
pub kind_beyond : (byte : ℕ) → (read_of (3 ∷ 0 ∷ 9 ∷ 0 ∷ byte ∷ []) 0 ≡ Some (Err NoKind)) × (number_of NoKind ≡ 14)
unfolding read_of read_rest is_whole has_kind number_at
kind_beyond byte = (refl, refl)
