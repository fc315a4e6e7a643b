-- The cases P1 to P10 (Rules 13) as one table, a row for each case (`ProvedCases`), under rule 1 with factors of one where no other is named. P1 to P4 are about points, P7 and P8
-- about frames. P5, P6, P9 and P10 are about calls made one after the other: what the plain table answers, and what every slice long enough gives when it
-- is opened and each call is submitted, run and taken.
use Rattle.std.specs.Prelude.{ℕ, ◌≤◌, ◌≡◌, true, false, List, [], ◌∷◌, ◌++◌, ℤ, pos, negsuc, length, replicate}
use Rattle.std.proofs.Math.Option.{some}
use Rattle.claims.specs.Definitions.{Point, Scale, plain_scale, square_of, cut_of, goes_left, words_for, Call, call_of, Answer, answer, is_change, Table, opened, answer_of, changed_if}
use Rattle.claims.specs.Definitions.{open_of, submit_of, run_of, take_of, take_words, given_by, Step, Some, Err, NoFrameKind, frame_refusal_number, read_of, written_of}

-- ---- points

-- grade 12, 80 g/m², 5.5 %, 900 m/min, and the draw
abbrev pub drawn : ℤ → Point
drawn draw = record { grade = pos 12; weight = pos 8_000; moisture = pos 550; speed = pos 9_000; draw = draw }

-- grade 12, 5.5 %, no draw, and the weight and speed
abbrev pub made : ℕ → ℕ → Point
made weight speed = record { grade = pos 12; weight = pos weight; moisture = pos 550; speed = pos speed; draw = pos 0 }

-- 5.5 %, 900 m/min, no draw, and the grade and weight
abbrev pub at_weight : ℕ → ℕ → Point
at_weight grade weight = record { grade = pos grade; weight = pos weight; moisture = pos 550; speed = pos 9_000; draw = pos 0 }

-- factors by which the weight counts 9 times
abbrev pub heavy_weight : Scale
heavy_weight = record { rule = 1; weight = 9; moisture = 1; speed = 1; draw = 1 }

-- rule 2 with factors of one, and with the greatest
abbrev pub dry_ones : Scale
dry_ones = record { rule = 2; weight = 1; moisture = 1; speed = 1; draw = 1 }

abbrev pub dry_sixteens : Scale
dry_sixteens = record { rule = 2; weight = 16; moisture = 16; speed = 16; draw = 16 }

-- grade 12, 50 %, no draw, and the weight and speed
abbrev pub damp : ℕ → ℕ → Point
damp weight speed = record { grade = pos 12; weight = pos weight; moisture = pos 5_000; speed = pos speed; draw = pos 0 }

-- the greatest dry weight and the least, with the other ends
abbrev pub driest : Point
driest = record { grade = pos 12; weight = pos 100_000; moisture = pos 0; speed = pos 0; draw = negsuc 1_999 }

abbrev pub wettest : Point
wettest = record { grade = pos 12; weight = pos 1; moisture = pos 9_999; speed = pos 30_000; draw = pos 2_000 }

-- ---- calls one after the other

-- a call by a station
pub record Asked : Type 0 where
  pub station : ℕ
  pub kind : ℕ
  pub point : Point
  pub curve : ℕ

-- an add by a station, by station 0, and a nearest by station 1
abbrev pub adds_by : ℕ → Point → ℕ → Asked
adds_by s p c = record { station = s; kind = 1; point = p; curve = c }

abbrev pub adds : Point → ℕ → Asked
adds p c = adds_by 0 p c

abbrev pub seeks : Point → Asked
seeks p = record { station = 1; kind = 4; point = p; curve = 0 }

abbrev pub call_of_asked : Asked → Call
call_of_asked a = call_of a.kind a.point a.curve

-- the plain table after a call
abbrev pub answered_table : Table → Asked → Table
answered_table t a = changed_if (is_change (answer_of t a.station (call_of_asked a))) t a.station (call_of_asked a)

-- what the plain table answers
unfoldable pub answers_of : Table → List Asked → List Answer
answers_of t [] = []
answers_of t (a ∷ more) = answer_of t a.station (call_of_asked a) ∷ answers_of (answered_table t a) more

-- the words after a call's submission, and after its run
abbrev pub submitted_words : List ℕ → Asked → List ℕ
submitted_words words a = (submit_of words a.station a.kind a.point a.curve).words

abbrev pub ran_words : List ℕ → Asked → List ℕ
ran_words words a = (run_of (submitted_words words a) a.station).words

-- from these words each call is accepted on submission and by its run, and its taking gives this answer
abbrev pub Gives : List ℕ → List Asked → List Answer → Type 0
Gives words [] [] = Unit {0}
Gives words [] (x ∷ xs) = ⊥
Gives words (a ∷ more) [] = ⊥
Gives words (a ∷ more) (x ∷ xs) =
    ((submit_of words a.station a.kind a.point a.curve).number ≡ 0)
    × ((run_of (submitted_words words a) a.station).number ≡ 0)
    × (given_by (take_of (ran_words words a) a.station) ≡ some x)
    × Gives (take_words (ran_words words a) a.station) more xs

-- the plain table gives these answers, and so does every slice long enough, opened with these places, this limit and these factors
pub record Answered (places limit : ℕ) (scale : Scale) (calls : List Asked) (answers : List Answer) : Type 0 where
  pub table : answers_of (opened places limit scale) calls ≡ answers
  pub words : (words : List ℕ) → words_for places ≤ length words → ((open_of words places limit scale).number ≡ 0) × Gives (open_of words places limit scale).words calls answers

-- ---- the table

pub record ProvedCases : Type 0 where
  -- draws −3 and 4, else equal: square 49
  pub p1 : square_of plain_scale (drawn (negsuc 2)) (drawn (pos 4)) ≡ 49
  -- cut of 3 and 4: 3 left, 4 right
  pub p2 : (goes_left (cut_of 1 (drawn (pos 3)) (drawn (pos 4))) (drawn (pos 3)) ≡ true) × (goes_left (cut_of 1 (drawn (pos 3)) (drawn (pos 4))) (drawn (pos 4)) ≡ false)
  -- cut of −4 and −3: −4 left, −3 right
  pub p3 : (goes_left (cut_of 1 (drawn (negsuc 3)) (drawn (negsuc 2))) (drawn (negsuc 3)) ≡ true)
      × (goes_left (cut_of 1 (drawn (negsuc 3)) (drawn (negsuc 2))) (drawn (negsuc 2)) ≡ false)
  -- points equal but for weight +5 and speed +5: axis 2
  pub p4 : (cut_of 1 (made 8_000 9_000) (made 8_005 9_005)).axis ≡ 2
  -- target weight 9,000, held 8,990 and 9,010: 9,010
  pub p5 : Answered 2 10 plain_scale (adds (at_weight 12 8_990) 42 ∷ adds (at_weight 12 9_010) 41 ∷ seeks (at_weight 12 9_000) ∷ [])
      (answer 1 (at_weight 12 8_990) 42 0 ∷ answer 1 (at_weight 12 9_010) 41 0 ∷ answer 8 (at_weight 12 9_010) 41 100 ∷ [])
  -- also where the heavier was added first
  pub p5_first : Answered 2 10 plain_scale (adds (at_weight 12 9_010) 41 ∷ adds (at_weight 12 8_990) 42 ∷ seeks (at_weight 12 9_000) ∷ [])
      (answer 1 (at_weight 12 9_010) 41 0 ∷ answer 1 (at_weight 12 8_990) 42 0 ∷ answer 8 (at_weight 12 9_010) 41 100 ∷ [])
  -- a weight 10 off is nearer than a speed 20 off; not where the weight counts 9 times: then its square is 900, and that of the speed 400
  pub plain_nearest : Answered 2 10 plain_scale (adds (made 9_010 9_000) 41 ∷ adds (made 9_000 9_020) 42 ∷ seeks (made 9_000 9_000) ∷ [])
      (answer 1 (made 9_010 9_000) 41 0 ∷ answer 1 (made 9_000 9_020) 42 0 ∷ answer 8 (made 9_010 9_000) 41 100 ∷ [])
  pub factors_nearest : Answered 2 10 heavy_weight (adds (made 9_010 9_000) 41 ∷ adds (made 9_000 9_020) 42 ∷ seeks (made 9_000 9_000) ∷ [])
      (answer 1 (made 9_010 9_000) 41 0 ∷ answer 1 (made 9_000 9_020) 42 0 ∷ answer 8 (made 9_000 9_020) 42 400 ∷ [])
  -- at 50 % a speed 6 off is nearer than a weight 10 off by rule 1; by rule 2 the weight counts half, and is: 50,000² against 60,000²
  pub coordinates_nearest : Answered 2 10 plain_scale (adds (damp 9_010 9_000) 41 ∷ adds (damp 9_000 9_006) 42 ∷ seeks (damp 9_000 9_000) ∷ [])
      (answer 1 (damp 9_010 9_000) 41 0 ∷ answer 1 (damp 9_000 9_006) 42 0 ∷ answer 8 (damp 9_000 9_006) 42 36 ∷ [])
  pub dry_nearest : Answered 2 10 dry_ones (adds (damp 9_010 9_000) 41 ∷ adds (damp 9_000 9_006) 42 ∷ seeks (damp 9_000 9_000) ∷ [])
      (answer 1 (damp 9_010 9_000) 41 0 ∷ answer 1 (damp 9_000 9_006) 42 0 ∷ answer 8 (damp 9_010 9_000) 41 2_500_000_000 ∷ [])
  -- the greatest square is found and given
  pub dry_farthest : Answered 2 10 dry_sixteens (adds driest 41 ∷ seeks wettest ∷ []) (answer 1 driest 41 0 ∷ answer 8 driest 41 17_625_567_969_600_000_016 ∷ [])
  -- target grade 13, only grade 12 held: 9
  pub p6 : Answered 2 10 plain_scale (adds (at_weight 12 9_000) 41 ∷ seeks (at_weight 13 9_000) ∷ []) (answer 1 (at_weight 12 9_000) 41 0 ∷ answer 9 (at_weight 13 9_000) 0 0 ∷ [])
  -- step for station 2: bytes 03 00 03 00 02
  pub p7 : ((written_of (Step 2)).bytes ≡ (3 ∷ 0 ∷ 3 ∷ 0 ∷ 2 ∷ []) ++ replicate 23 0) × ((written_of (Step 2)).count ≡ 5)
  -- length 1, its byte there: 14
  pub p8 : (byte : ℕ) → (read_of (1 ∷ 0 ∷ byte ∷ []) 0 ≡ Some (Err NoFrameKind)) × (frame_refusal_number NoFrameKind ≡ 14)
  -- one place, held point added again: 2
  pub p9 : Answered 1 10 plain_scale (adds (at_weight 12 9_000) 41 ∷ adds (at_weight 12 9_000) 42 ∷ []) (answer 1 (at_weight 12 9_000) 41 0 ∷ answer 2 (at_weight 12 9_000) 41 0 ∷ [])
  -- limit 1, one add done, new add of the same station: 4
  pub p10 : Answered 2 1 plain_scale (adds (at_weight 12 9_000) 41 ∷ adds (at_weight 12 9_001) 42 ∷ []) (answer 1 (at_weight 12 9_000) 41 0 ∷ answer 4 (at_weight 12 9_001) 0 0 ∷ [])
  -- also when full
  pub p10_full : Answered 1 1 plain_scale (adds (at_weight 12 9_000) 41 ∷ adds (at_weight 12 9_001) 42 ∷ []) (answer 1 (at_weight 12 9_000) 41 0 ∷ answer 4 (at_weight 12 9_001) 0 0 ∷ [])
  -- a second station still adds if there is a place
  pub p10_second : Answered 2 1 plain_scale (adds (at_weight 12 9_000) 41 ∷ adds (at_weight 12 9_001) 42 ∷ adds_by 1 (at_weight 12 9_001) 43 ∷ [])
      (answer 1 (at_weight 12 9_000) 41 0 ∷ answer 4 (at_weight 12 9_001) 0 0 ∷ answer 1 (at_weight 12 9_001) 43 0 ∷ [])
  -- and gets 3 if there is none
  pub p10_second_full : Answered 1 1 plain_scale (adds (at_weight 12 9_000) 41 ∷ adds (at_weight 12 9_001) 42 ∷ adds_by 1 (at_weight 12 9_001) 43 ∷ [])
      (answer 1 (at_weight 12 9_000) 41 0 ∷ answer 4 (at_weight 12 9_001) 0 0 ∷ answer 3 (at_weight 12 9_001) 0 0 ∷ [])
