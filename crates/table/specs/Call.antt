-- Calls and their answers (Rules 2).
use Rattle.std.specs.Prelude.{Bool, true, false, cond, ◌&&◌, ◌||◌, ℕ, eqb, leb}
use Rattle.std.proofs.Math.Option.{Option, none, some}
use Rattle.points.specs.declared.point.Point.{Point}
use Rattle.points.specs.declared.scale.Scale.{Scale}
use Rattle.points.specs.Square.{square_of}
use Rattle.table.specs.Record.{Record}

-- Rules 2.2: "1 add, 2 remove, 3 contains and 4 nearest"
pub data Call : Type 0 where
  add : Point → ℕ → Call
  remove : Point → Call
  contains : Point → Call
  nearest : Point → Call

-- Rules 7.1, question 7: "Is the call kind 1 to 4?"
unfoldable pub kind_in_range : ℕ → Bool
kind_in_range kind = leb 1 kind && leb kind 4

-- the call of a kind 1 to 4; "Kinds other than add disregard the curve" (Rules 2.2)
unfoldable pub call_of : ℕ → Point → ℕ → Call
call_of kind p c = cond (eqb kind 1) (add p c) (cond (eqb kind 2) (remove p) (cond (eqb kind 3) (contains p) (nearest p)))

-- the calls that keep the places of removals taken while they are unfinished (Rules 3.3)
unfoldable pub is_search : Call → Bool
is_search (add p c) = false
is_search (remove p) = false
is_search (contains p) = false
is_search (nearest p) = true

-- Rules 2.4: "Every answer has a code, a point, a curve and a square"
pub record Answer : Type 0 where
  pub code : ℕ
  pub point : Point
  pub curve : ℕ
  pub square : ℕ

-- an answer by its four parts
abbrev pub answer : ℕ → Point → ℕ → ℕ → Answer
answer n p c q = record { code = n; point = p; curve = c; square = q }

-- add (Rules 2.5): first 2, then 4, then 3, else 1
unfoldable pub add_answer : Point → ℕ → Option ℕ → Bool → Bool → Answer
add_answer p c (some held) spent full = answer 2 p held 0
add_answer p c none true full = answer 4 p 0 0
add_answer p c none false true = answer 3 p 0 0
add_answer p c none false false = answer 1 p c 0

-- remove (Rules 2.6): first 6, then 4, else 5
unfoldable pub remove_answer : Point → Option ℕ → Bool → Answer
remove_answer p none spent = answer 6 p 0 0
remove_answer p (some held) true = answer 4 p 0 0
remove_answer p (some held) false = answer 5 p held 0

-- contains (Rules 2.7): 7 or 6
unfoldable pub contains_answer : Point → Option ℕ → Answer
contains_answer p none = answer 6 p 0 0
contains_answer p (some held) = answer 7 p held 0

-- nearest (Rules 2.8): 8 with the square by the scale, or 9 "where the grade has no record"
unfoldable pub nearest_answer : Scale → Point → Option Record → Answer
nearest_answer scale p none = answer 9 p 0 0
nearest_answer scale p (some r) = answer 8 r.point r.curve (square_of scale p r.point)

-- the point given
abbrev pub point_of : Call → Point
point_of (add p c) = p
point_of (remove p) = p
point_of (contains p) = p
point_of (nearest p) = p

-- withdrawn (Rules 2.9): 11 with its point, curve 0 and square 0
unfoldable pub withdrawn_answer : Call → Answer
withdrawn_answer c = answer 11 (point_of c) 0 0

-- Rules 3.2: "Codes 1 and 5 are the changes"
unfoldable pub is_change : Answer → Bool
is_change a = eqb a.code 1 || eqb a.code 5
