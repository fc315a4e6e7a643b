-- What a call comes to: its number, 0 or that of the first question that it fails, and the words that it leaves.
use Rattle.std.specs.Prelude.{ℕ, Bool, true, false, List}

pub record Reply : Type 0 where
  pub number : ℕ
  pub words : List ℕ

-- this number and these words, as a call comes back with them
abbrev pub replied : ℕ → List ℕ → Reply
replied number words = record { number = number; words = words }

-- an accepted call leaves these words
abbrev pub done : List ℕ → Reply
done words = record { number = 0; words = words }

-- a refusal is "its number alone" (Rules 7.2): the words stay
abbrev pub refused : ℕ → List ℕ → Reply
refused number words = record { number = number; words = words }

-- one of two replies
abbrev pub pick_reply : Bool → Reply → Reply → Reply
pick_reply true x y = x
pick_reply false x y = y

-- a question with its number when the reply is no
abbrev pub ask : Bool → ℕ → List ℕ → Reply → Reply
ask passes number words reply = pick_reply passes reply (refused number words)
