-- The state of a window (Rules 11.2): its length, how many readings are present, and these, the oldest first, with zeros behind.
use Rattle.std.specs.Prelude.{ℕ, zero, suc, ◌-◌, Bool, true, cond, ◌&&◌, List, ◌++◌, length, take, get_or, replicate, leb, ltb}
use Rattle.window.specs.declared.window.Window.{Window}

-- Rules 11.1: "the last 1 to 64 readings"
abbrev pub longest : ℕ
longest = 64

-- Rules 11.1: "in 0.01 %, from 0 to 10,000"
abbrev pub wettest : ℕ
wettest = 10000

abbrev pub length_in : ℕ → Bool
length_in n = leb 1 n && leb n longest

abbrev pub reading_in : ℕ → Bool
reading_in x = leb x wettest

-- zeros behind some readings, so that there are 64 numbers
unfoldable pub padded : List ℕ → List ℕ
padded xs = xs ++ replicate (longest - length xs) 0

-- the state of a window of length n in which these readings are present
unfoldable pub window_of : ℕ → List ℕ → Window
window_of n xs = record { length = n; present = length xs; readings = padded xs }

-- the readings present
unfoldable pub present_in : Window → List ℕ
present_in w = take w.present w.readings

-- the most that may stand at a position: a reading, or behind those present 0
unfoldable pub most_at : ℕ → ℕ → ℕ
most_at present i = cond (ltb i present) wettest 0

-- the first n positions hold what they may
unfoldable pub sound_below : List ℕ → ℕ → ℕ → Bool
sound_below readings present zero = true
sound_below readings present (suc n) = sound_below readings present n && leb (get_or readings n 0) (most_at present n)

-- a state that readings could leave: `sound_exact` says that it is exactly one of these
unfoldable pub is_sound : Window → Bool
is_sound w = (length_in w.length && leb w.present w.length) && sound_below w.readings w.present longest
