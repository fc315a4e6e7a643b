-- The refusals (Rules 7.1): the number of the first question that a call fails, by name.
use Rattle.std.specs.Prelude.{ℕ, Bool, true, false, Result, Ok, Err}
use Rattle.words.specs.declared.refusal.Refusal.{Refusal}
use Rattle.words.specs.declared.refusal.Refusal.TheVariants.{BadPlaces, BadLimit, ShortSlice, NotOpened, NoStation, NotIdle, NoKind, BadPoint, BadCurve, NotUnfinished, Unsound, NothingWaits, BadFactor, BadRule}

-- the places are out of range
abbrev pub bad_places : ℕ
bad_places = 1

-- the change limit is out of range
abbrev pub bad_limit : ℕ
bad_limit = 2

-- the slice is too short for the places
abbrev pub short_slice : ℕ
short_slice = 3

-- the slice is not opened
abbrev pub not_opened : ℕ
not_opened = 4

-- there is no such station
abbrev pub no_station : ℕ
no_station = 5

-- the station is not idle
abbrev pub not_idle : ℕ
not_idle = 6

-- there is no such kind of call
abbrev pub no_kind : ℕ
no_kind = 7

-- the point is out of range
abbrev pub bad_point : ℕ
bad_point = 8

-- the curve of an add is out of range
abbrev pub bad_curve : ℕ
bad_curve = 9

-- the station has no unfinished call
abbrev pub not_unfinished : ℕ
not_unfinished = 10

-- a field that the call needs is out of range
abbrev pub unsound : ℕ
unsound = 11

-- no answer waits
abbrev pub nothing_waits : ℕ
nothing_waits = 12

-- a factor is out of range
abbrev pub bad_factor : ℕ
bad_factor = 17

-- there is no such rule
abbrev pub bad_rule : ℕ
bad_rule = 20

-- the number of a refusal
abbrev pub number_of : Refusal → ℕ
number_of BadPlaces = bad_places
number_of BadLimit = bad_limit
number_of ShortSlice = short_slice
number_of NotOpened = not_opened
number_of NoStation = no_station
number_of NotIdle = not_idle
number_of NoKind = no_kind
number_of BadPoint = bad_point
number_of BadCurve = bad_curve
number_of NotUnfinished = not_unfinished
number_of Unsound = unsound
number_of NothingWaits = nothing_waits
number_of BadFactor = bad_factor
number_of BadRule = bad_rule

-- the number of what a call gives (Rules 7.1): that of its refusal, or 0
abbrev pub number_told : {A : Type 0} → Result A Refusal → ℕ
number_told (Ok _) = 0
number_told (Err refusal) = number_of refusal

-- what a question comes to: the refusal where it fails
abbrev pub asked : Bool → Refusal → Result (Unit {0}) Refusal
asked true refusal = Ok tt
asked false refusal = Err refusal
