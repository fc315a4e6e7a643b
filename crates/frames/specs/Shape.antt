-- The shape of a frame, for reading and for writing (Rules 9.2, 9.3): the kinds with their lengths, where each field starts, and the refusals. `src/shape`
-- has the same names for the offsets, and `Kind` and `Refusal` have names for the kinds and the refusals.
use Rattle.std.specs.Prelude.{ℕ, ◌+◌, Bool, cond, eqb, ltb}

-- the kinds
abbrev pub kind_open : ℕ
kind_open = 1

abbrev pub kind_submit : ℕ
kind_submit = 2

abbrev pub kind_step : ℕ
kind_step = 3

abbrev pub kind_take : ℕ
kind_take = 4

abbrev pub kind_run : ℕ
kind_run = 5

abbrev pub kind_open_scaled : ℕ
kind_open_scaled = 6

abbrev pub kind_open_ruled : ℕ
kind_open_ruled = 7

abbrev pub kind_withdraw : ℕ
kind_withdraw = 8

-- Rules 9.2: "two bytes of length, which counts what follows them; then a kind of two bytes"
abbrev pub at_length : ℕ
at_length = 0

abbrev pub at_kind : ℕ
at_kind = 2

-- Rules 9.3: "places 2, limit 4", in every opening
abbrev pub at_places : ℕ
at_places = 4

abbrev pub at_limit : ℕ
at_limit = 6

-- Rules 9.3: "places 2, limit 4, factors of weight, moisture, speed, draw 2 each", in an opening with a rule as in one without
abbrev pub at_weight_factor : ℕ
at_weight_factor = 10

abbrev pub at_moisture_factor : ℕ
at_moisture_factor = 12

abbrev pub at_speed_factor : ℕ
at_speed_factor = 14

abbrev pub at_draw_factor : ℕ
at_draw_factor = 16

-- Rules 9.3: "places 2, limit 4, factors of weight, moisture, speed, draw 2 each, rule 1"
abbrev pub at_rule : ℕ
at_rule = 18

-- Rules 9.3: "station 1", in every frame that names one
abbrev pub at_station : ℕ
at_station = 4

-- Rules 9.3: "station 1, call kind 1, grade 2, weight, moisture, speed, draw 4 each, signed, curve 4"
abbrev pub at_call : ℕ
at_call = 5

abbrev pub at_grade : ℕ
at_grade = 6

abbrev pub at_weight : ℕ
at_weight = 8

abbrev pub at_moisture : ℕ
at_moisture = 12

abbrev pub at_speed : ℕ
at_speed = 16

abbrev pub at_draw : ℕ
at_draw = 20

abbrev pub at_curve : ℕ
at_curve = 24

-- the bytes of the longest frame: "28 bytes" (Rules 9.6)
abbrev pub longest : ℕ
longest = 28

-- the numbers of the questions (Rules 7.18): 13 whole, 14 of a kind, 15 of the kind's own length
abbrev pub not_whole : ℕ
not_whole = 13

abbrev pub no_kind : ℕ
no_kind = 14

abbrev pub wrong_length : ℕ
wrong_length = 15

-- the length of a kind's frames; 0 for a number that is no kind
abbrev pub length_of : ℕ → ℕ
length_of kind =
    cond (eqb kind kind_open) 8
    (cond (eqb kind kind_submit) 26
    (cond (eqb kind kind_step) 3
    (cond (eqb kind kind_take) 3
    (cond (eqb kind kind_run) 3
    (cond (eqb kind kind_open_scaled) 16
    (cond (eqb kind kind_open_ruled) 17
    (cond (eqb kind kind_withdraw) 3
    0)))))))

-- Rules 7.1, question 14: a kind, "1 to 8"; `ShapeLaws` says it so
abbrev pub is_kind : ℕ → Bool
is_kind kind = ltb 0 (length_of kind)

-- the bytes of a whole frame of this length: the two of the length, and those that it counts
abbrev pub size_of : ℕ → ℕ
size_of length = 2 + length
