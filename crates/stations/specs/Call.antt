-- The call of a station, with the best record of its search so far.
use Rattle.std.specs.Prelude.{ℕ, List, [], ◌∷◌, Bool, cond, ◌&&◌, ◌||◌, get_or, eqb, leb}
use Rattle.points.specs.Number.{in_range_by}
use Rattle.points.specs.Word.{point_at}
use Rattle.stations.specs.declared.call.Best.{Best}
use Rattle.stations.specs.declared.call.Call.{Call}
use Rattle.words.specs.Layout.{most_curve, at_call, at_best}
use Rattle.words.specs.Words.{part, splice}
use Rattle.words.specs.Range.{curve_in}
use Rattle.words.specs.Part.{point_from, point_words}
use Rattle.stations.specs.Station.{has_station}

-- the kinds of a call (Rules 2.2)
abbrev pub add_kind : ℕ
add_kind = 1

abbrev pub remove_kind : ℕ
remove_kind = 2

abbrev pub contains_kind : ℕ
contains_kind = 3

abbrev pub nearest_kind : ℕ
nearest_kind = 4

-- there is such a kind
abbrev pub kind_in : ℕ → Bool
kind_in kind = leb add_kind kind && leb kind nearest_kind

-- the best record of six words: curve, which is 0 for none, and point
unfoldable pub best_of : List ℕ → Best
best_of w = record { curve = get_or w 0 0; point = point_from w 1 }

-- its six words
unfoldable pub best_words : Best → List ℕ
best_words best = best.curve ∷ point_words best.point []

-- no best record
abbrev pub no_best : Best
no_best = record { curve = 0; point = point_at 0 0 0 0 0 }

-- no best, whatever its point, or a record in range under the rule
unfoldable pub best_sound : ℕ → Best → Bool
best_sound rule best = eqb best.curve 0 || (leb best.curve most_curve && in_range_by rule best.point)

-- the call of eight words, kind, point, curve, as-of, with its best
unfoldable pub call_of : List ℕ → Best → Call
call_of w best = record { kind = get_or w 0 0; point = point_from w 1; curve = get_or w 6 0; asof = get_or w 7 0; best = best }

-- its eight words
unfoldable pub call_words : Call → List ℕ
call_words call = call.kind ∷ point_words call.point (call.curve ∷ call.asof ∷ [])

-- a call of no kind
abbrev pub no_call : Call
no_call = record { kind = 0; point = point_at 0 0 0 0 0; curve = 0; asof = 0; best = no_best }

-- the call of station s; of no kind where there is no such station
unfoldable pub call_at : List ℕ → ℕ → Call
call_at words s = cond (has_station words s) (call_of (part words (at_call s) 8) (best_of (part words (at_best s) 6))) no_call

-- a call with another best
abbrev pub with_best : Best → Call → Call
with_best best call = record { kind = call.kind; point = call.point; curve = call.curve; asof = call.asof; best = best }

-- Rules 7.10: 1 to 999,999 for an add, else 0
abbrev pub curve_for : ℕ → ℕ → Bool
curve_for kind curve = cond (eqb kind add_kind) (curve_in curve) (eqb curve 0)

-- every field of a call is in range (Rules 7.10), under the rule and where so many changes were made since opening
unfoldable pub call_sound : ℕ → Call → ℕ → Bool
call_sound rule call changes =
    (((kind_in call.kind && in_range_by rule call.point) && curve_for call.kind call.curve) && leb call.asof changes)
    && best_sound rule call.best

-- the words with the best of station s written
unfoldable pub put_best : List ℕ → ℕ → Best → List ℕ
put_best words s best = cond (has_station words s) (splice words (best_words best) (at_best s) 6) words

-- the words with the call of station s written, but for its best
unfoldable pub put_asked : List ℕ → ℕ → Call → List ℕ
put_asked words s call = cond (has_station words s) (splice words (call_words call) (at_call s) 8) words

-- the words with the call of station s written
unfoldable pub put_call : List ℕ → ℕ → Call → List ℕ
put_call words s call = put_best (put_asked words s call) s call.best
