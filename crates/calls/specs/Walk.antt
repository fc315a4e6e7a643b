-- The work of one step of an add, a remove or a contains: six rows down, or the decision at the leaf or in the empty tree. What it asks of rows is Rules 7.12.
use Rattle.std.specs.Prelude.{ℕ, Bool, cond, ◌||◌, List, eqb, leb}
use Rattle.stations.specs.Answer.{code_added, code_held, code_full, code_spent, code_removed, code_missing, code_contained}
use Rattle.stations.specs.Call.{add_kind, remove_kind}
use Rattle.words.specs.Refusal.{unsound}
use Rattle.stations.specs.Track.{track_at, put_track, standing}
use Rattle.stations.specs.Counts.{counts_at}
use Rattle.stations.specs.Counter.{counter_at}
use Rattle.points.specs.declared.point.Point.{Point}
use Rattle.points.specs.Cut.{goes_left}
use Rattle.points.specs.Word.{NONE}
use Rattle.rows.specs.declared.row.Row.{Row}
use Rattle.rows.specs.declared.row.Row.TheVariants.{Bad, Spare, Removed, Leaf, Cut}
use Rattle.stations.specs.declared.call.Call.{Call}
use Rattle.stations.specs.declared.answer.Answer.{Answer}
use Rattle.rows.specs.Row.{row_at}
use Rattle.rows.specs.Grades.{slot_of, mark_toward}
use Rattle.stations.specs.Common.{taken_in, places_at, limit_at}
use Rattle.calls.specs.declared.walk.Way.{Way}
use Rattle.calls.specs.Link.{is_leaf, is_cut, holds_point, leaf_curve}
use Rattle.calls.specs.Reply.{Reply, done, pick_reply, ask, refused}
use Rattle.calls.specs.Answer.{answer, answered_words}
use Rattle.calls.specs.Insert.{insert_of}
use Rattle.calls.specs.Unlink.{unlink_of}

-- ---- down

-- from a cut to the child on the point's side; a leaf stays; from any other row nowhere
abbrev pub down_from : Point → ℕ → Row → ℕ
down_from point at Bad = NONE
down_from point at (Spare next freed) = NONE
down_from point at (Removed next freed added p curve) = NONE
down_from point at (Leaf parent added p curve) = at
down_from point at (Cut parent cut left right) = cond (goes_left cut point) left right

-- one row down; none stays none
unfoldable pub down : List ℕ → ℕ → Point → ℕ → ℕ
down words rows point at = down_from point at (row_at words rows at)

-- six rows on the way down, and the row after them
unfoldable pub way_of : List ℕ → ℕ → Point → ℕ → Way
way_of words rows point at =
    let one = down words rows point at in
    let two = down words rows point one in
    let three = down words rows point two in
    let four = down words rows point three in
    let five = down words rows point four in
    record { at = at; one = one; two = two; three = three; four = four; five = five; to = down words rows point five }

-- each of the six that is a cut gets the slot on the side to which the way goes
unfoldable pub marked_way : List ℕ → Way → ℕ → List ℕ
marked_way words way k =
    mark_toward
    (mark_toward
    (mark_toward
    (mark_toward (mark_toward (mark_toward words way.at way.one k) way.one way.two k) way.two way.three k) way.three way.four k)
    way.four
    way.five
    k)
    way.five
    way.to
    k

-- an add marks its way; no other call marks
unfoldable pub passed_words : List ℕ → Call → Way → List ℕ
passed_words words call way = cond (eqb call.kind add_kind) (marked_way words way (slot_of call.point)) words

-- the call of station s stands at a row, and goes down
unfoldable pub walked_words : List ℕ → ℕ → ℕ → List ℕ
walked_words words s to = put_track words s (standing to 0 (track_at words s))

abbrev pub walk_to : List ℕ → ℕ → Call → Way → Reply
walk_to words s call way = pick_reply (eqb way.to NONE) (refused unsound words) (done (walked_words (passed_words words call way) s way.to))

-- ---- the decision

-- the code of an add (Rules 2.5), a remove (Rules 2.6) or a contains (Rules 2.7)
unfoldable pub code_of : ℕ → Bool → Bool → Bool → ℕ
code_of kind held spent full =
    cond (eqb kind add_kind) (cond held code_held (cond spent code_spent (cond full code_full code_added)))
    (cond (eqb kind remove_kind) (cond held (cond spent code_spent code_removed) code_missing) (cond held code_contained code_missing))

-- the code of a call of station s that ends its walk at this row; the counter of its own station says whether its changes are used up (Rules 3.2)
unfoldable pub code_at : List ℕ → ℕ → Call → Row → ℕ
code_at words s call row =
    code_of call.kind (holds_point call.point row) (eqb (counter_at words s) (limit_at words)) (leb (places_at words) (taken_in words))

-- the answer of a code that is no change: with the held curve in 2 and 7
unfoldable pub plain_answer : Call → ℕ → Row → Answer
plain_answer call code row = answer code call.point (cond (eqb code code_held || eqb code code_contained) (leaf_curve row) 0) 0

abbrev pub conclude_as : List ℕ → ℕ → ℕ → Call → ℕ → Row → ℕ → Reply
conclude_as words rows s call at row code =
    pick_reply (eqb code code_added) (insert_of words rows s call at)
    (pick_reply (eqb code code_removed) (unlink_of words rows s call at) (done (answered_words words s (plain_answer call code row))))

unfoldable pub conclude : List ℕ → ℕ → ℕ → Call → ℕ → Row → Reply
conclude words rows s call at row = conclude_as words rows s call at row (code_at words s call row)

-- ---- one step

-- the cursor; none means the root link
unfoldable pub stands_at : List ℕ → ℕ → ℕ
stands_at words s = cond (eqb (track_at words s).cursor NONE) (counts_at words).root (track_at words s).cursor

abbrev pub walk_from : List ℕ → ℕ → ℕ → Call → ℕ → Row → Reply
walk_from words rows s call at row =
    pick_reply (is_cut row) (walk_to words s call (way_of words rows call.point at))
    (ask (eqb at NONE || is_leaf row) unsound words (conclude words rows s call at row))

unfoldable pub walk_of : List ℕ → ℕ → ℕ → Call → Reply
walk_of words rows s call = walk_from words rows s call (stands_at words s) (row_at words rows (stands_at words s))
