use Rattle.std.proofs.Common.{rules, sym, ◌∙◌, ◌≡◌, ℕ}
use Rattle.words.specs.Refusal.{number_told}
use Rattle.stations.proofs.OpeningLaws.{places_tells}
use Rattle.calls.proofs.Questions.{open_places}
use Rattle.openings.proofs.open.open.Goals as goal

-- an opening that fails no question has its places in range
pub invariant_of-open_words : goal.invariant_of-open_words
invariant_of-open_words c =
    let passed : number_told c.open_question.result ≡ 0 = search rules in
    record { in_range = places_tells c.args.places (open_places c.args.words.now c.args.places c.args.limit c.args.scale (sym c.open_question.ensures ∙ passed)) }
