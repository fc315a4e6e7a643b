-- What a call that takes no answer gives, by its reply: no answer where it is accepted (`accepted`), else the number of its refusal (`refused`).
-- Assumes nothing.
use Rattle.std.specs.Prelude.{◌≡◌, ℕ, List, Option, Some, None, Result, Ok, Err, refl}
use Rattle.std.proofs.Common.{ap, ◌∙◌}
use Rattle.words.specs.declared.refusal.Refusal.{Refusal}
use Rattle.words.specs.declared.refusal.Refusal.TheVariants.{BadPlaces, BadLimit, ShortSlice, NotOpened, NoStation, NotIdle, NoKind, BadPoint, BadCurve, NotUnfinished, Unsound, NothingWaits, BadFactor, BadRule}
use Rattle.words.specs.Refusal.{number_of}
use Rattle.calls.specs.Reply.{Reply, replied}
use Rattle.lines.specs.Apply.{Outcome, no_answer}

-- the number of a refusal is not 0
refusal_given : (refusal : Refusal) → Err (number_of refusal) ≡ no_answer (number_of refusal)
refusal_given BadPlaces = refl
refusal_given BadLimit = refl
refusal_given ShortSlice = refl
refusal_given NotOpened = refl
refusal_given NoStation = refl
refusal_given NotIdle = refl
refusal_given NoKind = refl
refusal_given BadPoint = refl
refusal_given BadCurve = refl
refusal_given NotUnfinished = refl
refusal_given Unsound = refl
refusal_given NothingWaits = refl
refusal_given BadFactor = refl
refusal_given BadRule = refl

pub refused : (refusal : Refusal) {words : List ℕ} {reply : Reply} → replied (number_of refusal) words ≡ reply
    → (Err (number_of refusal) ≡ no_answer reply.number) × (words ≡ reply.words)
refused refusal e = (refusal_given refusal ∙ ap (λ (r : Reply). no_answer r.number) e, ap (λ (r : Reply). r.words) e)

pub accepted : {words : List ℕ} {reply : Reply} → replied 0 words ≡ reply → (Ok None ≡ no_answer reply.number) × (words ≡ reply.words)
accepted e = (ap (λ (r : Reply). no_answer r.number) e, ap (λ (r : Reply). r.words) e)
