-- The rule is a word of the common record: slices that agree there have the same, and no write to another region changes it.
-- Assumes nothing.
use mathlib.Core.Path.{◌≡◌}
use mathlib.Core.List.{List}
use Prim.Native.Nat.{ℕ}
use native.Mathlib.Omega.{arith}
use Rattle.words.specs.Layout.{at_rule}
use Rattle.words.specs.Agree.{Agree, Region, in_common, start_of, size_of, AgreeIn, OnlyIn}
use Rattle.words.specs.Rule.{rule_at}
use Rattle.words.proofs.AgreeLaws.{elsewhere}

pub rule_same : {v w : List ℕ} → Agree v w at_rule 1 → rule_at v ≡ rule_at w
unfolding rule_at
rule_same g = g.words at_rule (omega arith) (omega arith)

pub rule_agree : {v w : List ℕ} → AgreeIn v w in_common → rule_at v ≡ rule_at w
unfolding rule_at at_rule start_of size_of
rule_agree g = g.words 52 (omega arith) (omega arith)

pub rule_unseen : {v w : List ℕ} (x : Region) → OnlyIn v w x → ¬ (in_common ≡ x) → rule_at v ≡ rule_at w
rule_unseen x g n = rule_agree (elsewhere x in_common g n)
