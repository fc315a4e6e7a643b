-- The least of the removals and the since words, as the table counts it (`least_words`), and how it moves when since words change.
use Prim.Native.Nat.{ℕ, ◌≤◌, ◌<◌}
use mathlib.Core.Logic.{inl, inr}
use mathlib.Core.List.{List}
use native.Mathlib.Omega.{arith}
use Rattle.words.specs.Layout.{stations}
use Rattle.stations.specs.Track.{track_at}
use Rattle.stations.specs.Counts.{counts_at}
use Rattle.stations.specs.Common.{least_since}
use Rattle.stations.proofs.TakenLaws.{least_removals, least_since_lem, least_greatest}
use Rattle.table.specs.Table.{eight}
use Rattle.table.proofs.Taken.{IsLeast, least, least_is}

-- where none of these words falls, the least does not fall
pub least_up : (v w : List ℕ) → (counts_at w).removals ≤ (counts_at v).removals → ((s : ℕ) → s < stations → (track_at w s).since ≤ (track_at v s).since) → least_since w ≤ least_since v
least_up v w m f =
    least_greatest v (least_since w) (omega (arith, least_removals w)) (λ s l. omega (arith, least_since_lem w s l, f s l))

-- It is the least in the table's sense.
pub least_words : (words : List ℕ) → IsLeast (counts_at words).removals (λ s. (track_at words s).since) (least_since words)
least_words words =
    let w : IsLeast (counts_at words).removals (λ s. (track_at words s).since) (least (counts_at words).removals (λ s. (track_at words s).since) eight) =
    least_is (counts_at words).removals (λ s. (track_at words s).since) in
    let low = least_greatest words (least (counts_at words).removals (λ s. (track_at words s).since) eight) w.within w.below in
    record {
      within = least_removals words;
      below = least_since_lem words;
      reached = elim w.reached [
        | inl e ↦ inl (omega (arith, least_removals words))
        | inr v ↦ inr (v.0, v.1, omega (arith, v.2, least_since_lem words v.0 v.1))
      ];
    }
