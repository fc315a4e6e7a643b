-- What an audit says yes to (Rules 6.6, 6.7): there are a tree and a queue in which every row lies, "once and in order of removal". The ready rows are those that the
-- queue gives out before the first awaited one, so their fields, the queue's tail and their numbers belong to it (docs/LAYOUT.md lists what is asked,
-- docs/DECISIONS.md why).
use Rattle.std.specs.Prelude.{ℕ, ◌+◌, ◌*◌, ◌<◌, ◌≡◌, ◌⊎◌, List, ◌++◌, length}
use Rattle.std.proofs.Math.Option.{Option}
use Rattle.points.specs.declared.scale.Scale.{Scale}
use Rattle.stations.specs.Counts.{counts_at}
use Rattle.stations.specs.Common.{opened_in, least_since, Opened}
use Rattle.trees.specs.Row.{Heap}
use Rattle.trees.specs.Tree.{Tree, top_of, Has, Shape, Routed, Distinct}
use Rattle.trees.specs.Queue.{Free, head_of, tail_of, Linked, InQueue, Once, UpTo, Removal, freed_after}
use Rattle.history.specs.View.{Reads}

-- Rules 6.7: the queue is rows that are ready, whose numbers are at most removals − awaiting, and then for each number from there to removals, in that order, a
-- removed row and at most one spare row of that number; `released` is removals − awaiting
pub record InOrder (queue : List Free) (removals released : ℕ) : Type 0 where
  pub spare : List Free
  pub awaited : List Removal
  pub parts : queue ≡ spare ++ freed_after released awaited
  pub counted : released + length awaited ≡ removals
  pub past : UpTo released spare

-- question 4 passes, and there are a tree, or none, and a queue of free rows such that
pub record Audited (words : List ℕ) : Type 0 where
  pub places : ℕ
  pub limit : ℕ
  pub scale : Scale
  pub opened : opened_in words ≡ Opened places limit scale
  pub heap : Heap
  pub tree : Option Tree
  pub queue : List Free
  -- every row reads in range, as a value
  pub reads : Reads words (2 * places) heap
  -- the rows linked from the root form the tree, parent links agreeing; each leaf's point is on the side that every cut above it sends it
  pub root : (counts_at words).root ≡ top_of tree
  pub shape : Shape heap tree
  pub routed : Routed tree
  -- the free rows are the queue, from its head by next links to its tail, whose next link is none
  pub head : (counts_at words).head ≡ head_of queue
  pub tail : (counts_at words).tail ≡ tail_of queue
  pub linked : Linked heap queue
  -- every row lies in the tree or in the queue, once
  pub inside : (i : ℕ) → Has tree i → i < 2 * places
  pub free : (i : ℕ) → InQueue queue i → i < 2 * places
  pub each : (i : ℕ) → i < 2 * places → Has tree i ⊎ InQueue queue i
  pub apart : (i : ℕ) → Has tree i → InQueue queue i → ⊥
  pub distinct : Distinct tree
  pub once : Once queue
  -- and the queue is in order of removal
  pub order : InOrder queue (counts_at words).removals (least_since words)
