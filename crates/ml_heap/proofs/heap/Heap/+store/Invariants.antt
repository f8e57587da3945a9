-- Each argument has fewer nodes, and those that were passed are stored.
use Rattle.std.proofs.Common.{◌≡◌, ◌+◌, ◌*◌, ◌++◌, ℕ, List, length, take}
use Rattle.ml_term.specs.Tree.{nodes, nodes_of, trees_of, variables_of}
use Rattle.ml_term.specs.Seen.{seen, all_seen}
use Rattle.ml_heap.specs.Changes.{Grows}
use Rattle.ml_heap.specs.Storing.{Knows, AreStored}
use Rattle.ml_heap.proofs.heap.Heap.+store.Given as goal

abbrev pub decreases-store : goal.decreases-store
decreases-store l = 2 * nodes (seen l.t.now)

abbrev pub decreases-store_all : goal.decreases-store_all
decreases-store_all l = 2 * nodes_of (trees_of (all_seen l.ts.now)) + 1

abbrev pub invariant-store_all-loop-t : goal.invariant-store_all-loop-t
invariant-store_all-loop-t l = record {
  grown : Grows l.fn.self l.self;
  many : length l.cells.items ≡ l.t-index;
  stored : (base : ℕ) (ns : List ℕ) → Knows l.fn.self base ns l.fn.met
      → AreStored l.self base (ns ++ variables_of (trees_of (all_seen (take l.t-index l.ts)))) l.met l.cells.items (trees_of (all_seen (take l.t-index l.ts)));
}
