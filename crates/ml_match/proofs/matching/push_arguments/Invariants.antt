-- The later arguments have been put last, the latest of them first.
use Rattle.std.proofs.Common.{◌≡◌, ◌≤◌, ◌++◌, ℕ, List, map, reverse, drop}
use Rattle.ml_heap.specs.Changes.{cell_count, stands_for, arguments_of, AreCells}
use Rattle.ml_match.proofs.matching.push_arguments.Given as goal

abbrev pub invariant-loop-i : goal.invariant-loop-i
invariant-loop-i l = record {
  small : l.i ≤ l.fn.count;
  put : (qs : List ℕ) × ((l.todo.items ≡ l.fn.todo.items ++ reverse qs) × AreCells (cell_count l.heap) qs
      × (map (stands_for l.heap) qs ≡ drop l.i (arguments_of (stands_for l.heap l.at))));
}

abbrev pub decreases-loop-i : goal.decreases-loop-i
decreases-loop-i l = l.i
