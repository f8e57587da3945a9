-- The terms from the place on are built.
use Rattle.std.proofs.Common.{◌≡◌, ◌≤◌, ℕ}
use Rattle.ml_heap.specs.Changes.{Grows, variable_count}
use Rattle.ml_match.specs.inside.Matching.{HaveSlotsBelow, IsWriting}
use Rattle.ml_match.proofs.head.write_terms.Given as goal

abbrev pub invariant-loop-at : goal.invariant-loop-at
invariant-loop-at l = record {
  low : l.from ≤ l.at;
  high : l.at ≤ l.to;
  writing : (after : ℕ) → HaveSlotsBelow l.fn.heap l.slots l.env after → IsWriting l.fn.heap l.slots l.env l.code l.fn.cells.items l.to after l.at l.heap
      l.cells.items;
  grown : Grows l.fn.heap l.heap;
  counted : variable_count l.heap ≡ variable_count l.fn.heap;
}

abbrev pub decreases-loop-at : goal.decreases-loop-at
decreases-loop-at l = l.at
