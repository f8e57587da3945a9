-- The list's end stays the same from cell to cell.
use Rattle.std.proofs.Common.{◌≡◌, ◌<◌}
use Rattle.ml_heap.specs.Changes.{cell_count, stands_for}
use Rattle.ml_search.specs.ListTerms.{list_end}
use Rattle.ml_term.specs.Tree.{nodes}
use Rattle.ml_called.proofs.checks.list_fault.Given as goal

abbrev pub invariant-loop-tail : goal.invariant-loop-tail
invariant-loop-tail l = record {
  inside : l.rest < cell_count l.heap;
  same : list_end (stands_for l.heap l.rest) ≡ list_end (stands_for l.heap l.fn.at);
}

abbrev pub decreases-loop-tail : goal.decreases-loop-tail
decreases-loop-tail l = nodes (stands_for l.heap l.rest)
