-- The list so far is one of the heap's cells, and no cell went.
use Rattle.std.proofs.Common.{◌<◌, ◌≤◌}
use Rattle.ml_heap.specs.Changes.{cell_count}
use Rattle.ml_bench.proofs.lists.list_of.Given as goal

abbrev pub invariant-loop : goal.invariant-loop
invariant-loop l = (l.list < cell_count l.heap) × (cell_count l.fn.heap ≤ cell_count l.heap)
