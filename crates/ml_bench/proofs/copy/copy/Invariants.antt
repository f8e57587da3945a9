-- The list stays a cell of the heap.
use Rattle.std.proofs.Common.{◌<◌}
use Rattle.ml_heap.specs.Changes.{cell_count}
use Rattle.ml_bench.proofs.copy.copy.Given as goal

abbrev pub invariant-loop : goal.invariant-loop
invariant-loop l = l.list < cell_count l.heap
