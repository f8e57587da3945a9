-- What was made is one of the heap's cells.
use Rattle.std.proofs.Common.{◌<◌}
use Rattle.ml_heap.specs.Changes.{cell_count}
use Rattle.ml_heap_rows.proofs.heap_rows.doubled.Given as goal

abbrev pub invariant-loop : goal.invariant-loop
invariant-loop l = l.at < cell_count l.heap
