-- The variable and the list stay cells of the heap.
use Rattle.std.proofs.Common.{◌<◌}
use Rattle.ml_heap.specs.Changes.{cell_count}
use Rattle.ml_bench.proofs.ground.ground.Given as goal

abbrev pub invariant-loop : goal.invariant-loop
invariant-loop l = (l.variable < cell_count l.heap) × (l.list < cell_count l.heap)
