-- The lists stay cells of the heap.
use Rattle.std.proofs.Common.{◌<◌}
use Rattle.ml_heap.specs.Changes.{cell_count}
use Rattle.ml_bench.proofs.compare.compare.Given as goal

abbrev pub invariant-loop : goal.invariant-loop
invariant-loop l = (l.first < cell_count l.heap) × (l.second < cell_count l.heap)
