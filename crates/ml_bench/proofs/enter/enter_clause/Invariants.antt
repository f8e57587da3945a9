-- The arguments stay cells of the heap.
use Rattle.ml_heap.specs.Changes.{AreCells, cell_count}
use Rattle.ml_bench.proofs.enter.enter_clause.Given as goal

abbrev pub invariant-loop : goal.invariant-loop
invariant-loop l = AreCells (cell_count l.heap) l.args
