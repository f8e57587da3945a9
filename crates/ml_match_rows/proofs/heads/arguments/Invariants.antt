-- The cells of the first arguments are cells of the heap.
use Rattle.ml_heap.specs.Changes.{AreCells, cell_count}
use Rattle.ml_match_rows.proofs.heads.arguments.Given as goal

abbrev pub invariant-loop-i : goal.invariant-loop-i
invariant-loop-i l = AreCells (cell_count l.heap) l.cells.items
