-- The end and the lists stay cells of the heap, and its marks stay.
use Rattle.std.proofs.Common.{◌<◌}
use Rattle.ml_heap.specs.Changes.{cell_count, KeepsMarks}
use Rattle.ml_bench.proofs.append.append_elements.Given as goal

abbrev pub invariant-loop : goal.invariant-loop
invariant-loop l = record {
  end : l.end < cell_count l.heap;
  list : l.list < cell_count l.heap;
  second : l.second < cell_count l.heap;
  marks : KeepsMarks l.fn.heap l.heap;
}
