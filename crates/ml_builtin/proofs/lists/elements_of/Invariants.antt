-- The cells so far have the first elements, and the others are those of what is left.
use Rattle.std.proofs.Common.{◌≡◌, ◌<◌, ◌++◌, map}
use Rattle.ml_term.specs.Tree.{nodes}
use Rattle.ml_heap.specs.Changes.{cell_count, stands_for, AreCells}
use Rattle.ml_search.specs.ListTerms.{elements, list_end}
use Rattle.ml_builtin.proofs.lists.elements_of.Given as goal

abbrev pub invariant-loop-head : goal.invariant-loop-head
invariant-loop-head l = record {
  end_inside : l.end < cell_count l.heap;
  same_end : list_end (stands_for l.heap l.end) ≡ list_end (stands_for l.heap l.fn.list);
  inside : AreCells (cell_count l.heap) l.cells.items;
  first : map (stands_for l.heap) l.cells.items ++ elements (stands_for l.heap l.end) ≡ elements (stands_for l.heap l.fn.list);
}

abbrev pub decreases-loop-head : goal.decreases-loop-head
decreases-loop-head l = nodes (stands_for l.heap l.end)
