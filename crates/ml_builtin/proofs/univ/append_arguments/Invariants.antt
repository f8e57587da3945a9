-- The first arguments' cells have been put last.
use Rattle.std.proofs.Common.{◌≡◌, ◌++◌, map, take}
use Rattle.ml_heap.specs.Changes.{cell_count, stands_for, arguments_of, AreCells}
use Rattle.ml_builtin.proofs.univ.append_arguments.Given as goal

abbrev pub invariant-loop-i : goal.invariant-loop-i
invariant-loop-i l = record {
  inside : AreCells (cell_count l.heap) l.fn.cells.items → AreCells (cell_count l.heap) l.cells.items;
  stand : map (stands_for l.heap) l.cells.items
      ≡ map (stands_for l.heap) l.fn.cells.items ++ take l.i (arguments_of (stands_for l.heap l.t));
}
