-- So many variables have been created, from the left.
use Rattle.std.proofs.Common.{◌≡◌, ◌+◌, ◌-◌, ◌≤◌, length, map}
use Rattle.ml_heap.specs.Changes.{cell_count, stands_for, variable_count, AreCells, Grows}
use Rattle.ml_search.specs.Builtins.{new_variables}
use Rattle.ml_builtin.proofs.functor.new_variables.Given as goal

abbrev pub invariant-loop-i : goal.invariant-loop-i
invariant-loop-i l = record {
  within : l.i ≤ l.fn.count;
  many : length l.cells.items ≡ l.i;
  inside : AreCells (cell_count l.heap) l.cells.items;
  stand : map (stands_for l.heap) l.cells.items ≡ new_variables (variable_count l.fn.heap) l.i;
  grown : Grows l.fn.heap l.heap;
  counted : variable_count l.heap ≡ variable_count l.fn.heap + l.i;
}

abbrev pub decreases-loop-i : goal.decreases-loop-i
decreases-loop-i l = l.fn.count - l.i
