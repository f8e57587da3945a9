-- The list of the later cells' terms has been made.
use Rattle.std.proofs.Common.{◌≡◌, ◌≤◌, length, map, drop}
use Rattle.ml_heap.specs.Changes.{stands_for, variable_count, HasTree}
use Rattle.ml_search.specs.ListTerms.{list_term}
use Rattle.ml_builtin.proofs.lists.make_list.Given as goal

abbrev pub invariant-loop-i : goal.invariant-loop-i
invariant-loop-i l = record {
  within : l.i ≤ length l.cells;
  made : HasTree l.fn.heap l.heap l.list (list_term (map (stands_for l.fn.heap) (drop l.i l.cells)));
  counted : variable_count l.heap ≡ variable_count l.fn.heap;
}

abbrev pub decreases-loop-i : goal.decreases-loop-i
decreases-loop-i l = l.i
