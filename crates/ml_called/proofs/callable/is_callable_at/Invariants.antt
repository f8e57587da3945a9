-- The term is callable where the terms of the cells that are left are.
use Rattle.std.proofs.Common.{◌≡◌}
use Rattle.ml_heap.specs.Changes.{cell_count, stands_for, AreCells}
use Rattle.ml_search.specs.Bodies.{is_callable}
use Rattle.ml_called.specs.inside.Pairs.{are_callable, nodes_at}
use Rattle.ml_called.proofs.callable.is_callable_at.Given as goal

abbrev pub invariant-loop-cell : goal.invariant-loop-cell
invariant-loop-cell l = record {
  inside : AreCells (cell_count l.heap) l.left.items;
  same : are_callable l.heap l.left.items ≡ is_callable (stands_for l.heap l.fn.at);
}

abbrev pub decreases-loop-cell : goal.decreases-loop-cell
decreases-loop-cell l = nodes_at l.heap l.left.items
