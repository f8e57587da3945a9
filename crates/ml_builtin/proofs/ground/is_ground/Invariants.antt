-- The term is ground exactly if the terms that are left are.
use Rattle.std.proofs.Common.{◌≡◌}
use Rattle.ml_term.specs.Tree.{is_ground}
use Rattle.ml_heap.specs.Changes.{cell_count, stands_for, AreCells}
use Rattle.ml_heap.specs.inside.Walks.{nodes_at}
use Rattle.ml_builtin.specs.inside.Grounds.{are_ground_at}
use Rattle.ml_builtin.proofs.ground.is_ground.Given as goal

abbrev pub invariant-loop-at : goal.invariant-loop-at
invariant-loop-at l = record {
  inside : AreCells (cell_count l.heap) l.left.items;
  same : are_ground_at l.heap l.left.items ≡ is_ground (stands_for l.heap l.fn.at);
}

abbrev pub decreases-loop-at : goal.decreases-loop-at
decreases-loop-at l = nodes_at l.heap l.left.items
