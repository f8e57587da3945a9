-- The order of the terms is that of the pairs that are left.
use Rattle.std.proofs.Common.{◌≡◌}
use Rattle.ml_term.specs.Order.{tree_cmp}
use Rattle.ml_heap.specs.Changes.{cell_count, stands_for}
use Rattle.ml_heap.specs.inside.Equations.{AreBelow}
use Rattle.ml_builtin.specs.inside.Orders.{order_left, nodes_left}
use Rattle.ml_builtin.proofs.compare.order_of.Given as goal

abbrev pub invariant-loop-a : goal.invariant-loop-a
invariant-loop-a l = record {
  inside : AreBelow (cell_count l.heap) l.left.items;
  same : order_left l.heap l.left.items ≡ tree_cmp (stands_for l.heap l.fn.a) (stands_for l.heap l.fn.b);
}

abbrev pub decreases-loop-a : goal.decreases-loop-a
decreases-loop-a l = nodes_left l.heap l.left.items
