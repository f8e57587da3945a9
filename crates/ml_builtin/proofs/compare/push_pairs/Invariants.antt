-- The pairs of the later arguments have been put last, the latest of them first.
use Rattle.std.proofs.Common.{◌≡◌, ◌≤◌, ◌++◌, ℕ, List, map, reverse, drop}
use Rattle.ml_heap.specs.Changes.{cell_count, stands_for, arguments_of}
use Rattle.ml_heap.specs.inside.Equations.{AreBelow}
use Rattle.ml_builtin.proofs.compare.push_pairs.Given as goal

abbrev pub invariant-loop-i : goal.invariant-loop-i
invariant-loop-i l = record {
  small : l.i ≤ l.fn.arity;
  put : (ps : List (ℕ × ℕ)) × ((l.left.items ≡ l.fn.left.items ++ reverse ps) × AreBelow (cell_count l.heap) ps
      × (map (λ p. stands_for l.heap p.0) ps ≡ drop l.i (arguments_of (stands_for l.heap l.a)))
      × (map (λ p. stands_for l.heap p.1) ps ≡ drop l.i (arguments_of (stands_for l.heap l.b))));
}

abbrev pub decreases-loop-i : goal.decreases-loop-i
decreases-loop-i l = l.i
