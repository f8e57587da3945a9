-- What is left is what the equations have led to.
use Rattle.std.proofs.Common.{◌≡◌}
use Rattle.ml_heap.specs.Changes.{cell_count, variable_count, trees, KeepsMarks}
use Rattle.ml_heap.specs.inside.Equations.{equations_left, AreBelow}
use Rattle.ml_heap.proofs.EquationWorklists.{Reached}
use Rattle.ml_heap.proofs.WorklistRounds.{rounds}
use Rattle.ml_heap.proofs.heap.Heap.solve.Given as goal

abbrev pub invariant-loop-a : goal.invariant-loop-a
invariant-loop-a l = record {
  inside : AreBelow (cell_count l.self) l.left.items;
  reached : Reached (trees l.fn.self) (equations_left (trees l.fn.self) l.fn.left.items) (trees l.self) (equations_left (trees l.self) l.left.items);
  cells : cell_count l.self ≡ cell_count l.fn.self;
  counted : variable_count l.self ≡ variable_count l.fn.self;
  marks : KeepsMarks l.fn.self l.self;
}

abbrev pub decreases-loop-a : goal.decreases-loop-a
decreases-loop-a l = rounds (equations_left (trees l.self) l.left.items)
