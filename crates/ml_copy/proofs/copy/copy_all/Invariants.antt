-- The tasks that are left make the one copy of the copies so far.
use Rattle.std.proofs.Common.{◌≤◌}
use Rattle.ml_heap.specs.Changes.{variable_count, stands_for, Grows}
use Rattle.ml_copy.specs.inside.Tasks.{weight, IsCopying}
use Rattle.ml_copy.proofs.copy.copy_all.Given as goal

abbrev pub invariant-loop-task : goal.invariant-loop-task
invariant-loop-task l = record {
  state : IsCopying l.from (variable_count l.fn.to) (stands_for l.from l.fn.at) l.to l.met l.copies.items l.left.items;
  grown : Grows l.fn.to l.to;
  few : l.nodes ≤ 16777216;
}

abbrev pub decreases-loop-task : goal.decreases-loop-task
decreases-loop-task l = weight l.from l.left.items
