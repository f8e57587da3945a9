-- The tasks that are left make of the step's value what the expression comes to.
use Rattle.std.proofs.Common.{◌≡◌, ◌+◌}
use Rattle.ml_heap.specs.Changes.{stands_for}
use Rattle.ml_search.specs.Evaluate.{evaluate}
use Rattle.ml_arith.specs.inside.Tasks.{step_value, tasks_value, IsSound, AreSoundTasks}
use Rattle.ml_arith.specs.inside.Work.{work_of_step, work_of_tasks}
use Rattle.ml_arith.proofs.evaluation.eval.Given as goal

abbrev pub invariant-loop-step : goal.invariant-loop-step
invariant-loop-step l = record {
  same : tasks_value l.heap l.tasks.items (step_value l.heap l.step) ≡ evaluate (stands_for l.heap l.fn.at);
  sound : IsSound l.heap l.step;
  tasks : AreSoundTasks l.heap l.tasks.items;
}

abbrev pub decreases-loop-step : goal.decreases-loop-step
decreases-loop-step l = work_of_step l.heap l.step + work_of_tasks l.heap l.tasks.items
