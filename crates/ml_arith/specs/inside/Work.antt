-- How much of an evaluation is left: three units for each node that wasn't looked at, and some for
-- each task, so that each step leaves less.
use Rattle.std.specs.Prelude.{ℕ, ◌+◌, ◌*◌, List, [], ◌∷◌}
use Rattle.ml_term.specs.Tree.{nodes}
use Rattle.ml_heap.specs.Changes.{Changes, stands_for}
use Rattle.ml_arith.specs.declared.step.Step.{Step}
use Rattle.ml_arith.specs.declared.step.Step.TheVariants as step
use Rattle.ml_arith.specs.declared.step.Task.{Task}
use Rattle.ml_arith.specs.declared.step.Task.TheVariants.{Negate, EvaluateRight, Operate}

-- what is left of the expression in a cell
abbrev pub work_of_cell : Changes → ℕ → ℕ
work_of_cell h r = 3 * nodes (stands_for h r)

-- what a task adds
abbrev pub work_of_task : Changes → Task → ℕ
work_of_task h Negate = 1
work_of_task h (EvaluateRight o r) = work_of_cell h r + 2
work_of_task h (Operate o x) = 1

-- what some tasks add
abbrev pub work_of_tasks : Changes → List Task → ℕ
work_of_tasks h [] = 0
work_of_tasks h (t ∷ ts) = work_of_task h t + work_of_tasks h ts

-- what a step leaves
abbrev pub work_of_step : Changes → Step → ℕ
work_of_step h (step.Value z) = 0
work_of_step h (step.Evaluate r t) = work_of_cell h r + work_of_task h t
