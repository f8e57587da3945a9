-- What the tasks of an evaluation make of a value.
use Rattle.std.specs.Prelude.{ℤ, pos, ◌-ℤ◌, ◌<◌, List, [], ◌∷◌, IsTrue}
use Rattle.ml_term.specs.Valid.{is_in_range}
use Rattle.ml_heap.specs.Changes.{Changes, cell_count, stands_for}
use Rattle.ml_search.specs.Evaluate.{Value, value, no_value, in_range, evaluate}
use Rattle.ml_arith.specs.declared.step.Task.{Task}
use Rattle.ml_arith.specs.declared.step.Task.TheVariants.{Negate, EvaluateRight, Operate}
use Rattle.ml_arith.specs.declared.step.Step.{Step}
use Rattle.ml_arith.specs.declared.step.Step.TheVariants as step
use Rattle.ml_arith.specs.inside.Operators.{operation}

-- an operation on a value, where the left operand's is known; a fault stays one
abbrev pub with_left : (ℤ → ℤ → Value) → ℤ → Value → Value
with_left f x (no_value e) = no_value e
with_left f x (value y) = f x y

-- what a task makes of the value of its part; a fault stays one
abbrev pub task_value : Changes → Task → Value → Value
task_value h t (no_value e) = no_value e
task_value h Negate (value x) = in_range (pos 0 -ℤ x)
task_value h (EvaluateRight o r) (value x) = with_left (operation o) x (evaluate (stands_for h r))
task_value h (Operate o x) (value y) = operation o x y

-- what some tasks make of a value, the last task first
abbrev pub tasks_value : Changes → List Task → Value → Value
tasks_value h [] v = v
tasks_value h (t ∷ ts) v = task_value h t (tasks_value h ts v)

-- the value that a step comes to
abbrev pub step_value : Changes → Step → Value
step_value h (step.Value z) = value z
step_value h (step.Evaluate r t) = task_value h t (evaluate (stands_for h r))

-- whether the cell of a task is one of the heap
abbrev pub IsSoundTask : Changes → Task → Type 0
IsSoundTask h Negate = Unit {0}
IsSoundTask h (EvaluateRight o r) = r < cell_count h
IsSoundTask h (Operate o x) = Unit {0}

-- whether this holds of some tasks
abbrev pub AreSoundTasks : Changes → List Task → Type 0
AreSoundTasks h [] = Unit {0}
AreSoundTasks h (t ∷ ts) = IsSoundTask h t × AreSoundTasks h ts

-- whether the cells of a step are those of the heap, and its integer is in range
abbrev pub IsSound : Changes → Step → Type 0
IsSound h (step.Value z) = IsTrue (is_in_range z)
IsSound h (step.Evaluate r t) = (r < cell_count h) × IsSoundTask h t
