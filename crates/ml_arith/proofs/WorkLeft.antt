-- A task put last adds its work.
use Rattle.std.specs.Prelude.{◌≡◌, ◌+◌, List, [], ◌∷◌, ◌++◌}
use Rattle.std.proofs.Common.{ap, ◌∙◌, arith}
use Rattle.ml_heap.specs.Changes.{Changes}
use Rattle.ml_arith.specs.declared.step.Task.{Task}
use Rattle.ml_arith.specs.inside.Work.{work_of_task, work_of_tasks}

pub work_with_last : (h : Changes) (ts : List Task) (t : Task) → work_of_tasks h (ts ++ t ∷ []) ≡ work_of_tasks h ts + work_of_task h t
work_with_last h [] t = omega arith
work_with_last h (s ∷ ts) t = ap (λ n. work_of_task h s + n) (work_with_last h ts t) ∙ omega arith
