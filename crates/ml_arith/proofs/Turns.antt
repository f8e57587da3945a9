-- One turn of an evaluation: the tasks make of the new step what they made of the old one, or a fault is the value.
use Rattle.std.specs.Prelude.{◌≡◌, ℕ, ◌+◌, ◌<◌, ℤ, List, [], ◌∷◌, ◌++◌, length}
use Rattle.std.proofs.Common.{refl, sym, ap, ◌∙◌, arith}
use Rattle.ml_term.specs.Tree.{Tree}
use Rattle.ml_heap.specs.Changes.{Changes, stands_for}
use Rattle.ml_search.specs.Evaluate.{Value, value, no_value, evaluate}
use Rattle.ml_arith.specs.declared.step.Step.{Step}
use Rattle.ml_arith.specs.declared.step.Step.TheVariants as step
use Rattle.ml_arith.specs.declared.step.Task.{Task}
use Rattle.ml_arith.specs.inside.Tasks.{task_value, tasks_value, step_value}
use Rattle.ml_arith.specs.inside.Work.{work_of_cell, work_of_task, work_of_tasks, work_of_step}
use Rattle.ml_arith.proofs.TaskLists.{last_task_first, fault_of_task, fault_stays}
use Rattle.ml_arith.proofs.WorkLeft.{work_with_last}

module _ (h : Changes) (ts new : List Task) (s : Step) (w : Value) (same : tasks_value h ts (step_value h s) ≡ w) where
  -- into an expression
  module _ (cell : ℕ) (task : Task) (is : s ≡ step.Evaluate cell task) where
    pub same_entering : (s' : Step) → new ≡ ts ++ task ∷ [] → step_value h s' ≡ evaluate (stands_for h cell) → tasks_value h new (step_value h s') ≡ w
    same_entering s' e v =
        ap (λ us. tasks_value h us (step_value h s')) e ∙ last_task_first h ts task (step_value h s') ∙ ap (λ u. tasks_value h ts (task_value h task u)) v
        ∙ sym (ap (λ u. tasks_value h ts (step_value h u)) is) ∙ same

    pub less_entering : (s' : Step) → new ≡ ts ++ task ∷ [] → work_of_step h s' < work_of_cell h cell
        → work_of_step h s' + work_of_tasks h new < work_of_step h s + work_of_tasks h ts
    less_entering s' e l = omega (arith, l, ap (work_of_tasks h) e, work_with_last h ts task, ap (work_of_step h) is)

    pub fault_entering : (t : Tree) → evaluate (stands_for h cell) ≡ no_value t → w ≡ no_value t
    fault_entering t f =
        sym same ∙ ap (λ u. tasks_value h ts (step_value h u)) is ∙ ap (λ u. tasks_value h ts (task_value h task u)) f
        ∙ ap (tasks_value h ts) (fault_of_task h task t) ∙ fault_stays h ts t

  -- on with a value
  module _ (v : ℤ) (is : s ≡ step.Value v) where
    pub value_reached : length ts ≡ 0 → w ≡ value v
    value_reached e = sym same ∙ ap (λ u. tasks_value h ts (step_value h u)) is ∙ none ts e
      where
        none : (us : List Task) → length us ≡ 0 → tasks_value h us (value v) ≡ value v
        none [] e = refl
        none (u ∷ us) e = absurd (omega (arith, e))

    module _ (task : Task) (taken : ts ≡ new ++ task ∷ []) where
      next : tasks_value h new (task_value h task (value v)) ≡ w
      next =
          sym (last_task_first h new task (value v)) ∙ sym (ap (λ us. tasks_value h us (value v)) taken)
          ∙ sym (ap (λ u. tasks_value h ts (step_value h u)) is) ∙ same

      pub same_resuming : (s' : Step) → step_value h s' ≡ task_value h task (value v) → tasks_value h new (step_value h s') ≡ w
      same_resuming s' e = ap (tasks_value h new) e ∙ next

      pub less_resuming : (s' : Step) → work_of_step h s' < work_of_task h task
          → work_of_step h s' + work_of_tasks h new < work_of_step h s + work_of_tasks h ts
      less_resuming s' l = omega (arith, l, ap (work_of_tasks h) taken, work_with_last h new task, ap (work_of_step h) is)

      pub fault_resuming : (t : Tree) → task_value h task (value v) ≡ no_value t → w ≡ no_value t
      fault_resuming t f = sym next ∙ ap (tasks_value h new) f ∙ fault_stays h new t
