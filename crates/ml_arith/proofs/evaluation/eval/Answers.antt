-- Each turn keeps what the tasks make of the step, and leaves less to do.
use Rattle.std.proofs.Common.{◌≡◌, Err, true, sym, ap, ◌∙◌, subst, w64, arith}
use Rattle.std.proofs.lemmas.Int.{to_z-of_z}
use Rattle.ml_search.specs.Evaluate.{value}
use Rattle.ml_term.specs.Valid.{is_in_range}
use Rattle.ml_arith.specs.declared.fault.EvalFault.{EvalFault}
use Rattle.ml_arith.specs.declared.fault.EvalStop.TheVariants.{Fault}
use Rattle.ml_arith.specs.Faults.{fault_term}
use Rattle.ml_arith.specs.inside.Tasks.{task_value, tasks_value, step_value, IsSound, AreSoundTasks}
use Rattle.ml_arith.proofs.ResultsInRange.{range_fits}
use Rattle.ml_arith.proofs.TaskLists.{sound_with_last, sound_before_last, sound_last}
use Rattle.ml_arith.proofs.Turns.{same_entering, less_entering, fault_entering, value_reached, same_resuming, less_resuming, fault_resuming}
use Rattle.ml_arith.proofs.evaluation.eval.Goals as goal

fault_injective : {f g : EvalFault} → Fault f ≡ Fault g → f ≡ g
fault_injective h = cc h

pub loop-step-init : goal.loop-step-init
loop-step-init c = record {
  same = ap (λ ts. tasks_value c.args.heap.now ts (step_value c.args.heap.now c.in_ok-step.step)) c.new-tasks.ensures.items ∙ c.in_ok-step.ensures.same;
  sound = c.in_ok-step.ensures.sound;
  tasks = subst (AreSoundTasks c.args.heap.now) (sym c.new-tasks.ensures.items) tt;
}

pub enter-requires-in-Evaluate : goal.enter-requires-in-Evaluate
enter-requires-in-Evaluate c = let s = subst (IsSound c.args.heap.now) c.in-Evaluate.is c.loop-step.invariant.sound in s.0

pub returns-in_err-step-in-Evaluate-clause-fault : goal.returns-in_err-step-in-Evaluate-clause-fault
returns-in_err-step-in-Evaluate-clause-fault c f e =
    let told = rw e at c.from_residual-in_err-step-in-Evaluate.ensures in
    fault_entering c.args.heap.now c.loop-step.tasks.items c.loop-step.tasks.items c.loop-step.step _ c.loop-step.invariant.same
    c.in-Evaluate.cell c.in-Evaluate.task c.in-Evaluate.is (fault_term f) (c.in_err-step-in-Evaluate.ensures.fault f (ap Err (sym told.1)))

pub loop-step-smaller-in-Evaluate : goal.loop-step-smaller-in-Evaluate
loop-step-smaller-in-Evaluate c =
    less_entering c.args.heap.now c.loop-step.tasks.items _ c.loop-step.step _ c.loop-step.invariant.same c.in-Evaluate.cell c.in-Evaluate.task c.in-Evaluate.is
    _ c.in_ok-push-in-Evaluate.ensures c.in_ok-step-in-Evaluate.ensures.less

pub loop-step-preserved-in-Evaluate : goal.loop-step-preserved-in-Evaluate
loop-step-preserved-in-Evaluate c =
    let s = subst (IsSound c.args.heap.now) c.in-Evaluate.is c.loop-step.invariant.sound in
    record {
      same =
          same_entering c.args.heap.now c.loop-step.tasks.items _ c.loop-step.step _ c.loop-step.invariant.same
          c.in-Evaluate.cell c.in-Evaluate.task c.in-Evaluate.is _ c.in_ok-push-in-Evaluate.ensures c.in_ok-step-in-Evaluate.ensures.same;
      sound = c.in_ok-step-in-Evaluate.ensures.sound;
      tasks = subst (AreSoundTasks c.args.heap.now) (sym c.in_ok-push-in-Evaluate.ensures)
          (sound_with_last c.args.heap.now _ _ c.loop-step.invariant.tasks s.1);
    }

pub returns-in-None-clause-value : goal.returns-in-None-clause-value
returns-in-None-clause-value c =
    let range : is_in_range c.in-Value.v ≡ true = subst (IsSound c.args.heap.now) c.in-Value.is c.loop-step.invariant.sound in
    value_reached c.args.heap.now c.loop-step.tasks.items c.loop-step.tasks.items c.loop-step.step _ c.loop-step.invariant.same
    c.in-Value.v c.in-Value.is (omega (arith, c.loop-step.tasks.ok.0, c.in-None.ensures.cases.0))
    ∙ ap value (sym (to_z-of_z w64 c.in-Value.v (range_fits c.in-Value.v range)))

pub returns-in-None-clause-range : goal.returns-in-None-clause-range
returns-in-None-clause-range c =
    let range : is_in_range c.in-Value.v ≡ true = subst (IsSound c.args.heap.now) c.in-Value.is c.loop-step.invariant.sound in
    subst (λ z. is_in_range z ≡ true) (sym (to_z-of_z w64 c.in-Value.v (range_fits c.in-Value.v range))) range

pub returns-in_err-step-in-Some-clause-fault : goal.returns-in_err-step-in-Some-clause-fault
returns-in_err-step-in-Some-clause-fault c f e =
    let told = rw e at c.from_residual-in_err-step-in-Some.ensures in
    let range : is_in_range c.in-Value.v ≡ true = subst (IsSound c.args.heap.now) c.in-Value.is c.loop-step.invariant.sound in
    let known = to_z-of_z w64 c.in-Value.v (range_fits c.in-Value.v range) in
    fault_resuming c.args.heap.now c.loop-step.tasks.items _ c.loop-step.step _ c.loop-step.invariant.same c.in-Value.v c.in-Value.is
    c.in-Some.task c.in-Some.ensures.items (fault_term f)
    (sym (ap (λ z. task_value c.args.heap.now c.in-Some.task (value z)) known)
    ∙ c.in_err-step-in-Some.ensures.fault c.args.heap.now f (ap Err (fault_injective (sym told.1))))

pub loop-step-smaller : goal.loop-step-smaller
loop-step-smaller c =
    less_resuming c.args.heap.now c.loop-step.tasks.items _ c.loop-step.step _ c.loop-step.invariant.same c.in-Value.v c.in-Value.is
    c.in-Some.task c.in-Some.ensures.items _ (c.in_ok-step-in-Some.ensures.less c.args.heap.now)

pub loop-step-preserved : goal.loop-step-preserved
loop-step-preserved c =
    let range : is_in_range c.in-Value.v ≡ true = subst (IsSound c.args.heap.now) c.in-Value.is c.loop-step.invariant.sound in
    let known = to_z-of_z w64 c.in-Value.v (range_fits c.in-Value.v range) in
    let tasks = subst (AreSoundTasks c.args.heap.now) c.in-Some.ensures.items c.loop-step.invariant.tasks in
    record {
      same =
          same_resuming c.args.heap.now c.loop-step.tasks.items _ c.loop-step.step _ c.loop-step.invariant.same c.in-Value.v c.in-Value.is
          c.in-Some.task c.in-Some.ensures.items _
          (c.in_ok-step-in-Some.ensures.same c.args.heap.now ∙ ap (λ z. task_value c.args.heap.now c.in-Some.task (value z)) known);
      sound = c.in_ok-step-in-Some.ensures.sound c.args.heap.now (sound_last c.args.heap.now _ _ tasks);
      tasks = sound_before_last c.args.heap.now _ _ tasks;
    }
