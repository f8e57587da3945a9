-- The right operand comes next, or the operator is applied.
use Rattle.std.proofs.Common.{◌≡◌, true, ap, sym, ◌∙◌, subst, w64}
use Rattle.std.proofs.lemmas.Int.{to_z-of_z}
use Rattle.ml_heap.specs.Changes.{stands_for}
use Rattle.ml_search.specs.Evaluate.{evaluate, value}
use Rattle.ml_term.specs.Valid.{is_in_range}
use Rattle.ml_arith.specs.declared.step.Task.TheVariants.{Operate}
use Rattle.ml_arith.specs.inside.Tasks.{task_value}
use Rattle.ml_arith.proofs.Operands.{right_task}
use Rattle.ml_arith.proofs.ResultsInRange.{result_in_range, range_fits}
use Rattle.ml_arith.proofs.step.resume.Goals as goal

pub returns-in-EvaluateRight-clause-same : goal.returns-in-EvaluateRight-clause-same
returns-in-EvaluateRight-clause-same c h =
    ap (λ x. task_value h (Operate c.in-EvaluateRight.operator x) (evaluate (stands_for h c.in-EvaluateRight.right))) (to_z-of_z w64 c.args.v c.ranges.v)
    ∙ (right_task h c.in-EvaluateRight.operator c.in-EvaluateRight.right c.args.v ∙ ap (λ t. task_value h t (value c.args.v)) (sym c.in-EvaluateRight.is))

pub returns-in_ok-apply-in-Operate-clause-sound : goal.returns-in_ok-apply-in-Operate-clause-sound
returns-in_ok-apply-in-Operate-clause-sound c h s =
    let v = c.in_ok-apply-in-Operate.field-0 in
    let range : is_in_range v ≡ true = result_in_range c.in-Operate.operator _ _ v (sym c.in_ok-apply-in-Operate.ensures) in
    subst (λ z. is_in_range z ≡ true) (sym (to_z-of_z w64 v (range_fits v range))) range
