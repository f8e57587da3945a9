-- The test of the order of the terms.
use Rattle.std.proofs.Common.{subst, ap, ◌∙◌}
use Rattle.ml_heap.specs.Changes.{variable_count}
use Rattle.ml_search.specs.Builtins.{test_result}
use Rattle.ml_builtin.specs.Outcomes.{Agrees}
use Rattle.ml_builtin.specs.inside.Meanings.{relation_test}
use Rattle.ml_builtin.proofs.compare.compare_terms.Goals as goal

pub returns-clause-done : goal.returns-clause-done
returns-clause-done c =
    subst (λ b. Agrees c.args.heap.now c.args.heap.now (test_result b (variable_count c.args.heap.now)) c.outcome_of_test.result)
    (c.holds.ensures ∙ ap (relation_test c.args.relation) c.in_ok-order.ensures)
    (c.outcome_of_test.ensures c.args.heap.now)
