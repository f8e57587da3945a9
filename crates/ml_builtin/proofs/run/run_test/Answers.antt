-- The test is the definition's.
use Rattle.std.proofs.Common.{subst}
use Rattle.ml_heap.specs.Changes.{stands_for, variable_count}
use Rattle.ml_search.specs.Builtins.{test_result}
use Rattle.ml_builtin.specs.Outcomes.{Agrees}
use Rattle.ml_builtin.proofs.Meanings.{test_means}
use Rattle.ml_builtin.proofs.run.run_test.Goals as goal

pub returns-clause-done : goal.returns-clause-done
returns-clause-done c =
    test_means c.args.test c.args.heap.now c.args.heap.now (stands_for c.args.heap.now c.args.at) c.outcome_of_test.result
    (subst (λ b. Agrees c.args.heap.now c.args.heap.now (test_result b (variable_count c.args.heap.now)) c.outcome_of_test.result) c.in_ok-holds.ensures
    (c.outcome_of_test.ensures c.args.heap.now))
