-- As many arguments as it takes.
use Rattle.std.proofs.Common.{arith, subst}
use Rattle.ml_heap.specs.Changes.{stands_for}
use Rattle.ml_search.specs.Builtins.{builtin}
use Rattle.ml_builtin.specs.Outcomes.{DoesBuiltin}
use Rattle.ml_builtin.specs.Tables.{test_name}
use Rattle.ml_builtin.proofs.Meanings.{one_argument, cell_read}
use Rattle.ml_builtin.proofs.run.call_one.Goals as goal

pub run_test-requires : goal.run_test-requires
run_test-requires c = cell_read _ _ 0 _ c.requires.inside (omega (arith, c.requires.many)) c.index-args-0.is

pub returns-clause-done : goal.returns-clause-done
returns-clause-done c =
    subst (λ ts. DoesBuiltin c.args.heap.now c.run_test.new.heap (builtin (test_name c.args.test) ts) c.in_ok-run_test.field-0)
    (one_argument (stands_for c.args.heap.now) c.args.args.now c.index-args-0.result c.requires.many c.index-args-0.is) c.in_ok-run_test.ensures.done
