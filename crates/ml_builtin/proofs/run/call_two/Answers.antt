-- As many arguments as it takes.
use Rattle.std.proofs.Common.{arith, subst}
use Rattle.ml_heap.specs.Changes.{stands_for}
use Rattle.ml_search.specs.Builtins.{builtin}
use Rattle.ml_builtin.specs.Outcomes.{DoesBuiltin}
use Rattle.ml_builtin.specs.Tables.{binary_name}
use Rattle.ml_builtin.proofs.Meanings.{two_arguments, cell_read}
use Rattle.ml_builtin.proofs.run.call_two.Goals as goal

pub run_binary-requires-clause-t_inside : goal.run_binary-requires-clause-t_inside
run_binary-requires-clause-t_inside c = cell_read _ _ 0 _ c.requires.inside (omega (arith, c.requires.many)) c.index-args-0.is

pub run_binary-requires-clause-u_inside : goal.run_binary-requires-clause-u_inside
run_binary-requires-clause-u_inside c = cell_read _ _ 1 _ c.requires.inside (omega (arith, c.requires.many)) c.index-args-1.is

pub returns-clause-done : goal.returns-clause-done
returns-clause-done c =
    subst (λ ts. DoesBuiltin c.args.heap.now c.run_binary.new.heap (builtin (binary_name c.args.binary) ts) c.in_ok-run_binary.field-0)
    (two_arguments (stands_for c.args.heap.now) c.args.args.now c.index-args-0.result c.index-args-1.result c.requires.many c.index-args-0.is
    c.index-args-1.is) c.in_ok-run_binary.ensures.done
