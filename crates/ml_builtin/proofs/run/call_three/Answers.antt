-- As many arguments as it takes.
use Rattle.std.proofs.Common.{arith, subst}
use Rattle.ml_heap.specs.Changes.{stands_for}
use Rattle.ml_search.specs.Builtins.{builtin}
use Rattle.ml_builtin.specs.Outcomes.{DoesBuiltin}
use Rattle.ml_builtin.specs.Tables.{ternary_name}
use Rattle.ml_builtin.proofs.Meanings.{three_arguments, cell_read}
use Rattle.ml_builtin.proofs.run.call_three.Goals as goal

pub run_ternary-requires-clause-t_inside : goal.run_ternary-requires-clause-t_inside
run_ternary-requires-clause-t_inside c = cell_read _ _ 0 _ c.requires.inside (omega (arith, c.requires.many)) c.index-args-0.is

pub run_ternary-requires-clause-u_inside : goal.run_ternary-requires-clause-u_inside
run_ternary-requires-clause-u_inside c = cell_read _ _ 1 _ c.requires.inside (omega (arith, c.requires.many)) c.index-args-1.is

pub run_ternary-requires-clause-v_inside : goal.run_ternary-requires-clause-v_inside
run_ternary-requires-clause-v_inside c = cell_read _ _ 2 _ c.requires.inside (omega (arith, c.requires.many)) c.index-args-2.is

pub returns-clause-done : goal.returns-clause-done
returns-clause-done c =
    subst (λ ts. DoesBuiltin c.args.heap.now c.run_ternary.new.heap (builtin (ternary_name c.args.ternary) ts) c.in_ok-run_ternary.field-0)
    (three_arguments (stands_for c.args.heap.now) c.args.args.now c.index-args-0.result c.index-args-1.result c.index-args-2.result c.requires.many
    c.index-args-0.is c.index-args-1.is c.index-args-2.is) c.in_ok-run_ternary.ensures.done
