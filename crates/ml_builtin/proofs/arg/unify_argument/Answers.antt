-- The argument is unified, or there is none.
use Rattle.ml_heap.specs.Changes.{stands_for, variable_count}
use Rattle.ml_builtin.proofs.ArgChecks.{arg_fails, arg_unifies, argument_unified}
use Rattle.ml_builtin.proofs.arg.unify_argument.Goals as goal

pub returns-in_ok-unify_cells-in-Some-clause-done : goal.returns-in_ok-unify_cells-in-Some-clause-done
returns-in_ok-unify_cells-in-Some-clause-done c =
    arg_unifies (stands_for c.args.heap.now c.args.n) (stands_for c.args.heap.now c.args.t) c.args.heap.now c.unify_cells.new.heap
    (stands_for c.args.heap.now c.args.a) (variable_count c.args.heap.now) _ c.requires.sound c.in-Some.ensures.0
    (argument_unified _ _ _ _ _ _ _ c.in-Some.ensures.2 c.in_ok-unify_cells-in-Some.ensures.done)

pub returns-in-None-clause-done : goal.returns-in-None-clause-done
returns-in-None-clause-done c =
    arg_fails (stands_for c.args.heap.now c.args.n) (stands_for c.args.heap.now c.args.t) c.args.heap.now c.args.heap.now
    (stands_for c.args.heap.now c.args.a) (variable_count c.args.heap.now) c.requires.sound c.in-None.ensures
