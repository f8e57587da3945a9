-- The first fault is raised, or the argument is unified.
use Rattle.std.proofs.Common.{refl, subst}
use Rattle.ml_heap.specs.Changes.{stands_for, variable_count}
use Rattle.ml_search.specs.Builtins.{arg_fault}
use Rattle.ml_builtin.specs.inside.Faults.{IsFault}
use Rattle.ml_builtin.proofs.ArgChecks.{arg_raised}
use Rattle.ml_builtin.proofs.FaultChecks.{none_found}
use Rattle.ml_builtin.proofs.arg.arg.Goals as goal

pub unify_argument-requires-clause-sound : goal.unify_argument-requires-clause-sound
unify_argument-requires-clause-sound c =
    none_found _ (subst (IsFault (arg_fault (stands_for c.args.heap.now c.args.n) (stands_for c.args.heap.now c.args.t))) c.in-None.is c.in_ok-term.ensures)

pub returns-in-Some-clause-done : goal.returns-in-Some-clause-done
returns-in-Some-clause-done c =
    arg_raised (stands_for c.args.heap.now c.args.n) (stands_for c.args.heap.now c.args.t) c.args.heap.now c.args.heap.now
    (stands_for c.args.heap.now c.args.a) (variable_count c.args.heap.now) _
    (subst (IsFault (arg_fault (stands_for c.args.heap.now c.args.n) (stands_for c.args.heap.now c.args.t))) c.in-Some.is c.in_ok-term.ensures) refl
