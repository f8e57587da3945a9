-- The first fault is raised, or the term is made.
use Rattle.std.proofs.Common.{refl, subst}
use Rattle.ml_heap.specs.Changes.{stands_for, variable_count}
use Rattle.ml_search.specs.Builtins.{functor_fault}
use Rattle.ml_builtin.specs.inside.Faults.{IsFault}
use Rattle.ml_builtin.proofs.FunctorChecks.{functor_raised, functor_made}
use Rattle.ml_builtin.proofs.FaultChecks.{none_found}
use Rattle.ml_builtin.proofs.functor.make_from_functor.Goals as goal

pub make_functor-requires-clause-sound : goal.make_functor-requires-clause-sound
make_functor-requires-clause-sound c =
    none_found _ (subst (IsFault (functor_fault (stands_for c.args.heap.now c.args.n) (stands_for c.args.heap.now c.args.a))) c.in-None.is
    c.in_ok-term.ensures)

pub returns-in-Some-clause-done : goal.returns-in-Some-clause-done
returns-in-Some-clause-done c =
    functor_raised c.args.heap.now c.args.heap.now (stands_for c.args.heap.now c.args.t) (stands_for c.args.heap.now c.args.n)
    (stands_for c.args.heap.now c.args.a) (variable_count c.args.heap.now) _ c.requires.variable
    (subst (IsFault (functor_fault (stands_for c.args.heap.now c.args.n) (stands_for c.args.heap.now c.args.a))) c.in-Some.is c.in_ok-term.ensures) refl

pub returns-in_ok-make_functor-in-None-clause-done : goal.returns-in_ok-make_functor-in-None-clause-done
returns-in_ok-make_functor-in-None-clause-done c =
    functor_made c.args.heap.now c.make_functor.new.heap (stands_for c.args.heap.now c.args.t) (stands_for c.args.heap.now c.args.n)
    (stands_for c.args.heap.now c.args.a) (variable_count c.args.heap.now) _ c.requires.variable
    (subst (IsFault (functor_fault (stands_for c.args.heap.now c.args.n) (stands_for c.args.heap.now c.args.a))) c.in-None.is c.in_ok-term.ensures)
    c.in_ok-make_functor-in-None.ensures.done
