-- The first fault is raised, or the term is made.
use Rattle.std.proofs.Common.{refl, subst, length}
use Rattle.ml_heap.specs.Changes.{stands_for, variable_count}
use Rattle.ml_search.specs.Builtins.{univ_fault, first_element}
use Rattle.ml_search.specs.ListTerms.{elements}
use Rattle.ml_builtin.specs.inside.Faults.{IsFault}
use Rattle.ml_builtin.proofs.FaultChecks.{none_found}
use Rattle.ml_builtin.proofs.UnivChecks.{univ_raised, univ_made}
use Rattle.ml_builtin.proofs.univ.make_from_list.Goals as goal

pub unify_term-requires-clause-sound : goal.unify_term-requires-clause-sound
unify_term-requires-clause-sound c =
    let l = stands_for c.args.heap.now c.args.l in
    none_found _ (subst (IsFault (univ_fault l (first_element (elements l)) (length (elements l)))) c.in-None.is c.in_ok-term.ensures)

pub returns-in-Some-clause-done : goal.returns-in-Some-clause-done
returns-in-Some-clause-done c =
    let l = stands_for c.args.heap.now c.args.l in
    univ_raised c.args.heap.now c.args.heap.now (stands_for c.args.heap.now c.args.t) l (variable_count c.args.heap.now) _ c.requires.variable
    (subst (IsFault (univ_fault l (first_element (elements l)) (length (elements l)))) c.in-Some.is c.in_ok-term.ensures) refl

pub returns-clause-done : goal.returns-clause-done
returns-clause-done c =
    let l = stands_for c.args.heap.now c.args.l in
    univ_made c.args.heap.now c.unify_term.new.heap (stands_for c.args.heap.now c.args.t) l (variable_count c.args.heap.now) _ c.requires.variable
    (subst (IsFault (univ_fault l (first_element (elements l)) (length (elements l)))) c.in-None.is c.in_ok-term.ensures)
    c.in_ok-unify_term-in-None.ensures.done
