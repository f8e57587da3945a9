-- The clause is the one that is given.
use Rattle.std.proofs.Common.{IfOk, subst}
use Rattle.ml_heap.specs.Changes.{stands_for}
use Rattle.ml_program.specs.LoadedProgram.{program_of}
use Rattle.ml_search.specs.Procedures.{assert_fault, given_body}
use Rattle.ml_search.specs.Program.{clause_term}
use Rattle.ml_term.specs.Tree.{Tree, rename}
use Rattle.ml_store_goals.specs.inside.Checks.{IsChecked}
use Rattle.ml_store_goals.proofs.calls.clause_of.Goals as goal

pub returns-clause-is : goal.returns-clause-is
returns-clause-is c =
    let p = program_of c.args.program.now in
    let b = given_body (stands_for c.args.heap.now c.args.argument) in
    let head = stands_for c.given_at.new.heap c.in_ok-given.given.head in
    let r = c.clause_at.result in
    subst (λ (x : Tree). IfOk r (λ checked. IsChecked (assert_fault p x b) (rename 0 (clause_term x b)) checked)) c.in_ok-given.ensures.head
    (subst (λ (y : Tree). IfOk r (λ checked. IsChecked (assert_fault p head y) (rename 0 (clause_term head y)) checked)) c.in_ok-given.ensures.body
    c.clause_at.ensures)
