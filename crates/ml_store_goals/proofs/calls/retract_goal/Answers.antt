-- The clause is the one that is given.
use Rattle.std.proofs.Common.{IfOk, subst}
use Rattle.ml_heap.specs.Changes.{stands_for}
use Rattle.ml_program.specs.LoadedProgram.{program_of}
use Rattle.ml_search.specs.Actions.{retract_clause}
use Rattle.ml_search.specs.Changes.{list_for}
use Rattle.ml_search.specs.Procedures.{given_body, procedure_unless, retract_fault}
use Rattle.ml_term.specs.Tree.{Tree}
use Rattle.ml_store_goals.specs.Goals.{IsStoreGoal}
use Rattle.ml_store_goals.proofs.calls.retract_goal.Goals as goal

pub returns-clause-is : goal.returns-clause-is
returns-clause-is c =
    let p = program_of c.args.program.now in
    let h = c.given_at.new.heap in
    let b = given_body (stands_for c.args.heap.now c.args.argument) in
    let head = stands_for h c.in_ok-given.given.head in
    let r = c.retract_at.result in
    subst (λ (x : Tree). IfOk r (λ goal. IsStoreGoal h (procedure_unless p (retract_fault p x b) (retract_clause (list_for p.decls x) x b)) goal))
    c.in_ok-given.ensures.head
    (subst (λ (y : Tree). IfOk r (λ goal. IsStoreGoal h (procedure_unless p (retract_fault p head y) (retract_clause (list_for p.decls head) head y)) goal))
    c.in_ok-given.ensures.body c.retract_at.ensures)
