-- The checks of the predicate, and that of the size behind them.
use Rattle.std.proofs.Common.{subst, sym, ap, ◌∙◌, ◌≡◌}
use Rattle.std.proofs.lemmas.Result.{IfOk-weaker}
use Rattle.std.specs.Prelude.{Option}
use Rattle.ml_heap.specs.Changes.{stands_for}
use Rattle.ml_program.specs.LoadedProgram.{program_of}
use Rattle.ml_search.specs.Actions.{Procedure, retract_clause}
use Rattle.ml_search.specs.Changes.{list_for}
use Rattle.ml_search.specs.Procedures.{procedure_unless, retract_fault}
use Rattle.ml_term.specs.Tree.{Tree}
use Rattle.ml_term.specs.declared.declaration.Kind.TheVariants.{Clauses}
use Rattle.ml_store_goals.specs.Goals.{IsStoreGoal}
use Rattle.ml_store_goals.specs.inside.Checks.{IsFound, head_fault, size_fault}
use Rattle.ml_store_goals.proofs.GoalsMade.{refused_raises}
use Rattle.ml_store_goals.proofs.Parts.{retract_parts, found_before, found_listed, none_listed, behind}
use Rattle.ml_store_goals.proofs.retract.retract_at.Goals as goal

pub returns-in-Raises : goal.returns-in-Raises
returns-in-Raises c =
    let p = program_of c.args.program.now in
    let h = stands_for c.args.heap.now c.args.given.head in
    let b = stands_for c.args.heap.now c.args.given.body in
    let e = c.in-Raises.error in
    refused_raises p (retract_clause (list_for p.decls h) h b) (retract_fault p h b) e
    (subst (λ (o : Option Tree). IsFound o e) (sym (retract_parts p h b))
    (found_before (head_fault p Clauses h) (size_fault h b) e
    (found_listed (head_fault p Clauses h) (list_for p.decls h) c.in_ok-error.field-0 e c.in_ok-error.ensures c.in-Raises.is)))

pub returns-in-List : goal.returns-in-List
returns-in-List c =
    let p = program_of c.args.program.now in
    let h = stands_for c.args.heap.now c.args.given.head in
    let b = stands_for c.args.heap.now c.args.given.body in
    let d = c.in-List.list in
    let none = none_listed (head_fault p Clauses h) (list_for p.decls h) c.in_ok-error.field-0 d c.in_ok-error.ensures c.in-List.is in
    let fault : retract_fault p h b ≡ size_fault h b = retract_parts p h b ∙ behind (head_fault p Clauses h) (size_fault h b) none.0 in
    let same : procedure_unless p (size_fault h b) (retract_clause d h b) ≡ procedure_unless p (retract_fault p h b) (retract_clause (list_for p.decls h) h b) =
    ap (λ o. procedure_unless p o (retract_clause d h b)) (sym fault)
    ∙ ap (λ k. procedure_unless p (retract_fault p h b) (retract_clause k h b)) (sym none.1) in
    IfOk-weaker c.retract_from.result _ _ (λ goal made. subst (λ (procedure : Procedure). IsStoreGoal c.args.heap.now procedure goal) same (made p))
    c.retract_from.ensures
