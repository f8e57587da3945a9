-- The checks of the predicate, and those behind them.
use Rattle.std.proofs.Common.{IfOk, subst, sym, ◌∙◌}
use Rattle.std.specs.Prelude.{Option}
use Rattle.ml_heap.specs.Changes.{stands_for}
use Rattle.ml_program.specs.LoadedProgram.{program_of}
use Rattle.ml_search.specs.Program.{clause_term}
use Rattle.ml_search.specs.Changes.{list_for}
use Rattle.ml_term.specs.Tree.{Tree, rename}
use Rattle.ml_term.specs.declared.declaration.Kind.TheVariants.{Clauses}
use Rattle.ml_store_goals.specs.inside.Checks.{IsChecked, IsFound, head_fault, clause_fault}
use Rattle.ml_store_goals.proofs.Parts.{assert_parts, found_before, found_listed, none_listed, behind}
use Rattle.ml_store_goals.proofs.clauses.clause_at.Goals as goal

pub returns-in-Raises : goal.returns-in-Raises
returns-in-Raises c =
    let p = program_of c.args.program.now in
    let h = stands_for c.args.heap.now c.args.given.head in
    let b = stands_for c.args.heap.now c.args.given.body in
    subst (λ (o : Option Tree). IsFound o c.in-Raises.error) (sym (assert_parts p h b))
    (found_before (head_fault p Clauses h) (clause_fault h b) c.in-Raises.error
    (found_listed (head_fault p Clauses h) (list_for p.decls h) c.in_ok-error.field-0 c.in-Raises.error c.in_ok-error.ensures c.in-Raises.is))

pub returns-in-List : goal.returns-in-List
returns-in-List c =
    let p = program_of c.args.program.now in
    let h = stands_for c.args.heap.now c.args.given.head in
    let b = stands_for c.args.heap.now c.args.given.body in
    let none =
    none_listed (head_fault p Clauses h) (list_for p.decls h) c.in_ok-error.field-0 c.in-List.field-0 c.in_ok-error.ensures c.in-List.is in
    let r = c.clause_of_list.result in
    subst (λ (o : Option Tree). IfOk r (λ checked. IsChecked o (rename 0 (clause_term h b)) checked))
    (sym (assert_parts p h b ∙ behind (head_fault p Clauses h) (clause_fault h b) none.0)) c.clause_of_list.ensures
