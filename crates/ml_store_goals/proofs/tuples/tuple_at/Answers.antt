-- The checks of the predicate, and those behind them.
use Rattle.std.proofs.Common.{IfOk, subst, sym, ◌∙◌}
use Rattle.std.specs.Prelude.{Option}
use Rattle.ml_heap.specs.Changes.{stands_for}
use Rattle.ml_program.specs.LoadedProgram.{program_of}
use Rattle.ml_search.specs.Changes.{list_for}
use Rattle.ml_term.specs.Tree.{Tree}
use Rattle.ml_term.specs.declared.declaration.Kind.TheVariants.{Relation}
use Rattle.ml_store_goals.specs.inside.Checks.{IsChecked, IsFound, head_fault, relation_fault}
use Rattle.ml_store_goals.proofs.Parts.{tuple_parts, found_before, found_listed, none_listed, behind}
use Rattle.ml_store_goals.proofs.tuples.tuple_at.Goals as goal

pub returns-in-Raises : goal.returns-in-Raises
returns-in-Raises c =
    let p = program_of c.args.program.now in
    let t = stands_for c.args.heap.now c.args.at in
    subst (λ (o : Option Tree). IsFound o c.in-Raises.error) (sym (tuple_parts p t))
    (found_before (head_fault p Relation t) (relation_fault t) c.in-Raises.error
    (found_listed (head_fault p Relation t) (list_for p.decls t) c.in_ok-error.field-0 c.in-Raises.error c.in_ok-error.ensures c.in-Raises.is))

pub returns-in-List : goal.returns-in-List
returns-in-List c =
    let p = program_of c.args.program.now in
    let t = stands_for c.args.heap.now c.args.at in
    let none =
    none_listed (head_fault p Relation t) (list_for p.decls t) c.in_ok-error.field-0 c.in-List.field-0 c.in_ok-error.ensures c.in-List.is in
    let r = c.tuple_of_relation.result in
    subst (λ (o : Option Tree). IfOk r (λ checked. IsChecked o t checked))
    (sym (tuple_parts p t ∙ behind (head_fault p Relation t) (relation_fault t) none.0)) c.tuple_of_relation.ensures
