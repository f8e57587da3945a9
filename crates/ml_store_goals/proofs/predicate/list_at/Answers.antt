-- A compound's predicate is its name and the number of its arguments.
use Rattle.std.proofs.Common.{IfOk, subst, sym, ◌∙◌, ℕ, ◌≡◌}
use Rattle.ml_heap.specs.Changes.{arguments_of, stands_for}
use Rattle.ml_program.specs.LoadedProgram.{program_of}
use Rattle.ml_search.specs.Changes.{list_for}
use Rattle.ml_term.specs.Tree.{Tree, arity, trees_of}
use Rattle.ml_store_goals.specs.inside.Checks.{IsListed, head_fault, list_fault, list_named}
use Rattle.ml_store_goals.proofs.PredicatesListed.{count_arguments}
use Rattle.ml_store_goals.proofs.predicate.list_at.Goals as goal

pub returns-in-Cmp : goal.returns-in-Cmp
returns-in-Cmp c =
    let p = program_of c.args.program.now in
    let t = stands_for c.args.heap.now c.args.at in
    let f = c.in-Cmp.name.now in
    let r = c.list_of-in-Cmp.result in
    let n : arity (trees_of (arguments_of t)) ≡ c.in-Cmp.arity = count_arguments (arguments_of t) ∙ c.in-Cmp.ensures.shown.1 in
    subst (λ (u : Tree). IfOk r (λ l. IsListed (head_fault p c.args.kind u) (list_for p.decls u) l)) (sym c.in-Cmp.ensures.shown.0)
    (subst (λ (m : ℕ). IfOk r (λ l. IsListed (list_fault p c.args.kind f m) (list_named p f m) l)) (sym n) c.list_of-in-Cmp.ensures)
