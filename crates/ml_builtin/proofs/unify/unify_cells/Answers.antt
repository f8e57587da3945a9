-- A unification is the definition's: by the unifier, or there is none.
use Rattle.ml_builtin.proofs.UnifiedCells.{succeeded, failed_agrees}
use Rattle.ml_heap.specs.Changes.{stands_for}
use Rattle.ml_builtin.proofs.unify.unify_cells.Goals as goal

pub returns-then-branch-clause-done : goal.returns-then-branch-clause-done
returns-then-branch-clause-done c =
    succeeded c.args.heap.now c.unify.new.self (stands_for c.args.heap.now c.args.a) (stands_for c.args.heap.now c.args.b) _ c.in_ok-unify.ensures.found
    c.if-branch.true c.in_ok-unify.ensures.replaced c.in_ok-unify.ensures.counted c.in_ok-unify.ensures.marks

pub returns-else-branch-clause-done : goal.returns-else-branch-clause-done
returns-else-branch-clause-done c =
    failed_agrees c.args.heap.now c.unify.new.self (stands_for c.args.heap.now c.args.a) (stands_for c.args.heap.now c.args.b) _ c.in_ok-unify.ensures.found
    c.if-branch.false
