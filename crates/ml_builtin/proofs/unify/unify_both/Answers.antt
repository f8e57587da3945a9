-- The second unification is one under the map of the first.
use Rattle.ml_heap.specs.Changes.{stands_for}
use Rattle.ml_heap.proofs.HeapMarks.{marks_go_on}
use Rattle.ml_builtin.proofs.UnifiedCells.{both_failed, both_agree}
use Rattle.ml_builtin.proofs.unify.unify_both.Goals as goal

pub returns-then-not-branch-clause-done : goal.returns-then-not-branch-clause-done
returns-then-not-branch-clause-done c =
    both_failed c.args.heap.now c.unify.new.self c.unify.new.self (stands_for c.args.heap.now c.args.a)
    (stands_for c.args.heap.now c.args.b) c.args.c c.args.d _
    c.in_ok-unify.ensures.found c.if-not-branch.true

pub returns-clause-done : goal.returns-clause-done
returns-clause-done c =
    both_agree c.args.heap.now c.unify.new.self c.unify_cells.new.heap (stands_for c.args.heap.now c.args.a)
    (stands_for c.args.heap.now c.args.b) c.args.c c.args.d _
    c.in_ok-unify.ensures.found c.if-not-branch.false c.in_ok-unify.ensures.replaced c.in_ok-unify.ensures.counted c.in_ok-unify.ensures.marks
    c.requires.c_inside c.requires.d_inside _ c.in_ok-unify_cells.ensures.done

pub returns-clause-marks : goal.returns-clause-marks
returns-clause-marks c = marks_go_on _ _ _ c.in_ok-unify.ensures.marks c.in_ok-unify_cells.ensures.marks

pub returns-in_err-unify_cells-clause-marks : goal.returns-in_err-unify_cells-clause-marks
returns-in_err-unify_cells-clause-marks c = marks_go_on _ _ _ c.in_ok-unify.ensures.marks c.in_err-unify_cells.ensures.marks
