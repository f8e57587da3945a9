-- The list is made, and then unified.
use Rattle.std.proofs.Common.{arith}
use Rattle.ml_heap.proofs.HeapMarks.{marks_go_on}
use Rattle.ml_builtin.proofs.UnifiedCells.{made_then_unified}
use Rattle.ml_builtin.proofs.univ.tell_term.Goals as goal

pub unify_cells-requires-clause-a_inside : goal.unify_cells-requires-clause-a_inside
unify_cells-requires-clause-a_inside c = omega (arith, c.in_ok-list.ensures.made.grown.cells, c.requires.l_inside)

pub unify_cells-requires-clause-b_inside : goal.unify_cells-requires-clause-b_inside
unify_cells-requires-clause-b_inside c = c.in_ok-list.ensures.made.inside

pub returns-clause-done : goal.returns-clause-done
returns-clause-done c =
    made_then_unified c.args.heap.now _ c.unify_cells.new.heap c.args.l c.in_ok-list.list _ _ _ _ c.in_ok-list.ensures.made
    c.requires.l_inside c.in_ok-list.ensures.counted c.in_ok-unify_cells.ensures.done

pub returns-clause-marks : goal.returns-clause-marks
returns-clause-marks c = marks_go_on _ _ _ c.in_ok-list.ensures.marks c.in_ok-unify_cells.ensures.marks

pub returns-in_err-unify_cells-clause-marks : goal.returns-in_err-unify_cells-clause-marks
returns-in_err-unify_cells-clause-marks c = marks_go_on _ _ _ c.in_ok-list.ensures.marks c.in_err-unify_cells.ensures.marks
