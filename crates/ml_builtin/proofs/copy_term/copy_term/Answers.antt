-- The copy is made, and then unified.
use Rattle.std.proofs.Common.{arith}
use Rattle.ml_heap.proofs.HeapMarks.{marks_go_on}
use Rattle.ml_builtin.proofs.UnifiedCells.{made_then_unified}
use Rattle.ml_builtin.proofs.copy_term.copy_term.Goals as goal

pub unify_cells-requires-clause-a_inside : goal.unify_cells-requires-clause-a_inside
unify_cells-requires-clause-a_inside c = omega (arith, c.in_ok-copy.ensures.copied.grown.cells, c.requires.c_inside)

pub unify_cells-requires-clause-b_inside : goal.unify_cells-requires-clause-b_inside
unify_cells-requires-clause-b_inside c = c.in_ok-copy.ensures.copied.inside

pub returns-clause-done : goal.returns-clause-done
returns-clause-done c =
    made_then_unified c.args.heap.now c.copy_of.new.heap c.unify_cells.new.heap c.args.c c.in_ok-copy.copy _ _ _ _ c.in_ok-copy.ensures.copied
    c.requires.c_inside
    c.in_ok-copy.ensures.counted c.in_ok-unify_cells.ensures.done

pub returns-clause-marks : goal.returns-clause-marks
returns-clause-marks c = marks_go_on _ _ _ c.in_ok-copy.ensures.marks c.in_ok-unify_cells.ensures.marks

pub returns-in_err-unify_cells-clause-marks : goal.returns-in_err-unify_cells-clause-marks
returns-in_err-unify_cells-clause-marks c = marks_go_on _ _ _ c.in_ok-copy.ensures.marks c.in_err-unify_cells.ensures.marks
