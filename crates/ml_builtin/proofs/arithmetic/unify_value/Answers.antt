-- The integer's cell is made, and then unified.
use Rattle.std.proofs.Common.{arith, ap, w64}
use Rattle.std.proofs.lemmas.Int.{to_z-of_z}
use Rattle.ml_term.specs.Tree.{integer}
use Rattle.ml_heap.proofs.HeapMarks.{marks_go_on}
use Rattle.ml_heap.proofs.StoredTerms.{grows_none, grows_one, one_inside}
use Rattle.ml_builtin.proofs.CellsMade.{made_after}
use Rattle.ml_builtin.proofs.UnifiedCells.{made_then_unified}
use Rattle.ml_builtin.proofs.arithmetic.unify_value.Goals as goal

pub unify_cells-requires-clause-a_inside : goal.unify_cells-requires-clause-a_inside
unify_cells-requires-clause-a_inside c =
    let more = grows_one _ _ _ _ c.in_ok-value.ensures.made in
    omega (arith, more.cells, c.requires.inside)

pub unify_cells-requires-clause-b_inside : goal.unify_cells-requires-clause-b_inside
unify_cells-requires-clause-b_inside c = one_inside _ _ _ _ c.in_ok-value.ensures.made

pub returns-clause-done : goal.returns-clause-done
returns-clause-done c =
    made_then_unified c.args.heap.now c.new_int.new.self c.unify_cells.new.heap c.args.t c.in_ok-value.value _ _ _ _
    (made_after _ _ _ _ _ _ (grows_none c.args.heap.now) c.in_ok-value.ensures.made (ap integer (to_z-of_z w64 c.args.v c.ranges.v)))
    c.requires.inside c.in_ok-value.ensures.counted c.in_ok-unify_cells.ensures.done

pub returns-clause-marks : goal.returns-clause-marks
returns-clause-marks c = marks_go_on _ _ _ c.in_ok-value.ensures.made.marks c.in_ok-unify_cells.ensures.marks

pub returns-in_err-unify_cells-clause-marks : goal.returns-in_err-unify_cells-clause-marks
returns-in_err-unify_cells-clause-marks c = marks_go_on _ _ _ c.in_ok-value.ensures.made.marks c.in_err-unify_cells.ensures.marks
