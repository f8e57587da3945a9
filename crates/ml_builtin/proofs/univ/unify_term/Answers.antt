-- The term is made, and then unified.
use Rattle.std.proofs.Common.{ap, length, arith}
use Rattle.ml_heap.specs.Changes.{stands_for}
use Rattle.ml_heap.proofs.HeapMarks.{marks_go_on}
use Rattle.ml_search.specs.Builtins.{first_element, term_of_list}
use Rattle.ml_search.specs.ListTerms.{elements}
use Rattle.ml_builtin.proofs.CellsMade.{tree_is}
use Rattle.ml_builtin.proofs.UnifiedCells.{made_then_unified}
use Rattle.ml_builtin.proofs.UnivChecks.{univ_sound}
use Rattle.ml_builtin.proofs.ListElements.{has_elements, as_many}
use Rattle.ml_builtin.proofs.univ.unify_term.Goals as goal

pub term_of_list-requires-clause-some : goal.term_of_list-requires-clause-some
term_of_list-requires-clause-some c =
    let l = stands_for c.args.heap.now c.args.l in
    let s = univ_sound l (first_element (elements l)) (length (elements l)) c.requires.sound in
    omega (arith, has_elements l s.0 s.1, as_many c.args.heap.now l c.args.cells.now c.requires.stand)

pub term_of_list-requires-clause-few : goal.term_of_list-requires-clause-few
term_of_list-requires-clause-few c =
    let l = stands_for c.args.heap.now c.args.l in
    let s = univ_sound l (first_element (elements l)) (length (elements l)) c.requires.sound in
    omega (arith, s.2, as_many c.args.heap.now l c.args.cells.now c.requires.stand)

pub unify_cells-requires-clause-a_inside : goal.unify_cells-requires-clause-a_inside
unify_cells-requires-clause-a_inside c = omega (arith, c.in_ok-made.ensures.made.grown.cells, c.requires.t_inside)

pub unify_cells-requires-clause-b_inside : goal.unify_cells-requires-clause-b_inside
unify_cells-requires-clause-b_inside c = c.in_ok-made.ensures.made.inside

pub returns-clause-done : goal.returns-clause-done
returns-clause-done c =
    made_then_unified c.args.heap.now _ c.unify_cells.new.heap c.args.t c.in_ok-made.made _ _ _ _
    (tree_is _ _ _ _ _ c.in_ok-made.ensures.made (ap term_of_list c.requires.stand))
    c.requires.t_inside c.in_ok-made.ensures.counted c.in_ok-unify_cells.ensures.done

pub returns-clause-marks : goal.returns-clause-marks
returns-clause-marks c = marks_go_on _ _ _ c.in_ok-made.ensures.marks c.in_ok-unify_cells.ensures.marks

pub returns-in_err-unify_cells-clause-marks : goal.returns-in_err-unify_cells-clause-marks
returns-in_err-unify_cells-clause-marks c = marks_go_on _ _ _ c.in_ok-made.ensures.marks c.in_err-unify_cells.ensures.marks
