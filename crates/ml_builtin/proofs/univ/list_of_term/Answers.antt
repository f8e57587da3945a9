-- The name's cell, then those of the arguments.
use Rattle.std.proofs.Common.{◌∙◌, ◌++◌, ◌∷◌, [], ap, sym, arith, subst, map}
use Rattle.ml_heap.specs.Changes.{stands_for, AreCells, HasTree}
use Rattle.ml_search.specs.ListTerms.{list_term}
use Rattle.ml_heap.proofs.HeapMarks.{marks_go_on}
use Rattle.ml_builtin.proofs.CellsMade.{told_list}
use Rattle.ml_builtin.proofs.univ.list_of_term.Goals as goal

pub append_arguments-requires : goal.append_arguments-requires
append_arguments-requires c = omega (arith, c.in_ok-name.ensures.made.grown.cells, c.requires)

pub make_list-requires : goal.make_list-requires
make_list-requires c =
    let one = c.in_ok-push.ensures.items ∙ ap (λ xs. xs ++ c.in_ok-name.name ∷ []) c.new-cells.ensures.items in
    subst (AreCells _) (sym c.as_slice.ensures.value)
    (c.in_ok-append_arguments.ensures.inside (subst (AreCells _) (sym one) (c.in_ok-name.ensures.made.inside, tt)))

pub returns-clause-made : goal.returns-clause-made
returns-clause-made c =
    let one = c.in_ok-push.ensures.items ∙ ap (λ xs. xs ++ c.in_ok-name.name ∷ []) c.new-cells.ensures.items in
    told_list c.args.heap.now _ _ c.args.t c.in_ok-name.name _ _ _ c.in_ok-name.ensures.made c.requires one c.in_ok-append_arguments.ensures.stand
    (subst (λ qs. HasTree c.name_cell.new.heap c.make_list.new.heap c.in_ok-make_list.field-0 (list_term (map (stands_for c.name_cell.new.heap) qs)))
    c.as_slice.ensures.value c.in_ok-make_list.ensures.made)

pub returns-clause-counted : goal.returns-clause-counted
returns-clause-counted c = c.in_ok-make_list.ensures.counted ∙ c.in_ok-name.ensures.counted

pub returns-clause-marks : goal.returns-clause-marks
returns-clause-marks c = marks_go_on _ _ _ c.in_ok-name.ensures.marks c.in_ok-make_list.ensures.marks

pub returns-in_err-make_list-clause-marks : goal.returns-in_err-make_list-clause-marks
returns-in_err-make_list-clause-marks c = marks_go_on _ _ _ c.in_ok-name.ensures.marks c.in_err-make_list.ensures.marks
