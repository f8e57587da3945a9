-- The arity is a number from 0 to 255; the term is made, and then unified.
use Rattle.std.proofs.Common.{◌+◌, ◌∙◌, ap, arith}
use Rattle.ml_heap.specs.Changes.{stands_for, variable_count}
use Rattle.ml_heap.proofs.HeapMarks.{marks_go_on}
use Rattle.ml_search.specs.Builtins.{new_term}
use Rattle.ml_builtin.proofs.CellsMade.{tree_is}
use Rattle.ml_builtin.proofs.UnifiedCells.{made_then_unified}
use Rattle.ml_builtin.proofs.FunctorChecks.{functor_sound}
use Rattle.ml_builtin.proofs.functor.make_functor.Goals as goal

pub number_at-arity-requires-clause-not_negative : goal.number_at-arity-requires-clause-not_negative
number_at-arity-requires-clause-not_negative c = (functor_sound (stands_for c.args.heap.now c.args.n) (stands_for c.args.heap.now c.args.a) c.requires.sound).1

pub number_at-arity-requires-clause-small : goal.number_at-arity-requires-clause-small
number_at-arity-requires-clause-small c = (functor_sound (stands_for c.args.heap.now c.args.n) (stands_for c.args.heap.now c.args.a) c.requires.sound).2

pub unify_cells-requires-clause-a_inside : goal.unify_cells-requires-clause-a_inside
unify_cells-requires-clause-a_inside c = omega (arith, c.in_ok-made.ensures.made.grown.cells, c.requires.t_inside)

pub unify_cells-requires-clause-b_inside : goal.unify_cells-requires-clause-b_inside
unify_cells-requires-clause-b_inside c = c.in_ok-made.ensures.made.inside

pub returns-clause-done : goal.returns-clause-done
returns-clause-done c =
    made_then_unified c.args.heap.now _ c.unify_cells.new.heap c.args.t c.in_ok-made.made _ _ _ _
    (tree_is _ _ _ _ _ c.in_ok-made.ensures.made
    (ap (λ n. new_term (stands_for c.args.heap.now c.args.n) n (variable_count c.args.heap.now)) c.number_at-arity.ensures))
    c.requires.t_inside
    (c.in_ok-made.ensures.counted ∙ ap (λ n. variable_count c.args.heap.now + n) c.number_at-arity.ensures) c.in_ok-unify_cells.ensures.done

pub returns-clause-marks : goal.returns-clause-marks
returns-clause-marks c = marks_go_on _ _ _ c.in_ok-made.ensures.marks c.in_ok-unify_cells.ensures.marks

pub returns-in_err-unify_cells-clause-marks : goal.returns-in_err-unify_cells-clause-marks
returns-in_err-unify_cells-clause-marks c = marks_go_on _ _ _ c.in_ok-made.ensures.marks c.in_err-unify_cells.ensures.marks
