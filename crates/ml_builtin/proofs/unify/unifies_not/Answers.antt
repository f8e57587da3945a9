-- Undoing to the mark gives the heap back.
use Rattle.std.proofs.Common.{sym, subst, arith}
use Rattle.ml_heap.specs.Changes.{stands_for, KeepsMarks}
use Rattle.ml_heap.proofs.HeapMarks.{marks_stay}
use Rattle.ml_builtin.proofs.UnifiedCells.{undone, no_unifier, some_unifier}
use Rattle.ml_builtin.proofs.unify.unifies_not.Goals as goal

pub undo_to-requires : goal.undo_to-requires
undo_to-requires c = (c.in_ok-found.ensures.marks c.mark-mark.result (omega (arith, c.mark-mark.ensures))).0

pub returns-then-found-clause-done : goal.returns-then-found-clause-done
returns-then-found-clause-done c =
    some_unifier c.args.heap.now c.undo_to.new.self (stands_for c.args.heap.now c.args.a) (stands_for c.args.heap.now c.args.b) _ c.in_ok-found.ensures.found
    c.if-found.true

pub returns-then-found-clause-marks : goal.returns-then-found-clause-marks
returns-then-found-clause-marks c =
    subst (KeepsMarks c.args.heap.now) (sym (undone _ _ _ _ c.in_ok-found.ensures.marks c.mark-mark.ensures c.undo_to.ensures)) (marks_stay c.args.heap.now)

pub returns-else-found-clause-done : goal.returns-else-found-clause-done
returns-else-found-clause-done c =
    no_unifier c.args.heap.now c.undo_to.new.self (stands_for c.args.heap.now c.args.a) (stands_for c.args.heap.now c.args.b) _ c.in_ok-found.ensures.found
    c.if-found.false (undone _ _ _ _ c.in_ok-found.ensures.marks c.mark-mark.ensures c.undo_to.ensures)

pub returns-else-found-clause-marks : goal.returns-else-found-clause-marks
returns-else-found-clause-marks c =
    subst (KeepsMarks c.args.heap.now) (sym (undone _ _ _ _ c.in_ok-found.ensures.marks c.mark-mark.ensures c.undo_to.ensures)) (marks_stay c.args.heap.now)
