-- The mark is one of the later heap, and its heap is the one that there was.
use Rattle.std.proofs.Common.{◌∙◌, arith}
use Rattle.ml_heap.proofs.HeapMarks.{all_undone}
use Rattle.ml_bench.proofs.round.enter_and_undo.Goals as goal

pub undo_to-requires : goal.undo_to-requires
undo_to-requires c = (c.in_ok-entered.ensures.marks c.mark-mark.result (omega (arith, c.mark-mark.ensures))).0

pub returns : goal.returns
returns c =
    c.undo_to.ensures
    ∙ ((c.in_ok-entered.ensures.marks c.mark-mark.result (omega (arith, c.mark-mark.ensures))).1
    ∙ all_undone c.args.heap.now c.mark-mark.result (omega (arith, c.mark-mark.ensures)))
