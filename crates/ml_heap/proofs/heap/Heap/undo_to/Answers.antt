-- The heap of the mark stays the same while later changes are undone.
use Rattle.std.proofs.Common.{◌<◌, ◌∙◌, arith, length}
use Rattle.ml_heap.proofs.HeapMarks.{undone_once}
use Rattle.ml_heap.proofs.heap.Heap.undo_to.Goals as goal

pub loop-m-preserved : goal.loop-m-preserved
loop-m-preserved c =
    let below : c.args.m < length c.loop-m.self = omega (arith, c.loop-m-test.true, c.steps.ensures, c.mark.ensures, c.steps-in-loop-m.ensures) in
    let u = undone_once c.loop-m.self c.undo_one.new.self c.args.m below c.undo_one.ensures in
    (u.0, u.1 ∙ c.loop-m.invariant.1)
