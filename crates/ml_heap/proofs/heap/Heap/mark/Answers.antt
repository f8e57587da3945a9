-- There are as many changes as steps.
use Rattle.std.proofs.Common.{ap, arith, length}
use Rattle.ml_heap.proofs.MadeCells.{as_many_steps}
use Rattle.ml_heap.proofs.heap.Heap.mark.Goals as goal

pub returns : goal.returns
returns c =
    let counted = as_many_steps c.self.inside.steps.items c.self.inside.cells.items c.self.invariant.kept in
    let seen = ap length c.self.view_is in
    omega (arith, c.after.ensures, c.len.ensures, counted, seen)
