-- With no cells and no steps there is nothing to keep.
use Rattle.std.proofs.Common.{[], refl}
use Rattle.ml_heap.proofs.MadeCells.{nothing_kept, kept_as}
use Rattle.ml_heap.proofs.heap.Heap.new.Goals as goal

pub invariant_of-result : goal.invariant_of-result
invariant_of-result c = kept_as [] _ [] _ 0 0 c.new-2.ensures.items c.new.ensures.items refl nothing_kept
