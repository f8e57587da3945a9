-- The mark stays one of the heap, and its heap stays the same.
use Rattle.std.proofs.Common.{◌≡◌, ◌≤◌, length}
use Rattle.ml_heap.specs.Changes.{heap_of_mark}
use Rattle.ml_heap.proofs.heap.Heap.undo_to.Given as goal

abbrev pub invariant-loop-m : goal.invariant-loop-m
invariant-loop-m l = (l.m ≤ length l.self) × (heap_of_mark l.self l.m ≡ heap_of_mark l.fn.self l.m)

abbrev pub decreases-loop-m : goal.decreases-loop-m
decreases-loop-m l = length l.self
