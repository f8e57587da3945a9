-- The later cells have been put last, the latest of them first.
use Rattle.std.proofs.Common.{◌≡◌, ◌≤◌, ◌++◌, length, drop, reverse}
use Rattle.ml_heap.proofs.trees.push_places.Given as goal

abbrev pub invariant-loop-i : goal.invariant-loop-i
invariant-loop-i l = (l.i ≤ length l.places) × (l.left.items ≡ l.fn.left.items ++ reverse (drop l.i l.places))

abbrev pub decreases-loop-i : goal.decreases-loop-i
decreases-loop-i l = l.i
