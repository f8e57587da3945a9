-- The later pairs have been put last, the latest of them first.
use Rattle.std.proofs.Common.{◌≡◌, ◌≤◌, ◌++◌, length, drop, reverse}
use Rattle.std.specs.List.{zip}
use Rattle.ml_heap.proofs.unify.push_pairs.Given as goal

abbrev pub invariant-loop-i : goal.invariant-loop-i
invariant-loop-i l = (l.i ≤ length l.first) × (l.left.items ≡ l.fn.left.items ++ reverse (zip (drop l.i l.first) (drop l.i l.second)))

abbrev pub decreases-loop-i : goal.decreases-loop-i
decreases-loop-i l = l.i
