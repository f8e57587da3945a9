-- The later cells have been put last, the latest of them first.
use Rattle.std.proofs.Common.{◌≡◌, ◌≤◌, ◌++◌, length, reverse, drop}
use Rattle.ml_match.proofs.matching.push_turned.Given as goal

abbrev pub invariant-loop-i : goal.invariant-loop-i
invariant-loop-i l = record {
  small : l.i ≤ length l.cells;
  put : l.todo.items ≡ l.fn.todo.items ++ reverse (drop l.i l.cells);
}

abbrev pub decreases-loop-i : goal.decreases-loop-i
decreases-loop-i l = l.i
