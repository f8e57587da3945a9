-- The later cells were met.
use Rattle.std.proofs.Common.{◌≡◌, ◌+◌, ◌≤◌, ◌||◌, length, drop}
use Rattle.ml_heap.specs.Changes.{cell_count}
use Rattle.ml_heap.specs.Changes.{AreCells}
use Rattle.ml_heap.specs.inside.Walks.{occurs_at, nodes_at}
use Rattle.ml_heap.proofs.heap.Heap.meet_all.Given as goal

abbrev pub invariant-loop-i : goal.invariant-loop-i
invariant-loop-i l = record {
  within : l.i ≤ length l.places;
  occurs : occurs_at l.self l.number l.left.items ≡ (occurs_at l.self l.number l.fn.left.items || occurs_at l.self l.number (drop l.i l.places));
  inside : AreCells (cell_count l.self) l.fn.left.items → AreCells (cell_count l.self) l.left.items;
  few : nodes_at l.self l.left.items ≤ nodes_at l.self l.fn.left.items + nodes_at l.self (drop l.i l.places);
}

abbrev pub decreases-loop-i : goal.decreases-loop-i
decreases-loop-i l = l.i
