-- What was counted and what is left are the term's nodes.
use Rattle.std.proofs.Common.{◌≡◌, ◌+◌, ◌≤◌, length}
use Rattle.ml_term.specs.Tree.{nodes}
use Rattle.ml_heap.specs.Changes.{cell_count, stands_for}
use Rattle.ml_heap.specs.Changes.{AreCells}
use Rattle.ml_heap.specs.inside.Walks.{nodes_at}
use Rattle.ml_heap.proofs.heap.Heap.is_too_large.Given as goal

abbrev pub invariant-loop-at : goal.invariant-loop-at
invariant-loop-at l = record {
  inside : AreCells (cell_count l.self) l.left.items;
  counted : l.count + nodes_at l.self l.left.items ≡ nodes (stands_for l.self l.fn.at);
  small : l.count + length l.left.items ≤ 4096;
}

abbrev pub decreases-loop-at : goal.decreases-loop-at
decreases-loop-at l = nodes_at l.self l.left.items
