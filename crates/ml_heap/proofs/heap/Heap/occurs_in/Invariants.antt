-- The variable occurs in the term exactly if it occurs in a term that is left.
use Rattle.std.proofs.Common.{◌≡◌}
use Rattle.ml_term.specs.Tree.{occurs}
use Rattle.ml_heap.specs.Changes.{cell_count, stands_for}
use Rattle.ml_heap.specs.Changes.{AreCells}
use Rattle.ml_heap.specs.inside.Walks.{occurs_at, nodes_at}
use Rattle.ml_heap.proofs.heap.Heap.occurs_in.Given as goal

abbrev pub invariant-loop-at : goal.invariant-loop-at
invariant-loop-at l = AreCells (cell_count l.self) l.left.items × (occurs_at l.self l.number l.left.items ≡ occurs l.number (stands_for l.self l.fn.at))

abbrev pub decreases-loop-at : goal.decreases-loop-at
decreases-loop-at l = nodes_at l.self l.left.items
