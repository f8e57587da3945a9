-- The walk stays inside and keeps the tree. Each cell on it has a lower rank.
use Rattle.std.proofs.Common.{◌≡◌, ◌<◌, List, length}
use Rattle.ml_term.specs.Tree.{Tree}
use Rattle.ml_heap.specs.Changes.{tree_in}
use Rattle.ml_heap.specs.inside.Layout.{cell_in, rank_of, FitAll}
use Rattle.ml_heap.proofs.links.end_of.Given as goal

abbrev pub invariant-loop-end : goal.invariant-loop-end
invariant-loop-end l = (l.end < length l.cells) × ((ts : List Tree) → FitAll ts l.cells → tree_in ts l.end ≡ tree_in ts l.fn.at)

abbrev pub decreases-loop-end : goal.decreases-loop-end
decreases-loop-end l = rank_of (cell_in l.cells l.end)
