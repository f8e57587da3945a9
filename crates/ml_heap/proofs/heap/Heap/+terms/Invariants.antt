-- Each argument has fewer nodes, and the terms of the cells that were passed stand there.
use Rattle.std.proofs.Common.{◌≡◌, ◌+◌, ◌*◌, map, take}
use Rattle.ml_term.specs.Tree.{nodes}
use Rattle.ml_term.specs.Seen.{all_seen}
use Rattle.ml_heap.specs.Changes.{stands_for}
use Rattle.ml_heap.specs.inside.Walks.{nodes_at}
use Rattle.ml_heap.proofs.heap.Heap.+terms.Given as goal

abbrev pub decreases-term_at : goal.decreases-term_at
decreases-term_at l = 2 * nodes (stands_for l.self.now l.at)

abbrev pub decreases-terms_at : goal.decreases-terms_at
decreases-terms_at l = 2 * nodes_at l.self.now l.places.now + 1

abbrev pub invariant-terms_at-loop-place : goal.invariant-terms_at-loop-place
invariant-terms_at-loop-place l = all_seen l.terms.items ≡ map (stands_for l.self) (take l.place-index l.places)
