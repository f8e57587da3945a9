use Rattle.std.proofs.Common.{◌≡◌, ◌+◌, ◌*◌, ◌≤◌, take}
use Rattle.ml_term.specs.Seen.{all_seen, seen}
use Rattle.ml_term.specs.Tree.{nodes, nodes_of, trees_of}
use Rattle.ml_compile.proofs.count.+nodes.Given as goal

abbrev pub decreases-with_nodes : goal.decreases-with_nodes
decreases-with_nodes l = 2 * nodes (seen l.term.now)

abbrev pub decreases-with_nodes_of : goal.decreases-with_nodes_of
decreases-with_nodes_of l = 2 * nodes_of (trees_of (all_seen l.terms.now)) + 1

abbrev pub invariant-with_nodes-loop-rest : goal.invariant-with_nodes-loop-rest
invariant-with_nodes-loop-rest l = record {
  small : nodes (seen l.rest) ≤ nodes (seen l.fn.term);
  sum : l.count + nodes (seen l.rest) ≡ l.fn.count + nodes (seen l.fn.term);
}

abbrev pub decreases-with_nodes-loop-rest : goal.decreases-with_nodes-loop-rest
decreases-with_nodes-loop-rest l = nodes (seen l.rest)

abbrev pub invariant-with_nodes_of-loop-term : goal.invariant-with_nodes_of-loop-term
invariant-with_nodes_of-loop-term l = l.count ≡ l.fn.count + nodes_of (trees_of (all_seen (take l.term-index l.terms)))
