use Rattle.std.proofs.Common.{◌+◌, ◌*◌}
use Rattle.ml_term.specs.Tree.{trees_of, nodes, nodes_of}
use Rattle.ml_term.specs.Seen.{seen, all_seen}
use Rattle.ml_term.proofs.nodes.+nodes.Given as goal

abbrev pub decreases-nodes_up_to : goal.decreases-nodes_up_to
decreases-nodes_up_to l = 2 * nodes (seen l.t.now)

abbrev pub decreases-nodes_of_up_to : goal.decreases-nodes_of_up_to
decreases-nodes_of_up_to l = 2 * nodes_of (trees_of (all_seen l.ts.now)) + 1
