use Rattle.std.proofs.Common.{◌+◌, ◌*◌}
use Rattle.ml_term.specs.Tree.{trees_of, nodes, nodes_of}
use Rattle.ml_term.specs.Seen.{seen, all_seen}
use Rattle.ml_term.proofs.nodes.+ground.Given as goal

abbrev pub decreases-is_ground : goal.decreases-is_ground
decreases-is_ground l = 2 * nodes (seen l.t.now)

abbrev pub decreases-are_ground : goal.decreases-are_ground
decreases-are_ground l = 2 * nodes_of (trees_of (all_seen l.ts.now)) + 1
