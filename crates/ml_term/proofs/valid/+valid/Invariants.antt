use Rattle.std.proofs.Common.{◌+◌, ◌*◌}
use Rattle.ml_term.specs.Tree.{trees_of, nodes, nodes_of}
use Rattle.ml_term.specs.Seen.{seen, all_seen}
use Rattle.ml_term.proofs.valid.+valid.Given as goal

abbrev pub decreases-is_valid : goal.decreases-is_valid
decreases-is_valid l = 2 * nodes (seen l.t.now)

abbrev pub decreases-are_valid : goal.decreases-are_valid
decreases-are_valid l = 2 * nodes_of (trees_of (all_seen l.ts.now)) + 1
