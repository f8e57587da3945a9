use Rattle.std.proofs.Common.{◌+◌, ◌*◌}
use Rattle.ml_term.specs.Tree.{trees_of, nodes, nodes_of}
use Rattle.ml_term.specs.Seen.{seen, all_seen}
use Rattle.ml_term.proofs.order.+compare.Given as goal

abbrev pub decreases-compare : goal.decreases-compare
decreases-compare l = 2 * nodes (seen l.a.now)

abbrev pub decreases-compare_all : goal.decreases-compare_all
decreases-compare_all l = 2 * nodes_of (trees_of (all_seen l.ts.now)) + 1
