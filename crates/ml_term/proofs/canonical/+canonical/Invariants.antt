use Rattle.std.proofs.Common.{◌+◌, ◌*◌}
use Rattle.ml_term.specs.Tree.{trees_of, nodes, nodes_of}
use Rattle.ml_term.specs.Seen.{seen, all_seen}
use Rattle.ml_term.proofs.canonical.+canonical.Given as goal

abbrev pub decreases-canonical_cmp : goal.decreases-canonical_cmp
decreases-canonical_cmp l = 2 * nodes (seen l.a.now)

abbrev pub decreases-all_canonical_cmp : goal.decreases-all_canonical_cmp
decreases-all_canonical_cmp l = 2 * nodes_of (trees_of (all_seen l.ts.now)) + 1
