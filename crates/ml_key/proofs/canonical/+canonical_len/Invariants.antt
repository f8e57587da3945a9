use Rattle.std.proofs.Common.{◌+◌, ◌*◌}
use Rattle.ml_term.specs.Tree.{trees_of, nodes, nodes_of}
use Rattle.ml_term.specs.Seen.{seen, all_seen}
use Rattle.ml_key.proofs.canonical.+canonical_len.Given as goal

abbrev pub decreases-canonical_len : goal.decreases-canonical_len
decreases-canonical_len l = 2 * nodes (seen l.t.now)

abbrev pub decreases-all_canonical_len : goal.decreases-all_canonical_len
decreases-all_canonical_len l = 2 * nodes_of (trees_of (all_seen l.ts.now)) + 1
