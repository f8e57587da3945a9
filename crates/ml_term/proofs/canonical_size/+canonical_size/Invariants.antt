use Rattle.std.proofs.Common.{◌+◌, ◌*◌}
use Rattle.ml_term.specs.Tree.{trees_of, nodes, nodes_of}
use Rattle.ml_term.specs.Seen.{seen, all_seen}
use Rattle.ml_term.proofs.canonical_size.+canonical_size.Given as goal

abbrev pub decreases-canonical_len_up_to : goal.decreases-canonical_len_up_to
decreases-canonical_len_up_to l = 2 * nodes (seen l.t.now)

abbrev pub decreases-all_canonical_len_up_to : goal.decreases-all_canonical_len_up_to
decreases-all_canonical_len_up_to l = 2 * nodes_of (trees_of (all_seen l.ts.now)) + 1
