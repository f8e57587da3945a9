use Rattle.std.proofs.Common.{◌+◌, ◌*◌}
use Rattle.ml_term.specs.Tree.{trees_of, nodes, nodes_of}
use Rattle.ml_term.specs.Seen.{seen, all_seen}
use Rattle.ml_term.proofs.spelling.+append_term.Given as goal

abbrev pub decreases-append_term : goal.decreases-append_term
decreases-append_term l = 2 * nodes (seen l.t.now)

abbrev pub decreases-append_terms : goal.decreases-append_terms
decreases-append_terms l = 2 * nodes_of (trees_of (all_seen l.ts.now)) + 1
