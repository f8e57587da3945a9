use Rattle.std.proofs.Common.{◌+◌, ◌*◌}
use Rattle.ml_term.specs.Tree.{trees_of, nodes, nodes_of}
use Rattle.ml_term.specs.Seen.{seen, all_seen}
use Rattle.ml_writer.proofs.terms.+put_term.Given as goal

abbrev pub decreases-put_term : goal.decreases-put_term
decreases-put_term l = 3 * nodes (seen l.t.now) + 1

abbrev pub decreases-put_compound : goal.decreases-put_compound
decreases-put_compound l = 3 * nodes_of (trees_of (all_seen l.args.now)) + 3

abbrev pub decreases-put_arguments : goal.decreases-put_arguments
decreases-put_arguments l = 3 * nodes_of (trees_of (all_seen l.args.now)) + 2

abbrev pub decreases-put_elements : goal.decreases-put_elements
decreases-put_elements l = 3 * (nodes (seen l.head.now) + nodes (seen l.tail.now)) + 1

abbrev pub decreases-put_tail : goal.decreases-put_tail
decreases-put_tail l = 3 * nodes (seen l.tail.now) + 2

abbrev pub decreases-put_compound_tail : goal.decreases-put_compound_tail
decreases-put_compound_tail l = 3 * nodes_of (trees_of (all_seen l.args.now)) + 4
