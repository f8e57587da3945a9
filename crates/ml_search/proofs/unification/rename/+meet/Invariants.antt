use Rattle.std.proofs.Common.{◌+◌, ◌*◌, ◌≡◌, take}
use Rattle.ml_term.specs.Seen.{all_seen, seen}
use Rattle.ml_term.specs.Tree.{nodes, nodes_of, trees_of, variables_of}
use Rattle.ml_search.specs.inside.Meeting.{variables_met}
use Rattle.ml_search.proofs.unification.rename.+meet.Given as goal

abbrev pub decreases-meet : goal.decreases-meet
decreases-meet l = 2 * nodes (seen l.t.now)

abbrev pub decreases-meet_all : goal.decreases-meet_all
decreases-meet_all l = 2 * nodes_of (trees_of (all_seen l.ts.now)) + 1

abbrev pub invariant-meet_all-loop-t : goal.invariant-meet_all-loop-t
invariant-meet_all-loop-t l = l.met.keys ≡ variables_met l.fn.met.keys (variables_of (trees_of (all_seen (take l.t-index l.ts))))
