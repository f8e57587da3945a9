use Rattle.std.proofs.Common.{◌+◌, ◌*◌, ◌≡◌, take}
use Rattle.ml_term.specs.Seen.{all_seen, seen}
use Rattle.ml_term.specs.Tree.{nodes, nodes_of, trees_of, variables_of}
use Rattle.ml_search.specs.inside.Meeting.{variables_met}
use Rattle.ml_search.specs.inside.Unifying.{arguments_from}
use Rattle.ml_search.proofs.unification.occurs.+meet_from.Given as goal

abbrev pub decreases-meet_from : goal.decreases-meet_from
decreases-meet_from l = 2 * nodes (seen l.t.now)

abbrev pub decreases-meet_all_from : goal.decreases-meet_all_from
decreases-meet_all_from l = 2 * nodes_of (trees_of (all_seen l.ts.now)) + 1

abbrev pub invariant-meet_all_from-loop-t : goal.invariant-meet_all_from-loop-t
invariant-meet_all_from-loop-t l = l.met.keys ≡ variables_met l.fn.met.keys (variables_of (arguments_from l.base (take l.t-index l.ts)))
