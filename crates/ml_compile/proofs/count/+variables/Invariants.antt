use Rattle.std.proofs.Common.{◌≡◌, ◌+◌, ◌*◌, ◌≤◌, take}
use Rattle.ml_term.specs.Seen.{all_seen, seen}
use Rattle.ml_term.specs.Tree.{nodes, nodes_of, trees_of, variables, variables_of}
use Rattle.ml_term.specs.inside.Reading.{met_after_variables}
use Rattle.ml_compile.proofs.count.+variables.Given as goal

abbrev pub decreases-after_variables : goal.decreases-after_variables
decreases-after_variables l = 2 * nodes (seen l.term.now)

abbrev pub decreases-after_variables_of : goal.decreases-after_variables_of
decreases-after_variables_of l = 2 * nodes_of (trees_of (all_seen l.terms.now)) + 1

abbrev pub invariant-after_variables-loop-rest : goal.invariant-after_variables-loop-rest
invariant-after_variables-loop-rest l = record {
  small : nodes (seen l.rest) ≤ nodes (seen l.fn.term);
  met : met_after_variables l.met (variables (seen l.rest)) ≡ met_after_variables l.fn.met (variables (seen l.fn.term));
}

abbrev pub decreases-after_variables-loop-rest : goal.decreases-after_variables-loop-rest
decreases-after_variables-loop-rest l = nodes (seen l.rest)

abbrev pub invariant-after_variables_of-loop-term : goal.invariant-after_variables_of-loop-term
invariant-after_variables_of-loop-term l = l.met ≡ met_after_variables l.fn.met (variables_of (trees_of (all_seen (take l.term-index l.terms))))
