use Rattle.std.proofs.Common.{◌≡◌, ℕ, ◌+◌, ◌*◌, ◌≤◌, List, [], ◌∷◌, length, take, true}
use Rattle.ml_term.specs.Seen.{all_seen, seen}
use Rattle.ml_term.specs.Tree.{nodes, nodes_of, trees_of, variables, variables_of}
use Rattle.ml_term.specs.inside.Reading.{are_in_order, met_after_variables}
use Rattle.ml_compile.specs.declared.instr.Instr.{Instr}
use Rattle.ml_compile.specs.inside.Appended.{Matched}
use Rattle.ml_compile.proofs.head.+head.Given as goal

abbrev pub decreases-match_term : goal.decreases-match_term
decreases-match_term l = 2 * nodes (seen l.term.now)

abbrev pub decreases-match_all : goal.decreases-match_all
decreases-match_all l = 2 * nodes_of (trees_of (all_seen l.terms.now)) + 1

-- the rest's variables come in order; who matches the rest matches the term, and both end at the same place
abbrev pub invariant-match_term-loop-rest : goal.invariant-match_term-loop-rest
invariant-match_term-loop-rest l = record {
  small : nodes (seen l.rest) ≤ nodes (seen l.fn.term);
  in_order : are_in_order l.met (variables (seen l.rest)) ≡ true;
  met : met_after_variables l.met (variables (seen l.rest)) ≡ met_after_variables l.fn.met (variables (seen l.fn.term));
  ends : l.end ≡ length l.code.items + nodes (seen l.rest);
  awaits : (new : List Instr) (after : ℕ) → Matched l.code.items l.met (seen l.rest ∷ []) after new
      → Matched l.fn.code.items l.fn.met (seen l.fn.term ∷ []) after new;
}

abbrev pub decreases-match_term-loop-rest : goal.decreases-match_term-loop-rest
decreases-match_term-loop-rest l = nodes (seen l.rest)

abbrev pub invariant-match_all-loop-term : goal.invariant-match_all-loop-term
invariant-match_all-loop-term l = record {
  met : l.met ≡ met_after_variables l.fn.met (variables_of (trees_of (all_seen (take l.term-index l.terms))));
  matched : Matched l.fn.code.items l.fn.met (all_seen (take l.term-index l.terms)) l.met l.code.items;
}
