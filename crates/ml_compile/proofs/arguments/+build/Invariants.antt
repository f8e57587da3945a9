use Rattle.std.proofs.Common.{◌+◌, ◌*◌, ◌≤◌, List, [], ◌∷◌, ◌++◌, reverse, take, vec_len}
use Rattle.ml_term.specs.Seen.{all_seen, seen}
use Rattle.ml_term.specs.Tree.{nodes, nodes_of, trees_of}
use Rattle.ml_compile.specs.declared.instr.Instr.{Instr}
use Rattle.ml_compile.specs.inside.Appended.{Built}
use Rattle.ml_compile.proofs.arguments.+build.Given as goal

abbrev pub decreases-build : goal.decreases-build
decreases-build l = 3 * nodes (seen l.term.now) + 1

abbrev pub decreases-build_inside : goal.decreases-build_inside
decreases-build_inside l = 3 * nodes (seen l.term.now)

abbrev pub decreases-build_all : goal.decreases-build_all
decreases-build_all l = 3 * nodes_of (trees_of (all_seen l.terms.now)) + 2

-- the term is built once the compounds stand behind the code
abbrev pub invariant-build-loop-compound : goal.invariant-build-loop-compound
invariant-build-loop-compound l = Built l.fn.code.items (seen l.fn.term ∷ []) (l.code.items ++ reverse l.compounds.items)

abbrev pub decreases-build-loop-compound : goal.decreases-build-loop-compound
decreases-build-loop-compound l = vec_len l.compounds

-- who builds the rest builds the term, once the compounds stand behind
abbrev pub invariant-build_inside-loop-rest : goal.invariant-build_inside-loop-rest
invariant-build_inside-loop-rest l = record {
  small : nodes (seen l.rest) ≤ nodes (seen l.fn.term);
  awaits : (new : List Instr) → Built l.code.items (seen l.rest ∷ []) new → Built l.fn.code.items (seen l.fn.term ∷ []) (new ++ reverse l.compounds.items);
}

abbrev pub decreases-build_inside-loop-rest : goal.decreases-build_inside-loop-rest
decreases-build_inside-loop-rest l = nodes (seen l.rest)

abbrev pub invariant-build_all-loop-term : goal.invariant-build_all-loop-term
invariant-build_all-loop-term l = Built l.fn.code.items (all_seen (take l.term-index l.terms)) l.code.items
