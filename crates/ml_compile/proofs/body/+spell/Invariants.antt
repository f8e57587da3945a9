use Rattle.std.proofs.Common.{◌+◌, ◌*◌, ◌≤◌, List}
use Rattle.ml_term.specs.Seen.{seen}
use Rattle.ml_term.specs.Tree.{nodes}
use Rattle.ml_search.specs.Bodies.{body_from}
use Rattle.ml_compile.specs.declared.instr.Instr.{Instr}
use Rattle.ml_compile.specs.inside.Appended.{Spelled}
use Rattle.ml_compile.proofs.body.+spell.Given as goal

abbrev pub decreases-spell : goal.decreases-spell
decreases-spell l = 8 * nodes (seen l.body.now) + 3

abbrev pub decreases-spell_goal : goal.decreases-spell_goal
decreases-spell_goal l = 8 * nodes (seen l.body.now) + 2

abbrev pub decreases-spell_block : goal.decreases-spell_block
decreases-spell_block l = 8 * nodes (seen l.body.now) + 4

abbrev pub decreases-spell_disjunction : goal.decreases-spell_disjunction
decreases-spell_disjunction l = 8 * (nodes (seen l.first.now) + nodes (seen l.second.now)) + 9

abbrev pub decreases-spell_if_then_else : goal.decreases-spell_if_then_else
decreases-spell_if_then_else l = 8 * (nodes (seen l.condition.now) + nodes (seen l.then.now) + nodes (seen l.otherwise.now)) + 8

abbrev pub decreases-spell_if_then : goal.decreases-spell_if_then
decreases-spell_if_then l = 8 * (nodes (seen l.condition.now) + nodes (seen l.then.now)) + 8

-- who spells the rest spells the body
abbrev pub invariant-spell-loop-first : goal.invariant-spell-loop-first
invariant-spell-loop-first l = record {
  small : nodes (seen l.rest) ≤ nodes (seen l.fn.body);
  awaits : (new : List Instr) → Spelled l.code.items (body_from (seen l.rest)) new → Spelled l.fn.code.items (body_from (seen l.fn.body)) new;
}

abbrev pub decreases-spell-loop-first : goal.decreases-spell-loop-first
decreases-spell-loop-first l = nodes (seen l.rest)
