-- A variable becomes a term, and every other term tells its list.
use Rattle.std.proofs.Common.{sym, ◌∙◌}
use Rattle.ml_heap.specs.Changes.{stands_for, variable_count}
use Rattle.ml_builtin.proofs.UnivChecks.{univ_told}
use Rattle.ml_builtin.proofs.univ.univ.Goals as goal

pub make_from_list-requires-clause-variable : goal.make_from_list-requires-clause-variable
make_from_list-requires-clause-variable c = sym c.is_variable.ensures ∙ c.if-is_variable.true

pub returns-in_ok-tell_term-clause-done : goal.returns-in_ok-tell_term-clause-done
returns-in_ok-tell_term-clause-done c =
    univ_told c.args.heap.now c.tell_term.new.heap (stands_for c.args.heap.now c.args.t) (stands_for c.args.heap.now c.args.l)
    (variable_count c.args.heap.now) _ (sym c.is_variable.ensures ∙ c.if-is_variable.false) c.in_ok-tell_term.ensures.done
