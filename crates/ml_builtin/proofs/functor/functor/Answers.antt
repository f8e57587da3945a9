-- A variable becomes a term, and every other term tells its name and arity.
use Rattle.std.proofs.Common.{sym, ◌∙◌}
use Rattle.ml_heap.specs.Changes.{stands_for, variable_count}
use Rattle.ml_builtin.proofs.FunctorChecks.{functor_told}
use Rattle.ml_builtin.proofs.functor.functor.Goals as goal

pub make_from_functor-requires-clause-variable : goal.make_from_functor-requires-clause-variable
make_from_functor-requires-clause-variable c = sym c.is_variable.ensures ∙ c.if-is_variable.true

pub returns-in_ok-tell_functor-clause-done : goal.returns-in_ok-tell_functor-clause-done
returns-in_ok-tell_functor-clause-done c =
    functor_told c.args.heap.now c.tell_functor.new.heap (stands_for c.args.heap.now c.args.t) (stands_for c.args.heap.now c.args.n)
    (stands_for c.args.heap.now c.args.a) (variable_count c.args.heap.now) _ (sym c.is_variable.ensures ∙ c.if-is_variable.false)
    c.in_ok-tell_functor.ensures.done
