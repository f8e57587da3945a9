-- Each built-in takes as many arguments as its table says.
use Rattle.std.proofs.Common.{sym, subst, ap, ◌∙◌, map}
use Rattle.ml_heap.specs.Changes.{stands_for}
use Rattle.ml_search.specs.Builtins.{builtin}
use Rattle.ml_builtin.specs.Outcomes.{DoesBuiltin}
use Rattle.ml_builtin.specs.Tables.{plain_arity, plain_name}
use Rattle.ml_builtin.proofs.run.run_builtin.Goals as goal

pub call_one-requires-clause-many : goal.call_one-requires-clause-many
call_one-requires-clause-many c = c.requires.many ∙ ap plain_arity c.in-One.is

pub returns-in_ok-call_one-in-One-clause-done : goal.returns-in_ok-call_one-in-One-clause-done
returns-in_ok-call_one-in-One-clause-done c =
    subst (λ p. DoesBuiltin c.args.heap.now c.call_one.new.heap (builtin (plain_name p) (map (stands_for c.args.heap.now) c.args.args.now))
    c.in_ok-call_one-in-One.field-0)
    (sym c.in-One.is) c.in_ok-call_one-in-One.ensures.done

pub call_two-requires-clause-many : goal.call_two-requires-clause-many
call_two-requires-clause-many c = c.requires.many ∙ ap plain_arity c.in-Two.is

pub returns-in_ok-call_two-in-Two-clause-done : goal.returns-in_ok-call_two-in-Two-clause-done
returns-in_ok-call_two-in-Two-clause-done c =
    subst (λ p. DoesBuiltin c.args.heap.now c.call_two.new.heap (builtin (plain_name p) (map (stands_for c.args.heap.now) c.args.args.now))
    c.in_ok-call_two-in-Two.field-0)
    (sym c.in-Two.is) c.in_ok-call_two-in-Two.ensures.done

pub call_three-requires-clause-many : goal.call_three-requires-clause-many
call_three-requires-clause-many c = c.requires.many ∙ ap plain_arity c.in-Three.is

pub returns-in_ok-call_three-in-Three-clause-done : goal.returns-in_ok-call_three-in-Three-clause-done
returns-in_ok-call_three-in-Three-clause-done c =
    subst (λ p. DoesBuiltin c.args.heap.now c.call_three.new.heap (builtin (plain_name p) (map (stands_for c.args.heap.now) c.args.args.now))
    c.in_ok-call_three-in-Three.field-0)
    (sym c.in-Three.is) c.in_ok-call_three-in-Three.ensures.done
