-- Each built-in is the definition's of its name.
use Rattle.std.proofs.Common.{sym, subst, [], ◌∷◌}
use Rattle.ml_heap.specs.Changes.{stands_for}
use Rattle.ml_search.specs.Builtins.{builtin}
use Rattle.ml_builtin.specs.Outcomes.{DoesBuiltin}
use Rattle.ml_builtin.specs.Tables.{ternary_name}
use Rattle.ml_builtin.proofs.run.run_ternary.Goals as goal

pub returns-in_ok-functor-in-Functor-clause-done : goal.returns-in_ok-functor-in-Functor-clause-done
returns-in_ok-functor-in-Functor-clause-done c =
    subst
    (λ b. DoesBuiltin c.args.heap.now c.functor.new.heap
    (builtin (ternary_name b) (stands_for c.args.heap.now c.args.t ∷ stands_for c.args.heap.now c.args.u ∷ stands_for c.args.heap.now c.args.v ∷ []))
    c.in_ok-functor-in-Functor.field-0)
    (sym c.in-Functor.is) c.in_ok-functor-in-Functor.ensures.done

pub returns-in_ok-arg-in-Arg-clause-done : goal.returns-in_ok-arg-in-Arg-clause-done
returns-in_ok-arg-in-Arg-clause-done c =
    subst
    (λ b. DoesBuiltin c.args.heap.now c.arg.new.heap
    (builtin (ternary_name b) (stands_for c.args.heap.now c.args.t ∷ stands_for c.args.heap.now c.args.u ∷ stands_for c.args.heap.now c.args.v ∷ []))
    c.in_ok-arg-in-Arg.field-0)
    (sym c.in-Arg.is) c.in_ok-arg-in-Arg.ensures.done
