-- Each built-in is the definition's of its name.
use Rattle.std.proofs.Common.{sym, subst, [], ◌∷◌}
use Rattle.ml_heap.specs.Changes.{stands_for}
use Rattle.ml_search.specs.Builtins.{builtin}
use Rattle.ml_builtin.specs.Outcomes.{DoesBuiltin}
use Rattle.ml_builtin.specs.Tables.{binary_name}
use Rattle.ml_builtin.proofs.Meanings.{order_means, value_means}
use Rattle.ml_builtin.proofs.run.run_binary.Goals as goal

pub returns-in_ok-unify_cells-in-Unify-clause-done : goal.returns-in_ok-unify_cells-in-Unify-clause-done
returns-in_ok-unify_cells-in-Unify-clause-done c =
    subst (λ b. DoesBuiltin c.args.heap.now c.unify_cells.new.heap
    (builtin (binary_name b) (stands_for c.args.heap.now c.args.t ∷ stands_for c.args.heap.now c.args.u ∷ [])) c.in_ok-unify_cells-in-Unify.field-0)
    (sym c.in-Unify.is) c.in_ok-unify_cells-in-Unify.ensures.done

pub returns-in_ok-unifies_not-in-NotUnifiable-clause-done : goal.returns-in_ok-unifies_not-in-NotUnifiable-clause-done
returns-in_ok-unifies_not-in-NotUnifiable-clause-done c =
    subst (λ b. DoesBuiltin c.args.heap.now c.unifies_not.new.heap
    (builtin (binary_name b) (stands_for c.args.heap.now c.args.t ∷ stands_for c.args.heap.now c.args.u ∷ [])) c.in_ok-unifies_not-in-NotUnifiable.field-0)
    (sym c.in-NotUnifiable.is) c.in_ok-unifies_not-in-NotUnifiable.ensures.done

pub returns-in_ok-univ-in-Univ-clause-done : goal.returns-in_ok-univ-in-Univ-clause-done
returns-in_ok-univ-in-Univ-clause-done c =
    subst (λ b. DoesBuiltin c.args.heap.now c.univ.new.heap
    (builtin (binary_name b) (stands_for c.args.heap.now c.args.t ∷ stands_for c.args.heap.now c.args.u ∷ [])) c.in_ok-univ-in-Univ.field-0)
    (sym c.in-Univ.is) c.in_ok-univ-in-Univ.ensures.done

pub returns-in_ok-copy_term-in-CopyTerm-clause-done : goal.returns-in_ok-copy_term-in-CopyTerm-clause-done
returns-in_ok-copy_term-in-CopyTerm-clause-done c =
    subst (λ b. DoesBuiltin c.args.heap.now c.copy_term.new.heap
    (builtin (binary_name b) (stands_for c.args.heap.now c.args.t ∷ stands_for c.args.heap.now c.args.u ∷ [])) c.in_ok-copy_term-in-CopyTerm.field-0)
    (sym c.in-CopyTerm.is) c.in_ok-copy_term-in-CopyTerm.ensures.done

pub returns-in_ok-assign-in-Is-clause-done : goal.returns-in_ok-assign-in-Is-clause-done
returns-in_ok-assign-in-Is-clause-done c =
    subst (λ b. DoesBuiltin c.args.heap.now c.assign.new.heap
    (builtin (binary_name b) (stands_for c.args.heap.now c.args.t ∷ stands_for c.args.heap.now c.args.u ∷ [])) c.in_ok-assign-in-Is.field-0)
    (sym c.in-Is.is) c.in_ok-assign-in-Is.ensures.done

pub returns-in_ok-compare_terms-in-Order-clause-done : goal.returns-in_ok-compare_terms-in-Order-clause-done
returns-in_ok-compare_terms-in-Order-clause-done c =
    subst (λ b. DoesBuiltin c.args.heap.now c.compare_terms.new.heap
    (builtin (binary_name b) (stands_for c.args.heap.now c.args.t ∷ stands_for c.args.heap.now c.args.u ∷ [])) c.in_ok-compare_terms-in-Order.field-0)
    (sym c.in-Order.is)
    (order_means c.in-Order.relation c.args.heap.now c.compare_terms.new.heap (stands_for c.args.heap.now c.args.t) (stands_for c.args.heap.now c.args.u) _
    c.in_ok-compare_terms-in-Order.ensures.done)

pub returns-in_ok-compare_values-in-Value-clause-done : goal.returns-in_ok-compare_values-in-Value-clause-done
returns-in_ok-compare_values-in-Value-clause-done c =
    subst (λ b. DoesBuiltin c.args.heap.now c.compare_values.new.heap
    (builtin (binary_name b) (stands_for c.args.heap.now c.args.t ∷ stands_for c.args.heap.now c.args.u ∷ [])) c.in_ok-compare_values-in-Value.field-0)
    (sym c.in-Value.is)
    (value_means c.in-Value.relation c.args.heap.now c.compare_values.new.heap (stands_for c.args.heap.now c.args.t) (stands_for c.args.heap.now c.args.u) _
    c.in_ok-compare_values-in-Value.ensures.done)
