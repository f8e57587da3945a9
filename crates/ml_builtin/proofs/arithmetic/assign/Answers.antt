-- The value is unified, or its fault is raised.
use Rattle.std.proofs.Common.{◌≡◌, true, [], ◌∷◌, sym, subst, w64}
use Rattle.std.proofs.lemmas.Int.{to_z-of_z}
use Rattle.ml_term.specs.Tree.{integer}
use Rattle.ml_term.specs.Valid.{is_in_range}
use Rattle.ml_heap.specs.Changes.{stands_for, variable_count}
use Rattle.ml_search.specs.Builtins.{unify_result}
use Rattle.ml_search.specs.Evaluate.{evaluate}
use Rattle.ml_arith.proofs.ResultsInRange.{range_fits}
use Rattle.ml_builtin.specs.Outcomes.{Agrees}
use Rattle.ml_builtin.specs.inside.Values.{IsEvaluated}
use Rattle.ml_builtin.proofs.ValueResults.{assign_raised, assign_value, in_range_of}
use Rattle.ml_builtin.proofs.arithmetic.assign.Goals as goal

pub unify_value-requires-clause-range : goal.unify_value-requires-clause-range
unify_value-requires-clause-range c =
    let range = in_range_of (evaluate (stands_for c.args.heap.now c.args.u)) c.in-Value.v
    (subst (IsEvaluated (evaluate (stands_for c.args.heap.now c.args.u))) c.in-Value.is c.in_ok-term.ensures) in
    subst (λ z. is_in_range z ≡ true) (sym (to_z-of_z w64 c.in-Value.v (range_fits c.in-Value.v range))) range

pub returns-in-Raised-clause-done : goal.returns-in-Raised-clause-done
returns-in-Raised-clause-done c =
    assign_raised c.args.heap.now (stands_for c.args.heap.now c.args.t) (evaluate (stands_for c.args.heap.now c.args.u)) c.in-Raised.term
    (subst (IsEvaluated (evaluate (stands_for c.args.heap.now c.args.u))) c.in-Raised.is c.in_ok-term.ensures)

pub returns-in_ok-unify_value-in-Value-clause-done : goal.returns-in_ok-unify_value-in-Value-clause-done
returns-in_ok-unify_value-in-Value-clause-done c =
    let found = subst (IsEvaluated (evaluate (stands_for c.args.heap.now c.args.u))) c.in-Value.is c.in_ok-term.ensures in
    let range = in_range_of (evaluate (stands_for c.args.heap.now c.args.u)) c.in-Value.v found in
    assign_value c.args.heap.now c.unify_value.new.heap (stands_for c.args.heap.now c.args.t) (evaluate (stands_for c.args.heap.now c.args.u)) c.in-Value.v
    (variable_count c.args.heap.now) c.in_ok-unify_value-in-Value.field-0 found
    (subst
    (λ z.
    Agrees c.args.heap.now c.unify_value.new.heap (unify_result ((stands_for c.args.heap.now c.args.t, integer z) ∷ []) (variable_count c.args.heap.now))
    c.in_ok-unify_value-in-Value.field-0)
    (to_z-of_z w64 c.in-Value.v (range_fits c.in-Value.v range)) c.in_ok-unify_value-in-Value.ensures.done)
