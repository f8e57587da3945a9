-- The left value, and then the right one.
use Rattle.std.proofs.Common.{◌≡◌, subst, ap, ◌∙◌, w64, to_z, of_z}
use Rattle.std.specs.Ordering.{int_cmp}
use Rattle.std.proofs.lemmas.Int.{to_z-of_z}
use Rattle.ml_heap.specs.Changes.{stands_for, variable_count}
use Rattle.ml_search.specs.Builtins.{test_result}
use Rattle.ml_search.specs.Evaluate.{evaluate}
use Rattle.ml_arith.proofs.ResultsInRange.{range_fits}
use Rattle.ml_builtin.specs.Outcomes.{Agrees}
use Rattle.ml_builtin.specs.inside.Meanings.{relation_test}
use Rattle.ml_builtin.specs.inside.Values.{IsEvaluated}
use Rattle.ml_builtin.proofs.ValueResults.{right_raised, both_valued, in_range_of}
use Rattle.ml_builtin.proofs.arithmetic.compare_values.Goals as goal

pub returns-in-Raised-2-clause-done : goal.returns-in-Raised-2-clause-done
returns-in-Raised-2-clause-done c =
    let v = evaluate (stands_for c.args.heap.now c.args.t) in
    let w = evaluate (stands_for c.args.heap.now c.args.u) in
    right_raised c.args.heap.now (relation_test c.args.relation) v w c.in-Value.x c.in-Raised-2.term
    (subst (IsEvaluated v) c.in-Value.is c.in_ok-term.ensures) (subst (IsEvaluated w) c.in-Raised-2.is c.in_ok-term-in-Value.ensures)

pub returns-in-Value-2-clause-done : goal.returns-in-Value-2-clause-done
returns-in-Value-2-clause-done c =
    let v = evaluate (stands_for c.args.heap.now c.args.t) in
    let w = evaluate (stands_for c.args.heap.now c.args.u) in
    let x = c.in-Value.x in
    let y = c.in-Value-2.y in
    let left = subst (IsEvaluated v) c.in-Value.is c.in_ok-term.ensures in
    let right = subst (IsEvaluated w) c.in-Value-2.is c.in_ok-term-in-Value.ensures in
    let known_x = to_z-of_z w64 x (range_fits x (in_range_of v x left)) in
    let known_y = to_z-of_z w64 y (range_fits y (in_range_of w y right)) in
    let same : int_cmp (to_z w64 (of_z w64 x)) (to_z w64 (of_z w64 y)) ≡ int_cmp x y = cc (known_x, known_y) in
    both_valued c.args.heap.now (relation_test c.args.relation) v w x y c.outcome_of_test.result left right
    (subst (λ b. Agrees c.args.heap.now c.args.heap.now (test_result b (variable_count c.args.heap.now)) c.outcome_of_test.result)
    (c.holds.ensures ∙ ap (relation_test c.args.relation) (c.cmp.ensures ∙ same)) (c.outcome_of_test.ensures c.args.heap.now))
