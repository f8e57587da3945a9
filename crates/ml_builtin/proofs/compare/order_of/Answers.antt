-- The pair that is taken comes first.
use Rattle.std.proofs.Common.{sym, ◌∙◌, ◌++◌, ◌∷◌, [], ap, arith, subst}
use Rattle.ml_heap.specs.Changes.{cell_count}
use Rattle.ml_heap.specs.inside.Equations.{AreBelow}
use Rattle.ml_heap.proofs.Worklists.{first_below, second_below, rest_below}
use Rattle.ml_builtin.proofs.OrderWalks.{at_first, order_taken, nodes_taken, decided, goes_on}
use Rattle.ml_builtin.proofs.compare.order_of.Goals as goal

pub loop-a-init : goal.loop-a-init
loop-a-init c =
    let one = c.in_ok-push.ensures.items ∙ ap (λ xs. xs ++ (c.args.a, c.args.b) ∷ []) c.new-left.ensures.items in
    record {
      inside = subst (AreBelow (cell_count c.args.heap.now)) (sym one) (c.requires.a_inside, c.requires.b_inside, tt);
      same = at_first c.args.heap.now c.args.a c.args.b _ one;
    }

pub order_of_heads-requires-clause-a_inside : goal.order_of_heads-requires-clause-a_inside
order_of_heads-requires-clause-a_inside c = first_below _ _ _ _ c.in-Some.ensures.items _ c.loop-a.invariant.inside

pub order_of_heads-requires-clause-b_inside : goal.order_of_heads-requires-clause-b_inside
order_of_heads-requires-clause-b_inside c = second_below _ _ _ _ c.in-Some.ensures.items _ c.loop-a.invariant.inside

pub loop-a-smaller : goal.loop-a-smaller
loop-a-smaller c = omega (arith, nodes_taken c.args.heap.now _ _ _ _ c.in-Some.ensures.items, c.in_ok-order.ensures.fewer)

pub loop-a-preserved : goal.loop-a-preserved
loop-a-preserved c = record {
  inside = c.in_ok-order.ensures.inside (rest_below _ _ _ _ c.in-Some.ensures.items _ c.loop-a.invariant.inside);
  same = goes_on _ _ _ _ c.if-is_ne.false c.is_ne.ensures c.in_ok-order.ensures.order
      ∙ (sym (order_taken _ _ _ _ _ c.in-Some.ensures.items) ∙ c.loop-a.invariant.same);
}

pub returns-then-is_ne : goal.returns-then-is_ne
returns-then-is_ne c =
    sym (decided c.in_ok-order.order _ _ c.if-is_ne.true c.is_ne.ensures)
    ∙ (c.in_ok-order.ensures.order ∙ (sym (order_taken _ _ _ _ _ c.in-Some.ensures.items) ∙ c.loop-a.invariant.same))
