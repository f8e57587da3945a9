-- The cell that is met adds its head, or there is none.
use Rattle.ml_heap.specs.Changes.{stands_for}
use Rattle.ml_heap.proofs.TermWalks.{inside_last}
use Rattle.ml_builtin.proofs.ListCells.{same_end, one_element, fewer_nodes, all_elements, the_end}
use Rattle.ml_builtin.proofs.lists.elements_of.Goals as goal

pub loop-head-smaller : goal.loop-head-smaller
loop-head-smaller c = fewer_nodes c.args.heap.now (stands_for c.args.heap.now c.args.list) (stands_for c.args.heap.now c.loop-head.end) _ _ c.in-Some.ensures

pub loop-head-preserved : goal.loop-head-preserved
loop-head-preserved c = record {
  end_inside = c.in-Some.ensures.2;
  same_end = same_end c.args.heap.now (stands_for c.args.heap.now c.args.list)
      (stands_for c.args.heap.now c.loop-head.end) _ _ c.in-Some.ensures c.loop-head.invariant.same_end;
  inside = inside_last c.args.heap.now _ _ _ c.in_ok-push.ensures.items c.in-Some.ensures.1 c.loop-head.invariant.inside;
  first = one_element c.args.heap.now (stands_for c.args.heap.now c.args.list)
      (stands_for c.args.heap.now c.loop-head.end) _ _ c.in-Some.ensures _ _ c.loop-head.invariant.first c.in_ok-push.ensures.items;
}

pub returns-clause-end : goal.returns-clause-end
returns-clause-end c = the_end (stands_for c.args.heap.now c.args.list) (stands_for c.args.heap.now c.loop-head.end) c.in_default.ensures
    c.loop-head.invariant.same_end

pub returns-clause-cells : goal.returns-clause-cells
returns-clause-cells c = all_elements (stands_for c.args.heap.now c.args.list) (stands_for c.args.heap.now c.loop-head.end) _ c.in_default.ensures
    c.loop-head.invariant.first
