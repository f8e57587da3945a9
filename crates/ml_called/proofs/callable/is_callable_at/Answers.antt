-- The last cell is looked at: its term is not callable, or its operands are left.
use Rattle.std.proofs.Common.{arith}
use Rattle.ml_heap.specs.Changes.{cell_count}
use Rattle.ml_called.proofs.CallableCells.{last_inside, front_inside, taken_nodes, not_callable, still_callable}
use Rattle.ml_called.proofs.callable.is_callable_at.Goals as goal

pub walk-requires : goal.walk-requires
walk-requires c = last_inside (cell_count c.args.heap.now) _ _ c.in-Some.cell c.in-Some.ensures.items c.loop-cell.invariant.inside

pub returns-then-not-branch : goal.returns-then-not-branch
returns-then-not-branch c =
    not_callable c.args.heap.now _ _ c.in-Some.cell c.in-Some.ensures.items _ c.loop-cell.invariant.same (c.in_ok-walk.ensures.not c.if-not-branch.true)

pub loop-cell-smaller : goal.loop-cell-smaller
loop-cell-smaller c = omega (arith, taken_nodes c.args.heap.now _ _ c.in-Some.cell c.in-Some.ensures.items, c.in_ok-walk.ensures.fewer)

pub loop-cell-preserved : goal.loop-cell-preserved
loop-cell-preserved c = record {
  inside = c.in_ok-walk.ensures.inside (front_inside (cell_count c.args.heap.now) _ _ c.in-Some.cell c.in-Some.ensures.items c.loop-cell.invariant.inside);
  same =
      still_callable c.args.heap.now _ _ c.in-Some.cell c.in-Some.ensures.items _ _ c.loop-cell.invariant.same
      (c.in_ok-walk.ensures.left c.if-not-branch.false);
}
