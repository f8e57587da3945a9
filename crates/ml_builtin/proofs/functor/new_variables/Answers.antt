-- One variable more.
use Rattle.std.proofs.Common.{refl, arith, length, length-append, ap, ◌∷◌, []}
use Rattle.ml_heap.proofs.StoredTerms.{grows_on, grows_one}
use Rattle.ml_builtin.proofs.CellsMade.{one_variable_more, cells_more}
use Rattle.ml_builtin.proofs.functor.new_variables.Goals as goal

pub loop-i-preserved : goal.loop-i-preserved
loop-i-preserved c = record {
  within = omega (arith, c.loop-i-test.true);
  many = omega (arith, ap length c.in_ok-push.ensures.items, length-append c.loop-i.cells.items (c.in_ok-cell.cell ∷ []), c.loop-i.invariant.many);
  inside = cells_more _ _ _ _ _ _ c.loop-i.invariant.inside c.in_ok-cell.ensures.made c.in_ok-push.ensures.items;
  stand = one_variable_more c.args.heap.now _ _ _ _ _ _ _ c.loop-i.invariant.inside c.loop-i.invariant.stand c.loop-i.invariant.counted
      c.in_ok-cell.ensures.made refl
      c.in_ok-push.ensures.items;
  grown = grows_on _ _ _ c.loop-i.invariant.grown (grows_one _ _ _ _ c.in_ok-cell.ensures.made);
  counted = omega (arith, c.in_ok-cell.ensures.counted, c.loop-i.invariant.counted);
}
