-- One cell more, before the later ones.
use Rattle.std.proofs.Common.{◌≡◌, ◌-◌, ◌+◌, ◌<◌, length, arith, refl, sym, ap, ◌∙◌}
use Rattle.std.specs.Prelude.{codes, get_or}
use Rattle.std.proofs.lemmas.Option.{slice_get_read, get_or_from_slice_get}
use Rattle.ml_term.specs.Tree.{compound_2}
use Rattle.ml_heap.specs.Changes.{stands_for}
use Rattle.ml_heap.proofs.TermWalks.{cells_at}
use Rattle.ml_builtin.proofs.ListCells.{one_cell_more}
use Rattle.ml_builtin.proofs.lists.make_list.Goals as goal

pub new_cell-requires-clause-head_inside : goal.new_cell-requires-clause-head_inside
new_cell-requires-clause-head_inside c =
    let below : c.loop-i.i - 1 < length c.args.cells.now = omega (arith, c.loop-i-test.true, c.loop-i.invariant.within) in
    let head : get_or c.args.cells.now (c.loop-i.i - 1) 0 ≡ c.index-cells-i.result =
    get_or_from_slice_get c.args.cells.now (c.loop-i.i - 1) c.index-cells-i.result 0
    (slice_get_read c.args.cells.now (length c.args.cells.now) (c.loop-i.i - 1) c.index-cells-i.result refl below c.index-cells-i.is) in
    omega (arith, head, cells_at _ _ c.requires (c.loop-i.i - 1) below, c.loop-i.invariant.made.grown.cells)

pub new_cell-requires-clause-tail_inside : goal.new_cell-requires-clause-tail_inside
new_cell-requires-clause-tail_inside c = c.loop-i.invariant.made.inside

pub loop-i-preserved : goal.loop-i-preserved
loop-i-preserved c =
    let below : c.loop-i.i - 1 < length c.args.cells.now = omega (arith, c.loop-i-test.true, c.loop-i.invariant.within) in
    let next : c.loop-i.i ≡ c.loop-i.i - 1 + 1 = omega (arith, c.loop-i-test.true) in
    let head : get_or c.args.cells.now (c.loop-i.i - 1) 0 ≡ c.index-cells-i.result =
    get_or_from_slice_get c.args.cells.now (c.loop-i.i - 1) c.index-cells-i.result 0
    (slice_get_read c.args.cells.now (length c.args.cells.now) (c.loop-i.i - 1) c.index-cells-i.result refl below c.index-cells-i.is) in
    record {
      within = omega (arith, c.loop-i.invariant.within);
      made = one_cell_more c.args.heap.now _ _ c.args.cells.now (c.loop-i.i - 1) c.loop-i.i _ _ _ c.requires next below
          c.loop-i.invariant.made c.in_ok-list-2.ensures.made
          (ap (λ x. compound_2 (codes ".") (stands_for c.loop-i.heap x) (stands_for c.loop-i.heap c.loop-i.list)) (sym head));
      counted = c.in_ok-list-2.ensures.counted ∙ c.loop-i.invariant.counted;
    }
