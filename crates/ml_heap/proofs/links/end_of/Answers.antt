-- A bound cell leads to a cell that is inside, and has its tree.
use Rattle.std.proofs.Common.{◌≡◌, sym, ◌∙◌}
use Rattle.std.proofs.lemmas.List.{get_or_read}
use Rattle.ml_heap.specs.declared.cell.Cell.TheVariants.{Unbound, Bound}
use Rattle.ml_heap.specs.inside.Layout.{cell_in}
use Rattle.ml_heap.proofs.CellTrees.{followed}
use Rattle.ml_heap.proofs.links.end_of.Goals as goal

pub loop-end-preserved : goal.loop-end-preserved
loop-end-preserved c =
    let at : cell_in c.args.cells.now c.loop-end.end ≡ Bound c.in-Bound.field-0 c.in-Bound.next =
    sym (get_or_read c.args.cells.now c.loop-end.end _ c.loop-end.invariant.0 c.index-cells-end.is (Unbound 0)) ∙ c.in-Bound.is in (
      (c.requires.linked _ _ _ c.loop-end.invariant.0 at).0,
      λ ts f. sym (followed ts _ _ _ _ f c.loop-end.invariant.0 at) ∙ c.loop-end.invariant.1 ts f,
    )
