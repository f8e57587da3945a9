-- One element is the term itself; of more the first names a compound of the others.
use Rattle.std.proofs.Common.{◌≡◌, ◌<◌, ◌∙◌, arith, length}
use Rattle.ml_heap.proofs.StoredTerms.{grows_none}
use Rattle.ml_heap.proofs.TermWalks.{cells_at}
use Rattle.ml_builtin.proofs.CellsMade.{there, made_after}
use Rattle.ml_builtin.proofs.ListElements.{one_element, more_elements, behind_inside}
use Rattle.ml_builtin.proofs.Meanings.{cell_read}
use Rattle.ml_builtin.proofs.univ.term_of_list.Goals as goal

pub returns-then-cells-eq1-clause-made : goal.returns-then-cells-eq1-clause-made
returns-then-cells-eq1-clause-made c =
    let one : length c.args.cells.now ≡ 1 = omega (arith, c.if-cells-eq1.true) in
    there c.args.heap.now _ _ (cell_read _ _ 0 _ c.requires.inside (omega (arith, one)) c.index-cells-0.is)
    (one_element c.args.heap.now c.args.cells.now c.index-cells-0.result one c.index-cells-0.is)

pub new_cmp-requires-clause-inside : goal.new_cmp-requires-clause-inside
new_cmp-requires-clause-inside c = cells_at _ _ (behind_inside _ c.args.cells.now c.requires.inside)

pub returns-clause-made : goal.returns-clause-made
returns-clause-made c =
    let more : 1 < length c.args.cells.now = omega (arith, c.if-cells-eq1.false, c.requires.some) in
    made_after c.args.heap.now c.args.heap.now _ _ _ _ (grows_none c.args.heap.now) c.in_ok-new_cmp.ensures.made
    (cc (c.in_ok-name.ensures) ∙ more_elements c.args.heap.now c.args.cells.now c.index-cells-0-2.result more c.index-cells-0-2.is)
