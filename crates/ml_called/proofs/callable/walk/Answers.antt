use Rattle.std.proofs.Common.{◌∷◌, [], subst, sym}
use Rattle.ml_heap.specs.Changes.{AreCells, cell_count}
use Rattle.ml_heap.proofs.TermWalks.{cells_append}
use Rattle.ml_called.proofs.CallableCells.{operands_left, fewer_nodes}
use Rattle.ml_called.proofs.callable.walk.Goals as goal

pub returns-in-Some-clause-left : goal.returns-in-Some-clause-left
returns-in-Some-clause-left c = λ e.
    operands_left c.args.heap.now _ _ c.in-Some.pair.first c.in-Some.pair.second c.in-Some.ensures.joined.1 c.in-Some.ensures.joined.0
    c.args.left.now.items _ _ c.in_ok-push.ensures.items c.in_ok-push-2.ensures.items

pub returns-in-Some-clause-inside : goal.returns-in-Some-clause-inside
returns-in-Some-clause-inside c = λ a.
    let n = cell_count c.args.heap.now in
    subst (AreCells n) (sym c.in_ok-push-2.ensures.items)
    (cells_append n _ (c.in-Some.pair.first ∷ [])
    (subst (AreCells n) (sym c.in_ok-push.ensures.items) (cells_append n c.args.left.now.items (c.in-Some.pair.second ∷ []) a (c.in-Some.ensures.inside.1, tt)))
    (c.in-Some.ensures.inside.0, tt))

pub returns-in-Some-clause-fewer : goal.returns-in-Some-clause-fewer
returns-in-Some-clause-fewer c =
    fewer_nodes c.args.heap.now _ _ c.in-Some.pair.first c.in-Some.pair.second c.in-Some.ensures.joined.1 c.in-Some.ensures.joined.0
    c.args.left.now.items _ _ c.in_ok-push.ensures.items c.in_ok-push-2.ensures.items
