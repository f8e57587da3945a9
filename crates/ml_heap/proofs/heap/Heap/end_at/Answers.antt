-- The cell at the end of the bindings fits its tree.
use Rattle.std.proofs.Common.{ap, ◌∙◌, arith}
use Rattle.ml_heap.specs.Changes.{stands_for}
use Rattle.ml_heap.proofs.HeapInvariant.{stands, are_linked, is_inside, end_inside, same_tree, found, is_end, tells, is_term}
use Rattle.ml_heap.proofs.heap.Heap.end_at.Goals as goal

pub end_of-end-requires-clause-inside : goal.end_of-end-requires-clause-inside
end_of-end-requires-clause-inside c = omega (
  arith,
  is_inside _ _ _ c.self.invariant _ c.self.view_is _ c.args.at c.deref.ensures.value c.requires,
  c.place.ensures,
)

pub end_of-end-requires-clause-linked : goal.end_of-end-requires-clause-linked
end_of-end-requires-clause-linked c = are_linked _ _ _ c.self.invariant _ c.self.view_is _ c.deref.ensures.value

pub returns-clause-inside : goal.returns-clause-inside
returns-clause-inside c =
    let within = end_inside _ _ _ c.self.invariant _ c.self.view_is _ c.deref.ensures.value _ _ _ c.end_of-end.ensures.inside c.end_of-end.ensures.same
    c.place.ensures in
    let size = (stands _ _ _ c.self.invariant _ c.self.view_is).size in
    omega (arith, within, size, c.at.ensures)

pub returns-clause-same : goal.returns-clause-same
returns-clause-same c =
    ap (stands_for c.args.self.now) c.at.ensures
    ∙ same_tree _ _ _ c.self.invariant _ c.self.view_is _ c.deref.ensures.value _ _ _ c.end_of-end.ensures.inside c.end_of-end.ensures.same c.place.ensures

pub returns-clause-told : goal.returns-clause-told
returns-clause-told c =
    let size = (stands _ _ _ c.self.invariant _ c.self.view_is).size in
    let fit = found _ _ _ c.self.invariant _ c.self.view_is _ c.deref.ensures.value _ _ _ c.end_of-end.ensures.inside c.end_of-end.ensures.same c.place.ensures
    c.index.result.now c.index.ensures in
    let end = is_end _ _ _ c.self.invariant _ c.self.view_is _ c.deref.ensures.value _ _ _ c.end_of-end.ensures.inside c.end_of-end.ensures.same c.place.ensures
    c.index.result.now c.index.ensures c.end_of-end.ensures.end in
    tells c.args.self.now c.self.inside.cells.items _ c.index.result.now size fit end

pub returns-clause-valid : goal.returns-clause-valid
returns-clause-valid c = is_term _ _ _ c.self.invariant _ c.self.view_is c.args.at
