-- The cell at the end of the bindings has the number.
use Rattle.std.proofs.Common.{ap, sym, subst, arith}
use Rattle.ml_heap.specs.Changes.{state, stands_for, number}
use Rattle.ml_heap.specs.inside.Layout.{Fits}
use Rattle.ml_heap.proofs.HeapInvariant.{are_linked, is_inside, found, is_end, variable_is_unbound}
use Rattle.ml_heap.proofs.heap.Heap.number_at.Goals as goal

pub end_of-end-requires-clause-inside : goal.end_of-end-requires-clause-inside
end_of-end-requires-clause-inside c = omega (
  arith,
  is_inside _ _ _ c.self.invariant _ c.self.view_is _ c.args.at c.deref.ensures.value c.requires.inside,
  c.place.ensures,
)

pub end_of-end-requires-clause-linked : goal.end_of-end-requires-clause-linked
end_of-end-requires-clause-linked c = are_linked _ _ _ c.self.invariant _ c.self.view_is _ c.deref.ensures.value

pub unreachable-requires : goal.unreachable-requires
unreachable-requires c = variable_is_unbound _ _ _ c.index.result.now
    (found _ _ _ c.self.invariant _ c.self.view_is _ c.deref.ensures.value _ _ _ c.end_of-end.ensures.inside c.end_of-end.ensures.same c.place.ensures
    c.index.result.now c.index.ensures) (is_end _ _ _ c.self.invariant _ c.self.view_is _ c.deref.ensures.value _ _ _ c.end_of-end.ensures.inside
    c.end_of-end.ensures.same c.place.ensures c.index.result.now c.index.ensures c.end_of-end.ensures.end) c.requires.unbound c.in_default.not-Unbound

pub returns : goal.returns
returns c =
    let fit = subst (Fits (state c.args.self.now).trees c.self.inside.cells.items (stands_for c.args.self.now c.args.at)) c.in-Unbound.is
    (found _ _ _ c.self.invariant _ c.self.view_is _ c.deref.ensures.value _ _ _ c.end_of-end.ensures.inside c.end_of-end.ensures.same c.place.ensures
    c.index.result.now c.index.ensures) in
    sym (ap number fit)
