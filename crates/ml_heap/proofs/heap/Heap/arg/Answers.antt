-- The argument's cell is one of the compound's.
use Rattle.std.proofs.Common.{get_or, ◌≡◌, ap, sym, ◌∙◌, subst, arith, length}
use Rattle.ml_heap.specs.Changes.{state, stands_for}
use Rattle.ml_heap.specs.inside.Layout.{Fits}
use Rattle.ml_heap.proofs.HeapInvariant.{are_linked, is_inside, found, is_end, has_argument, compound_is_one}
use Rattle.ml_heap.proofs.heap.Heap.arg.Goals as goal

pub end_of-end-requires-clause-inside : goal.end_of-end-requires-clause-inside
end_of-end-requires-clause-inside c = omega (
  arith,
  is_inside _ _ _ c.self.invariant _ c.self.view_is _ c.args.at c.deref.ensures.value c.requires.inside,
  c.place.ensures,
)

pub end_of-end-requires-clause-linked : goal.end_of-end-requires-clause-linked
end_of-end-requires-clause-linked c = are_linked _ _ _ c.self.invariant _ c.self.view_is _ c.deref.ensures.value

pub bounds-as_slice-i : goal.bounds-as_slice-i
bounds-as_slice-i c =
    let fit = subst (Fits (state c.args.self.now).trees c.self.inside.cells.items (stands_for c.args.self.now c.args.at)) c.in-Cmp.is
    (found _ _ _ c.self.invariant _ c.self.view_is _ c.deref.ensures.value _ _ _ c.end_of-end.ensures.inside c.end_of-end.ensures.same c.place.ensures
    c.index.result.now c.index.ensures) in
    let h = has_argument _ _ _ c.self.invariant _ c.self.view_is (stands_for c.args.self.now c.args.at) _ _ _ c.args.i fit c.requires.compound in
    omega (arith, h.0, ap length c.as_slice.ensures.same)

pub unreachable-requires : goal.unreachable-requires
unreachable-requires c = compound_is_one _ _ _ c.index.result.now c.args.i
    (found _ _ _ c.self.invariant _ c.self.view_is _ c.deref.ensures.value _ _ _ c.end_of-end.ensures.inside c.end_of-end.ensures.same c.place.ensures
    c.index.result.now c.index.ensures) (is_end _ _ _ c.self.invariant _ c.self.view_is _ c.deref.ensures.value _ _ _ c.end_of-end.ensures.inside
    c.end_of-end.ensures.same c.place.ensures c.index.result.now c.index.ensures c.end_of-end.ensures.end) c.requires.compound c.in_default.not-Cmp

pub returns-clause-inside : goal.returns-clause-inside
returns-clause-inside c =
    let fit = subst (Fits (state c.args.self.now).trees c.self.inside.cells.items (stands_for c.args.self.now c.args.at)) c.in-Cmp.is
    (found _ _ _ c.self.invariant _ c.self.view_is _ c.deref.ensures.value _ _ _ c.end_of-end.ensures.inside c.end_of-end.ensures.same c.place.ensures
    c.index.result.now c.index.ensures) in
    let h = has_argument _ _ _ c.self.invariant _ c.self.view_is (stands_for c.args.self.now c.args.at) _ _ _ c.args.i fit c.requires.compound in
    let at : c.at.result ≡ get_or c.in-Cmp.args c.args.i 0 = sym (ap (λ qs. get_or qs c.args.i 0) (sym c.as_slice.ensures.same) ∙ sym c.at.ensures) in
    omega (arith, h.1, at)

pub returns-clause-argument : goal.returns-clause-argument
returns-clause-argument c =
    let fit = subst (Fits (state c.args.self.now).trees c.self.inside.cells.items (stands_for c.args.self.now c.args.at)) c.in-Cmp.is
    (found _ _ _ c.self.invariant _ c.self.view_is _ c.deref.ensures.value _ _ _ c.end_of-end.ensures.inside c.end_of-end.ensures.same c.place.ensures
    c.index.result.now c.index.ensures) in
    let h = has_argument _ _ _ c.self.invariant _ c.self.view_is (stands_for c.args.self.now c.args.at) _ _ _ c.args.i fit c.requires.compound in
    let at : c.at.result ≡ get_or c.in-Cmp.args c.args.i 0 = sym (ap (λ qs. get_or qs c.args.i 0) (sym c.as_slice.ensures.same) ∙ sym c.at.ensures) in
    ap (stands_for c.args.self.now) at ∙ h.2
