-- The variable's cell is unbound, and leads to the other cell from now on.
use Rattle.std.proofs.Common.{◌≡◌, ◌∙◌, subst, arith}
use Rattle.ml_heap.specs.declared.cell.Cell.TheVariants.{Unbound}
use Rattle.ml_heap.specs.Changes.{stands_for}
use Rattle.ml_heap.specs.inside.Layout.{cell_in, IsEnd}
use Rattle.ml_heap.proofs.HeapInvariant.{are_linked, is_inside, end_inside, same_tree, cell_is, found, is_end, variable_is_unbound}
use Rattle.ml_heap.proofs.Bindings.{binding_is_kept, trees_bound, none_counted, marks_bound, must_be_variable}
use Rattle.ml_heap.proofs.heap.Heap.bind.Goals as goal

pub end_of-var-requires-clause-inside : goal.end_of-var-requires-clause-inside
end_of-var-requires-clause-inside c = omega (
  arith,
  is_inside _ _ _ c.self.invariant _ c.self.view_is _ c.args.var c.deref.ensures.value c.requires.var_inside,
  c.place.ensures,
)

pub end_of-var-requires-clause-linked : goal.end_of-var-requires-clause-linked
end_of-var-requires-clause-linked c = are_linked _ _ _ c.self.invariant _ c.self.view_is _ c.deref.ensures.value

pub end_of-to-requires-clause-inside : goal.end_of-to-requires-clause-inside
end_of-to-requires-clause-inside c = omega (
  arith,
  is_inside _ _ _ c.self.invariant _ c.self.view_is _ c.args.to c.deref-2.ensures.value c.requires.to_inside,
  c.place-2.ensures,
)

pub end_of-to-requires-clause-linked : goal.end_of-to-requires-clause-linked
end_of-to-requires-clause-linked c = are_linked _ _ _ c.self.invariant _ c.self.view_is _ c.deref-2.ensures.value

pub unreachable-requires : goal.unreachable-requires
unreachable-requires c = variable_is_unbound _ _ _ c.index.result.now
    (found _ _ _ c.self.invariant _ c.self.view_is _ c.deref.ensures.value _ _ _ c.end_of-var.ensures.inside c.end_of-var.ensures.same c.place.ensures
    c.index.result.now c.index.ensures) (is_end _ _ _ c.self.invariant _ c.self.view_is _ c.deref.ensures.value _ _ _ c.end_of-var.ensures.inside
    c.end_of-var.ensures.same c.place.ensures c.index.result.now c.index.ensures c.end_of-var.ensures.end)
    (must_be_variable (stands_for c.args.self.now c.args.var) (stands_for c.args.self.now c.args.to) c.requires.free) c.in_default.not-Unbound

pub invariant_of-self-2 : goal.invariant_of-self-2
invariant_of-self-2 c =
    let in_v = end_inside _ _ _ c.self.invariant _ c.self.view_is _ c.deref.ensures.value _ _ _ c.end_of-var.ensures.inside c.end_of-var.ensures.same
    c.place.ensures in
    let in_q = end_inside _ _ _ c.self.invariant _ c.self.view_is _ c.deref-2.ensures.value _ _ _ c.end_of-to.ensures.inside c.end_of-to.ensures.same
    c.place-2.ensures in
    let at_v : cell_in c.self.inside.cells.items c.end_of-var.result ≡ Unbound c.in-Unbound.n =
    cell_is _ _ _ c.self.invariant _ c.self.view_is _ c.deref.ensures.value _ _ _ c.end_of-var.ensures.inside c.end_of-var.ensures.same c.place.ensures
    c.index.result.now c.index.ensures ∙ c.in-Unbound.is in
    let q_end : IsEnd (cell_in c.self.inside.cells.items c.end_of-to.result) =
    subst (λ cs. IsEnd (cell_in cs c.end_of-to.result)) c.deref-2.ensures.value c.end_of-to.ensures.end in
    binding_is_kept c.self.inside.steps.items c.self.inside.cells.items c.self.inside.created c.self.invariant _ c.self.view_is c.end_of-var.result
    c.end_of-to.result c.in-Unbound.n c.args.var c.args.to in_v in_q at_v q_end
    (same_tree _ _ _ c.self.invariant _ c.self.view_is _ c.deref.ensures.value _ _ _ c.end_of-var.ensures.inside c.end_of-var.ensures.same c.place.ensures)
    (same_tree _ _ _ c.self.invariant _ c.self.view_is _ c.deref-2.ensures.value _ _ _ c.end_of-to.ensures.inside c.end_of-to.ensures.same
    c.place-2.ensures) c.requires.free _ c.in_ok-push.ensures.items

pub returns-clause-bound : goal.returns-clause-bound
returns-clause-bound c =
    let in_v = end_inside _ _ _ c.self.invariant _ c.self.view_is _ c.deref.ensures.value _ _ _ c.end_of-var.ensures.inside c.end_of-var.ensures.same
    c.place.ensures in
    let in_q = end_inside _ _ _ c.self.invariant _ c.self.view_is _ c.deref-2.ensures.value _ _ _ c.end_of-to.ensures.inside c.end_of-to.ensures.same
    c.place-2.ensures in
    let at_v : cell_in c.self.inside.cells.items c.end_of-var.result ≡ Unbound c.in-Unbound.n =
    cell_is _ _ _ c.self.invariant _ c.self.view_is _ c.deref.ensures.value _ _ _ c.end_of-var.ensures.inside c.end_of-var.ensures.same c.place.ensures
    c.index.result.now c.index.ensures ∙ c.in-Unbound.is in
    let q_end : IsEnd (cell_in c.self.inside.cells.items c.end_of-to.result) =
    subst (λ cs. IsEnd (cell_in cs c.end_of-to.result)) c.deref-2.ensures.value c.end_of-to.ensures.end in
    trees_bound c.self.inside.steps.items c.self.inside.cells.items c.self.inside.created c.self.invariant _ c.self.view_is c.end_of-var.result
    c.end_of-to.result c.in-Unbound.n c.args.var c.args.to in_v in_q at_v q_end
    (same_tree _ _ _ c.self.invariant _ c.self.view_is _ c.deref.ensures.value _ _ _ c.end_of-var.ensures.inside c.end_of-var.ensures.same c.place.ensures)
    (same_tree _ _ _ c.self.invariant _ c.self.view_is _ c.deref-2.ensures.value _ _ _ c.end_of-to.ensures.inside c.end_of-to.ensures.same
    c.place-2.ensures) c.requires.free _ c.in_ok-push.ensures.items

pub returns-clause-counted : goal.returns-clause-counted
returns-clause-counted c =
    let in_v = end_inside _ _ _ c.self.invariant _ c.self.view_is _ c.deref.ensures.value _ _ _ c.end_of-var.ensures.inside c.end_of-var.ensures.same
    c.place.ensures in
    let in_q = end_inside _ _ _ c.self.invariant _ c.self.view_is _ c.deref-2.ensures.value _ _ _ c.end_of-to.ensures.inside c.end_of-to.ensures.same
    c.place-2.ensures in
    let at_v : cell_in c.self.inside.cells.items c.end_of-var.result ≡ Unbound c.in-Unbound.n =
    cell_is _ _ _ c.self.invariant _ c.self.view_is _ c.deref.ensures.value _ _ _ c.end_of-var.ensures.inside c.end_of-var.ensures.same c.place.ensures
    c.index.result.now c.index.ensures ∙ c.in-Unbound.is in
    let q_end : IsEnd (cell_in c.self.inside.cells.items c.end_of-to.result) =
    subst (λ cs. IsEnd (cell_in cs c.end_of-to.result)) c.deref-2.ensures.value c.end_of-to.ensures.end in
    none_counted c.self.inside.steps.items c.self.inside.cells.items c.self.inside.created c.self.invariant _ c.self.view_is c.end_of-var.result
    c.end_of-to.result c.in-Unbound.n c.args.var c.args.to in_v in_q at_v q_end
    (same_tree _ _ _ c.self.invariant _ c.self.view_is _ c.deref.ensures.value _ _ _ c.end_of-var.ensures.inside c.end_of-var.ensures.same c.place.ensures)
    (same_tree _ _ _ c.self.invariant _ c.self.view_is _ c.deref-2.ensures.value _ _ _ c.end_of-to.ensures.inside c.end_of-to.ensures.same
    c.place-2.ensures) c.requires.free _ c.in_ok-push.ensures.items

pub returns-clause-marks : goal.returns-clause-marks
returns-clause-marks c =
    let in_v = end_inside _ _ _ c.self.invariant _ c.self.view_is _ c.deref.ensures.value _ _ _ c.end_of-var.ensures.inside c.end_of-var.ensures.same
    c.place.ensures in
    let in_q = end_inside _ _ _ c.self.invariant _ c.self.view_is _ c.deref-2.ensures.value _ _ _ c.end_of-to.ensures.inside c.end_of-to.ensures.same
    c.place-2.ensures in
    let at_v : cell_in c.self.inside.cells.items c.end_of-var.result ≡ Unbound c.in-Unbound.n =
    cell_is _ _ _ c.self.invariant _ c.self.view_is _ c.deref.ensures.value _ _ _ c.end_of-var.ensures.inside c.end_of-var.ensures.same c.place.ensures
    c.index.result.now c.index.ensures ∙ c.in-Unbound.is in
    let q_end : IsEnd (cell_in c.self.inside.cells.items c.end_of-to.result) =
    subst (λ cs. IsEnd (cell_in cs c.end_of-to.result)) c.deref-2.ensures.value c.end_of-to.ensures.end in
    marks_bound c.self.inside.steps.items c.self.inside.cells.items c.self.inside.created c.self.invariant _ c.self.view_is c.end_of-var.result
    c.end_of-to.result c.in-Unbound.n c.args.var c.args.to in_v in_q at_v q_end
    (same_tree _ _ _ c.self.invariant _ c.self.view_is _ c.deref.ensures.value _ _ _ c.end_of-var.ensures.inside c.end_of-var.ensures.same c.place.ensures)
    (same_tree _ _ _ c.self.invariant _ c.self.view_is _ c.deref-2.ensures.value _ _ _ c.end_of-to.ensures.inside c.end_of-to.ensures.same
    c.place-2.ensures) c.requires.free _ c.in_ok-push.ensures.items
