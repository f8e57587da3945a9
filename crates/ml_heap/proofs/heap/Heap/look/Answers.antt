-- What the cell at the end of the bindings says.
use Rattle.std.proofs.lemmas.Int.{to_z-of_z}
use Rattle.ml_term.specs.Tree.{integer}
use Rattle.std.proofs.Common.{rules, w64, SFits, ap, sym, ◌∙◌, subst, arith, length}
use Rattle.ml_heap.specs.Changes.{state, stands_for, IsVariable}
use Rattle.ml_heap.specs.inside.Layout.{Fits}
use Rattle.ml_heap.proofs.HeapInvariant.{stands, are_linked, is_inside, end_inside, same_tree, found, shows_compound, is_term}
use Rattle.ml_heap.proofs.heap.Heap.look.Goals as goal

pub end_of-end-requires-clause-inside : goal.end_of-end-requires-clause-inside
end_of-end-requires-clause-inside c = omega (
  arith,
  is_inside _ _ _ c.self.invariant _ c.self.view_is _ c.args.at c.deref.ensures.value c.requires,
  c.place.ensures,
)

pub end_of-end-requires-clause-linked : goal.end_of-end-requires-clause-linked
end_of-end-requires-clause-linked c = are_linked _ _ _ c.self.invariant _ c.self.view_is _ c.deref.ensures.value

pub returns-in-Unbound-clause-shown : goal.returns-in-Unbound-clause-shown
returns-in-Unbound-clause-shown c =
    let fit = subst (Fits (state c.args.self.now).trees c.self.inside.cells.items (stands_for c.args.self.now c.args.at)) c.in-Unbound.is
    (found _ _ _ c.self.invariant _ c.self.view_is _ c.deref.ensures.value _ _ _ c.end_of-end.ensures.inside c.end_of-end.ensures.same c.place.ensures
    c.index.result.now c.index.ensures) in
    let same = same_tree _ _ _ c.self.invariant _ c.self.view_is _ c.deref.ensures.value _ _ _ c.end_of-end.ensures.inside c.end_of-end.ensures.same
    c.place.ensures in
    let within = end_inside _ _ _ c.self.invariant _ c.self.view_is _ c.deref.ensures.value _ _ _ c.end_of-end.ensures.inside c.end_of-end.ensures.same
    c.place.ensures in
    let size = (stands _ _ _ c.self.invariant _ c.self.view_is).size in
    (omega (arith, within, size, c.at.ensures), subst IsVariable (sym fit) tt, ap (stands_for c.args.self.now) c.at.ensures ∙ same)

pub returns-in-Int-clause-shown : goal.returns-in-Int-clause-shown
returns-in-Int-clause-shown c =
    let fit = subst (Fits (state c.args.self.now).trees c.self.inside.cells.items (stands_for c.args.self.now c.args.at)) c.in-Int.is
    (found _ _ _ c.self.invariant _ c.self.view_is _ c.deref.ensures.value _ _ _ c.end_of-end.ensures.inside c.end_of-end.ensures.same c.place.ensures
    c.index.result.now c.index.ensures) in
    let fits : SFits w64 c.in-Int.v = search rules in
    fit ∙ ap integer (sym (to_z-of_z w64 c.in-Int.v fits))

pub returns-in-Atom-clause-shown : goal.returns-in-Atom-clause-shown
returns-in-Atom-clause-shown c = subst (Fits (state c.args.self.now).trees c.self.inside.cells.items (stands_for c.args.self.now c.args.at)) c.in-Atom.is
    (found _ _ _ c.self.invariant _ c.self.view_is _ c.deref.ensures.value _ _ _ c.end_of-end.ensures.inside c.end_of-end.ensures.same c.place.ensures
    c.index.result.now c.index.ensures)

pub returns-in-Cmp-clause-shown : goal.returns-in-Cmp-clause-shown
returns-in-Cmp-clause-shown c =
    let fit = subst (Fits (state c.args.self.now).trees c.self.inside.cells.items (stands_for c.args.self.now c.args.at)) c.in-Cmp.is
    (found _ _ _ c.self.invariant _ c.self.view_is _ c.deref.ensures.value _ _ _ c.end_of-end.ensures.inside c.end_of-end.ensures.same c.place.ensures
    c.index.result.now c.index.ensures) in
    let s = shows_compound _ _ _ c.self.invariant _ c.self.view_is (stands_for c.args.self.now c.args.at) _ _ _ fit in
    (s.0, s.1 ∙ sym (ap length c.as_slice.ensures.same))

pub returns-in-Unbound-clause-valid : goal.returns-in-Unbound-clause-valid
returns-in-Unbound-clause-valid c = is_term _ _ _ c.self.invariant _ c.self.view_is c.args.at

pub returns-in-Int-clause-valid : goal.returns-in-Int-clause-valid
returns-in-Int-clause-valid c = is_term _ _ _ c.self.invariant _ c.self.view_is c.args.at

pub returns-in-Atom-clause-valid : goal.returns-in-Atom-clause-valid
returns-in-Atom-clause-valid c = is_term _ _ _ c.self.invariant _ c.self.view_is c.args.at

pub returns-in-Cmp-clause-valid : goal.returns-in-Cmp-clause-valid
returns-in-Cmp-clause-valid c = is_term _ _ _ c.self.invariant _ c.self.view_is c.args.at
