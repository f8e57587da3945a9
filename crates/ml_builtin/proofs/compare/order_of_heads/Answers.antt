-- What has no arguments is compared at once.
use Rattle.std.proofs.Common.{refl, sym, ap, ◌∙◌, SFits, w64, rules}
use Rattle.std.proofs.lemmas.Int.{to_z-of_z}
use Rattle.ml_term.specs.Tree.{integer}
use Rattle.ml_term.specs.Order.{tree_cmp}
use Rattle.ml_heap.specs.Changes.{stands_for}
use Rattle.ml_builtin.proofs.OrderWalks.{no_arguments}
use Rattle.ml_builtin.proofs.OrderKinds.{one_fewer}
use Rattle.ml_builtin.proofs.compare.order_of_heads.Goals as goal

pub returns-in-Var-clause-order : goal.returns-in-Var-clause-order
returns-in-Var-clause-order c =
    no_arguments c.args.heap.now c.args.left.now.items c.args.left.now.items (stands_for c.args.heap.now c.args.a)
    (stands_for c.args.heap.now c.args.b) _ c.order_of_variable.ensures refl

pub returns-in-Var-clause-fewer : goal.returns-in-Var-clause-fewer
returns-in-Var-clause-fewer c = one_fewer _ (stands_for c.args.heap.now c.args.a)

pub returns-in-Int-clause-order : goal.returns-in-Int-clause-order
returns-in-Int-clause-order c =
    let fits : SFits w64 c.in-Int.x = search rules in
    no_arguments c.args.heap.now c.args.left.now.items c.args.left.now.items (stands_for c.args.heap.now c.args.a) (stands_for c.args.heap.now c.args.b) _
    (c.order_of_integer.ensures
    ∙ (ap (λ z. tree_cmp (integer z) (stands_for c.args.heap.now c.args.b)) (to_z-of_z w64 c.in-Int.x fits)
    ∙ sym (ap (λ t. tree_cmp t (stands_for c.args.heap.now c.args.b)) c.in-Int.ensures.shown))) refl

pub returns-in-Int-clause-fewer : goal.returns-in-Int-clause-fewer
returns-in-Int-clause-fewer c = one_fewer _ (stands_for c.args.heap.now c.args.a)

pub returns-in-Atom-clause-order : goal.returns-in-Atom-clause-order
returns-in-Atom-clause-order c =
    no_arguments c.args.heap.now c.args.left.now.items c.args.left.now.items (stands_for c.args.heap.now c.args.a) (stands_for c.args.heap.now c.args.b) _
    (c.order_of_atom.ensures ∙ sym (ap (λ t. tree_cmp t (stands_for c.args.heap.now c.args.b)) c.in-Atom.ensures.shown)) refl

pub returns-in-Atom-clause-fewer : goal.returns-in-Atom-clause-fewer
returns-in-Atom-clause-fewer c = one_fewer _ (stands_for c.args.heap.now c.args.a)
