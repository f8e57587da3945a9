-- Another term comes before a compound; two compounds are compared by their heads, and then by their arguments.
use Rattle.std.proofs.Common.{◌≡◌, refl, sym, ◌∙◌}
use Rattle.std.specs.Ordering.{nat_cmp, ordering_then}
use Rattle.std.specs.Cmp.Lexicographic.{slice_cmp}
use Rattle.ml_heap.specs.Changes.{stands_for}
use Rattle.ml_builtin.proofs.OrderWalks.{no_arguments, heads_differ, order_of_arguments, fewer_nodes, still_below, equal_arity}
use Rattle.ml_builtin.proofs.OrderKinds.{after_variable_compound, compound_after_integer, compound_after_atom, one_fewer, not_equal, is_equal_order}
use Rattle.ml_builtin.proofs.compare.order_of_compound.Goals as goal

pub returns-in-Var-clause-order : goal.returns-in-Var-clause-order
returns-in-Var-clause-order c =
    no_arguments c.args.heap.now c.args.left.now.items c.args.left.now.items (stands_for c.args.heap.now c.args.a)
    (stands_for c.args.heap.now c.args.b) _
    (sym (after_variable_compound (stands_for c.args.heap.now c.args.b) c.in-Var.ensures.shown.1
    (stands_for c.args.heap.now c.args.a) _ _ c.requires.compound)) refl

pub returns-in-Var-clause-fewer : goal.returns-in-Var-clause-fewer
returns-in-Var-clause-fewer c = one_fewer _ (stands_for c.args.heap.now c.args.a)

pub returns-in-Int-clause-order : goal.returns-in-Int-clause-order
returns-in-Int-clause-order c =
    no_arguments c.args.heap.now c.args.left.now.items c.args.left.now.items (stands_for c.args.heap.now c.args.a)
    (stands_for c.args.heap.now c.args.b) _
    (sym (compound_after_integer (stands_for c.args.heap.now c.args.a) (stands_for c.args.heap.now c.args.b) _ _ _ c.requires.compound
    c.in-Int.ensures.shown)) refl

pub returns-in-Int-clause-fewer : goal.returns-in-Int-clause-fewer
returns-in-Int-clause-fewer c = one_fewer _ (stands_for c.args.heap.now c.args.a)

pub returns-in-Atom-clause-order : goal.returns-in-Atom-clause-order
returns-in-Atom-clause-order c =
    no_arguments c.args.heap.now c.args.left.now.items c.args.left.now.items (stands_for c.args.heap.now c.args.a)
    (stands_for c.args.heap.now c.args.b) _
    (sym (compound_after_atom (stands_for c.args.heap.now c.args.a) (stands_for c.args.heap.now c.args.b) _ _ _ c.requires.compound
    c.in-Atom.ensures.shown)) refl

pub returns-in-Atom-clause-fewer : goal.returns-in-Atom-clause-fewer
returns-in-Atom-clause-fewer c = one_fewer _ (stands_for c.args.heap.now c.args.a)

pub push_pairs-requires-clause-b_arity : goal.push_pairs-requires-clause-b_arity
push_pairs-requires-clause-b_arity c =
    let shape : c.then-order.result ≡ ordering_then (nat_cmp c.args.m c.in-Cmp.n) (slice_cmp nat_cmp c.args.f.now c.in-Cmp.g.now) = cc in
    equal_arity c.args.heap.now (stands_for c.args.heap.now c.args.a) (stands_for c.args.heap.now c.args.b) _ _ c.args.m c.in-Cmp.n
    c.requires.compound c.in-Cmp.ensures.shown.0 c.requires.arity c.in-Cmp.ensures.shown.1
    (sym shape ∙ is_equal_order _ _ c.if-is_ne.false c.is_ne.ensures)
    ∙ sym c.in-Cmp.ensures.shown.1

pub returns-then-is_ne-clause-order : goal.returns-then-is_ne-clause-order
returns-then-is_ne-clause-order c =
    let shape : c.then-order.result ≡ ordering_then (nat_cmp c.args.m c.in-Cmp.n) (slice_cmp nat_cmp c.args.f.now c.in-Cmp.g.now) = cc in
    heads_differ c.args.heap.now (stands_for c.args.heap.now c.args.a) (stands_for c.args.heap.now c.args.b) _ _ c.args.m c.in-Cmp.n
    c.requires.compound c.in-Cmp.ensures.shown.0 c.requires.arity c.in-Cmp.ensures.shown.1 c.then-order.result c.args.left.now.items shape
    (not_equal _ _ c.if-is_ne.true c.is_ne.ensures)

pub returns-then-is_ne-clause-fewer : goal.returns-then-is_ne-clause-fewer
returns-then-is_ne-clause-fewer c = one_fewer _ (stands_for c.args.heap.now c.args.a)

pub returns-in_ok-push_pairs-in-Cmp-clause-order : goal.returns-in_ok-push_pairs-in-Cmp-clause-order
returns-in_ok-push_pairs-in-Cmp-clause-order c =
    let p = c.in_ok-push_pairs-in-Cmp.ensures in
    let shape : c.then-order.result ≡ ordering_then (nat_cmp c.args.m c.in-Cmp.n) (slice_cmp nat_cmp c.args.f.now c.in-Cmp.g.now) = cc in
    order_of_arguments c.args.heap.now (stands_for c.args.heap.now c.args.a) (stands_for c.args.heap.now c.args.b) _ _ c.args.m c.in-Cmp.n
    c.requires.compound c.in-Cmp.ensures.shown.0 c.requires.arity c.in-Cmp.ensures.shown.1 c.then-order.result shape
    (is_equal_order _ _ c.if-is_ne.false c.is_ne.ensures) _ _ p.0 p.1.0 p.1.2 p.1.3

pub returns-in_ok-push_pairs-in-Cmp-clause-inside : goal.returns-in_ok-push_pairs-in-Cmp-clause-inside
returns-in_ok-push_pairs-in-Cmp-clause-inside c =
    let p = c.in_ok-push_pairs-in-Cmp.ensures in
    let shape : c.then-order.result ≡ ordering_then (nat_cmp c.args.m c.in-Cmp.n) (slice_cmp nat_cmp c.args.f.now c.in-Cmp.g.now) = cc in
    still_below c.args.heap.now (stands_for c.args.heap.now c.args.a) (stands_for c.args.heap.now c.args.b) _ _ c.args.m c.in-Cmp.n
    c.requires.compound c.in-Cmp.ensures.shown.0 c.requires.arity c.in-Cmp.ensures.shown.1 c.then-order.result shape
    (is_equal_order _ _ c.if-is_ne.false c.is_ne.ensures) _ _ p.0 p.1.0 p.1.2 p.1.3 p.1.1

pub returns-in_ok-push_pairs-in-Cmp-clause-fewer : goal.returns-in_ok-push_pairs-in-Cmp-clause-fewer
returns-in_ok-push_pairs-in-Cmp-clause-fewer c =
    let p = c.in_ok-push_pairs-in-Cmp.ensures in
    let shape : c.then-order.result ≡ ordering_then (nat_cmp c.args.m c.in-Cmp.n) (slice_cmp nat_cmp c.args.f.now c.in-Cmp.g.now) = cc in
    fewer_nodes c.args.heap.now (stands_for c.args.heap.now c.args.a) (stands_for c.args.heap.now c.args.b) _ _ c.args.m c.in-Cmp.n
    c.requires.compound c.in-Cmp.ensures.shown.0 c.requires.arity c.in-Cmp.ensures.shown.1 c.then-order.result shape
    (is_equal_order _ _ c.if-is_ne.false c.is_ne.ensures) _ _ p.0 p.1.0 p.1.2 p.1.3
