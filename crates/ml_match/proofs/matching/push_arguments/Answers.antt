-- One argument more, before the later ones.
use Rattle.std.proofs.Common.{◌≡◌, ℕ, zero, suc, ◌+◌, ◌-◌, ◌<◌, List, [], ◌∷◌, ◌++◌, map, reverse, length, drop, refl, sym, ap, ◌∙◌, arith, append_assoc}
use Rattle.std.proofs.lemmas.List.{reverse-append, drop_all, append-nil}
use Rattle.ml_term.specs.Tree.{Tree}
use Rattle.ml_heap.specs.Changes.{stands_for, arguments_of, tree_in}
use Rattle.ml_match.proofs.matching.push_arguments.Goals as goal

one_less : (ts : List Tree) (i j : ℕ) → j ≡ i + 1 → i < length ts → drop i ts ≡ tree_in ts i ∷ drop j ts
one_less [] i j e l = absurd (omega arith)
one_less (t ∷ ts) zero j e l = let f : j ≡ 1 = omega (arith, e) in ap (λ n. t ∷ drop n (t ∷ ts)) (sym f)
one_less (t ∷ ts) (suc i) j e l =
    let f : j ≡ suc (i + 1) = omega (arith, e) in
    one_less ts i (i + 1) refl (omega (arith, l)) ∙ ap (λ n. tree_in ts i ∷ drop n (t ∷ ts)) (sym f)

pub loop-i-init : goal.loop-i-init
loop-i-init c =
    let args = arguments_of (stands_for c.args.heap.now c.args.at) in
    record {
      small = omega arith;
      put = ([], (sym (append-nil c.args.todo.now.items), tt, sym (drop_all c.args.count args (omega (arith, c.requires.many)))));
    }

pub loop-i-preserved : goal.loop-i-preserved
loop-i-preserved c =
    let put = c.loop-i.invariant.put in
    let fn = c.args.todo.now.items in
    let args = arguments_of (stands_for c.args.heap.now c.args.at) in
    let inside : c.loop-i.i - 1 < length args = omega (arith, c.loop-i.invariant.small, c.loop-i-test.true, c.requires.many) in
    let next : c.loop-i.i ≡ c.loop-i.i - 1 + 1 = omega (arith, c.loop-i-test.true) in
    let e = one_less args (c.loop-i.i - 1) c.loop-i.i next inside in
    record {
      small = omega (arith, c.loop-i.invariant.small);
      put = (
        c.arg.result ∷ put.0,
        (
          c.in_ok-push.ensures.items
              ∙ (ap (λ xs. xs ++ c.arg.result ∷ []) put.1.0
              ∙ (append_assoc fn (reverse put.0) (c.arg.result ∷ []) ∙ ap (λ ys. fn ++ ys) (sym (reverse-append (c.arg.result ∷ []) put.0)))),
          (c.arg.ensures.inside, put.1.1),
          ap (λ t. t ∷ map (stands_for c.args.heap.now) put.0) c.arg.ensures.argument
              ∙ (ap (λ us. tree_in args (c.loop-i.i - 1) ∷ us) put.1.2 ∙ sym e),
        ),
      );
    }
