-- One argument more.
use Rattle.std.proofs.Common.{◌≡◌, ◌<◌, ◌++◌, map, length, ap, ◌∙◌, arith}
use Rattle.ml_heap.specs.Changes.{stands_for, arguments_of}
use Rattle.ml_heap.proofs.TermWalks.{inside_last}
use Rattle.ml_builtin.proofs.ArgumentsPut.{one_taken, all_taken}
use Rattle.ml_builtin.proofs.CellsMade.{list_arity}
use Rattle.ml_builtin.proofs.univ.append_arguments.Goals as goal

pub arg-requires-clause-compound : goal.arg-requires-clause-compound
arg-requires-clause-compound c =
    omega (arith, c.arity_at-i-end.ensures, list_arity (stands_for c.args.heap.now c.args.t), c.loop-i-test.true)

pub loop-i-preserved : goal.loop-i-preserved
loop-i-preserved c =
    let in_args : c.loop-i.i < length (arguments_of (stands_for c.args.heap.now c.args.t)) =
    omega (arith, c.arity_at-i-end.ensures, list_arity (stands_for c.args.heap.now c.args.t), c.loop-i-test.true) in
    record {
      inside = λ a. inside_last c.args.heap.now _ _ _ c.in_ok-push.ensures.items c.arg.ensures.inside (c.loop-i.invariant.inside a);
      stand = one_taken c.args.heap.now _ _ _ _ _ c.loop-i.i in_args c.loop-i.invariant.stand c.in_ok-push.ensures.items c.arg.ensures.argument;
    }

pub returns-clause-stand : goal.returns-clause-stand
returns-clause-stand c =
    let args = arguments_of (stands_for c.args.heap.now c.args.t) in
    let all : c.loop-i.i ≡ length args =
    omega (arith, c.arity_at-i-end.ensures, list_arity (stands_for c.args.heap.now c.args.t), c.loop-i-test.false, c.loop-i.auto.i-end) in
    c.loop-i.invariant.stand ∙ ap (λ ts. map (stands_for c.args.heap.now) c.args.cells.now.items ++ ts) (all_taken args c.loop-i.i all)
