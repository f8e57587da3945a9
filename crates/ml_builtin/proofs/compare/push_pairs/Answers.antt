-- One pair of arguments more, before the later ones.
use Rattle.std.proofs.Common.{◌≡◌, ◌+◌, ◌-◌, ◌<◌, ◌∷◌, length, arith}
use Rattle.ml_heap.specs.Changes.{stands_for, arguments_of}
use Rattle.ml_builtin.proofs.ArgumentsPut.{pair, pair_before, first_before, second_before}
use Rattle.ml_builtin.proofs.compare.push_pairs.Goals as goal

pub loop-i-preserved : goal.loop-i-preserved
loop-i-preserved c =
    let put = c.loop-i.invariant.put in
    let ts = arguments_of (stands_for c.args.heap.now c.args.a) in
    let us = arguments_of (stands_for c.args.heap.now c.args.b) in
    let in_ts : c.loop-i.i - 1 < length ts = omega (arith, c.loop-i.invariant.small, c.loop-i-test.true, c.requires.a_arity) in
    let in_us : c.loop-i.i - 1 < length us = omega (arith, c.loop-i.invariant.small, c.loop-i-test.true, c.requires.b_arity) in
    let next : c.loop-i.i ≡ c.loop-i.i - 1 + 1 = omega (arith, c.loop-i-test.true) in
    record {
      small = omega (arith, c.loop-i.invariant.small);
      put = (
        pair c.arg.result c.arg-in-loop-i.result ∷ put.0,
        (
          pair_before _ _ _ put.0 (pair c.arg.result c.arg-in-loop-i.result) put.1.0 c.in_ok-push.ensures.items,
          (c.arg.ensures.inside, c.arg-in-loop-i.ensures.inside, put.1.1),
          first_before c.args.heap.now ts put.0 c.arg.result c.arg-in-loop-i.result (c.loop-i.i - 1) c.loop-i.i next in_ts put.1.2 c.arg.ensures.argument,
          second_before c.args.heap.now us put.0 c.arg.result c.arg-in-loop-i.result (c.loop-i.i - 1) c.loop-i.i next in_us put.1.3
              c.arg-in-loop-i.ensures.argument,
        ),
      );
    }
