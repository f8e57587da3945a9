-- One argument more, before the later ones.
use Rattle.std.proofs.Common.{◌≡◌, ◌+◌, ◌-◌, ◌<◌, ◌∷◌, length, arith}
use Rattle.ml_heap.specs.Changes.{stands_for, arguments_of}
use Rattle.ml_builtin.proofs.ArgumentsPut.{put_before, stands_before}
use Rattle.ml_builtin.proofs.ground.push_arguments.Goals as goal

pub loop-i-preserved : goal.loop-i-preserved
loop-i-preserved c =
    let put = c.loop-i.invariant.put in
    let args = arguments_of (stands_for c.args.heap.now c.args.at) in
    let inside : c.loop-i.i - 1 < length args = omega (arith, c.loop-i.invariant.small, c.loop-i-test.true, c.requires.arity) in
    let next : c.loop-i.i ≡ c.loop-i.i - 1 + 1 = omega (arith, c.loop-i-test.true) in
    record {
      small = omega (arith, c.loop-i.invariant.small);
      put = (
        c.arg.result ∷ put.0,
        (
          put_before _ _ _ put.0 c.arg.result put.1.0 c.in_ok-push.ensures.items,
          (c.arg.ensures.inside, put.1.1),
          stands_before c.args.heap.now args put.0 c.arg.result (c.loop-i.i - 1) c.loop-i.i next inside put.1.2 c.arg.ensures.argument,
        ),
      );
    }
