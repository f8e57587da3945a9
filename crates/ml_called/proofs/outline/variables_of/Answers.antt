-- One argument more: its cell, and its variable.
use Rattle.std.proofs.Common.{◌≡◌, ◌+◌, ◌-◌, ◌<◌, length, vec_len, arith}
use Rattle.ml_heap.specs.Changes.{stands_for, arguments_of}
use Rattle.ml_called.proofs.GoalOutlines.{one_variable, one_slot, count_taken}
use Rattle.ml_called.proofs.Slots.{begins_on, how_many}
use Rattle.ml_called.proofs.outline.variables_of.Goals as goal

pub loop-i-preserved : goal.loop-i-preserved
loop-i-preserved c =
    let h = c.args.heap.now in
    let ts = arguments_of (stands_for h c.args.at) in
    let i = c.loop-i.i in
    let before = c.loop-i.invariant in
    let l : i < length ts = omega (arith, c.loop-i-test.true, c.requires.arity) in
    let n = vec_len c.args.slots.now - c.args.env in
    let m = vec_len c.loop-i.slots - c.args.env in
    let p : m ≡ n + i = omega (
      arith,
      c.requires.env,
      c.args.slots.now.ok.0,
      c.loop-i.slots.ok.0,
      how_many h c.args.slots.now.items c.loop-i.slots.items _ before.cells,
      count_taken ts i l,
    ) in
    record {
      small = omega (arith, c.loop-i-test.true);
      variables =
          one_variable h ts i l n m c.loop-i.args.items _ _ before.variables c.in_ok-push.ensures.items c.in_ok-variable_of.ensures.variable p;
      cells =
          one_slot h ts i l c.args.slots.now.items c.loop-i.slots.items _ c.arg.result before.cells c.arg.ensures.inside c.arg.ensures.argument
          c.in_ok-variable_of.ensures.slots;
      begins = begins_on _ _ _ before.begins c.in_ok-variable_of.ensures.begins;
    }
