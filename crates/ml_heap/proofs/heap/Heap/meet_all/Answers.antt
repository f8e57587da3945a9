-- The cell that was met is one of them.
use Rattle.std.proofs.Common.{◌-◌, ◌<◌, arith, length}
use Rattle.ml_heap.proofs.TermWalks.{one_occurs}
use Rattle.ml_heap.proofs.heap.Heap.meet_all.Goals as goal

pub returns-then-branch-clause-found : goal.returns-then-branch-clause-found
returns-then-branch-clause-found c _ =
    let below : c.loop-i.i - 1 < length c.args.places.now = omega (arith, c.loop-i-test.true, c.loop-i.invariant.within) in
    one_occurs c.args.self.now c.args.number c.args.places.now (c.loop-i.i - 1) below (c.in_ok-meet.ensures.found c.if-branch.true)
