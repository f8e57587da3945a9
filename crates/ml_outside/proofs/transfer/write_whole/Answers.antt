use Rattle.ml_outside.proofs.BytesPassed.{passed_more}
use Rattle.ml_outside.proofs.transfer.write_whole.Goals as goal

pub loop-preserved : goal.loop-preserved
loop-preserved g c = passed_more _ _ _ _ _ c.in_ok-taken.taken c.loop.invariant c.in_ok-taken.ensures.ok
