use Rattle.ml_outside.proofs.BytesPassed.{Passed}
use Rattle.ml_outside.proofs.transfer.write_whole.Given as goal

-- what is gone from `rest` was taken
abbrev pub invariant-loop : goal.invariant-loop
invariant-loop g l = Passed (g.W.Write.contents l.initial.writer) (g.W.Write.contents l.writer) l.fn.bytes l.rest
