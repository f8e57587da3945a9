use Rattle.std.proofs.Common.{take}
use Rattle.ml_split.proofs.PartingKeys.{IsFork}
use Rattle.ml_split.proofs.place.fork_of.Given as goal

abbrev pub invariant-loop-i : goal.invariant-loop-i
invariant-loop-i g l = IsFork l.guide.bits (take l.i (g.K.Keys.keys l.keys)) l.bits l.fork
