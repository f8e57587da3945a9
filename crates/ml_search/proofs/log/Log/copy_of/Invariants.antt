use Rattle.std.proofs.Common.{◌≡◌, take}
use Rattle.ml_search.proofs.log.Log.copy_of.Given as goal

-- the copy so far
abbrev pub invariant-loop-op : goal.invariant-loop-op
invariant-loop-op l = l.log ≡ take l.op-index l.op-items
