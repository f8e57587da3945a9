use Rattle.ml_key.proofs.PrefixPlaces.{HoldsSoFar}
use Rattle.ml_key.proofs.pattern.may_hold.Given as goal

abbrev pub invariant-loop-place : goal.invariant-loop-place
invariant-loop-place l = HoldsSoFar l.codes l.place l.prefix.bits
