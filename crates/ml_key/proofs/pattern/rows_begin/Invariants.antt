use Rattle.ml_key.proofs.PrefixPlaces.{BeginsSoFar}
use Rattle.ml_key.proofs.pattern.rows_begin.Given as goal

abbrev pub invariant-loop-row : goal.invariant-loop-row
invariant-loop-row l = BeginsSoFar l.width l.place l.at l.rows l.row l.code l.prefix.bits
