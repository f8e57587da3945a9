-- No more regions were looked at than there were.
use Rattle.std.proofs.Common.{◌≤◌}
use Rattle.ml_bench.proofs.relation.Relation.regions_looked_at.Given as goal

abbrev pub invariant-loop-i : goal.invariant-loop-i
invariant-loop-i l = l.looked ≤ l.i
