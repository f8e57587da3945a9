use Rattle.std.proofs.Common.{◌-◌, take}
use Rattle.ml_region.proofs.OwnerSearch.{Halving}
use Rattle.ml_region.proofs.searches.last_up_to.Given as goal

abbrev pub invariant-halves : goal.invariant-halves
invariant-halves g l = Halving (g.P.Prefixes.prefixes l.prefixes) (take l.n l.key.bits) l.low l.high

abbrev pub decreases-halves : goal.decreases-halves
decreases-halves g l = l.high - l.low
