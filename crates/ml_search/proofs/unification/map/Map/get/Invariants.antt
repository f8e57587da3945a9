use Rattle.std.proofs.Common.{◌≡◌, drop}
use Rattle.ml_search.specs.MapSeen.{map_seen}
use Rattle.ml_search.specs.MapSeen.{bound_term}
use Rattle.ml_search.proofs.unification.map.Map.get.Given as goal

abbrev pub invariant-loop-replaced : goal.invariant-loop-replaced
invariant-loop-replaced l = bound_term (map_seen (drop l.replaced-index l.replaced-items)) l.variable ≡ bound_term (map_seen l.self) l.variable
