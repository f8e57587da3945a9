use Rattle.std.proofs.Common.{◌≡◌, take, map, true}
use Rattle.std.specs.List.{list_all}
use Rattle.ml_term.specs.Seen.{seen}
use Rattle.ml_term.specs.Unify.{apply}
use Rattle.ml_term.specs.Valid.{is_valid}
use Rattle.ml_search.specs.MapSeen.{map_seen}
use Rattle.ml_search.specs.inside.Triangular.{map_of}
use Rattle.ml_search.specs.inside.Unifying.{bindings_of}
use Rattle.ml_search.proofs.unification.resolve.map_from.Given as goal

abbrev pub invariant-loop-i : goal.invariant-loop-i
invariant-loop-i l = record {
  same : map_seen l.pairs.items ≡ map (λ b. (b.0, apply (map_of (bindings_of l.bindings.entries)) b.1)) (bindings_of (take l.i l.bindings.entries));
  valid : list_all (λ b. is_valid (seen b.1)) l.pairs.items ≡ true;
}
