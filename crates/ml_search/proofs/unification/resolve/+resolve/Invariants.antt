use Rattle.std.proofs.Common.{◌+◌, ◌*◌, ◌≡◌, take, length, true}
use Rattle.ml_term.specs.Seen.{all_seen}
use Rattle.ml_term.specs.Tree.{nodes, nodes_of, trees_of}
use Rattle.ml_term.specs.Unify.{apply}
use Rattle.ml_term.specs.Valid.{are_valid}
use Rattle.ml_search.specs.inside.Triangular.{map_of}
use Rattle.ml_search.specs.inside.Unifying.{bindings_of, tree_of, trees_under}
use Rattle.ml_search.proofs.Unifying.TermsResolved.{under_map}
use Rattle.ml_search.proofs.unification.resolve.+resolve.Given as goal

abbrev pub decreases-resolve : goal.decreases-resolve
decreases-resolve l = 2 * nodes (apply (map_of (bindings_of l.bindings.now.entries)) (tree_of l.at))

abbrev pub decreases-resolve_all : goal.decreases-resolve_all
decreases-resolve_all l = 2 * nodes_of (trees_under (map_of (bindings_of l.bindings.now.entries)) 0 l.ts.now) + 1

abbrev pub invariant-resolve_all-loop-t : goal.invariant-resolve_all-loop-t
invariant-resolve_all-loop-t l = record {
  same : all_seen l.us.items ≡ under_map (map_of (bindings_of l.bindings.entries)) (take l.t-index l.ts);
  valid : are_valid (trees_of (all_seen l.us.items)) ≡ true;
  count : length l.us.items ≡ l.t-index;
}
