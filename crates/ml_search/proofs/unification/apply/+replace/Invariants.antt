use Rattle.std.proofs.Common.{◌+◌, ◌*◌, ◌≡◌, take, map, length, true}
use Rattle.ml_term.specs.Seen.{all_seen, seen}
use Rattle.ml_term.specs.Tree.{nodes, nodes_of, trees_of}
use Rattle.ml_term.specs.Unify.{apply}
use Rattle.ml_term.specs.Valid.{are_valid}
use Rattle.ml_search.specs.MapSeen.{map_seen}
use Rattle.ml_search.proofs.unification.apply.+replace.Given as goal

abbrev pub decreases-replace : goal.decreases-replace
decreases-replace l = 2 * nodes (seen l.t.now)

abbrev pub decreases-replace_all : goal.decreases-replace_all
decreases-replace_all l = 2 * nodes_of (trees_of (all_seen l.ts.now)) + 1

abbrev pub invariant-replace_all-loop-t : goal.invariant-replace_all-loop-t
invariant-replace_all-loop-t l = record {
  same : all_seen l.us.items ≡ map (λ t. apply (map_seen l.m) (seen t)) (take l.t-index l.ts);
  valid : are_valid (trees_of (all_seen l.us.items)) ≡ true;
  count : length l.us.items ≡ l.t-index;
}
