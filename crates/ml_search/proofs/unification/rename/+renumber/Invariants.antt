use Rattle.std.proofs.Common.{◌+◌, ◌*◌, ◌≡◌, take, map, length, true}
use Rattle.ml_term.specs.Seen.{all_seen, seen}
use Rattle.ml_term.specs.Tree.{nodes, nodes_of, trees_of, substitute, place_in, variable}
use Rattle.ml_term.specs.Valid.{are_valid}
use Rattle.ml_search.proofs.unification.rename.+renumber.Given as goal

abbrev pub decreases-renumber : goal.decreases-renumber
decreases-renumber l = 2 * nodes (seen l.t.now)

abbrev pub decreases-renumber_all : goal.decreases-renumber_all
decreases-renumber_all l = 2 * nodes_of (trees_of (all_seen l.ts.now)) + 1

abbrev pub invariant-renumber_all-loop-t : goal.invariant-renumber_all-loop-t
invariant-renumber_all-loop-t l = record {
  same : all_seen l.us.items ≡ map (λ t. substitute (λ n. variable (l.first + place_in l.met.keys n)) (seen t)) (take l.t-index l.ts);
  valid : are_valid (trees_of (all_seen l.us.items)) ≡ true;
  count : length l.us.items ≡ l.t-index;
}
