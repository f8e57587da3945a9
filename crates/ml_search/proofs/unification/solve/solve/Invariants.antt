use Rattle.std.proofs.Common.{◌≡◌, ℕ, true}
use Rattle.ml_term.specs.Unify.{solve_equations, unifier}
use Rattle.ml_term.specs.Unifiers.{equations_under}
use Rattle.ml_term.proofs.UnificationEnds.{turns}
use Rattle.ml_search.specs.inside.Triangular.{IsTriangular, map_of}
use Rattle.ml_search.specs.inside.Unifying.{are_sound_bindings, are_sound_pairs, bindings_of, equations_of, is_sound, state_of, tree_of}
use Rattle.ml_search.proofs.unification.solve.solve.Given as goal

abbrev pub invariant-loop-pair : goal.invariant-loop-pair
invariant-loop-pair l = record {
  solved : solve_equations (equations_under (map_of (bindings_of l.bindings.entries)) (equations_of l.pairs.items)) (map_of (bindings_of l.bindings.entries))
      ≡ unifier (tree_of l.left) (tree_of l.right);
  triangular : IsTriangular (bindings_of l.bindings.entries);
  bindings : (most : ℕ) → is_sound most l.left ≡ true → is_sound most l.right ≡ true → are_sound_bindings most l.bindings.entries ≡ true;
  pairs : (most : ℕ) → is_sound most l.left ≡ true → is_sound most l.right ≡ true → are_sound_pairs most l.pairs.items ≡ true;
}

abbrev pub decreases-loop-pair : goal.decreases-loop-pair
decreases-loop-pair l = turns (state_of l.bindings.entries (equations_of l.pairs.items))
