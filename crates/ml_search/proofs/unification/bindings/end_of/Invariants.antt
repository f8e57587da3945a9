use Rattle.std.proofs.Common.{◌≡◌, ℕ, true}
use Rattle.ml_term.specs.Unify.{apply}
use Rattle.ml_search.specs.inside.Triangular.{map_of}
use Rattle.ml_search.specs.inside.Unifying.{are_sound_bindings, bindings_of, is_sound, tree_of}
use Rattle.ml_search.proofs.Unifying.BoundChains.{age}
use Rattle.ml_search.proofs.unification.bindings.end_of.Given as goal

abbrev pub invariant-loop-end : goal.invariant-loop-end
invariant-loop-end l = record {
  same : apply (map_of (bindings_of l.bindings.entries)) (tree_of l.end) ≡ apply (map_of (bindings_of l.bindings.entries)) (tree_of l.at);
  sound : (most : ℕ) → are_sound_bindings most l.bindings.entries ≡ true → is_sound most l.at ≡ true → is_sound most l.end ≡ true;
}

abbrev pub decreases-loop-end : goal.decreases-loop-end
decreases-loop-end l = age (tree_of l.end)
