use Rattle.std.proofs.Common.{◌≡◌, ◌++◌, ◌-◌, ℕ, drop, true}
use Rattle.std.specs.List.{zip}
use Rattle.ml_search.specs.inside.Unifying.{are_sound_arguments, are_sound_pairs, equations_of, trees_from}
use Rattle.ml_search.proofs.unification.solve.push_arguments.Given as goal

abbrev pub invariant-loop-k : goal.invariant-loop-k
invariant-loop-k l = record {
  first : equations_of l.pairs.items
      ≡ zip (drop (l.count - l.k) (trees_from l.ts.base l.ts.terms.now)) (drop (l.count - l.k) (trees_from l.us.base l.us.terms.now))
      ++ equations_of l.fn.pairs.items;
  sound : (most : ℕ) → are_sound_arguments most l.ts ≡ true → are_sound_arguments most l.us ≡ true → are_sound_pairs most l.fn.pairs.items ≡ true →
      are_sound_pairs most l.pairs.items ≡ true;
}
