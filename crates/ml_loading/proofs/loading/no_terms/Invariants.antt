use Rattle.std.proofs.Common.{◌≡◌, [], replicate}
use Rattle.ml_loading.specs.Lists.{all_trees}
use Rattle.ml_loading.proofs.loading.no_terms.Given as goal

abbrev pub invariant-loop-place : goal.invariant-loop-place
invariant-loop-place l = all_trees l.lists.items ≡ replicate l._place []
