-- What was passed is ground.
use Rattle.std.proofs.Common.{◌≡◌, ◌<◌, ℕ, List, true, get_or}
use Rattle.ml_term.specs.Tree.{Tree, is_ground}
use Rattle.ml_heap.specs.Changes.{tree_in}
use Rattle.ml_heap.specs.inside.Layout.{FitAll}
use Rattle.ml_heap.proofs.links.are_ground.Given as goal

abbrev pub invariant-loop-arg : goal.invariant-loop-arg
invariant-loop-arg l = (ts : List Tree) → FitAll ts l.cells → (i : ℕ) → i < l.arg-index → is_ground (tree_in ts (get_or l.args i 0)) ≡ true
