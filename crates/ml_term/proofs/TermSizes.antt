-- A term has a node, and arguments are as many as their list has terms.
use Rattle.std.specs.Prelude.{◌≡◌, ◌≤◌, List, [], ◌∷◌, length, map}
use Rattle.std.proofs.Common.{arith, refl}
use Rattle.ml_term.specs.Tree.{Tree, variable, integer, atom, compound, nodes, trees_of, arity}

pub nodes_above_zero : (t : Tree) → 1 ≤ nodes t
nodes_above_zero (compound f ts) = omega arith
nodes_above_zero (variable n) = omega arith
nodes_above_zero (integer z) = omega arith
nodes_above_zero (atom f) = omega arith

pub arity_of_trees : {A : Type 0} (f : A → Tree) (ts : List A) → arity (trees_of (map f ts)) ≡ length ts
arity_of_trees f [] = refl
arity_of_trees f (t ∷ ts) = omega (arith, arity_of_trees f ts)

-- what every proof of this layer may need of the two
pub ruleset sizes = (nodes_above_zero, arity_of_trees)
