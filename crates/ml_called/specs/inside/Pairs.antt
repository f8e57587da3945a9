-- Compounds of two arguments, and those of them that join bodies.
use Rattle.std.specs.Prelude.{ℕ, ◌+◌, Bool, true, false, ◌&&◌, List, [], ◌∷◌}
use Rattle.ml_term.specs.Tree.{Tree, compound, no_trees, tree, nodes}
use Rattle.ml_search.specs.Bodies.{joins_bodies, is_callable}
use Rattle.ml_heap.specs.Changes.{Changes, stands_for}

-- whether a term is a compound of two arguments
abbrev pub is_pair : Tree → Bool
is_pair (compound f (tree t (tree u no_trees))) = true
is_pair t = false

-- whether a term is `,`, `;` or `->` of two arguments
abbrev pub is_joined : Tree → Bool
is_joined (compound f (tree t (tree u no_trees))) = joins_bodies f
is_joined t = false

-- whether the terms of some cells are all callable
abbrev pub are_callable : Changes → List ℕ → Bool
are_callable h [] = true
are_callable h (q ∷ qs) = is_callable (stands_for h q) && are_callable h qs

-- how many nodes the terms of some cells have together
abbrev pub nodes_at : Changes → List ℕ → ℕ
nodes_at h [] = 0
nodes_at h (q ∷ qs) = nodes (stands_for h q) + nodes_at h qs
