-- The map that a `Map` of the code is seen as, and what it has for a variable.
use Rattle.std.specs.Prelude.{ℕ, ◌==◌, if◌then◌else◌, List, [], ◌∷◌, map, Option, Some, None}
use Rattle.ml_term.specs.Tree.{Tree}
use Rattle.ml_term.specs.Seen.{seen}
use Rattle.ml_term.specs.Unify.{Map}
use Rattle.ml_term.specs.declared.term.Term.{Term}

-- what a variable is bound to, if it is
abbrev pub bound_term : Map → ℕ → Option Tree
bound_term [] n = None
bound_term (b ∷ bs) n = if b.0 == n then Some b.1 else bound_term bs n

-- each variable with the tree of its term, the latest bound last
abbrev pub map_seen : List (ℕ × Term) → Map
map_seen m = map (λ b. (b.0, seen b.1)) m
