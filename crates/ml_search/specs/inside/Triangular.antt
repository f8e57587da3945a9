-- Bindings of unification that are not replaced in one another, and the map that they stand for.
-- The terms of bindings are parts of the terms that are unified, so that they need no more room
-- than these; the map's terms can be exponentially larger. No public clause cites this module.
use Rattle.std.specs.Prelude.{◌≡◌, ℕ, nat_lt, Bool, true, IsTrue, [], ◌∷◌, map, None}
use Rattle.std.specs.List.{list_all}
use Rattle.ml_term.specs.Tree.{Tree, variable, integer, atom, compound}
use Rattle.ml_term.specs.Unify.{Map, apply, binding}
use Rattle.ml_term.specs.Unifiers.{compose}
use Rattle.ml_search.specs.MapSeen.{bound_term}

-- a map, and after it more bindings: of each, the term under the map so far replaces the variable
abbrev pub map_after : Map → Map → Map
map_after m [] = m
map_after m (b ∷ bs) = map_after (compose m (binding b.0 (apply m b.1))) bs

-- the map that bindings stand for
unfoldable pub map_of : Map → Map
map_of bs = map_after [] bs

-- whether a variable that stands for another one is the younger of them
abbrev pub is_older : ℕ → Tree → Bool
is_older n (variable k) = nat_lt k n
is_older n (integer z) = true
is_older n (atom f) = true
is_older n (compound f ts) = true

-- Each variable stands for its term under the whole map, and a variable that stands for a variable
-- for an older one.
pub record IsTriangular (bs : Map) : Type 0 where
  pub resolved : map_of bs ≡ map (λ b. (b.0, apply (map_of bs) b.1)) bs
  pub older : IsTrue (list_all (λ b. is_older b.0 b.1) bs)

-- whether a term is no variable that is bound
abbrev pub IsFree : Map → Tree → Type 0
IsFree bs (variable n) = bound_term bs n ≡ None
IsFree bs (integer z) = Unit {0}
IsFree bs (atom f) = Unit {0}
IsFree bs (compound f ts) = Unit {0}
