-- The terms in a body: what its goals are given, and the variables that stand as bodies. A body is
-- its control constructs with these terms in their places.
use Rattle.std.specs.Prelude.{Bool, true, ◌&&◌, List, [], ◌∷◌, ◌++◌, map, if◌then◌else◌}
use Rattle.ml_term.specs.Tree.{Tree, variable, integer, atom, compound, no_trees, tree, compound_2}
use Rattle.ml_term.specs.Tree.{trees_of, list_of}
use Rattle.ml_search.specs.TypeTests.{is_variable}
use Rattle.ml_search.specs.Bodies.{Body, true_goal, fail_goal, cut, conjunction, disjunction}
use Rattle.ml_search.specs.Bodies.{if_then, if_then_else, call, once, not_provable, findall, catch}
use Rattle.ml_search.specs.Bodies.{throw, predication, joins_bodies}

-- the terms in a body, from the left
abbrev pub terms_in : Body → List Tree
terms_in true_goal = []
terms_in fail_goal = []
terms_in cut = []
terms_in (conjunction a b) = terms_in a ++ terms_in b
terms_in (disjunction a b) = terms_in a ++ terms_in b
terms_in (if_then c t) = terms_in c ++ terms_in t
terms_in (if_then_else c t e) = terms_in c ++ terms_in t ++ terms_in e
terms_in (call t) = t ∷ []
terms_in (once t) = t ∷ []
terms_in (not_provable t) = t ∷ []
terms_in (findall t u v) = t ∷ u ∷ v ∷ []
terms_in (catch t u v) = t ∷ u ∷ v ∷ []
terms_in (throw t) = t ∷ []
terms_in (predication f ts) = ts

-- A term that is taken as a body, with each argument of its goals and each variable that stands as
-- a body changed. Its names, its connectives and the number of each goal's arguments stay.
abbrev pub change_terms : (Tree → Tree) → Tree → Tree
change_terms s (variable n) = s (variable n)
change_terms s (integer z) = integer z
change_terms s (atom f) = atom f
change_terms s (compound f (tree t (tree u no_trees))) =
    if joins_bodies f then compound_2 f (change_terms s t) (change_terms s u)
    else compound_2 f (s t) (s u)
change_terms s (compound f ts) = compound f (trees_of (map s (list_of ts)))

-- whether each variable that stands as a body stays a variable
abbrev pub keeps_variables : (Tree → Tree) → Tree → Bool
keeps_variables s (variable n) = is_variable (s (variable n))
keeps_variables s (compound f (tree t (tree u no_trees))) =
    if joins_bodies f then keeps_variables s t && keeps_variables s u
    else true
keeps_variables s t = true
