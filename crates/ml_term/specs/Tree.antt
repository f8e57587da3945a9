-- Terms as finite trees. The code has an enum with vectors of arguments, and heap cells above; a
-- tree has neither.
use Rattle.std.specs.Prelude.{ℕ, ◌+◌, Bool, true, false, ◌||◌, ◌&&◌, ◌==◌, ℤ, List, [], ◌∷◌, ◌++◌}
use Rattle.std.specs.Prelude.{length, if◌then◌else◌}

mutual
  -- a variable by its number, an integer, an atom by its name, or a compound of a name and
  -- arguments
  pub data Tree : Type 0 where
    variable : ℕ → Tree
    integer : ℤ → Tree
    atom : List ℕ → Tree
    compound : List ℕ → Trees → Tree

  -- the arguments of a compound, from the left
  pub data Trees : Type 0 where
    no_trees : Trees
    tree : Tree → Trees → Trees

-- a list of trees as arguments
abbrev pub trees_of : List Tree → Trees
trees_of [] = no_trees
trees_of (t ∷ ts) = tree t (trees_of ts)

-- arguments as a list of trees
abbrev pub list_of : Trees → List Tree
list_of no_trees = []
list_of (tree t ts) = t ∷ list_of ts

-- how many arguments there are
abbrev pub arity : Trees → ℕ
arity no_trees = 0
arity (tree t ts) = 1 + arity ts

-- a compound of one argument
abbrev pub compound_1 : List ℕ → Tree → Tree
compound_1 f t = compound f (tree t no_trees)

-- a compound of two arguments
abbrev pub compound_2 : List ℕ → Tree → Tree → Tree
compound_2 f t u = compound f (tree t (tree u no_trees))

-- a compound of three arguments
abbrev pub compound_3 : List ℕ → Tree → Tree → Tree → Tree
compound_3 f t u v = compound f (tree t (tree u (tree v no_trees)))

abbrev mutual
  -- how many nodes a term has
  pub nodes : Tree → ℕ
  nodes (variable n) = 1
  nodes (integer z) = 1
  nodes (atom f) = 1
  nodes (compound f ts) = 1 + nodes_of ts

  pub nodes_of : Trees → ℕ
  nodes_of no_trees = 0
  nodes_of (tree t ts) = nodes t + nodes_of ts

abbrev mutual
  -- the variables of a term, from the left, each as often as it stands there
  pub variables : Tree → List ℕ
  variables (variable n) = n ∷ []
  variables (integer z) = []
  variables (atom f) = []
  variables (compound f ts) = variables_of ts

  pub variables_of : Trees → List ℕ
  variables_of no_trees = []
  variables_of (tree t ts) = variables t ++ variables_of ts

-- whether a number stands in a list
abbrev pub has : ℕ → List ℕ → Bool
has n [] = false
has n (m ∷ ms) = (m == n) || has n ms

-- whether a variable stands in a term
abbrev pub occurs : ℕ → Tree → Bool
occurs n t = has n (variables t)

-- whether a term has no variable
abbrev pub is_ground : Tree → Bool
is_ground t = (length (variables t)) == 0

abbrev mutual
  -- a term with a tree in place of each variable
  pub substitute : (ℕ → Tree) → Tree → Tree
  substitute s (variable n) = s n
  substitute s (integer z) = integer z
  substitute s (atom f) = atom f
  substitute s (compound f ts) = compound f (substitute_in s ts)

  pub substitute_in : (ℕ → Tree) → Trees → Trees
  substitute_in s no_trees = no_trees
  substitute_in s (tree t ts) = tree (substitute s t) (substitute_in s ts)

-- a list of numbers without one of them
abbrev pub without : ℕ → List ℕ → List ℕ
without n [] = []
without n (m ∷ ms) = if m == n then without n ms else m ∷ without n ms

-- each number once, at its first place
abbrev pub firsts : List ℕ → List ℕ
firsts [] = []
firsts (n ∷ ns) = n ∷ without n (firsts ns)

-- the place of a number in a list, from 0, and the list's length where it isn't there
abbrev pub place_in : List ℕ → ℕ → ℕ
place_in [] n = 0
place_in (m ∷ ms) n = if m == n then 0 else 1 + place_in ms n

-- how many different variables a term has
abbrev pub width : Tree → ℕ
width t = length (firsts (variables t))

-- a term whose variables are new ones from a number on, by first place
abbrev pub rename : ℕ → Tree → Tree
rename next t = substitute (λ n. variable (next + place_in (firsts (variables t)) n)) t

-- whether a list of numbers is `next` and the numbers that follow it
abbrev pub counts_from : ℕ → List ℕ → Bool
counts_from next [] = true
counts_from next (n ∷ ns) = (n == next) && counts_from (1 + next) ns

-- whether a term's variables are numbered from 0 by first place
abbrev pub is_numbered : Tree → Bool
is_numbered t = counts_from 0 (firsts (variables t))
