-- Lists as terms: cells `'.'(Head, Tail)` that end in `[]`. The code walks from cell to cell; here
-- these are recursions on trees.
use Rattle.std.specs.Prelude.{Bool, false, List, [], ◌∷◌, codes, if◌then◌else◌}
use Rattle.std.specs.Str.{bytes_eq}
use Rattle.ml_term.specs.Tree.{Tree, atom, compound, compound_2, no_trees, tree}
use Rattle.ml_search.specs.TypeTests.{is_variable}

-- the term of a list
abbrev pub list_term : List Tree → Tree
list_term [] = atom (codes "[]")
list_term (t ∷ ts) = compound_2 (codes ".") t (list_term ts)

-- what stands behind the last cell of a term
abbrev pub list_end : Tree → Tree
list_end (compound f (tree t (tree u no_trees))) =
    if bytes_eq f (codes ".") then list_end u
    else compound_2 f t u
list_end t = t

-- the heads of the cells of a term
abbrev pub elements : Tree → List Tree
elements (compound f (tree t (tree u no_trees))) =
    if bytes_eq f (codes ".") then t ∷ elements u
    else []
elements t = []

-- whether a term is `[]`
abbrev pub is_nil : Tree → Bool
is_nil (atom f) = bytes_eq f (codes "[]")
is_nil t = false

-- whether a term is a list
abbrev pub is_list : Tree → Bool
is_list t = is_nil (list_end t)

-- whether a term is cells that end in a variable
abbrev pub ends_in_variable : Tree → Bool
ends_in_variable t = is_variable (list_end t)
