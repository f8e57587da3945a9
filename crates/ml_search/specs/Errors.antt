-- The terms that are raised. The code builds them where a check applies; here the checks of a row
-- are a list.
use Rattle.std.specs.Prelude.{ℕ, nat_lt, pos, Bool, List, [], ◌∷◌, Option, Some, None, codes}
use Rattle.std.specs.Prelude.{if◌then◌else◌}
use Rattle.std.specs.Str.{bytes_eq}
use Rattle.ml_term.specs.Tree.{Tree, variable, integer, atom, compound, compound_1, compound_2}
use Rattle.ml_term.specs.Tree.{no_trees, tree, nodes}
use Rattle.ml_term.specs.Limits.{max_term_nodes}

-- a predicate as a term: its name and its arity
abbrev pub indicator : List ℕ → ℕ → Tree
indicator f n = compound_2 (codes "/") (atom f) (integer (pos n))

-- an argument is a variable
abbrev pub instantiation_error : Tree
instantiation_error = atom (codes "instantiation_error")

-- a term isn't of the wanted type
abbrev pub type_error : List ℕ → Tree → Tree
type_error wanted t = compound_2 (codes "type_error") (atom wanted) t

-- a term isn't in the wanted domain
abbrev pub domain_error : List ℕ → Tree → Tree
domain_error wanted t = compound_2 (codes "domain_error") (atom wanted) t

-- a compound would have too many arguments
abbrev pub arity_error : Tree
arity_error = compound_1 (codes "representation_error") (atom (codes "max_arity"))

-- an expression has no value
abbrev pub evaluation_error : List ℕ → Tree
evaluation_error why = compound_1 (codes "evaluation_error") (atom why)

-- a limit is passed: `inferences`, `term`, `item`, `changes` or `output`
abbrev pub resource_error : List ℕ → Tree
resource_error what = compound_1 (codes "resource_error") (atom what)

-- there is no such predicate
abbrev pub existence_error : List ℕ → ℕ → Tree
existence_error f n =
    compound_2 (codes "existence_error") (atom (codes "procedure")) (indicator f n)

-- a predicate can't be changed in this way
abbrev pub permission_error : List ℕ → ℕ → Tree
permission_error f n =
    compound (codes "permission_error")
    (tree (atom (codes "modify"))
    (tree (atom (codes "static_procedure")) (tree (indicator f n) no_trees)))

-- whether a term has more nodes than a term may have that is called, raised or passed to the store
abbrev pub is_too_large : Tree → Bool
is_too_large t = nat_lt max_term_nodes (nodes t)

-- a term that is raised is replaced where it is too large
abbrev pub kept_small : Tree → Tree
kept_small t = if is_too_large t then resource_error (codes "term") else t

-- Checks, each with the term that it raises: they are made from the left, and the first that
-- applies raises its term.
abbrev pub first_fault : List (Bool × Tree) → Option Tree
first_fault [] = None
first_fault (c ∷ cs) = if c.0 then Some c.1 else first_fault cs

-- the ball of a raised term: its second argument is a new variable
abbrev pub error_ball : Tree → ℕ → Tree
error_ball t next = compound_2 (codes "error") (kept_small t) (variable next)

-- what is printed of a ball: of an error its first argument alone
abbrev pub formal_term : Tree → Tree
formal_term (compound f (tree t (tree u no_trees))) =
    if bytes_eq f (codes "error") then t
    else compound_2 f t u
formal_term t = t
