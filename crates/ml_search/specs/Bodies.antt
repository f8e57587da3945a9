-- Bodies as they are run. A term is taken in once, and its control constructs are fixed then,
-- whatever its variables are bound to later. The code runs instructions; here a body is a tree of
-- its control constructs.
use Rattle.std.specs.Prelude.{ℕ, ◌+◌, Bool, true, false, ◌&&◌, ◌||◌, not, List, [], ◌∷◌, map}
use Rattle.std.specs.Prelude.{Option, codes, if◌then◌else◌}
use Rattle.std.specs.Str.{bytes_eq}
use Rattle.ml_term.specs.Tree.{Tree, variable, integer, atom, compound, no_trees, tree, trees_of}
use Rattle.ml_term.specs.Tree.{list_of}
use Rattle.ml_search.specs.TypeTests.{is_variable}
use Rattle.ml_search.specs.ListTerms.{is_list, ends_in_variable}
use Rattle.ml_search.specs.Errors.{instantiation_error, type_error, resource_error, is_too_large}
use Rattle.ml_search.specs.Errors.{first_fault}

-- `true`, `fail` and `!`; `(A, B)` and `(A ; B)`; `(C -> T)` and `(C -> T ; E)`; `call(G)`,
-- `once(G)` and `\+ G`; `findall(T, G, L)`; `catch(G, C, K)` and `throw(B)`; and every other goal,
-- by its name and arguments
pub data Body : Type 0 where
  true_goal : Body
  fail_goal : Body
  cut : Body
  conjunction : Body → Body → Body
  disjunction : Body → Body → Body
  if_then : Body → Body → Body
  if_then_else : Body → Body → Body → Body
  call : Tree → Body
  once : Tree → Body
  not_provable : Tree → Body
  findall : Tree → Tree → Tree → Body
  catch : Tree → Tree → Tree → Body
  throw : Tree → Body
  predication : List ℕ → List Tree → Body

-- a disjunction of two bodies: a condition on its left makes it a choice between two
abbrev pub disjunction_of : Body → Body → Body
disjunction_of (if_then c t) e = if_then_else c t e
disjunction_of a b = disjunction a b

-- an atom as a body
abbrev pub body_from_atom : List ℕ → Body
body_from_atom f =
    if bytes_eq f (codes "true") then true_goal
    else if bytes_eq f (codes "fail") then fail_goal
    else if bytes_eq f (codes "!") then cut
    else predication f []

-- a compound of one argument as a body
abbrev pub body_from_1 : List ℕ → Tree → Body
body_from_1 f t =
    if bytes_eq f (codes "call") then call t
    else if bytes_eq f (codes "once") then once t
    else if bytes_eq f (codes "\\+") then not_provable t
    else if bytes_eq f (codes "throw") then throw t
    else predication f (t ∷ [])

-- a compound of two arguments, with each of them taken in, and what it is where it is no control
-- construct
abbrev pub body_from_2 : List ℕ → Body → Body → Body → Body
body_from_2 f a b goal =
    if bytes_eq f (codes ",") then conjunction a b
    else if bytes_eq f (codes ";") then disjunction_of a b
    else if bytes_eq f (codes "->") then if_then a b
    else goal

-- a compound of three arguments as a body
abbrev pub body_from_3 : List ℕ → Tree → Tree → Tree → Body
body_from_3 f t u v =
    if bytes_eq f (codes "findall") then findall t u v
    else if bytes_eq f (codes "catch") then catch t u v
    else predication f (t ∷ u ∷ v ∷ [])

-- A term taken in as a body. A variable that stands as a body is `call` of it. No body is an
-- integer.
abbrev pub body_from : Tree → Body
body_from (variable n) = call (variable n)
body_from (integer z) = fail_goal
body_from (atom f) = body_from_atom f
body_from (compound f (tree t no_trees)) = body_from_1 f t
body_from (compound f (tree t (tree u no_trees))) =
    body_from_2 f (body_from t) (body_from u) (predication f (t ∷ u ∷ []))
body_from (compound f (tree t (tree u (tree v no_trees)))) = body_from_3 f t u v
body_from (compound f ts) = predication f (list_of ts)

-- the term of a goal
abbrev pub goal_term : List ℕ → List Tree → Tree
goal_term f [] = atom f
goal_term f (t ∷ ts) = compound f (trees_of (t ∷ ts))

-- `,`, `;` and `->`, with two arguments
abbrev pub joins_bodies : List ℕ → Bool
joins_bodies f = bytes_eq f (codes ",") || bytes_eq f (codes ";") || bytes_eq f (codes "->")

-- A variable, an atom and every compound is callable, but an integer isn't, and `,`, `;` and `->`
-- are where both of their parts are.
abbrev pub is_callable : Tree → Bool
is_callable (integer z) = false
is_callable (compound f (tree t (tree u no_trees))) =
    if joins_bodies f then is_callable t && is_callable u
    else true
is_callable t = true

-- a body with each of its terms changed
abbrev pub in_body : (Tree → Tree) → Body → Body
in_body s true_goal = true_goal
in_body s fail_goal = fail_goal
in_body s cut = cut
in_body s (conjunction a b) = conjunction (in_body s a) (in_body s b)
in_body s (disjunction a b) = disjunction (in_body s a) (in_body s b)
in_body s (if_then c t) = if_then (in_body s c) (in_body s t)
in_body s (if_then_else c t e) = if_then_else (in_body s c) (in_body s t) (in_body s e)
in_body s (call t) = call (s t)
in_body s (once t) = once (s t)
in_body s (not_provable t) = not_provable (s t)
in_body s (findall t u v) = findall (s t) (s u) (s v)
in_body s (catch t u v) = catch (s t) (s u) (s v)
in_body s (throw t) = throw (s t)
in_body s (predication f ts) = predication f (map s ts)

-- The size of a body: each `,` and `;` counts once, each `->` twice, and each other goal once.
abbrev pub body_size : Body → ℕ
body_size (conjunction a b) = 1 + body_size a + body_size b
body_size (disjunction a b) = 1 + body_size a + body_size b
body_size (if_then c t) = 2 + body_size c + body_size t
body_size (if_then_else c t e) = 3 + body_size c + body_size t + body_size e
body_size b = 1

-- what is raised for a goal that is given as an argument, if anything
abbrev pub goal_fault : Tree → Option Tree
goal_fault g =
    first_fault
    ((is_variable g, instantiation_error)
    ∷ (is_too_large g, resource_error (codes "term"))
    ∷ (not (is_callable g), type_error (codes "callable") g)
    ∷ [])

-- what is raised for a ball, if anything
abbrev pub ball_fault : Tree → Option Tree
ball_fault t =
    first_fault
    ((is_variable t, instantiation_error) ∷ (is_too_large t, resource_error (codes "term")) ∷ [])

-- what is raised for the list of a `findall/3`, if anything
abbrev pub list_fault : Tree → Option Tree
list_fault l =
    first_fault ((not (is_list l || ends_in_variable l), type_error (codes "list") l) ∷ [])
