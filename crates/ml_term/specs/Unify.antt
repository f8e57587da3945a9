-- Unification by rewriting a list of equations between trees. The code binds variables and keeps
-- what it bound; here a variable is replaced everywhere.
use Rattle.std.specs.Prelude.{ℕ, ◌+◌, ◌&&◌, ◌==◌, nat_lt, if◌then◌else◌, List, [], ◌∷◌, ◌++◌, map}
use Rattle.std.specs.Prelude.{Option, Some, None}
use Rattle.std.specs.List.{zip, flat_map}
use Rattle.std.specs.Ordering.{int_eq}
use Rattle.std.specs.Str.{bytes_eq}
use Rattle.std.proofs.Common.{inl, inr}
use Rattle.ml_term.specs.Tree.{Tree, variable, integer, atom, compound, list_of, arity, variables}
use Rattle.ml_term.specs.Tree.{nodes, occurs, has, substitute}
use Rattle.ml_term.specs.Runs.{Next, now, run}

-- two terms that are to be made equal
abbrev pub Equation : Type 0
Equation = Tree × Tree

-- a finite map from variables to terms, the latest binding last
abbrev pub Map : Type 0
Map = List (ℕ × Tree)

-- what a map has for a variable: its term, or the variable itself
abbrev pub value_of : Map → ℕ → Tree
value_of [] n = variable n
value_of (b ∷ bs) n = if b.0 == n then b.1 else value_of bs n

-- a term with the map's term in place of each variable
abbrev pub apply : Map → Tree → Tree
apply m = substitute (value_of m)

-- the map that has one variable
abbrev pub binding : ℕ → Tree → Map
binding n t = (n, t) ∷ []

-- what is done with one equation
pub data Step : Type 0 where
  delete : Step
  decompose : List Equation → Step
  eliminate : ℕ → Tree → Step
  clash : Step

-- Equal sides are dropped. Of two different variables the younger, which has the greater number, is
-- replaced by the older. A variable against a term in which it occurs has no unifier. Compounds of
-- equal name and arity give the equations of their arguments.
abbrev pub step : Tree → Tree → Step
step (variable m) (variable n) = if m == n then delete
    else (if nat_lt m n then eliminate n (variable m) else eliminate m (variable n))
step (variable m) t = if occurs m t then clash else eliminate m t
step t (variable n) = if occurs n t then clash else eliminate n t
step (integer y) (integer z) = if int_eq y z then delete else clash
step (atom f) (atom g) = if bytes_eq f g then delete else clash
step (compound f ts) (compound g us) =
    if bytes_eq f g && (arity ts == arity us) then decompose (zip (list_of ts) (list_of us))
    else clash
step t u = clash

-- the equations that are left, and the map so far
pub record UnifierState : Type 0 where
  pub left : List Equation
  pub map : Map

-- one variable replaced in all equations and in all terms of the map
abbrev pub replace_variable : ℕ → Tree → List Equation → Map → UnifierState
replace_variable n t es m = record {
  left = map (λ e. (apply (binding n t) e.0, apply (binding n t) e.1)) es;
  map = map (λ b. (b.0, apply (binding n t) b.1)) m ++ (n, t) ∷ [];
}

-- what a step leads to
abbrev pub after_step : Step → List Equation → Map → Next UnifierState (Option Map)
after_step delete es m = now (inr (record { left = es; map = m }))
after_step (decompose us) es m = now (inr (record { left = us ++ es; map = m }))
after_step (eliminate n t) es m = now (inr (replace_variable n t es m))
after_step clash es m = now (inl None)

-- the first equation is taken; where none is left, the map is the result
abbrev pub turn_of : List Equation → Map → Next UnifierState (Option Map)
turn_of [] m = now (inl (Some m))
turn_of (e ∷ es) m = after_step (step e.0 e.1) es m

-- a turn of unification
abbrev pub turn : UnifierState → Next UnifierState (Option Map)
turn s = turn_of s.left s.map

-- how many different numbers there are
abbrev pub distinct_count : List ℕ → ℕ
distinct_count [] = 0
distinct_count (n ∷ ns) = (if has n ns then 0 else 1) + distinct_count ns

-- how many different variables stand in the equations: a replacement lowers it
abbrev pub variables_left : UnifierState → ℕ
variables_left s = distinct_count (flat_map (λ e. variables e.0 ++ variables e.1) s.left)

-- how many nodes some equations have
abbrev pub nodes_in : List Equation → ℕ
nodes_in [] = 0
nodes_in (e ∷ es) = nodes e.0 + nodes e.1 + nodes_in es

-- how many nodes the equations have: every other step lowers it
abbrev pub nodes_left : UnifierState → ℕ
nodes_left s = nodes_in s.left

-- what the equations that are left give, with the map so far
unfoldable pub solve_equations : List Equation → Map → Option Map
solve_equations es m = run turn variables_left nodes_left (λ s. None)
    (record { left = es; map = m })

-- the most general unifier of some equations, or none
abbrev pub mgu : List Equation → Option Map
mgu es = solve_equations es []

-- the most general unifier of two terms, or none
abbrev pub unifier : Tree → Tree → Option Map
unifier t u = mgu ((t, u) ∷ [])
