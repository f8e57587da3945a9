-- What a map of unification is for: the substitutions that make equations' sides equal, and how one
-- map follows another.
use Rattle.std.specs.Prelude.{◌≡◌, ℕ, List, [], ◌∷◌, ◌++◌, map, Option, Some, None}
use Rattle.std.specs.List.{flat_map}
use Rattle.ml_term.specs.Tree.{Tree, variables, substitute}
use Rattle.ml_term.specs.Unify.{Equation, Map, Step, delete, decompose, eliminate, clash, binding}
use Rattle.ml_term.specs.Unify.{apply, solve_equations}

-- whether a substitution makes the two sides of each equation equal
abbrev pub Unifies : (ℕ → Tree) → List Equation → Type 0
Unifies s [] = Unit {0}
Unifies s (e ∷ es) = (substitute s e.0 ≡ substitute s e.1) × Unifies s es

-- whether two lists of equations are made equal by the same substitutions
abbrev pub HaveTheSameUnifiers : List Equation → List Equation → Type 0
HaveTheSameUnifiers es fs = (s : ℕ → Tree) →
    (Unifies s es → Unifies s fs) × (Unifies s fs → Unifies s es)

-- equations with a map applied to both sides
abbrev pub equations_under : Map → List Equation → List Equation
equations_under m = map (λ e. (apply m e.0, apply m e.1))

-- a map with another map applied to its terms
abbrev pub terms_under : Map → Map → Map
terms_under n = map (λ b. (b.0, apply n b.1))

-- a map and after it another one: the second is applied to the first's terms
abbrev pub compose : Map → Map → Map
compose m n = terms_under n m ++ n

-- a map, and after it the map that came, if one did
abbrev pub compose_result : Map → Option Map → Option Map
compose_result m None = None
compose_result m (Some n) = Some (compose m n)

-- the equations solved under the map that came, if one did
abbrev pub solve_after : List Equation → Option Map → Option Map
solve_after fs None = None
solve_after fs (Some m) = solve_equations (equations_under m fs) m

-- the variables that a map replaces
abbrev pub replaced_variables : Map → List ℕ
replaced_variables m = map (λ b. b.0) m

-- What the rules of unification lead to, by what they say of the first equation: the definition
-- counts turns so as to end, and this does not.
abbrev pub solve_by_step : Step → List Equation → Map → Option Map
solve_by_step delete es m = solve_equations es m
solve_by_step (decompose us) es m = solve_equations (us ++ es) m
solve_by_step (eliminate n t) es m =
    solve_equations (equations_under (binding n t) es) (compose m (binding n t))
solve_by_step clash es m = None

-- the variables of some equations
abbrev pub variables_in : List Equation → List ℕ
variables_in = flat_map (λ e. variables e.0 ++ variables e.1)
