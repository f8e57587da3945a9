-- The plain built-ins, which need neither the program nor the lists. The code works on heap cells;
-- here a built-in gives a map.
use Rattle.std.specs.Prelude.{ℕ, zero, suc, ◌+◌, ◌==◌, nat_lt, nat_le, pos, Bool, ◌&&◌, ◌||◌, not}
use Rattle.std.specs.Prelude.{List, [], ◌∷◌, length, map, Option, Some, None, is_some, is_none}
use Rattle.std.specs.Prelude.{codes, if◌then◌else◌}
use Rattle.std.specs.declared.cmp.Ordering.{Ordering}
use Rattle.std.specs.Ordering.{int_cmp}
use Rattle.ml_term.specs.Tree.{Tree, variable, integer, atom, compound, trees_of, list_of, width}
use Rattle.ml_term.specs.Tree.{rename, is_ground}
use Rattle.ml_term.specs.Order.{tree_cmp}
use Rattle.ml_term.specs.Unify.{Equation, Map, mgu, unifier}
use Rattle.ml_term.specs.Keys.{argument, arguments, numbers_from}
use Rattle.ml_term.specs.Limits.{max_arguments}
use Rattle.ml_search.specs.Names.{look_up}
use Rattle.ml_search.specs.Program.{name_of, arity_of}
use Rattle.ml_search.specs.TypeTests.{is_variable, is_integer, is_atom, is_compound, is_atomic}
use Rattle.ml_search.specs.TypeTests.{is_negative, is_over, number_of}
use Rattle.ml_search.specs.ListTerms.{list_term, elements, is_list, is_nil, ends_in_variable}
use Rattle.ml_search.specs.Errors.{instantiation_error, type_error, domain_error, arity_error}
use Rattle.ml_search.specs.Errors.{kept_small, first_fault}
use Rattle.ml_search.specs.Db.{is_less, is_equal}
use Rattle.ml_search.specs.Evaluate.{Value, value, no_value, evaluate}

-- it fails, or binds by a map and goes on with the next variable number, or raises a term
pub data BuiltinResult : Type 0 where
  fails : BuiltinResult
  binds : Map → ℕ → BuiltinResult
  raises : Tree → BuiltinResult

-- a test, which binds nothing
abbrev pub test_result : Bool → ℕ → BuiltinResult
test_result b next = if b then binds [] next else fails

-- a raised term, which is replaced where it is too large
abbrev pub raise_result : Tree → BuiltinResult
raise_result t = raises (kept_small t)

-- equations that are to be solved
abbrev pub unify_result : List Equation → ℕ → BuiltinResult
unify_result es next = by (mgu es)
  where
    by : Option Map → BuiltinResult
    by None = fails
    by (Some m) = binds m next

-- what is done where no check applies
abbrev pub result_unless : Option Tree → BuiltinResult → BuiltinResult
result_unless None d = d
result_unless (Some t) d = raise_result t

-- the tests of one term
abbrev pub type_tests : List (List ℕ × (Tree → Bool))
type_tests =
    (codes "var", is_variable)
    ∷ (codes "nonvar", λ t. not (is_variable t))
    ∷ (codes "atom", is_atom)
    ∷ (codes "integer", is_integer)
    ∷ (codes "atomic", is_atomic)
    ∷ (codes "compound", is_compound)
    ∷ (codes "callable", λ t. is_atom t || is_compound t)
    ∷ (codes "ground", is_ground)
    ∷ []

-- the tests of two terms by the standard order
abbrev pub order_tests : List (List ℕ × (Ordering → Bool))
order_tests =
    (codes "==", is_equal)
    ∷ (codes "\\==", λ o. not (is_equal o))
    ∷ (codes "@<", is_less)
    ∷ (codes "@=<", λ o. is_less o || is_equal o)
    ∷ (codes "@>", λ o. not (is_less o || is_equal o))
    ∷ (codes "@>=", λ o. not (is_less o))
    ∷ []

-- the tests of two values
abbrev pub value_tests : List (List ℕ × (Ordering → Bool))
value_tests =
    (codes "=:=", is_equal)
    ∷ (codes "=\\=", λ o. not (is_equal o))
    ∷ (codes "<", is_less)
    ∷ (codes "=<", λ o. is_less o || is_equal o)
    ∷ (codes ">", λ o. not (is_less o || is_equal o))
    ∷ (codes ">=", λ o. not (is_less o))
    ∷ []

-- two values that are compared; the left one's fault comes first
abbrev pub compare_values : (Ordering → Bool) → Value → Value → ℕ → BuiltinResult
compare_values p (no_value e) w next = raise_result e
compare_values p (value x) (no_value e) next = raise_result e
compare_values p (value x) (value y) next = test_result (p (int_cmp x y)) next

-- `is/2`
abbrev pub assign : Tree → Value → ℕ → BuiltinResult
assign t (no_value e) next = raise_result e
assign t (value x) next = unify_result ((t, integer x) ∷ []) next

-- the name of a term by which `functor/3` and `=../2` know it: a compound's name as an atom, and
-- every other term itself
abbrev pub name_term : Tree → Tree
name_term (compound f ts) = atom f
name_term t = t

-- new variables from a number on
abbrev pub new_variables : ℕ → ℕ → List Tree
new_variables next n = map variable (numbers_from next n)

-- a term of this name with n new arguments, which are created from the left
abbrev pub new_term : Tree → ℕ → ℕ → Tree
new_term name zero next = name
new_term name (suc n) next = compound (name_of name) (trees_of (new_variables next (suc n)))

-- the checks of `functor(T, N, A)` where T is a variable
abbrev pub functor_fault : Tree → Tree → Option Tree
functor_fault n a =
    first_fault
    ((is_variable n || is_variable a, instantiation_error)
    ∷ (not (is_integer a), type_error (codes "integer") a)
    ∷ (is_compound n, type_error (codes "atomic") n)
    ∷ (is_negative a, domain_error (codes "not_less_than_zero") a)
    ∷ (is_over max_arguments a, arity_error)
    ∷ (is_over 0 a && is_integer n, type_error (codes "atom") n)
    ∷ [])

-- `functor(T, N, A)`
abbrev pub functor : Tree → Tree → Tree → ℕ → BuiltinResult
functor t n a next =
    if is_variable t
    then result_unless (functor_fault n a)
    (unify_result ((t, new_term n (number_of a) next) ∷ []) (next + number_of a))
    else unify_result ((n, name_term t) ∷ (a, integer (pos (arity_of t))) ∷ []) next

-- the checks of `arg(N, T, A)`
abbrev pub arg_fault : Tree → Tree → Option Tree
arg_fault n t =
    first_fault
    ((is_variable n || is_variable t, instantiation_error)
    ∷ (not (is_integer n), type_error (codes "integer") n)
    ∷ (not (is_compound t), type_error (codes "compound") t)
    ∷ (is_negative n, domain_error (codes "not_less_than_zero") n)
    ∷ [])

-- `arg(N, T, A)`: it fails where N is 0 or over the arity
abbrev pub arg : Tree → Tree → Tree → ℕ → BuiltinResult
arg n t a next =
    result_unless (arg_fault n t)
    (if nat_le 1 (number_of n) && nat_le (number_of n) (arity_of t)
    then unify_result ((a, argument (number_of n) (arguments t)) ∷ []) next
    else fails)

-- the first element of a list; of the empty one, `[]`
abbrev pub first_element : List Tree → Tree
first_element [] = atom (codes "[]")
first_element (h ∷ hs) = h

-- the checks of `T =.. L` where T is a variable
abbrev pub univ_fault : Tree → Tree → ℕ → Option Tree
univ_fault l h n =
    first_fault
    ((ends_in_variable l, instantiation_error)
    ∷ (not (is_list l), type_error (codes "list") l)
    ∷ (is_nil l, domain_error (codes "non_empty_list") l)
    ∷ (is_variable h, instantiation_error)
    ∷ ((n == 1) && is_compound h, type_error (codes "atomic") h)
    ∷ (nat_lt 1 n && not (is_atom h), type_error (codes "atom") h)
    ∷ (nat_lt (max_arguments + 1) n, arity_error)
    ∷ [])

-- the term of a list that has its name first and then its arguments
abbrev pub term_of_list : List Tree → Tree
term_of_list [] = atom (codes "[]")
term_of_list (h ∷ []) = h
term_of_list (h ∷ t ∷ ts) = compound (name_of h) (trees_of (t ∷ ts))

-- `T =.. L`
abbrev pub univ : Tree → Tree → ℕ → BuiltinResult
univ t l next =
    if is_variable t
    then result_unless (univ_fault l (first_element (elements l)) (length (elements l)))
    (unify_result ((t, term_of_list (elements l)) ∷ []) next)
    else unify_result ((l, list_term (name_term t ∷ list_of (arguments t))) ∷ []) next

-- `copy_term(T, C)`: the copy's variables are new, by first place
abbrev pub copy_term : Tree → Tree → ℕ → BuiltinResult
copy_term t c next = unify_result ((c, rename next t) ∷ []) (next + width t)

-- the other built-ins of two arguments
abbrev pub builtins_2 : List (List ℕ × (Tree → Tree → ℕ → BuiltinResult))
builtins_2 =
    (codes "=", λ t u. unify_result ((t, u) ∷ []))
    ∷ (codes "\\=", λ t u. test_result (is_none (unifier t u)))
    ∷ (codes "=..", univ)
    ∷ (codes "copy_term", copy_term)
    ∷ (codes "is", λ t u. assign t (evaluate u))
    ∷ []

-- the built-ins of three arguments
abbrev pub builtins_3 : List (List ℕ × (Tree → Tree → Tree → ℕ → BuiltinResult))
builtins_3 = (codes "functor", functor) ∷ (codes "arg", arg) ∷ []

-- the first that there is
abbrev pub or_else : {A : Type 0} → Option A → Option A → Option A
or_else None b = b
or_else (Some a) b = Some a

-- what a table's entry makes
abbrev pub with : {A B : Type 0} → (A → B) → Option A → Option B
with f None = None
with f (Some a) = Some (f a)

-- A plain built-in by its name and arguments: what it does, where the next variable has a number.
-- There is none of another name or arity.
abbrev pub builtin : List ℕ → List Tree → Option (ℕ → BuiltinResult)
builtin f (t ∷ []) = with (λ p. test_result (p t)) (look_up type_tests f)
builtin f (t ∷ u ∷ []) =
    or_else (with (λ d. d t u) (look_up builtins_2 f))
    (or_else (with (λ p. test_result (p (tree_cmp t u))) (look_up order_tests f))
    (with (λ p. compare_values p (evaluate t) (evaluate u)) (look_up value_tests f)))
builtin f (t ∷ u ∷ v ∷ []) = with (λ d. d t u v) (look_up builtins_3 f)
builtin f ts = None

-- whether there is a plain built-in of this name and arity
abbrev pub is_plain : List ℕ → ℕ → Bool
is_plain f n = is_some (builtin f (new_variables 0 n))
