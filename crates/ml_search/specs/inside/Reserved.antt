-- The names that no declaration and no clause may define, by the number of their arguments: the
-- tables of the search, put together. No public clause cites this module.
use Rattle.std.specs.Prelude.{ℕ, ◌==◌, Bool, List, [], ◌∷◌, ◌++◌, map, if◌then◌else◌}
use Rattle.std.specs.List.{list_any}
use Rattle.std.specs.Str.{bytes_eq}
use Rattle.ml_search.specs.Builtins.{type_tests, order_tests, value_tests, builtins_2, builtins_3}
use Rattle.ml_search.specs.Procedures.{control_names, store_names}

-- the names of an arity
abbrev pub of_arity : ℕ → List (List ℕ × ℕ) → List (List ℕ)
of_arity n [] = []
of_arity n (e ∷ es) = if e.1 == n then e.0 ∷ of_arity n es else of_arity n es

-- the names of a table
abbrev pub names_of : {A : Type 0} → List (List ℕ × A) → List (List ℕ)
names_of = map (λ e. e.0)

-- those without arguments
abbrev pub reserved_names_0 : List (List ℕ)
reserved_names_0 = of_arity 0 control_names

-- those of one argument
abbrev pub reserved_names_1 : List (List ℕ)
reserved_names_1 = of_arity 1 control_names ++ of_arity 1 store_names ++ names_of type_tests

-- those of two arguments
abbrev pub reserved_names_2 : List (List ℕ)
reserved_names_2 =
    of_arity 2 control_names ++ names_of builtins_2 ++ names_of order_tests ++ names_of value_tests

-- those of three arguments
abbrev pub reserved_names_3 : List (List ℕ)
reserved_names_3 = of_arity 3 control_names ++ names_of builtins_3

-- whether a name is one of these
abbrev pub is_among : List (List ℕ) → List ℕ → Bool
is_among names f = list_any (λ n. bytes_eq n f) names
