-- The values of arithmetic expressions, over integers without a bound. The code adds and multiplies
-- words of the machine.
use Rattle.std.specs.Prelude.{ℕ, ℤ, pos, negsuc, ◌+ℤ◌, ◌-ℤ◌, ◌*ℤ◌, int_div, int_rem, Bool, true}
use Rattle.std.specs.Prelude.{false, List, [], ◌∷◌, Option, Some, None, codes, if◌then◌else◌}
use Rattle.std.specs.Ordering.{int_eq}
use Rattle.ml_term.specs.Tree.{Tree, variable, integer, atom, compound, no_trees, tree, arity}
use Rattle.ml_term.specs.Valid.{is_in_range}
use Rattle.ml_search.specs.Errors.{indicator, instantiation_error, type_error, evaluation_error}
use Rattle.ml_search.specs.Names.{look_up}

-- an integer, or the term that is raised
pub data Value : Type 0 where
  value : ℤ → Value
  no_value : Tree → Value

-- a result, if it is in range
abbrev pub in_range : ℤ → Value
in_range z = if is_in_range z then value z else no_value (evaluation_error (codes "int_overflow"))

-- whether an integer is negative
abbrev pub is_below_zero : ℤ → Bool
is_below_zero (pos n) = false
is_below_zero (negsuc n) = true

-- the floor of the exact quotient: it is below the quotient truncated toward zero where that isn't
-- exact and the signs differ
abbrev pub floor_quotient : ℤ → ℤ → ℤ
floor_quotient x y =
    if int_eq (int_rem x y) (pos 0) then int_div x y
    else if is_below_zero (x *ℤ y) then int_div x y -ℤ pos 1
    else int_div x y

-- x less y times the floor of the exact quotient, which has the sign of y
abbrev pub modulo : ℤ → ℤ → ℤ
modulo x y = x -ℤ y *ℤ floor_quotient x y

-- what has a value where the divisor isn't zero
abbrev pub divide : (ℤ → ℤ → ℤ) → ℤ → ℤ → Value
divide f x y =
    if int_eq y (pos 0) then no_value (evaluation_error (codes "zero_divisor"))
    else in_range (f x y)

-- the operations on two integers: `//` truncates toward zero, and `x rem y` is `x - (x // y) * y`
abbrev pub operations : List (List ℕ × (ℤ → ℤ → Value))
operations =
    (codes "+", λ x y. in_range (x +ℤ y))
    ∷ (codes "-", λ x y. in_range (x -ℤ y))
    ∷ (codes "*", λ x y. in_range (x *ℤ y))
    ∷ (codes "//", divide int_div)
    ∷ (codes "rem", divide int_rem)
    ∷ (codes "mod", divide modulo)
    ∷ []

-- the operations on one integer
abbrev pub operations_1 : List (List ℕ × (ℤ → Value))
operations_1 = (codes "-", λ x. in_range (pos 0 -ℤ x)) ∷ []

-- what is no expression
abbrev pub evaluable_error : List ℕ → ℕ → Value
evaluable_error f n = no_value (type_error (codes "evaluable") (indicator f n))

-- an operation on the value of one argument
abbrev pub apply_1 : Option (ℤ → Value) → Value → Value → Value
apply_1 None otherwise v = otherwise
apply_1 (Some f) otherwise (no_value e) = no_value e
apply_1 (Some f) otherwise (value x) = f x

-- an operation on the values of two arguments: the left one's fault comes first
abbrev pub apply_2 : Option (ℤ → ℤ → Value) → Value → Value → Value → Value
apply_2 None otherwise v w = otherwise
apply_2 (Some f) otherwise (no_value e) w = no_value e
apply_2 (Some f) otherwise (value x) (no_value e) = no_value e
apply_2 (Some f) otherwise (value x) (value y) = f x y

-- The value of a term. That a term is no expression is found before its arguments are looked at.
abbrev pub evaluate : Tree → Value
evaluate (variable n) = no_value instantiation_error
evaluate (integer z) = value z
evaluate (atom f) = evaluable_error f 0
evaluate (compound f (tree t no_trees)) =
    apply_1 (look_up operations_1 f) (evaluable_error f 1) (evaluate t)
evaluate (compound f (tree t (tree u no_trees))) =
    apply_2 (look_up operations f) (evaluable_error f 2) (evaluate t) (evaluate u)
evaluate (compound f ts) = evaluable_error f (arity ts)
