-- The names and arities of the plain built-ins, as the code's types have them.
use Rattle.std.specs.Prelude.{ℕ, ◌==◌, List, [], ◌∷◌, map, codes, Option, None, if◌then◌else◌}
use Rattle.ml_search.specs.Names.{look_up}
use Rattle.ml_builtin.specs.declared.plain.Plain.{Plain}
use Rattle.ml_builtin.specs.declared.plain.Plain.TheVariants.{One, Two, Three}
use Rattle.ml_builtin.specs.declared.plain.Binary.{Binary}
use Rattle.ml_builtin.specs.declared.plain.Binary.TheVariants.{Unify, NotUnifiable, Univ, CopyTerm}
use Rattle.ml_builtin.specs.declared.plain.Binary.TheVariants.{Is, Order, Value}
use Rattle.ml_builtin.specs.declared.plain.Ternary.{Ternary}
use Rattle.ml_builtin.specs.declared.plain.Ternary.TheVariants.{Functor, Arg}
use Rattle.ml_builtin.specs.declared.relation.Relation.{Relation}
use Rattle.ml_builtin.specs.declared.relation.Relation.TheVariants.{Equal, NotEqual, Less}
use Rattle.ml_builtin.specs.declared.relation.Relation.TheVariants.{LessOrEqual, Greater}
use Rattle.ml_builtin.specs.declared.relation.Relation.TheVariants.{GreaterOrEqual}
use Rattle.ml_builtin.specs.declared.type_test.TypeTest.{TypeTest}
use Rattle.ml_builtin.specs.declared.type_test.TypeTest.TheVariants.{Variable, NoVariable, Atom}
use Rattle.ml_builtin.specs.declared.type_test.TypeTest.TheVariants.{Integer, Atomic, Compound}
use Rattle.ml_builtin.specs.declared.type_test.TypeTest.TheVariants.{Callable, Ground}

-- the name of a test of one term
abbrev pub test_name : TypeTest → List ℕ
test_name Variable = codes "var"
test_name NoVariable = codes "nonvar"
test_name Atom = codes "atom"
test_name Integer = codes "integer"
test_name Atomic = codes "atomic"
test_name Compound = codes "compound"
test_name Callable = codes "callable"
test_name Ground = codes "ground"

-- the name of a relation of terms
abbrev pub order_name : Relation → List ℕ
order_name Equal = codes "=="
order_name NotEqual = codes "\\=="
order_name Less = codes "@<"
order_name LessOrEqual = codes "@=<"
order_name Greater = codes "@>"
order_name GreaterOrEqual = codes "@>="

-- the name of a relation of values
abbrev pub value_name : Relation → List ℕ
value_name Equal = codes "=:="
value_name NotEqual = codes "=\\="
value_name Less = codes "<"
value_name LessOrEqual = codes "=<"
value_name Greater = codes ">"
value_name GreaterOrEqual = codes ">="

-- the name of a built-in of two arguments
abbrev pub binary_name : Binary → List ℕ
binary_name Unify = codes "="
binary_name NotUnifiable = codes "\\="
binary_name Univ = codes "=.."
binary_name CopyTerm = codes "copy_term"
binary_name Is = codes "is"
binary_name (Order r) = order_name r
binary_name (Value r) = value_name r

-- the name of a built-in of three arguments
abbrev pub ternary_name : Ternary → List ℕ
ternary_name Functor = codes "functor"
ternary_name Arg = codes "arg"

-- the name of a plain built-in
abbrev pub plain_name : Plain → List ℕ
plain_name (One t) = test_name t
plain_name (Two b) = binary_name b
plain_name (Three b) = ternary_name b

-- how many arguments it takes
abbrev pub plain_arity : Plain → ℕ
plain_arity (One t) = 1
plain_arity (Two b) = 2
plain_arity (Three b) = 3

-- the plain built-ins of one argument
abbrev pub plain_1 : List Plain
plain_1 =
    One Variable ∷ One NoVariable ∷ One Atom ∷ One Integer ∷ One Atomic ∷ One Compound
    ∷ One Callable ∷ One Ground ∷ []

-- those of two arguments
abbrev pub plain_2 : List Plain
plain_2 =
    Two Unify ∷ Two NotUnifiable ∷ Two Univ ∷ Two CopyTerm ∷ Two Is
    ∷ Two (Order Equal) ∷ Two (Order NotEqual) ∷ Two (Order Less) ∷ Two (Order LessOrEqual)
    ∷ Two (Order Greater) ∷ Two (Order GreaterOrEqual)
    ∷ Two (Value Equal) ∷ Two (Value NotEqual) ∷ Two (Value Less) ∷ Two (Value LessOrEqual)
    ∷ Two (Value Greater) ∷ Two (Value GreaterOrEqual) ∷ []

-- those of three arguments
abbrev pub plain_3 : List Plain
plain_3 = Three Functor ∷ Three Arg ∷ []

-- built-ins under their names
abbrev pub named : List Plain → List (List ℕ × Plain)
named = map (λ b. (plain_name b, b))

-- the plain built-in of a name and an arity, if there is one
unfoldable pub plain_of : List ℕ → ℕ → Option Plain
plain_of f n =
    if n == 1 then look_up (named plain_1) f
    else if n == 2 then look_up (named plain_2) f
    else if n == 3 then look_up (named plain_3) f
    else None
