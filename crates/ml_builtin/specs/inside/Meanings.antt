-- What the code's types mean in the words of the definitions.
use Rattle.std.specs.Prelude.{◌≡◌, ℕ, Bool, ◌||◌, not, List, [], ◌∷◌, None, codes}
use Rattle.std.specs.declared.cmp.Ordering.{Ordering}
use Rattle.ml_term.specs.Tree.{Tree, is_ground}
use Rattle.ml_search.specs.Builtins.{builtins_2, order_tests, value_tests}
use Rattle.ml_search.specs.Db.{is_less, is_equal}
use Rattle.ml_search.specs.Names.{look_up}
use Rattle.ml_search.specs.TypeTests.{is_variable, is_integer, is_atom, is_compound, is_atomic}
use Rattle.ml_builtin.specs.declared.relation.Relation.{Relation}
use Rattle.ml_builtin.specs.declared.relation.Relation.TheVariants.{Equal, NotEqual, Less}
use Rattle.ml_builtin.specs.declared.relation.Relation.TheVariants.{LessOrEqual, Greater}
use Rattle.ml_builtin.specs.declared.relation.Relation.TheVariants.{GreaterOrEqual}
use Rattle.ml_builtin.specs.declared.type_test.TypeTest.{TypeTest}
use Rattle.ml_builtin.specs.declared.type_test.TypeTest.TheVariants.{Variable, NoVariable, Atom}
use Rattle.ml_builtin.specs.declared.type_test.TypeTest.TheVariants.{Integer, Atomic, Compound}
use Rattle.ml_builtin.specs.declared.type_test.TypeTest.TheVariants.{Callable, Ground}

-- what a test of one term asks
abbrev pub type_test : TypeTest → Tree → Bool
type_test Variable t = is_variable t
type_test NoVariable t = not (is_variable t)
type_test Atom t = is_atom t
type_test Integer t = is_integer t
type_test Atomic t = is_atomic t
type_test Compound t = is_compound t
type_test Callable t = is_atom t || is_compound t
type_test Ground t = is_ground t

-- what a relation asks of an order
abbrev pub relation_test : Relation → Ordering → Bool
relation_test Equal o = is_equal o
relation_test NotEqual o = not (is_equal o)
relation_test Less o = is_less o
relation_test LessOrEqual o = is_less o || is_equal o
relation_test Greater o = not (is_less o || is_equal o)
relation_test GreaterOrEqual o = not (is_less o)

-- no built-in of two arguments has this name
abbrev pub IsNoBinary : List ℕ → Type 0
IsNoBinary f = (look_up builtins_2 f ≡ None) × (look_up order_tests f ≡ None)
    × (look_up value_tests f ≡ None)

-- the tests of one term behind the first four
abbrev pub later_tests : List (List ℕ × (Tree → Bool))
later_tests =
    (codes "atomic", is_atomic)
    ∷ (codes "compound", is_compound)
    ∷ (codes "callable", λ t. is_atom t || is_compound t)
    ∷ (codes "ground", is_ground)
    ∷ []

-- the tests of two terms behind the first two
abbrev pub before_or_after : List (List ℕ × (Ordering → Bool))
before_or_after =
    (codes "@<", is_less)
    ∷ (codes "@=<", λ o. is_less o || is_equal o)
    ∷ (codes "@>", λ o. not (is_less o || is_equal o))
    ∷ (codes "@>=", λ o. not (is_less o))
    ∷ []
