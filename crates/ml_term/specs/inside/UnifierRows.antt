-- Worked rows of unification, of keys that fit a pattern and of prefixes: what the definitions
-- give, computed.
use Rattle.std.specs.Prelude.{◌≡◌, ℕ, pos, true, false, List, [], ◌∷◌, Some, None, codes, take}
use Rattle.std.proofs.Common.{refl}
use Rattle.ml_term.specs.Tree.{Tree, variable, integer, atom, compound_1, compound_2, rename}
use Rattle.ml_term.specs.Runs.{run}
use Rattle.ml_term.specs.Unify.{Map, solve_equations, unifier, apply}
use Rattle.ml_term.specs.Keys.{tuple_key, clause_key}
use Rattle.ml_term.specs.Patterns.{pattern_of, fits, may_hold}

abbrev f : Tree → Tree → Tree
f t u = compound_2 (codes "f") t u

abbrev number : ℕ → Tree
number n = integer (pos n)

abbrev a_map : Map
a_map = (2, number 7) ∷ (1, variable 0) ∷ []

-- of two variables the younger is replaced
younger_is_replaced : unifier (variable 0) (variable 1) ≡ Some ((1, variable 0) ∷ [])
unfolding run solve_equations
younger_is_replaced = refl

older_stays : unifier (variable 1) (variable 0) ≡ Some ((1, variable 0) ∷ [])
unfolding run solve_equations
older_stays = refl

-- a variable doesn't stand for a term in which it occurs
no_cycle : unifier (variable 0) (compound_1 (codes "g") (variable 0)) ≡ None
unfolding run solve_equations
no_cycle = refl

-- nor in a roundabout way
no_long_cycle : unifier (f (variable 0) (variable 1))
    (f (compound_1 (codes "g") (variable 1)) (variable 0)) ≡ None
unfolding run solve_equations
no_long_cycle = refl

-- a later binding is put into the terms of the earlier ones
binding_within_bindings : unifier (f (variable 0) (variable 1))
    (f (compound_1 (codes "g") (variable 1)) (number 3))
    ≡ Some ((0, compound_1 (codes "g") (number 3)) ∷ (1, number 3) ∷ [])
unfolding run solve_equations
binding_within_bindings = refl

other_name : unifier (f (variable 0) (variable 1)) (compound_2 (codes "g") (number 1) (number 2))
    ≡ None
unfolding run solve_equations
other_name = refl

a_tuple : unifier (f (variable 0) (variable 1)) (f (number 1) (number 2))
    ≡ Some ((0, number 1) ∷ (1, number 2) ∷ [])
unfolding run solve_equations
a_tuple = refl

one_variable_twice : unifier (f (variable 0) (variable 0)) (f (number 1) (number 2)) ≡ None
unfolding run solve_equations
one_variable_twice = refl

applied_to_all : apply a_map (f (variable 1) (f (variable 2) (variable 3)))
    ≡ f (variable 0) (f (number 7) (variable 3))
applied_to_all = refl

numbered_anew : rename 5 (f (variable 9) (f (variable 2) (variable 9)))
    ≡ f (variable 5) (f (variable 6) (variable 5))
numbered_anew = refl

abbrev both_places : List ℕ
both_places = 1 ∷ 2 ∷ []

it_fits : fits (pattern_of both_places (f (number 1) (variable 0)))
    (tuple_key both_places (f (number 1) (number 2))) ≡ true
it_fits = refl

it_does_not : fits (pattern_of both_places (f (number 2) (variable 0)))
    (tuple_key both_places (f (number 1) (number 2))) ≡ false
it_does_not = refl

-- a clause's variable fits what is asked for
a_variable_fits : fits (pattern_of both_places (f (number 1) (atom (codes "b"))))
    (clause_key both_places (f (variable 0) (atom (codes "b"))) 12) ≡ true
a_variable_fits = refl

-- one that fits and doesn't unify: codes have only the beginnings of names
alike_at_first : fits (pattern_of both_places (f (atom (codes "elephants")) (variable 0)))
    (tuple_key both_places (f (atom (codes "elephanto")) (number 2))) ≡ true
alike_at_first = refl

-- prefixes of a key: the first bits of two attributes, in turn
it_may_hold : may_hold (pattern_of both_places (f (number 1) (variable 0)))
    (take 20 (tuple_key both_places (f (number 1) (number 2)))) ≡ true
it_may_hold = refl

-- an integer's code begins with 01, an atom's with 10
no_atom_there : may_hold (pattern_of both_places (f (atom (codes "a")) (variable 0)))
    (take 3 (tuple_key both_places (f (number 1) (number 2)))) ≡ false
no_atom_there = refl

-- the first bit alone is that of a variable too
maybe_a_variable : may_hold (pattern_of both_places (f (atom (codes "a")) (variable 0)))
    (take 2 (tuple_key both_places (f (number 1) (number 2)))) ≡ true
maybe_a_variable = refl
