-- Worked rows of terms: tests, order, `functor/3`, `arg/3`, `=../2`, `copy_term/2`, and terms that
-- are shared and large.
use Rattle.std.specs.Prelude.{◌≡◌, ℕ, ◌++◌, List, [], ◌∷◌, codes}
use Rattle.ml_term.specs.Tree.{Tree, nodes}
use Rattle.ml_search.specs.ListTerms.{list_term}
use Rattle.ml_search.specs.Limits.{default_inferences}
use Rattle.ml_search.specs.Session.{goal_search}
use Rattle.ml_search.specs.inside.RowWords.{a, a1, a2, a3, i, minus, v0, v1, v2, and, equals, fact}
use Rattle.ml_search.specs.inside.RowWords.{rule, goal, Rules, plain, Answers, Fails}

-- d(0,a). d(N,f(T,T)) :- N > 0, M is N - 1, d(M,T).
abbrev doubling : Rules
doubling =
    plain
    (fact (a2 (codes "d") (i 0) (a (codes "a")))
    ∷ rule (a2 (codes "d") v0 (a2 (codes "f") v1 v1))
    (and (a2 (codes ">") v0 (i 0))
    (and (a2 (codes "is") v2 (a2 (codes "-") v0 (i 1))) (a2 (codes "d") v2 v1)))
    ∷ [])

abbrev Holds : Tree → Type 0
Holds t = Answers (plain []) t [] (codes "  true" ∷ codes "  1 answers" ∷ [])

abbrev HoldsNot : Tree → Type 0
HoldsNot t = Answers (plain []) t [] (codes "  0 answers" ∷ [])

abbrev Shows : Tree → List ℕ → Type 0
Shows t l = Answers (plain []) t (codes "X" ∷ []) (l ∷ codes "  1 answers" ∷ [])

abbrev ShowsBoth : Tree → List ℕ → Type 0
ShowsBoth t l = Answers (plain []) t (codes "X" ∷ codes "Y" ∷ []) (l ∷ codes "  1 answers" ∷ [])

abbrev Raises : Tree → List ℕ → Type 0
Raises t l = Fails (plain []) t [] ((codes "  error " ++ l) ∷ [])

abbrev functor : Tree → Tree → Tree → Tree
functor = a3 (codes "functor")

abbrev arg : Tree → Tree → Tree → Tree
arg = a3 (codes "arg")

abbrev univ : Tree → Tree → Tree
univ = a2 (codes "=..")

abbrev copy : Tree → Tree → Tree
copy = a2 (codes "copy_term")

abbrev f : Tree → Tree
f = a1 (codes "f")

abbrev letter : Tree
letter = a (codes "a")

-- the answer of the goal d(n, T), by how many nodes its term has
abbrev nodes_of_answer : List (List Tree) → List (List ℕ)
nodes_of_answer [] = []
nodes_of_answer (ts ∷ found) = sizes ts ∷ nodes_of_answer found
  where
    sizes : List Tree → List ℕ
    sizes [] = []
    sizes (t ∷ ts) = nodes t ∷ sizes ts

abbrev doubled : ℕ → List (List ℕ)
doubled n =
    nodes_of_answer
    (goal_search doubling.program (goal (a2 (codes "d") (i n) v0) (codes "T" ∷ []))
    (record { db = []; made = [] }) default_inferences).found

pub record TermRows : Type 0 where
  pub a_variable_is_one : Holds (a1 (codes "var") v0)
  pub an_atom_is_no_variable : Holds (a1 (codes "nonvar") letter)
  pub an_atom_is_an_atom : Holds (a1 (codes "atom") letter)
  pub an_integer_is_an_integer : Holds (a1 (codes "integer") (minus 1))
  pub an_integer_is_atomic : Holds (a1 (codes "atomic") (i 1))
  pub a_compound_is_not_atomic : HoldsNot (a1 (codes "atomic") (f letter))
  pub a_compound_is_compound : Holds (a1 (codes "compound") (f letter))
  pub an_atom_is_callable : Holds (a1 (codes "callable") letter)
  pub an_integer_is_not_callable : HoldsNot (a1 (codes "callable") (i 1))
  pub a_term_with_a_variable_is_not_ground : HoldsNot (a1 (codes "ground") (f v0))
  pub terms_that_do_not_unify : Holds (a2 (codes "\\=") letter (i 1))
  pub two_variables_are_not_the_same : HoldsNot (a2 (codes "==") v0 v1)
  pub an_older_variable_comes_first : Holds (a2 (codes "@<") v0 v1)
  pub a_variable_comes_before_an_integer : Holds (a2 (codes "@<") v0 (minus 5))
  pub an_integer_comes_before_an_atom : Holds (a2 (codes "@<") (i 5) letter)
  pub an_arity_counts_before_a_name : Holds
      (a2 (codes "@>") (a2 (codes "a") (i 1) (i 1)) (a1 (codes "b") (i 1)))
  pub a_term_is_at_most_itself : Holds (a2 (codes "@=<") letter letter)
  pub functor_takes_a_compound_apart : ShowsBoth (functor (a2 (codes "g") (i 1) (i 2)) v0 v1)
      (codes "  X = g, Y = 2")
  pub functor_takes_an_integer : ShowsBoth (functor (i 7) v0 v1) (codes "  X = 7, Y = 0")
  pub functor_makes_a_compound : Shows (functor v0 (a (codes "g")) (i 2)) (codes "  X = g(_1,_2)")
  pub functor_makes_an_atomic_term : Shows (functor v0 (i 3) (i 0)) (codes "  X = 3")
  pub functor_wants_a_name : Raises (functor v0 v1 (i 2)) (codes "instantiation_error")
  pub functor_wants_an_integer : Raises (functor v0 (f letter) letter)
      (codes "type_error(integer,a)")
  pub functor_wants_an_atomic_name : Raises (functor v0 (f letter) (minus 1))
      (codes "type_error(atomic,f(a))")
  pub functor_wants_no_negative_arity : Raises (functor v0 letter (minus 1))
      (codes "domain_error(not_less_than_zero,-1)")
  pub functor_makes_255_arguments_at_most : Raises (functor v0 letter (i 256))
      (codes "representation_error(max_arity)")
  pub functor_wants_an_atom_for_a_compound : Raises (functor v0 (i 1) (i 2))
      (codes "type_error(atom,1)")
  pub arg_gives_an_argument : Shows (arg (i 2) (a2 (codes "g") (i 1) (i 5)) v0) (codes "  X = 5")
  pub arg_fails_beyond_the_arity : HoldsNot (arg (i 3) (a2 (codes "g") (i 1) (i 5)) v0)
  pub arg_fails_at_zero : HoldsNot (arg (i 0) (f (i 1)) v0)
  pub arg_wants_a_compound : Raises (arg (i 1) letter v0) (codes "type_error(compound,a)")
  pub arg_wants_no_negative_number : Raises (arg (minus 1) (f letter) v0)
      (codes "domain_error(not_less_than_zero,-1)")
  pub univ_takes_a_compound_apart : Shows (univ (a2 (codes "g") (i 1) (i 2)) v0)
      (codes "  X = [g,1,2]")
  pub univ_of_an_integer : Shows (univ (i 7) v0) (codes "  X = [7]")
  pub univ_makes_a_compound : Shows (univ v0 (list_term (a (codes "g") ∷ i 1 ∷ [])))
      (codes "  X = g(1)")
  pub univ_of_a_bound_term_only_unifies : HoldsNot (univ (f letter) letter)
  pub univ_wants_a_whole_list : Raises (univ v0 (a2 (codes ".") letter v1))
      (codes "instantiation_error")
  pub univ_wants_a_list : Raises (univ v0 letter) (codes "type_error(list,a)")
  pub univ_wants_an_element : Raises (univ v0 (a (codes "[]")))
      (codes "domain_error(non_empty_list,[])")
  pub univ_wants_an_atomic_name : Raises (univ v0 (list_term (f letter ∷ [])))
      (codes "type_error(atomic,f(a))")
  pub univ_wants_an_atom_before_arguments : Raises (univ v0 (list_term (i 1 ∷ i 2 ∷ [])))
      (codes "type_error(atom,1)")
  pub a_copy_has_new_variables : ShowsBoth (copy (a2 (codes "g") v0 v0) v1)
      (codes "  X = _1, Y = g(_2,_2)")
  pub a_copy_is_unified : Shows (copy (f v0) (f letter)) (codes "  X = _1")
  pub names_are_quoted_where_they_must_be : Shows
      (equals v0
      (list_term (a (codes "it's") ∷ a (codes "A") ∷ a (codes "[]") ∷ a (codes "+") ∷ []))) (codes
      "  X = ['it\\'s','A',[],+]")
  pub a_shared_term_of_4095_nodes_is_an_answer : doubled 11 ≡ (4095 ∷ []) ∷ []
  pub a_larger_one_is_not_printed : Fails doubling (a2 (codes "d") (i 12) v0) (codes "T" ∷ [])
      (codes "  error resource_error(term)" ∷ [])
