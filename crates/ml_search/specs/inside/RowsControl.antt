-- Worked rows of control: conjunctions, choices, cuts, conditions, negation, calls, `findall/3`,
-- and unification.
use Rattle.std.specs.Prelude.{ℕ, List, [], ◌∷◌, codes}
use Rattle.ml_term.specs.Tree.{Tree}
use Rattle.ml_search.specs.inside.RowWords.{a, a1, a2, a3, i, v0, v1, and, or, then, equals, always}
use Rattle.ml_search.specs.inside.RowWords.{fact, rule, Rules, plain, Answers, goal, script, Print}

abbrev cut : Tree
cut = a (codes "!")

abbrev never : Tree
never = a (codes "fail")

abbrev not : Tree → Tree
not = a1 (codes "\\+")

abbrev findall : Tree → Tree → Tree → Tree
findall = a3 (codes "findall")

abbrev member_of_a : Tree → Tree
member_of_a = a1 (codes "a")

-- a(1). a(2). a(3). b(X) :- a(X), !. c(X) :- ( a(X), X > 1 -> true ; X = 0 ). d(X) :- \+ \+ X = 1.
-- e(X) :- ( a(X) ; X = 9 ), !. k(X) :- b(X). k(7).
abbrev rules : Rules
rules =
    plain
    (fact (a1 (codes "a") (i 1))
    ∷ fact (a1 (codes "a") (i 2))
    ∷ fact (a1 (codes "a") (i 3))
    ∷ rule (a1 (codes "b") v0) (and (member_of_a v0) cut)
    ∷ rule (a1 (codes "c") v0)
    (or (then (and (member_of_a v0) (a2 (codes ">") v0 (i 1))) always) (equals v0 (i 0)))
    ∷ rule (a1 (codes "d") v0) (not (not (equals v0 (i 1))))
    ∷ rule (a1 (codes "e") v0) (and (or (member_of_a v0) (equals v0 (i 9))) cut)
    ∷ rule (a1 (codes "k") v0) (a1 (codes "b") v0)
    ∷ fact (a1 (codes "k") (i 7))
    ∷ [])

-- a goal with the variable X, and one with X and Y
abbrev pub Shows : Tree → List (List ℕ) → Type 0
Shows t ls = Answers rules t (codes "X" ∷ []) ls

abbrev pub ShowsBoth : Tree → List (List ℕ) → Type 0
ShowsBoth t ls = Answers rules t (codes "X" ∷ codes "Y" ∷ []) ls

abbrev pub Holds : Tree → Type 0
Holds t = Answers rules t [] (codes "  true" ∷ codes "  1 answers" ∷ [])

abbrev pub HoldsNot : Tree → Type 0
HoldsNot t = Answers rules t [] (codes "  0 answers" ∷ [])

abbrev none : List (List ℕ)
none = codes "  0 answers" ∷ []

abbrev one : List ℕ → List (List ℕ)
one l = l ∷ codes "  1 answers" ∷ []

abbrev three : List (List ℕ)
three = codes "  X = 1" ∷ codes "  X = 2" ∷ codes "  X = 3" ∷ codes "  3 answers" ∷ []

pub record ControlRows : Type 0 where
  pub clauses_are_tried_in_their_order : Shows (member_of_a v0) three
  pub a_cut_leaves_the_first_answer : Shows (a1 (codes "b") v0) (one (codes "  X = 1"))
  pub a_cut_is_local_to_its_clause : Shows (a1 (codes "k") v0)
      (codes "  X = 1" ∷ codes "  X = 7" ∷ codes "  2 answers" ∷ [])
  pub a_cut_drops_choices_of_earlier_goals : Shows (a1 (codes "e") v0) (one (codes "  X = 1"))
  pub a_cut_in_a_goal_drops_its_choices : Shows (and (member_of_a v0) (and cut never)) none
  pub a_cut_is_transparent_in_a_choice : Shows (and (member_of_a v0) (or cut (equals v0 (i 5))))
      (one (codes "  X = 1"))
  pub a_cut_is_local_to_a_call : Shows (and (member_of_a v0) (a1 (codes "call") cut)) three
  pub a_called_conjunction_cuts_its_own_choices : Shows
      (a1 (codes "call") (and (member_of_a v0) cut)) (one (codes "  X = 1"))
  pub a_cut_is_local_to_a_condition : Shows (and (member_of_a v0) (then cut always)) three
  pub a_cut_after_a_condition_is_not : Shows (and (member_of_a v0) (then always cut))
      (one (codes "  X = 1"))
  pub a_cut_is_local_to_a_negation : Shows (and (member_of_a v0) (not (and cut never))) three
  pub a_variable_body_is_called : ShowsBoth
      (and (equals v0 cut) (and (or (equals v1 (i 1)) (equals v1 (i 2))) v0))
      (codes "  X = !, Y = 1" ∷ codes "  X = !, Y = 2" ∷ codes "  2 answers" ∷ [])
  pub a_condition_takes_its_first_answer : Shows (a1 (codes "c") v0) (one (codes "  X = 2"))
  pub a_condition_without_answer_goes_on_with_the_else : Shows
      (or (then never (equals v0 (i 1))) (equals v0 (i 2))) (one (codes "  X = 2"))
  pub a_condition_without_else_fails_without_answer : Shows
      (then (a1 (codes "a") (i 4)) (equals v0 (i 1))) none
  pub a_condition_does_not_try_its_then_part_twice : Shows (then (equals v0 (i 1)) never) none
  pub a_condition_without_else_takes_one_answer : Shows (then (member_of_a v0) always)
      (one (codes "  X = 1"))
  pub the_then_part_keeps_its_choices : Shows (or (then always (member_of_a v0)) never) three
  pub a_choice_tries_both_sides : Shows (or (equals v0 (i 1)) (equals v0 (i 2)))
      (codes "  X = 1" ∷ codes "  X = 2" ∷ codes "  2 answers" ∷ [])
  pub a_negation_binds_nothing : Shows (a1 (codes "d") v0) (one (codes "  X = _1"))
  pub a_negation_fails_where_there_is_an_answer : HoldsNot (not (member_of_a (i 2)))
  pub once_takes_the_first_answer : Shows (a1 (codes "once") (member_of_a v0))
      (one (codes "  X = 1"))
  pub once_keeps_the_choices_before_it : ShowsBoth
      (and (or (equals v0 (i 1)) (equals v0 (i 2))) (a1 (codes "once") (member_of_a v1)))
      (codes "  X = 1, Y = 1" ∷ codes "  X = 2, Y = 1" ∷ codes "  2 answers" ∷ [])
  pub findall_gives_the_answers_in_order : ShowsBoth (findall v0 (member_of_a v0) v1)
      (one (codes "  X = _1, Y = [1,2,3]"))
  pub findall_gives_the_empty_list : ShowsBoth (findall v0 never v1)
      (one (codes "  X = _1, Y = []"))
  pub findall_copies_with_new_variables : ShowsBoth
      (findall (a2 (codes "f") v0 v0) (or always (equals v0 (i 1))) v1)
      (one (codes "  X = _1, Y = [f(_2,_2),f(1,1)]"))
  pub findall_cuts_its_own_choices : ShowsBoth (findall v0 (and (member_of_a v0) cut) v1)
      (one (codes "  X = _1, Y = [1]"))
  pub three_goals
      : Print rules
      (script
      (goal (equals v0 (a1 (codes "f") v0)) (codes "X" ∷ [])
      ∷ goal (equals v0 (a2 (codes ".") (i 1) (a (codes "[]")))) (codes "X" ∷ [])
      ∷ goal (a1 (codes "nosuch") (i 1)) [] ∷ []) ∷ [])
      (codes "session 1 failed at goal 3" ∷ codes "goal 1" ∷ codes "  0 answers" ∷ codes "goal 2"
      ∷ codes "  X = [1]" ∷ codes "  1 answers"
      ∷ codes "goal 3" ∷ codes "  error existence_error(procedure,/(nosuch,1))" ∷ [])
  pub a_variable_is_in_no_term_that_it_equals : Shows (equals v0 (a1 (codes "f") v0)) none
  pub a_list_is_printed_in_brackets : Shows (equals v0 (a2 (codes ".") (i 1) (a (codes "[]"))))
      (one (codes "  X = [1]"))
  pub two_variables_print_alike : ShowsBoth (equals v0 v1) (one (codes "  X = _1, Y = _1"))
