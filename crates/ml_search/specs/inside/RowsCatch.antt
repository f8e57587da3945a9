-- Worked rows of `catch/3` and `throw/1`, and of goals that raise.
use Rattle.std.specs.Prelude.{ℕ, ◌++◌, List, [], ◌∷◌, codes}
use Rattle.std.proofs.Common.{refl}
use Rattle.ml_term.specs.Tree.{Tree, variable}
use Rattle.ml_search.specs.Program.{commit}
use Rattle.ml_search.specs.inside.RowWords.{a, a1, a2, a3, i, v0, v1, v2, and, equals, always, fact}
use Rattle.ml_search.specs.inside.RowWords.{rule, relation, goal, script, Rules, Print, Answers}
use Rattle.ml_search.specs.inside.RowWords.{Fails, then}

-- :- relation(p/1). loop :- loop. a(1). a(2).
abbrev rules : Rules
rules =
    record {
      program =
          record {
            decls = relation (codes "p") 1 (1 ∷ []) refl ∷ [];
            clauses =
                rule (a (codes "loop")) (a (codes "loop")) ∷ fact (a1 (codes "a") (i 1))
                ∷ fact (a1 (codes "a") (i 2)) ∷ [];
          };
      items = [];
    }

abbrev catch_term : Tree → Tree → Tree → Tree
catch_term = a3 (codes "catch")

abbrev throw_term : Tree → Tree
throw_term = a1 (codes "throw")

abbrev error : Tree → Tree → Tree
error = a2 (codes "error")

abbrev x : List (List ℕ)
x = codes "X" ∷ []

abbrev Shows : Tree → List ℕ → Type 0
Shows t l = Answers rules t x (l ∷ codes "  1 answers" ∷ [])

abbrev Holds : Tree → Type 0
Holds t = Answers rules t [] (codes "  true" ∷ codes "  1 answers" ∷ [])

abbrev Raises : Tree → List ℕ → Type 0
Raises t l = Fails rules t [] ((codes "  error " ++ l) ∷ [])

pub record CatchRows : Type 0 where
  pub an_error_is_caught_with_its_term
      : Answers rules
      (catch_term (a2 (codes "is") v0 (a2 (codes "//") (i 1) (i 0))) (error v1 v2) always)
      (codes "X" ∷ codes "E" ∷ [])
      (codes "  X = _1, E = evaluation_error(zero_divisor)" ∷ codes "  1 answers" ∷ [])
  pub a_change_stays_where_a_ball_is_caught
      : Print rules
      (script
      (goal
      (catch_term
      (and (a1 (codes "insert_tuple") (a1 (codes "p") (i 1))) (throw_term (a (codes "a"))))
      (a (codes "a")) always) [] ∷ goal (a1 (codes "p") v0) x ∷ []) ∷ [])
      (codes "session 1 committed" ∷ codes "goal 1" ∷ codes "  true" ∷ codes "  1 answers"
      ∷ codes "goal 2" ∷ codes "  X = 1" ∷ codes "  1 answers" ∷ [])
  pub a_ball_that_no_catcher_takes : Raises
      (catch_term (throw_term (a (codes "oops"))) (a (codes "other")) always) (codes "oops")
  pub a_used_up_budget_is_never_caught
      : Print rules
      (record {
        budget = 5;
        goals = goal (catch_term (a (codes "loop")) v0 always) [] ∷ [];
        last = commit;
      } ∷ []) (codes "session 1 failed at goal 1" ∷ codes "goal 1"
      ∷ codes "  error resource_error(inferences)" ∷ [])
  pub a_ball_undoes_bindings : Shows
      (catch_term (and (equals v0 (i 1)) (throw_term (a (codes "a")))) (a (codes "a")) always)
      (codes "  X = _1")
  pub the_recovery_sees_the_ball : Shows
      (catch_term (throw_term (a1 (codes "f") (i 1))) (a1 (codes "f") v0) always) (codes "  X = 1")
  pub no_choice_of_the_goal_remains : Shows
      (catch_term (and (a1 (codes "a") v0) (throw_term v0)) v0 always) (codes "  X = 1")
  pub a_goal_keeps_its_choices_without_a_ball : Answers rules
      (catch_term (a1 (codes "a") v0) (a (codes "x")) always) x
      (codes "  X = 1" ∷ codes "  X = 2" ∷ codes "  2 answers" ∷ [])
  pub a_cut_is_local_to_the_goal : Answers rules
      (and (a1 (codes "a") v0) (catch_term (a (codes "!")) v1 always)) (codes "X" ∷ [])
      (codes "  X = 1" ∷ codes "  X = 2" ∷ codes "  2 answers" ∷ [])
  pub the_nearest_catcher_that_unifies_takes_it : Shows
      (catch_term (catch_term (throw_term (a (codes "a"))) (a (codes "b")) (equals v0 (i 1)))
      (a (codes "a")) (equals v0 (i 2))) (codes "  X = 2")
  pub a_ball_of_the_recovery_goes_further_out : Shows
      (catch_term
      (catch_term (throw_term (a (codes "a"))) (a (codes "a")) (throw_term (a (codes "b"))))
      (a (codes "b")) (equals v0 (i 2))) (codes "  X = 2")
  pub a_catcher_is_gone_once_its_goal_is_left : Raises
      (and (catch_term always v0 always) (throw_term (a (codes "a")))) (codes "a")
  pub a_ball_leaves_a_negation : Shows
      (catch_term (a1 (codes "\\+") (throw_term (a (codes "a")))) v0 always) (codes "  X = a")
  pub a_ball_leaves_a_condition : Shows
      (catch_term (then (throw_term (a (codes "a"))) always) v0 always) (codes "  X = a")
  pub a_ball_leaves_a_findall
      : Answers rules
      (catch_term (a3 (codes "findall") v0 (throw_term (a (codes "a"))) v1) v2 always)
      (codes "_T" ∷ codes "_L" ∷ codes "X" ∷ []) (codes "  X = a" ∷ codes "  1 answers" ∷ [])
  pub a_catcher_is_seen_behind_other_goals : Shows
      (catch_term (and (a1 (codes "\\+") (throw_term (a (codes "a")))) (equals v0 (i 1)))
      (a (codes "a")) (equals v0 (i 2))) (codes "  X = 2")
  pub a_ball_is_a_copy
      : Answers rules
      (catch_term (and (equals v0 v1) (throw_term (a2 (codes "f") v0 v1)))
      (a2 (codes "f") v2 (variable 3)) always) (codes "X" ∷ codes "Y" ∷ codes "A" ∷ codes "B"
      ∷ [])
      (codes "  X = _1, Y = _2, A = _3, B = _3" ∷ codes "  1 answers" ∷ [])
  pub a_findall_inside_a_catch_keeps_the_choices_before_it
      : Answers rules
      (and (a1 (codes "a") v0)
      (catch_term
      (a3 (codes "findall") v1
      (and (a1 (codes "a") v1) (and (a2 (codes ">") v1 v0) (throw_term v1))) v2) (variable 3)
      always))
      (codes "X" ∷ codes "Y" ∷ codes "L" ∷ codes "B" ∷ [])
      (codes "  X = 1, Y = _1, L = _2, B = 2" ∷ codes "  X = 2, Y = _1, L = [], B = _2"
      ∷ codes "  2 answers" ∷ [])
  pub the_context_of_an_error_is_a_new_variable
      : Answers rules (catch_term (a1 (codes "call") v0) (error v1 v2) always)
      (codes "X" ∷ codes "E" ∷ codes "C" ∷ [])
      (codes "  X = _1, E = instantiation_error, C = _2" ∷ codes "  1 answers" ∷ [])
  pub a_ball_is_printed_with_its_variables : Raises (throw_term (a1 (codes "f") v0)) (codes "f(_1)")
  pub a_goal_that_is_no_goal_is_not_caught_here : Raises (catch_term (i 3) v0 always)
      (codes "type_error(callable,3)")
  pub a_variable_goal_is_not_caught_here : Raises (catch_term v0 v1 always)
      (codes "instantiation_error")
  pub a_further_catcher_takes_such_an_error
      : Answers rules (catch_term (catch_term (i 3) v0 always) (error v1 v2) always)
      (codes "_B" ∷ codes "X" ∷ [])
      (codes "  X = type_error(callable,3)" ∷ codes "  1 answers" ∷ [])
  pub an_error_of_the_user_is_printed_by_its_first_argument : Raises
      (throw_term (error (a (codes "foo")) (a (codes "bar")))) (codes "foo")
  pub a_variable_is_no_ball : Raises (throw_term v0) (codes "instantiation_error")
  pub an_unknown_predicate : Raises (a1 (codes "nosuch") (i 1))
      (codes "existence_error(procedure,/(nosuch,1))")
  pub an_unknown_predicate_uses_no_inference
      : Print rules
      (record {
        budget = 1;
        goals = goal (and (a1 (codes "var") v0) (a (codes "nosuch"))) [] ∷ [];
        last = commit;
      } ∷ []) (codes "session 1 failed at goal 1" ∷ codes "goal 1"
      ∷ codes "  error existence_error(procedure,/(nosuch,0))" ∷ [])
  pub a_variable_is_no_goal : Raises (a1 (codes "call") v0) (codes "instantiation_error")
  pub an_integer_in_a_goal_is_none : Raises (a1 (codes "call") (and always (i 1)))
      (codes "type_error(callable,','(true,1))")
  pub findall_wants_a_list : Raises
      (a3 (codes "findall") v0 always (a2 (codes ".") (i 1) (a (codes "x"))))
      (codes "type_error(list,[1|x])")
