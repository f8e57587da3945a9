-- Worked rows of relations: the order of keys, codes that are equal, changes, and budgets.
use Rattle.std.specs.Prelude.{ℕ, List, [], ◌∷◌, codes}
use Rattle.std.proofs.Common.{refl}
use Rattle.ml_term.specs.Tree.{Tree}
use Rattle.ml_term.specs.declared.declaration.Decl.{Decl}
use Rattle.ml_search.specs.Program.{Script, Goal, commit}
use Rattle.ml_search.specs.inside.RowWords.{a, a1, a2, i, v0, v1, and, or, rule, relation, goal}
use Rattle.ml_search.specs.inside.RowWords.{script, Rules, Print, Answers}

-- :- relation(p/1). p(2). p(1).
abbrev numbers : Rules
numbers =
    record {
      program = record { decls = relation (codes "p") 1 (1 ∷ []) refl ∷ []; clauses = [] };
      items = (0, a1 (codes "p") (i 2)) ∷ (0, a1 (codes "p") (i 1)) ∷ [];
    }

-- :- relation(q/2, KEYS). q(1,0). q(0,2).
abbrev pairs : Decl → Rules
pairs d =
    record {
      program = record { decls = d ∷ []; clauses = [] };
      items = (0, a2 (codes "q") (i 1) (i 0)) ∷ (0, a2 (codes "q") (i 0) (i 2)) ∷ [];
    }

-- :- relation(d/2). d(department_b,2). d(department_a,1). d(department_b,2).
abbrev departments : Rules
departments =
    record {
      program = record { decls = relation (codes "d") 2 (1 ∷ 2 ∷ []) refl ∷ []; clauses = [] };
      items =
          (0, a2 (codes "d") (a (codes "department_b")) (i 2))
          ∷ (0, a2 (codes "d") (a (codes "department_a")) (i 1))
          ∷ (0, a2 (codes "d") (a (codes "department_b")) (i 2)) ∷ [];
    }

-- :- relation(p/1). loop :- loop.
abbrev looping : Rules
looping =
    record {
      program = record {
        decls = relation (codes "p") 1 (1 ∷ []) refl ∷ [];
        clauses = rule (a (codes "loop")) (a (codes "loop")) ∷ [];
      };
      items = [];
    }

abbrev p : Tree → Tree
p = a1 (codes "p")

abbrev insert : Tree → Tree
insert = a1 (codes "insert_tuple")

abbrev delete : Tree → Tree
delete = a1 (codes "delete_tuple")

abbrev x : List (List ℕ)
x = codes "X" ∷ []

abbrev x_and_y : List (List ℕ)
x_and_y = codes "X" ∷ codes "Y" ∷ []

-- a script of one goal with a budget
abbrev within : ℕ → Goal → Script
within n g = record { budget = n; goals = g ∷ []; last = commit }

abbrev first_of_pairs : List (List ℕ)
first_of_pairs = codes "  X = 0, Y = 2" ∷ codes "  X = 1, Y = 0" ∷ codes "  2 answers" ∷ []

abbrev second_of_pairs : List (List ℕ)
second_of_pairs = codes "  X = 1, Y = 0" ∷ codes "  X = 0, Y = 2" ∷ codes "  2 answers" ∷ []

pub record RelationRows : Type 0 where
  pub tuples_come_in_key_order : Answers numbers (p v0) x
      (codes "  X = 1" ∷ codes "  X = 2" ∷ codes "  2 answers" ∷ [])
  pub bits_of_the_keys_alternate : Answers (pairs (relation (codes "q") 2 (1 ∷ 2 ∷ []) refl))
      (a2 (codes "q") v0 v1) x_and_y second_of_pairs
  pub the_first_argument_as_the_only_key : Answers (pairs (relation (codes "q") 2 (1 ∷ []) refl))
      (a2 (codes "q") v0 v1) x_and_y first_of_pairs
  pub the_second_argument_as_the_only_key : Answers (pairs (relation (codes "q") 2 (2 ∷ []) refl))
      (a2 (codes "q") v0 v1) x_and_y second_of_pairs
  pub equal_codes_do_not_mix_tuples : Answers departments
      (a2 (codes "d") (a (codes "department_b")) v0) (codes "N" ∷ [])
      (codes "  N = 2" ∷ codes "  1 answers" ∷ [])
  pub a_fact_that_is_given_twice_is_there_once : Answers departments (a2 (codes "d") v0 v1)
      (codes "_D" ∷ codes "N" ∷ []) (codes "  N = 1" ∷ codes "  N = 2" ∷ codes "  2 answers" ∷ [])
  pub a_call_does_not_see_what_it_inserts
      : Print numbers
      (script
      (goal
      (and (p v0) (and (a2 (codes "is") v1 (a2 (codes "+") v0 (i 10))) (insert (p v1)))) x_and_y
      ∷ goal (p v0) x ∷ []) ∷ [])
      (codes "session 1 committed"
      ∷ codes "goal 1" ∷ codes "  X = 1, Y = 11" ∷ codes "  X = 2, Y = 12" ∷ codes "  2 answers"
      ∷ codes "goal 2" ∷ codes "  X = 1" ∷ codes "  X = 2" ∷ codes "  X = 11" ∷ codes "  X = 12"
      ∷ codes "  4 answers" ∷ [])
  pub a_tuple_that_is_there_is_inserted_once_more : Answers numbers
      (and (insert (p (i 1))) (p v0)) x
      (codes "  X = 1" ∷ codes "  X = 2" ∷ codes "  2 answers" ∷ [])
  pub a_change_stays_where_its_branch_fails : Answers numbers
      (or (and (insert (p (i 5))) (a (codes "fail"))) (p v0)) x
      (codes "  X = 1" ∷ codes "  X = 2" ∷ codes "  X = 5" ∷ codes "  3 answers" ∷ [])
  pub a_deleted_tuple_is_gone : Answers numbers (and (delete (p (i 1))) (p v0)) x
      (codes "  X = 2" ∷ codes "  1 answers" ∷ [])
  pub a_tuple_that_is_not_there_cannot_be_deleted : Answers numbers (delete (p (i 3))) []
      (codes "  0 answers" ∷ [])
  pub a_budget_that_is_enough : Print numbers (within 3 (goal (p v0) x) ∷ [])
      (codes "session 1 committed" ∷ codes "goal 1" ∷ codes "  X = 1" ∷ codes "  X = 2"
      ∷ codes "  2 answers" ∷ [])
  pub a_budget_that_is_not
      : Print numbers (within 2 (goal (p v0) x) ∷ [])
      (codes "session 1 failed at goal 1" ∷ codes "goal 1" ∷ codes "  X = 1"
      ∷ codes "  error resource_error(inferences)" ∷ [])
  pub a_session_that_fails_changes_nothing
      : Print looping
      (within 100 (goal (and (insert (p (i 1))) (a (codes "loop"))) [])
      ∷ script (goal (p v0) x ∷ []) ∷ [])
      (codes "session 1 failed at goal 1" ∷ codes "goal 1"
      ∷ codes "  error resource_error(inferences)"
      ∷ codes "session 2 committed" ∷ codes "goal 1" ∷ codes "  0 answers" ∷ [])
  pub a_session_that_commits_is_seen_by_the_next
      : Print numbers
      (script (goal (and (delete (p (i 1))) (insert (p (i 5)))) [] ∷ [])
      ∷ script (goal (p v0) x ∷ []) ∷ [])
      (codes "session 1 committed" ∷ codes "goal 1" ∷ codes "  true" ∷ codes "  1 answers"
      ∷ codes "session 2 committed" ∷ codes "goal 1" ∷ codes "  X = 2" ∷ codes "  X = 5"
      ∷ codes "  2 answers" ∷ [])
