-- Worked rows of endings: sessions that commit, abort, refuse, fail or find no memory, the order
-- that a print shows, and a realistic run.
use Rattle.std.specs.Prelude.{◌≡◌, ℕ, true, false, ◌++◌, List, [], ◌∷◌, codes}
use Rattle.std.proofs.Common.{refl}
use Rattle.ml_term.specs.Tree.{Tree}
use Rattle.ml_search.specs.Limits.{default_inferences}
use Rattle.ml_search.specs.Program.{Script, Goal, Last, commit, abort, unless}
use Rattle.ml_search.specs.Loading.{first_db}
use Rattle.ml_search.specs.History.{history}
use Rattle.ml_search.specs.Printed.{print_of, order_of}
use Rattle.ml_search.specs.inside.RowWords.{a, a1, a2, a3, i, v0, v1, v2, v3, and, always, rule}
use Rattle.ml_search.specs.inside.RowWords.{stored, relation, clauses, goal, script, Rules, Print}
use Rattle.ml_search.specs.inside.RowWords.{lines}

-- :- relation(p/1).
abbrev rules : Rules
rules =
    record {
      program = record { decls = relation (codes "p") 1 (1 ∷ []) refl ∷ []; clauses = [] };
      items = [];
    }

abbrev insert : ℕ → Goal
insert n = goal (a1 (codes "insert_tuple") (a1 (codes "p") (i n))) []

abbrev look : Goal
look = goal (a1 (codes "p") v0) (codes "X" ∷ [])

-- it inserts p(1) and then ends like this
abbrev ending_with : Last → Script
ending_with last = record { budget = default_inferences; goals = insert 1 ∷ []; last = last }

-- these two sessions print this: what the first ended with, its further lines, and the answers that
-- the second finds
abbrev Ends : Script → List ℕ → List (List ℕ) → List (List ℕ) → Type 0
Ends s ending further found =
    Print rules (s ∷ script (look ∷ []) ∷ [])
    (((codes "session 1 " ++ ending) ∷ codes "goal 1" ∷ codes "  true" ∷ codes "  1 answers"
    ∷ further) ++ (codes "session 2 committed" ∷ codes "goal 1" ∷ found))

abbrev one_found : List (List ℕ)
one_found = codes "  X = 1" ∷ codes "  1 answers" ∷ []

abbrev none_found : List (List ℕ)
none_found = codes "  0 answers" ∷ []

-- emp(1,ada,10). emp(2,bob,20). emp(3,cy,10). dept(10,tools). dept(20,sales). bonus(N,5) :-
-- emp(N,_,10). colleague(A,B) :- emp(_,A,D), emp(_,B,D), A \== B.
abbrev emp : Tree → Tree → Tree → Tree
emp = a3 (codes "emp")

abbrev dept : Tree → Tree → Tree
dept = a2 (codes "dept")

abbrev bonus : Tree → Tree → Tree
bonus = a2 (codes "bonus")

abbrev v4 : Tree
v4 = Tree.variable 4

abbrev firm : Rules
firm =
    record {
      program = record {
        decls =
            relation (codes "emp") 3 (1 ∷ 2 ∷ 3 ∷ []) refl
            ∷ relation (codes "dept") 2 (1 ∷ 2 ∷ []) refl
            ∷ clauses (codes "bonus") 2 (1 ∷ 2 ∷ []) refl ∷ [];
        clauses =
            rule (a2 (codes "colleague") v0 v1)
            (and (emp v2 v0 v3) (and (emp v4 v1 v3) (a2 (codes "\\==") v0 v1))) ∷ [];
      };
      items =
          (0, emp (i 1) (a (codes "ada")) (i 10))
          ∷ (0, emp (i 2) (a (codes "bob")) (i 20))
          ∷ (0, emp (i 3) (a (codes "cy")) (i 10))
          ∷ (1, dept (i 10) (a (codes "tools")))
          ∷ (1, dept (i 20) (a (codes "sales")))
          ∷ (2, stored (bonus v0 (i 5)) (emp v0 v1 (i 10)))
          ∷ [];
    }

-- emp(_,_,D), \+ dept(D,_)
abbrev homeless : Tree
homeless = and (emp v0 v1 v2) (a1 (codes "\\+") (dept v2 v3))

abbrev firm_scripts : List Script
firm_scripts =
    record {
      budget = default_inferences;
      goals =
          goal (a2 (codes "colleague") (a (codes "ada")) v0) (codes "W" ∷ [])
          ∷ record { term = homeless; names = (codes "D", 2) ∷ [] }
          ∷ record {
            term = a3 (codes "findall") v0 (bonus v0 v1) v2;
            names = (codes "N", 0) ∷ (codes "L", 2) ∷ [];
          }
          ∷ goal (a1 (codes "insert_tuple") (emp (i 4) (a (codes "dee")) (i 30))) []
          ∷ [];
      last = unless (record { term = homeless; names = (codes "D", 2) ∷ [] });
    }
    ∷ script (goal (emp (i 4) v0 v1) (codes "Who" ∷ []) ∷ [])
    ∷ []

abbrev block_of_two : List (List ℕ)
block_of_two =
    codes "session 2 committed" ∷ codes "goal 1" ∷ codes "  true" ∷ codes "  1 answers"
    ∷ codes "session 1 out of memory" ∷ []

pub record EndingRows : Type 0 where
  pub a_script_that_says_nothing_commits : Ends (ending_with commit) (codes "committed")
      [] one_found
  pub a_script_may_abort : Ends (ending_with abort) (codes "aborted") [] none_found
  pub an_answer_refuses_the_commit : Ends (ending_with (unless look)) (codes "refused")
      [] none_found
  pub no_answer_lets_it_commit : Ends (ending_with (unless (goal (a1 (codes "p") (i 2)) [])))
      (codes "committed") [] one_found
  pub the_last_goal_may_raise
      : Ends (ending_with (unless (goal (a1 (codes "throw") (a (codes "x"))) [])))
      (codes "failed at goal 2") (codes "goal 2" ∷ codes "  error x" ∷ []) none_found
  pub the_last_goal_uses_what_is_left_of_the_budget
      : Ends (record (ending_with (unless (goal (a1 (codes "p") (i 2)) []))) { budget = 1 })
      (codes "failed at goal 2")
      (codes "goal 2" ∷ codes "  error resource_error(inferences)" ∷ []) none_found
  pub what_the_last_goal_changes_is_committed
      : Ends
      (ending_with
      (unless
      (goal (and (a1 (codes "insert_tuple") (a1 (codes "p") (i 2))) (a (codes "fail")))
      []))) (codes "committed") [] (codes "  X = 1" ∷ codes "  X = 2" ∷ codes "  2 answers"
      ∷ [])
  pub an_answer_refuses_though_the_search_would_raise
      : Ends (ending_with (unless (goal (a2 (codes ";") always (a (codes "nosuch"))) [])))
      (codes "refused") [] none_found
  pub the_first_raised_term_ends_the_session
      : Print rules
      (script (insert 1 ∷ goal (a (codes "nosuch")) [] ∷ look ∷ []) ∷ script (look ∷ []) ∷ [])
      (codes "session 1 failed at goal 2" ∷ codes "goal 1" ∷ codes "  true" ∷ codes "  1 answers"
      ∷ codes "goal 2" ∷ codes "  error existence_error(procedure,/(nosuch,0))"
      ∷ codes "session 2 committed" ∷ codes "goal 1" ∷ codes "  0 answers" ∷ [])
  pub an_entry_out_of_memory_has_no_lines
      : print_of
      (history rules.program (first_db rules.program.decls rules.items)
      (script (insert 1 ∷ []) ∷ script (insert 2 ∷ []) ∷ []) ((2, false) ∷ (1, true) ∷ [])).0
      ≡ lines block_of_two
  pub a_print_shows_its_order : order_of (lines block_of_two) ≡ (2, false) ∷ (1, true) ∷ []
  pub bytes_after_the_last_line_feed_show_nothing : order_of
      (lines block_of_two ++ codes "session 3 committed") ≡ (2, false) ∷ (1, true) ∷ []
  pub a_line_of_another_form_shows_nothing : order_of
      (lines
      (codes "session 01 committed" ∷ codes "session 12 failed at goal 3" ∷ codes "session 1 done"
      ∷ [])) ≡ (12, false) ∷ []
  pub a_firm
      : Print firm firm_scripts
      (codes "session 1 refused" ∷ codes "goal 1" ∷ codes "  W = cy" ∷ codes "  1 answers"
      ∷ codes "goal 2" ∷ codes "  0 answers" ∷ codes "goal 3" ∷ codes "  N = _1, L = [1,3]"
      ∷ codes "  1 answers" ∷ codes "goal 4" ∷ codes "  true" ∷ codes "  1 answers"
      ∷ codes "session 2 committed" ∷ codes "goal 1" ∷ codes "  0 answers" ∷ [])
