-- Worked rows of stored clauses: their order, the clauses that a call sees, `retract/1`, and the
-- checks of the built-ins that change lists.
use Rattle.std.specs.Prelude.{ℕ, ◌++◌, List, [], ◌∷◌, codes}
use Rattle.std.proofs.Common.{refl}
use Rattle.ml_term.specs.Tree.{Tree}
use Rattle.ml_search.specs.Program.{commit}
use Rattle.ml_search.specs.inside.RowWords.{a, a1, a2, a3, i, v0, v1, v2, and, always, fact, stored}
use Rattle.ml_search.specs.inside.RowWords.{relation, clauses, goal, script, Rules, Print, Answers}
use Rattle.ml_search.specs.inside.RowWords.{Fails, or, v3}

-- :- clauses(r/1). :- relation(p/1). r(1). r(2). s(1).
abbrev rules : Rules
rules =
    record {
      program =
          record {
            decls = clauses (codes "r") 1 (1 ∷ []) refl ∷ relation (codes "p") 1 (1 ∷ []) refl ∷ [];
            clauses = fact (a1 (codes "s") (i 1)) ∷ [];
          };
      items =
          (0, stored (a1 (codes "r") (i 1)) always) ∷ (0, stored (a1 (codes "r") (i 2)) always)
          ∷ [];
    }

-- :- clauses(price/2). price(X,3). price(pear,4).
abbrev prices : Rules
prices =
    record {
      program = record { decls = clauses (codes "price") 2 (1 ∷ 2 ∷ []) refl ∷ []; clauses = [] };
      items =
          (0, stored (a2 (codes "price") v0 (i 3)) always)
          ∷ (0, stored (a2 (codes "price") (a (codes "pear")) (i 4)) always) ∷ [];
    }

-- :- clauses(c/1). c(1).
abbrev one_clause : Rules
one_clause =
    record {
      program = record { decls = clauses (codes "c") 1 (1 ∷ []) refl ∷ []; clauses = [] };
      items = (0, stored (a1 (codes "c") (i 1)) always) ∷ [];
    }

abbrev r : Tree → Tree
r = a1 (codes "r")

abbrev retract : Tree → Tree
retract = a1 (codes "retract")

abbrev assertz : Tree → Tree
assertz = a1 (codes "assertz")

abbrev asserta : Tree → Tree
asserta = a1 (codes "asserta")

abbrev insert : Tree → Tree
insert = a1 (codes "insert_tuple")

abbrev implies : Tree → Tree → Tree
implies h b = a2 (codes ":-") h b

abbrev x : List (List ℕ)
x = codes "X" ∷ []

abbrev Shows : Tree → List (List ℕ) → Type 0
Shows t ls = Answers rules t x ls

abbrev Raises : Tree → List ℕ → Type 0
Raises t l = Fails rules t [] ((codes "  error " ++ l) ∷ [])

-- two goals of a session, each with its lines
abbrev Both : Tree → List (List ℕ) → Tree → List (List ℕ) → Type 0
Both t ls u ms =
    Print rules (script (goal t x ∷ goal u x ∷ []) ∷ [])
    ((codes "session 1 committed" ∷ codes "goal 1" ∷ ls) ++ codes "goal 2" ∷ ms)

abbrev one_and_two : List (List ℕ)
one_and_two = codes "  X = 1" ∷ codes "  X = 2" ∷ codes "  2 answers" ∷ []

pub record StoredRows : Type 0 where
  pub a_variable_in_a_stored_clause_fits_every_pattern : Answers prices
      (a2 (codes "price") (a (codes "apple")) v0) (codes "P" ∷ [])
      (codes "  P = 3" ∷ codes "  1 answers" ∷ [])
  pub clauses_are_put_first_and_last
      : Print rules
      (script (goal (and (asserta (r (i 0))) (assertz (r (i 3)))) [] ∷ goal (r v0) x ∷ []) ∷ [])
      (codes "session 1 committed" ∷ codes "goal 1" ∷ codes "  true" ∷ codes "  1 answers"
      ∷ codes "goal 2" ∷ codes "  X = 0" ∷ codes "  X = 1" ∷ codes "  X = 2" ∷ codes "  X = 3"
      ∷ codes "  4 answers" ∷ [])
  pub clauses_are_put_round_those_that_are_there
      : Print one_clause
      (script
      (goal (and (asserta (a1 (codes "c") (i 0))) (assertz (a1 (codes "c") (i 2)))) []
      ∷ goal (a1 (codes "c") v0) x ∷ []) ∷ [])
      (codes "session 1 committed" ∷ codes "goal 1" ∷ codes "  true" ∷ codes "  1 answers"
      ∷ codes "goal 2" ∷ codes "  X = 0" ∷ codes "  X = 1" ∷ codes "  X = 2"
      ∷ codes "  3 answers" ∷ [])
  pub a_call_does_not_see_what_it_asserts : Shows (and (r v0) (assertz (r v0))) one_and_two
  pub a_call_still_gives_what_is_retracted_meanwhile : Shows
      (and (r v0) (a1 (codes "once") (or (retract (r (i 2))) always))) one_and_two
  pub a_clause_that_was_retracted_is_retracted_no_more : Shows (and (r v0) (retract (r (i 2))))
      (codes "  X = 1" ∷ codes "  1 answers" ∷ [])
  pub retract_uses_one_for_each_head_that_unifies
      : Print rules
      (record {
        budget = 3;
        goals = goal (retract (implies (r v0) (a (codes "fail")))) x ∷ [];
        last = commit;
      }
      ∷ record {
        budget = 2;
        goals = goal (retract (implies (r v0) (a (codes "fail")))) x ∷ [];
        last = commit;
      } ∷ [])
      (codes "session 1 committed" ∷ codes "goal 1" ∷ codes "  0 answers"
      ∷ codes "session 2 failed at goal 1" ∷ codes "goal 1"
      ∷ codes "  error resource_error(inferences)" ∷ [])
  pub a_stored_clause_has_variables_of_its_own
      : Answers rules
      (and
      (assertz (implies (r (a2 (codes "f") v0 v1)) (and (a1 (codes "s") v1) (a1 (codes "p") v2))))
      (retract (implies (r (a2 (codes "f") v3 (Tree.variable 4))) (Tree.variable 5))))
      (codes "Y" ∷ codes "X" ∷ codes "Z" ∷ codes "A" ∷ codes "C" ∷ codes "B" ∷ [])
      (codes "  Y = _1, X = _2, Z = _3, A = _4, C = _5, B = ','(s(_5),p(_6))" ∷ codes "  1 answers"
      ∷ [])
  pub a_clause_is_retracted_once
      : Both (and (retract (r v0)) (retract (r (i 2)))) (codes "  X = 1" ∷ codes "  1 answers" ∷ [])
      (r v0) (codes "  0 answers" ∷ [])
  pub retract_takes_one_after_another : Both (retract (r v0)) one_and_two (r v0)
      (codes "  0 answers" ∷ [])
  pub retract_wants_the_body_too : Shows (retract (implies (r v0) (a (codes "fail"))))
      (codes "  0 answers" ∷ [])
  pub retract_finds_the_body
      : Answers rules
      (and (assertz (implies (r (i 3)) (a1 (codes "s") v0)))
      (retract (implies (r v1) (a1 (codes "s") v2)))) (codes "X" ∷ codes "Y" ∷ codes "Z" ∷ [])
      (codes "  X = _1, Y = 3, Z = _2" ∷ codes "  1 answers" ∷ [])
  pub a_stored_rule_is_run : Shows (and (assertz (implies (r (i 3)) (a1 (codes "s") (i 1)))) (r v0))
      (codes "  X = 1" ∷ codes "  X = 2" ∷ codes "  X = 3" ∷ codes "  3 answers" ∷ [])
  pub a_variable_body_stays_a_variable
      : Answers rules (and (assertz (implies (r (i 3)) v0)) (retract (implies (r (i 3)) v1)))
      (codes "X" ∷ codes "Y" ∷ []) (codes "  X = _1, Y = _2" ∷ codes "  1 answers" ∷ [])
  pub committed_clauses_keep_their_order
      : Print rules
      (script (goal (and (asserta (r (i 0))) (assertz (r (i 3)))) [] ∷ [])
      ∷ script (goal (and (asserta (r (i 9))) (assertz (r (i 4)))) [] ∷ [])
      ∷ script (goal (a3 (codes "findall") v0 (r v0) v1) (codes "_X" ∷ codes "L" ∷ []) ∷ [])
      ∷ [])
      (codes "session 1 committed" ∷ codes "goal 1" ∷ codes "  true" ∷ codes "  1 answers"
      ∷ codes "session 2 committed" ∷ codes "goal 1" ∷ codes "  true" ∷ codes "  1 answers"
      ∷ codes "session 3 committed" ∷ codes "goal 1" ∷ codes "  L = [9,0,1,2,3,4]"
      ∷ codes "  1 answers" ∷ [])
  pub a_variable_is_no_tuple : Raises (insert v0) (codes "instantiation_error")
  pub an_integer_is_no_tuple : Raises (insert (i 1)) (codes "type_error(callable,1)")
  pub an_unknown_tuple : Raises (insert (a1 (codes "t") (i 1)))
      (codes "existence_error(procedure,/(t,1))")
  pub a_stored_clause_is_no_tuple : Raises (insert (r (i 3)))
      (codes "permission_error(modify,static_procedure,/(r,1))")
  pub a_built_in_is_no_tuple : Raises (insert (a1 (codes "var") (i 3)))
      (codes "permission_error(modify,static_procedure,/(var,1))")
  pub a_tuple_has_no_variable : Raises (insert (a1 (codes "p") v0)) (codes "instantiation_error")
  pub a_variable_is_no_head : Raises (assertz (implies v0 always)) (codes "instantiation_error")
  pub an_integer_is_no_head : Raises (assertz (implies (i 1) always))
      (codes "type_error(callable,1)")
  pub an_unknown_head : Raises (assertz (a (codes "t"))) (codes "existence_error(procedure,/(t,0))")
  pub a_program_predicate_cannot_be_changed : Raises (retract (a1 (codes "s") v0))
      (codes "permission_error(modify,static_procedure,/(s,1))")
  pub a_relation_has_no_clauses : Raises (assertz (a1 (codes "p") (i 1)))
      (codes "permission_error(modify,static_procedure,/(p,1))")
  pub a_body_is_callable : Raises (assertz (implies (r (i 3)) (i 1)))
      (codes "type_error(callable,1)")
