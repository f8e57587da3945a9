-- What programs, goals and scripts keep. The code keeps these facts in its types.
use Rattle.std.specs.Prelude.{nat_lt, nat_le, Bool, true, ◌&&◌, ◌||◌, not, List, [], ◌∷◌, length}
use Rattle.std.specs.Prelude.{map, is_none, ℕ}
use Rattle.std.specs.List.{list_all}
use Rattle.ml_term.specs.Tree.{Tree, variables, is_numbered, has}
use Rattle.ml_term.specs.Valid.{is_valid}
use Rattle.ml_term.specs.declared.declaration.Decl.{Decl}
use Rattle.ml_search.specs.Limits.{max_inferences, max_goals, max_declarations}
use Rattle.ml_search.specs.Program.{Clause, Program, Goal, Last, commit, abort, unless, Script}
use Rattle.ml_search.specs.Program.{name_of, arity_of, clause_term, place_of}
use Rattle.ml_search.specs.TypeTests.{is_atom, is_compound}
use Rattle.ml_search.specs.Bodies.{is_callable}
use Rattle.ml_search.specs.Procedures.{is_reserved}

-- whether a term may be the head of a clause: an atom or a compound whose predicate is no control
-- construct and no built-in
abbrev pub is_clause_head : Tree → Bool
is_clause_head t = (is_atom t || is_compound t) && not (is_reserved (name_of t) (arity_of t))

-- whether a clause is a term of the language, has such a head and a callable body, and its
-- variables are numbered from 0 by first place
abbrev pub is_clause : Clause → Bool
is_clause c =
    is_valid (clause_term c.head c.body) && is_clause_head c.head && is_callable c.body
    && is_numbered (clause_term c.head c.body)

-- whether numbers rise
abbrev pub are_rising : List ℕ → Bool
are_rising [] = true
are_rising (m ∷ []) = true
are_rising (m ∷ n ∷ ns) = nat_lt m n && are_rising (n ∷ ns)

-- Whether a goal is a term of the language, is callable, and its variables are numbered from 0 by
-- first place. Each number that has a name is one of its variables, and the names stand in the
-- order of their first places.
abbrev pub is_goal : Goal → Bool
is_goal g =
    is_valid g.term && is_callable g.term && is_numbered g.term
    && list_all (λ e. has e.1 (variables g.term)) g.names && are_rising (map (λ e. e.1) g.names)

-- whether the goal of a script's end, if it has one, is a goal
abbrev pub is_last : Last → Bool
is_last commit = true
is_last abort = true
is_last (unless g) = is_goal g

-- whether a script's budget is 1 to 200,000, and its goals are goals, not too many
abbrev pub is_script : Script → Bool
is_script s =
    nat_le 1 s.budget && nat_le s.budget max_inferences && list_all is_goal s.goals
    && nat_le (length s.goals) max_goals && is_last s.last

-- whether no predicate is declared twice
abbrev pub are_declared_once : List Decl → Bool
are_declared_once [] = true
are_declared_once (d ∷ ds) = is_none (place_of ds d.pred.name d.pred.arity) && are_declared_once ds

-- whether no clause is of a declared predicate
abbrev pub are_undeclared : List Decl → List Clause → Bool
are_undeclared ds cs = list_all (λ c. is_none (place_of ds (name_of c.head) (arity_of c.head))) cs

-- whether a program's declarations are of different predicates and not too many, and its clauses
-- are clauses of predicates that aren't declared
abbrev pub is_program : Program → Bool
is_program p =
    are_declared_once p.decls && nat_le (length p.decls) max_declarations
    && list_all is_clause p.clauses && are_undeclared p.decls p.clauses
