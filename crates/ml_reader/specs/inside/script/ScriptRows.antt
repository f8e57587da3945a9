-- Worked rows of scripts: which clauses one is, and which clause is the first that none has there.
-- Only the clauses of `clauses_with_their_scripts` cite this module.
use Rattle.std.specs.Prelude.{ℕ, List, [], ◌∷◌, Result, codes}
use Rattle.ml_term.specs.Tree.{Tree, variable, atom, compound_1}
use Rattle.ml_search.specs.Program.{Goal, Script}
use Rattle.ml_reader.specs.Lexemes.{ReadClause}
use Rattle.ml_reader.specs.Scripts.{directive_term}
use Rattle.ml_reader.specs.inside.script.ScriptItems.{no_clauses, run_clauses}

-- what clauses come to
abbrev pub reading : List ReadClause → Result Script ReadClause
reading cs = run_clauses no_clauses cs

-- the names of a clause with one variable
abbrev pub x : List (List ℕ × ℕ)
x = (codes "X", 0) ∷ []

-- a clause without names
abbrev pub clause : Tree → ReadClause
clause t = record { term = t; names = []; place = 0 }

-- a clause with the name X
abbrev pub clause_with_x : Tree → ReadClause
clause_with_x t = record { term = t; names = x; place = 0 }

-- a goal without names
abbrev pub goal : Tree → Goal
goal t = record { term = t; names = [] }

-- a goal with the name X
abbrev pub goal_with_x : Tree → Goal
goal_with_x t = record { term = t; names = x }

-- `:- budget(T)`
abbrev pub budget : Tree → ReadClause
budget t = clause (directive_term (compound_1 (codes "budget") t))

-- the atom `p`
abbrev pub p : Tree
p = atom (codes "p")

-- `p(X)`
abbrev pub p_of_x : Tree
p_of_x = compound_1 (codes "p") (variable 0)

-- `:- abort`
abbrev pub abort_clause : ReadClause
abort_clause = clause (directive_term (atom (codes "abort")))

-- `:- commit_unless(T)`
abbrev pub condition : Tree → ReadClause
condition t = clause_with_x (directive_term (compound_1 (codes "commit_unless") t))
