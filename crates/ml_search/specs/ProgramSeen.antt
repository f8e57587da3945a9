-- What programs and scripts of the code are seen as: the same, with trees in place of terms.
use Rattle.ml_search.specs.declared.program.Program as P
use Rattle.ml_search.specs.declared.script.Script as S
use Rattle.ml_search.specs.Program.{Program, Script}
use Rattle.ml_search.specs.ClauseSeen.{clauses_seen}
use Rattle.ml_search.specs.GoalSeen.{goals_seen, last_seen}

-- the program that it is
abbrev pub program_seen : P.Program → Program
program_seen p = record { decls = p.decls; clauses = clauses_seen p.clauses }

-- the script that it is
abbrev pub script_seen : S.Script → Script
script_seen s = record { budget = s.budget; goals = goals_seen s.goals; last = last_seen s.last }
